use Rattle.std.proofs.lemmas.Result.{on_ok_weaker}
use Rattle.rcell.proofs.making.make_map_of_clump_numbers.Goals as goal

pub returns-clause-ok : goal.returns-clause-ok
returns-clause-ok c =
    on_ok_weaker c.append_map_to_shelf.result
    (λ e. (c.in_ok-made.made, (rw c.map.ensures.value (record { filled = c.region-region.ensures.filled; clumping = c.in_ok-made.ensures }), e)))
    c.append_map_to_shelf.ensures.ok
