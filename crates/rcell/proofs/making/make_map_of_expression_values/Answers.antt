use Rattle.std.proofs.lemmas.Result.{on_ok_weaker}
use Rattle.rcell.proofs.making.make_map_of_expression_values.Goals as goal

pub returns-clause-ok : goal.returns-clause-ok
returns-clause-ok c =
    on_ok_weaker c.append_map_to_shelf.result (λ e. (
      c.in_ok-made.made,
      (c.in_ok-made.ensures, e),
    )) c.append_map_to_shelf.ensures.ok
