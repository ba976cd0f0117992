use Rattle.std.proofs.lemmas.Result.{on_ok_weaker}
use Rattle.rcell_tile.proofs.making_in_tiles.add_map_made_in_tile.Goals as goal

pub returns-in_ok-made-in-Mapcalc-clause-outer : goal.returns-in_ok-made-in-Mapcalc-clause-outer
returns-in_ok-made-in-Mapcalc-clause-outer c = rw c.in-Mapcalc.is
    (on_ok_weaker c.add_map_with_and_without_halo.result
    (λ e. (c.in_ok-made-in-Mapcalc.made, (c.in_ok-made-in-Mapcalc.ensures, e)))
    c.add_map_with_and_without_halo.ensures.outer)

pub returns-in_ok-made-in-Clump-clause-outer : goal.returns-in_ok-made-in-Clump-clause-outer
returns-in_ok-made-in-Clump-clause-outer c =
    let made = c.in_ok-made-in-Clump.ensures in
    rw c.in-Clump.is
    (on_ok_weaker c.add_map_with_and_without_halo-in-Clump.result
    (λ e. (made.0, (made.1.0, rw made.1.1 at e)))
    c.add_map_with_and_without_halo-in-Clump.ensures.outer)
