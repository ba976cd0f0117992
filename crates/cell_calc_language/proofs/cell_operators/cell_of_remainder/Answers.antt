use Rattle.cell_calc_language.proofs.Fit.{fit_remainder}
use Rattle.std.proofs.Common.{◌∙◌, w32}
use Rattle.std.proofs.lemmas.Int.{to_z-of_z}
use Rattle.cell_calc_language.proofs.cell_operators.cell_of_remainder.Goals as goal

pub returns : goal.returns
returns c =
    let x = c.args.x in
    let y = c.args.y in
    let found = c.checked_rem.ensures in
    let exact = rw (to_z-of_z w32 x c.ranges.x, to_z-of_z w32 y c.ranges.y) at found in
    c.cell_of_optional_number.ensures ∙ fit_remainder c.checked_rem.result x y c.requires.category c.ranges.x c.requires.divisor c.ranges.y exact
