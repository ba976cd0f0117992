use Rattle.std.proofs.Common.{◌≤ℤ◌, arith, to_z, of_z, w64}
use Rattle.std.proofs.lemmas.Int.{ints}
use Rattle.cell_cats.proofs.PieceLemmas.{output-found, le_from_not_gt, le_from_not_lt, not_gt_from_le}
use Rattle.cell_cats.proofs.pieces.RuleOutputIntervals.output_of_number.Goals as goal

pub returns-in-Some : goal.returns-in-Some
returns-in-Some c = λ outputs all.
    let found = c.range.ensures.in_range tt in
    let entry = found.3 _ _ c.in-Some.ensures.steps in
    let before : c.in-Some.field-0-0.now ≤ℤ to_z w64 (of_z w64 c.args.place) = le_from_not_gt _ _ entry.0.1 in
    output-found _ outputs c.args.place c.in-Some.field-0-0.now c.in-Some.output.now c.requires (omega (arith, ints)) entry.1
    (λ q h some. le_from_not_lt _ _ (found.4 _ _ c.in-Some.ensures.steps q (tt, not_gt_from_le q (to_z w64 (of_z w64 c.args.place)) (omega (arith, ints))) some)) all
