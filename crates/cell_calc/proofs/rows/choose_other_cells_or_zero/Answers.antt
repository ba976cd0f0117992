use Rattle.std.proofs.Common.{◌≡◌, ◌∙◌, ap}
use Rattle.cell_calc_language.specs.CellOperators.{cell_chosen_by_condition}
use Rattle.cell_calc.specs.RowValues.{at}
use Rattle.cell_calc.proofs.Places.{within_same, read, read_old, one_more, others_stay}
use Rattle.cell_calc.proofs.rows.choose_other_cells_or_zero.Goals as goal

pub loop-i-preserved : goal.loop-i-preserved
loop-i-preserved c =
    let old = c.args.row.now in
    let other = c.args.other.now in
    let no = c.cell_of_truth_value-no.result in
    let row = c.loop-i.row in
    let i = c.loop-i.i in
    let lt = within_same row old i c.loop-i.auto.row c.loop-i-test.true in
    let lt_other = within_same other old i c.requires.width c.loop-i-test.true in
    let x = read_old row old i c.index-row-i.result lt c.index-row-i.is c.loop-i.invariant.rest in
    let a = read other i c.index-other-i.result lt_other c.index-other-i.is in
    let here = c.cell_chosen_by_condition.ensures ∙ ap (λ v. cell_chosen_by_condition v c.index-other-i.result no) x
    ∙ ap (λ v. cell_chosen_by_condition (at old i) v no) a in
    record {
      done = one_more (λ k v. v ≡ cell_chosen_by_condition (at old k)
          (at other k) no) row i c.cell_chosen_by_condition.result lt
          c.loop-i.invariant.done here;
      rest = others_stay row old i c.cell_chosen_by_condition.result c.loop-i.invariant.rest;
    }
