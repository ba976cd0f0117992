use Rattle.std.proofs.Common.{◌≡◌, ◌∙◌, ap, length}
use Rattle.cell_calc_language.specs.CellOperators.{cell_chosen_by_condition}
use Rattle.cell_calc.specs.RowValues.{at}
use Rattle.cell_calc.proofs.Places.{within_same, before_end, read, read_old, one_more, others_stay}
use Rattle.cell_calc.proofs.rows.replace_cells_where_true.Goals as goal

pub loop-i-preserved : goal.loop-i-preserved
loop-i-preserved c =
    let old = c.args.row.now in
    let conditions = c.args.conditions.now in
    let yes = c.args.yes.now in
    let row = c.loop-i.row in
    let i = c.loop-i.i in
    let lt = within_same row old i c.loop-i.auto.row c.loop-i-test.true in
    let lt_conditions = within_same conditions old i c.requires.width_conditions c.loop-i-test.true in
    let lt_yes = within_same yes old i c.requires.width_yes c.loop-i-test.true in
    let x = read conditions i c.index-conditions-i.result lt_conditions c.index-conditions-i.is in
    let a = read yes i c.index-yes-i.result lt_yes c.index-yes-i.is in
    let b = read_old row old i c.index-row-i.result lt c.index-row-i.is c.loop-i.invariant.rest in
    let here = c.cell_chosen_by_condition.ensures ∙ ap (λ v. cell_chosen_by_condition v c.index-yes-i.result
    c.index-row-i.result) x
    ∙ ap (λ v. cell_chosen_by_condition (at conditions i) v c.index-row-i.result) a
    ∙ ap (λ v. cell_chosen_by_condition (at conditions i) (at yes i) v) b in
    record {
      done = one_more (λ k v. v ≡ cell_chosen_by_condition (at conditions k) (at yes k)
          (at old k)) row i c.cell_chosen_by_condition.result lt
          c.loop-i.invariant.done here;
      rest = others_stay row old i c.cell_chosen_by_condition.result c.loop-i.invariant.rest;
    }

pub returns : goal.returns
returns c = λ k h. c.loop-i.invariant.done k (before_end (length c.args.row.now) c.loop-i.i k c.loop-i-test.false h)
