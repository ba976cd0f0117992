use Rattle.std.proofs.Common.{length, subst}
use Rattle.cell_calc.specs.RowValues.{at}
use Rattle.cell_calc.proofs.Places.{within_same, before_end, read_old, one_more, others_stay}
use Rattle.cell_calc.proofs.rows.combine_row_with_cell.Goals as goal

pub loop-i-preserved : goal.loop-i-preserved
loop-i-preserved g c =
    let old = c.args.row.now in
    let row = c.loop-i.row in
    let i = c.loop-i.i in
    let lt = within_same row old i c.loop-i.auto.row c.loop-i-test.true in
    let a = read_old row old i c.index-row-i.result lt c.index-row-i.is c.loop-i.invariant.rest in
    let here = subst (λ v. goal.F-post g c.args.f v c.args.other c.f.result) a c.f.ensures in
    record {
      done = one_more (λ k v. goal.F-post g c.args.f (at old k) c.args.other v) row i c.f.result lt
          c.loop-i.invariant.done here;
      rest = others_stay row old i c.f.result c.loop-i.invariant.rest;
    }

pub returns : goal.returns
returns g c = λ k h. c.loop-i.invariant.done k (before_end (length c.args.row.now) c.loop-i.i k c.loop-i-test.false h)
