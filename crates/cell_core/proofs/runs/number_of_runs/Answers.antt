use Rattle.std.proofs.Common.{arith, rules, ◌≡◌, ◌<◌, ◌+◌, All, length, take, true, false, sym, subst, take_all}
use Rattle.std.proofs.lemmas.List.Elements.{All-more, All-same}
use Rattle.cell_core_values.specs.Cell.{IsNullOrCategory, cell_eq}
use Rattle.cell_core.proofs.RowLemmas.{breaks-none, breaks-one, breaks-whole}
use Rattle.cell_core.proofs.runs.number_of_runs.Goals as goal
use Rattle.cell_core.proofs.runs.number_of_runs.Goals.{then-eq, else-eq}

pub loop-cell-init : goal.loop-cell-init
loop-cell-init c = record {
  cells = λ k d within. absurd (omega (arith, within));
  count =
      let some : 0 < length c.args.row.now = search (rules, c.if-is_empty.false) in
      omega (arith, breaks-whole c.args.row.now c.index-row-0.result some c.index-row-0.is);
  few = omega arith;
}

pub loop-cell-preserved : goal.loop-cell-preserved
loop-cell-preserved c =
    let row = c.args.row.now in
    let i = c.loop-cell.cell-index in
    let cell = c.cell-item.result in
    let last = c.loop-cell.last in
    let within : i < length row = omega arith in
    let cells : All IsNullOrCategory (take (i + 1) row) =
    All-more IsNullOrCategory row i cell within c.loop-cell.invariant.cells
    (subst IsNullOrCategory c.cell-item.is c.category_of_cell.ensures.cell) in
    elim c.if-eq.branch [
      | then-eq w ↦
          let same : cell_eq cell last ≡ true = search (rules, w.if-eq, c.eq.ensures) in
          record {
            cells = cells;
            count = omega (arith, w.alike-is, breaks-none last cell row i within c.cell-item.is same, c.loop-cell.invariant.count);
            few = omega (arith, w.alike-is, c.loop-cell.invariant.few);
          }
      | else-eq w ↦
          let other : cell_eq cell last ≡ false = search (rules, w.if-eq, c.eq.ensures) in
          record {
            cells = cells;
            count = omega (arith, w.alike-is, breaks-one last cell row i within c.cell-item.is other, c.loop-cell.invariant.count);
            few = omega (arith, w.alike-is, c.loop-cell.invariant.few);
          }
    ]

pub returns-clause-cells : goal.returns-clause-cells
returns-clause-cells c =
    let row = c.args.row.now in
    let i = c.loop-cell.cell-index in
    All-same IsNullOrCategory row (take i row) (sym (take_all i row (omega arith))) c.loop-cell.invariant.cells
