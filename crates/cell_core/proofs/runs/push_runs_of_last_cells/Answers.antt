use Rattle.std.proofs.Common.{◌≡◌, ◌∙◌, sym, arith, true, false}
use Rattle.cell_core_values.specs.Cell.{cell_eq}
use Rattle.cell_core.proofs.MarkLemmas.{last-same, last-other}
use Rattle.cell_core.proofs.runs.push_runs_of_last_cells.Goals as goal
use Rattle.cell_core.proofs.runs.push_runs_of_last_cells.Goals.{then-eq, else-eq+in_ok-push}

pub loop-next-preserved : goal.loop-next-preserved
loop-next-preserved c =
    let runs = c.loop-next.runs.items in
    let x = c.loop-next.cell in
    let y = c.next-item.result in
    let cells = c.args.cells.now in
    let i = c.loop-next.next-index in
    elim c.if-eq.branch [
      | then-eq w ↦
          let same : cell_eq y x ≡ true = sym c.eq.ensures.value ∙ w.if-eq.true in
          record {
            few = omega (arith, w.count-is, c.loop-next.invariant.few);
            whole = rw (w.runs-is, w.cell-is, w.count-is) (last-same runs x c.loop-next.count cells i y _ c.loop-next-test.true c.next-item.is c.loop-next.invariant.whole same);
          }
      | else-eq+in_ok-push w ↦
          let other : cell_eq y x ≡ false = sym c.eq.ensures.value ∙ w.if-eq.false in
          record {
            few = omega (arith, w.count-is);
            whole = rw (w.runs-is, w.cell-is, w.count-is, w.in_ok-push.ensures.items) (last-other runs x c.loop-next.count cells i y _ c.loop-next-test.true c.next-item.is c.loop-next.invariant.whole other);
          }
    ]
