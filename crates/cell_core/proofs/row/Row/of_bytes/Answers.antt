use Rattle.std.proofs.Common.{ap}
use Rattle.std.proofs.lemmas.List.Elements.{All-same}
use Rattle.cell_core_values.specs.Cell.{IsNullOrCategory}
use Rattle.cell_core_values.specs.SmallCells.{cells_of_bytes}
use Rattle.cell_core.proofs.RowLemmas.{all_cells}
use Rattle.cell_core.proofs.row.Row.of_bytes.Goals as goal
use Rattle.cell_core.proofs.row.Row.of_bytes.Goals.{then-count-bytes+in_ok-runs_of_bytes}
use Rattle.cell_core.proofs.row.Row.of_bytes.Goals.{else-count-bytes+in_ok-from_slice}

pub returns-clause-cells : goal.returns-clause-cells
returns-clause-cells c =
    let all = all_cells c.args.bytes.now c.type_inv.bytes in
    elim c.if-count-bytes.branch [
      | then-count-bytes+in_ok-runs_of_bytes w ↦
          rw w.kept-is (All-same IsNullOrCategory _ _ w.in_ok-runs_of_bytes.ensures.written all)
      | else-count-bytes+in_ok-from_slice w ↦
          rw w.kept-is (All-same IsNullOrCategory _ _ (ap cells_of_bytes w.in_ok-from_slice.ensures.items) all)
    ]
