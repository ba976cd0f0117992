use Rattle.cell_core.proofs.RowLemmas.{cells_of_runs-runs_of_cells, AreMaximalRuns-runs_of_cells}
use Rattle.cell_core_values.specs.SmallCells.{cells_of_bytes}
use Rattle.cell_core.proofs.row_view.RowView.runs.Goals as goal

pub returns-in-Cells-clause-written : goal.returns-in-Cells-clause-written
returns-in-Cells-clause-written c =
    search (cells_of_runs-runs_of_cells c.in-Cells.cells.now, c.in-Cells.is, c.self.view_is, c.of_cells.ensures)

pub returns-in-Cells-clause-runs : goal.returns-in-Cells-clause-runs
returns-in-Cells-clause-runs c = rw (c.of_cells.ensures) (AreMaximalRuns-runs_of_cells c.in-Cells.cells.now)

pub returns-in-Bytes-clause-written : goal.returns-in-Bytes-clause-written
returns-in-Bytes-clause-written c =
    search (
      cells_of_runs-runs_of_cells (cells_of_bytes c.in-Bytes.bytes.now),
      c.in-Bytes.is,
      c.self.view_is,
      c.of_bytes.ensures,
    )

pub returns-in-Bytes-clause-runs : goal.returns-in-Bytes-clause-runs
returns-in-Bytes-clause-runs c =
    rw (c.of_bytes.ensures) (AreMaximalRuns-runs_of_cells (cells_of_bytes c.in-Bytes.bytes.now))
