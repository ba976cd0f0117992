use Rattle.cell_core.proofs.RowLemmas.{cells_of_runs-single_cells_as_runs, some-single_cells_as_runs}
use Rattle.cell_core_values.specs.SmallCells.{cells_of_bytes}
use Rattle.cell_core.proofs.row_view.RowView.stretches.Goals as goal

pub returns-in-Cells-clause-written : goal.returns-in-Cells-clause-written
returns-in-Cells-clause-written c =
    search (
      cells_of_runs-single_cells_as_runs c.in-Cells.cells.now,
      c.in-Cells.is,
      c.self.view_is,
      c.of_cells.ensures,
    )

pub returns-in-Cells-clause-some : goal.returns-in-Cells-clause-some
returns-in-Cells-clause-some c = rw (c.of_cells.ensures) (some-single_cells_as_runs c.in-Cells.cells.now)

pub returns-in-Bytes-clause-written : goal.returns-in-Bytes-clause-written
returns-in-Bytes-clause-written c =
    search (
      cells_of_runs-single_cells_as_runs (cells_of_bytes c.in-Bytes.bytes.now),
      c.in-Bytes.is,
      c.self.view_is,
      c.of_bytes.ensures,
    )

pub returns-in-Bytes-clause-some : goal.returns-in-Bytes-clause-some
returns-in-Bytes-clause-some c =
    rw (c.of_bytes.ensures) (some-single_cells_as_runs (cells_of_bytes c.in-Bytes.bytes.now))
