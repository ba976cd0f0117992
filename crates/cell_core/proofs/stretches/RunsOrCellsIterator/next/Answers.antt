use Rattle.std.proofs.Common.{◌≡◌, ◌∙◌, ◌<◌, ◌∷◌, ℕ, List, length, sym, ap, arith}
use Rattle.std.proofs.lemmas.List.{nil_from_length}
use Rattle.cell_core.specs.Runs.{RunValue}
use Rattle.cell_core.specs.Grid.{CellValue}
use Rattle.cell_core.specs.parts.RowForms.{single_cells_as_runs, runs_or_cells_left}
use Rattle.cell_core_values.specs.SmallCells.{cell_of_stored_byte, cells_of_bytes}
use Rattle.cell_core.proofs.stretches.RunsOrCellsIterator.next.Goals as goal

fewer : (run : RunValue) (runs all : List RunValue) → all ≡ run ∷ runs → length runs < length all
fewer run runs all e = rw e (omega arith)

-- taken one by one, the cells of bytes are the first byte's cell and the other bytes' cells
bytes_first : {b : ℕ} {bytes all : List ℕ} {cell : CellValue} → all ≡ b ∷ bytes → cell ≡ cell_of_stored_byte b
    → single_cells_as_runs (cells_of_bytes all) ≡ (cell, 1) ∷ single_cells_as_runs (cells_of_bytes bytes)
bytes_first {bytes = bytes} whole stands =
    ap (λ l. single_cells_as_runs (cells_of_bytes l)) whole
    ∙ ap (λ x. (x, 1) ∷ single_cells_as_runs (cells_of_bytes bytes)) (sym stands)

pub returns-in_err-first-in-Runs-clause-steps : goal.returns-in_err-first-in-Runs-clause-steps
returns-in_err-first-in-Runs-clause-steps c =
    let none = nil_from_length c.in-Runs.runs.now c.in_err-first-in-Runs.ensures.cases in
    let all = sym c.self.view_is ∙ ap runs_or_cells_left c.in-Runs.is ∙ none in
    rw c.from_residual.ensures (all, all)

pub returns-in_err-first-in-Runs-clause-goes : goal.returns-in_err-first-in-Runs-clause-goes
returns-in_err-first-in-Runs-clause-goes c =
    rw c.from_residual.ensures (record { on = λ finite. tt; keeps = tt; rests = λ finite. finite })

pub returns-in_err-first-in-Bytes-clause-steps : goal.returns-in_err-first-in-Bytes-clause-steps
returns-in_err-first-in-Bytes-clause-steps c =
    let none = nil_from_length c.in-Bytes.bytes.now c.in_err-first-in-Bytes.ensures.cases in
    let all = sym c.self.view_is ∙ ap runs_or_cells_left c.in-Bytes.is
    ∙ ap (λ bytes. single_cells_as_runs (cells_of_bytes bytes)) none in
    rw c.from_residual-in_err-first-in-Bytes.ensures (all, all)

pub returns-in_err-first-in-Bytes-clause-goes : goal.returns-in_err-first-in-Bytes-clause-goes
returns-in_err-first-in-Bytes-clause-goes c =
    rw c.from_residual-in_err-first-in-Bytes.ensures
    (record { on = λ finite. tt; keeps = tt; rests = λ finite. finite })

pub returns-in_err-first-in-Cells-clause-steps : goal.returns-in_err-first-in-Cells-clause-steps
returns-in_err-first-in-Cells-clause-steps c =
    let none = nil_from_length c.in-Cells.cells.now c.in_err-first-in-Cells.ensures.cases in
    let all = sym c.self.view_is ∙ ap runs_or_cells_left c.in-Cells.is ∙ ap single_cells_as_runs none in
    rw c.from_residual-in_err-first-in-Cells.ensures (all, all)

pub returns-in_err-first-in-Cells-clause-goes : goal.returns-in_err-first-in-Cells-clause-goes
returns-in_err-first-in-Cells-clause-goes c =
    rw c.from_residual-in_err-first-in-Cells.ensures
    (record { on = λ finite. tt; keeps = tt; rests = λ finite. finite })

pub returns-in_ok-first-in-Runs-clause-steps : goal.returns-in_ok-first-in-Runs-clause-steps
returns-in_ok-first-in-Runs-clause-steps c =
    sym c.self.view_is ∙ ap runs_or_cells_left c.in-Runs.is ∙ c.in_ok-first-in-Runs.ensures.cases.0

pub returns-in_ok-first-in-Runs-clause-goes : goal.returns-in_ok-first-in-Runs-clause-goes
returns-in_ok-first-in-Runs-clause-goes c =
    let first = sym c.self.view_is ∙ ap runs_or_cells_left c.in-Runs.is ∙ c.in_ok-first-in-Runs.ensures.cases.0 in
    record {
      on = λ finite. (tt, tt, fewer _ _ _ first);
      keeps = tt;
      rests = λ finite. tt;
    }

pub returns-in_ok-first-in-Bytes-clause-steps : goal.returns-in_ok-first-in-Bytes-clause-steps
returns-in_ok-first-in-Bytes-clause-steps c =
    sym c.self.view_is ∙ ap runs_or_cells_left c.in-Bytes.is
    ∙ bytes_first c.in_ok-first-in-Bytes.ensures.cases.0 c.cell_of_byte.ensures

pub returns-in_ok-first-in-Bytes-clause-goes : goal.returns-in_ok-first-in-Bytes-clause-goes
returns-in_ok-first-in-Bytes-clause-goes c =
    let first = sym c.self.view_is ∙ ap runs_or_cells_left c.in-Bytes.is
    ∙ bytes_first c.in_ok-first-in-Bytes.ensures.cases.0 c.cell_of_byte.ensures in
    record {
      on = λ finite. (tt, tt, fewer _ _ _ first);
      keeps = tt;
      rests = λ finite. tt;
    }

pub returns-in_ok-first-in-Cells-clause-steps : goal.returns-in_ok-first-in-Cells-clause-steps
returns-in_ok-first-in-Cells-clause-steps c =
    sym c.self.view_is ∙ ap runs_or_cells_left c.in-Cells.is ∙ ap single_cells_as_runs
    c.in_ok-first-in-Cells.ensures.cases.0

pub returns-in_ok-first-in-Cells-clause-goes : goal.returns-in_ok-first-in-Cells-clause-goes
returns-in_ok-first-in-Cells-clause-goes c =
    let first = sym c.self.view_is ∙ ap runs_or_cells_left c.in-Cells.is
    ∙ ap single_cells_as_runs c.in_ok-first-in-Cells.ensures.cases.0 in
    record {
      on = λ finite. (tt, tt, fewer _ _ _ first);
      keeps = tt;
      rests = λ finite. tt;
    }
