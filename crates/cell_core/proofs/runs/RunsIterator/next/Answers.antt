use Rattle.std.proofs.Common.{◌≡◌, ◌∙◌, ◌+◌, ◌-◌, ◌*◌, ◌<◌, ◌≤◌, ◌^◌, ◌∷◌, ℕ, List, length, take, drop, sym, ap, subst, arith, length-take, length-drop}
use Rattle.std.proofs.lemmas.List.{nil_from_length, length-map, take-map, drop-map}
use Rattle.cell_core.specs.Runs.{RunValue}
use Rattle.cell_core.specs.Grid.{CellValue}
use Rattle.cell_core.specs.parts.RowForms.{alike, runs_of_cells, runs_left, RemainingCellsFitInU32}
use Rattle.cell_core_values.specs.SmallCells.{cell_of_stored_byte, cells_of_bytes}
use Rattle.cell_core.proofs.RowLemmas.{runs_of_cells-rest}
use Rattle.cell_core.proofs.runs.RunsIterator.next.Goals as goal

fewer : (run : RunValue) (runs all : List RunValue) → all ≡ run ∷ runs → length runs < length all
fewer run runs all e = rw e (omega arith)

small : {n rest all : ℕ} → n ≤ rest → rest + 1 ≡ all → all < 2 ^ 32 → n < 2 ^ 32
small within one short = omega arith

small_next : {n rest all : ℕ} → n ≤ rest → rest + 1 ≡ all → all < 2 ^ 32 → 1 + n < 2 ^ 32
small_next within one short = omega arith

small_bytes : {n : ℕ} → n < 2 ^ 32 → n * 4 < 2 ^ 64
small_bytes short = omega arith

short_rest : (cells : List CellValue) (n : ℕ) {all : ℕ} → length cells + 1 ≡ all → all < 2 ^ 32
    → length (take (length cells - n) (drop n cells)) < 2 ^ 32
short_rest cells n one short = omega (arith, length-take (length cells - n) (drop n cells), length-drop n cells)

-- the runs of bytes are the first run and the runs of the bytes after it
bytes_rest : (b : ℕ) (bytes : List ℕ) (cell : CellValue) (n : ℕ) → cell ≡ cell_of_stored_byte b
    → n ≡ alike cell (cells_of_bytes bytes) → runs_of_cells (cells_of_bytes (b ∷ bytes))
    ≡ (cell, 1 + n) ∷ runs_of_cells (cells_of_bytes (take (length bytes - n) (drop n bytes)))
bytes_rest b bytes cell n stands same =
    let cells = cells_of_bytes bytes in
    let part : take (length cells - n) (drop n cells) ≡ cells_of_bytes (take (length bytes - n) (drop n bytes)) =
    ap (λ k. take (k - n) (drop n cells)) (length-map bytes cell_of_stored_byte)
    ∙ ap (take (length bytes - n)) (drop-map cell_of_stored_byte n bytes)
    ∙ take-map cell_of_stored_byte (length bytes - n) (drop n bytes) in
    ap (λ x. runs_of_cells (x ∷ cells)) (sym stands) ∙ runs_of_cells-rest cell cells n same
    ∙ ap (λ l. (cell, 1 + n) ∷ runs_of_cells l) part

pub returns-in_err-first-in-Runs-clause-steps : goal.returns-in_err-first-in-Runs-clause-steps
returns-in_err-first-in-Runs-clause-steps c =
    let none = nil_from_length c.in-Runs.runs.now c.in_err-first-in-Runs.ensures.cases in
    let all = sym c.self.view_is ∙ ap runs_left c.in-Runs.is ∙ none in
    rw c.from_residual.ensures (all, all)

pub returns-in_err-first-in-Runs-clause-goes : goal.returns-in_err-first-in-Runs-clause-goes
returns-in_err-first-in-Runs-clause-goes c =
    rw c.from_residual.ensures (record { on = λ finite. tt; keeps = tt; rests = λ finite. finite })

pub returns-in_err-first-in-Cells-clause-steps : goal.returns-in_err-first-in-Cells-clause-steps
returns-in_err-first-in-Cells-clause-steps c =
    let none = nil_from_length c.in-Cells.cells.now c.in_err-first-in-Cells.ensures.cases in
    let all = sym c.self.view_is ∙ ap runs_left c.in-Cells.is ∙ ap runs_of_cells none in
    rw c.from_residual-in_err-first-in-Cells.ensures (all, all)

pub returns-in_err-first-in-Cells-clause-goes : goal.returns-in_err-first-in-Cells-clause-goes
returns-in_err-first-in-Cells-clause-goes c =
    rw c.from_residual-in_err-first-in-Cells.ensures (record { on = λ finite. tt; keeps = tt; rests = λ finite. finite })

pub offset_bounds-others-alike : goal.offset_bounds-others-alike
offset_bounds-others-alike c =
    let short = subst RemainingCellsFitInU32 c.in-Cells.is c.self.invariant in
    record { fits = small_bytes (small c.count_leading_equal_cells-alike.ensures.within c.in_ok-first-in-Cells.ensures.cases.1 short) }

pub slice_bounds-self-count : goal.slice_bounds-self-count
slice_bounds-self-count c = c.count_leading_equal_cells-alike.ensures.within

pub overflow_cast-result : goal.overflow_cast-result
overflow_cast-result c =
    let short = subst RemainingCellsFitInU32 c.in-Cells.is c.self.invariant in
    record {
      fits = small c.count_leading_equal_cells-alike.ensures.within c.in_ok-first-in-Cells.ensures.cases.1
          short;
    }

pub overflow_add-result : goal.overflow_add-result
overflow_add-result c =
    let short = subst RemainingCellsFitInU32 c.in-Cells.is c.self.invariant in
    record {
      fits = small_next c.count_leading_equal_cells-alike.ensures.within c.in_ok-first-in-Cells.ensures.cases.1
          short;
    }

pub invariant_of-self-in-Cells : goal.invariant_of-self-in-Cells
invariant_of-self-in-Cells c =
    let short = subst RemainingCellsFitInU32 c.in-Cells.is c.self.invariant in
    short_rest c.in_ok-first-in-Cells.others.now c.count_leading_equal_cells-alike.result
    c.in_ok-first-in-Cells.ensures.cases.1 short

pub returns-in_ok-first-in-Runs-clause-steps : goal.returns-in_ok-first-in-Runs-clause-steps
returns-in_ok-first-in-Runs-clause-steps c =
    sym c.self.view_is ∙ ap runs_left c.in-Runs.is ∙ c.in_ok-first-in-Runs.ensures.cases.0

pub returns-in_ok-first-in-Runs-clause-goes : goal.returns-in_ok-first-in-Runs-clause-goes
returns-in_ok-first-in-Runs-clause-goes c =
    let first = sym c.self.view_is ∙ ap runs_left c.in-Runs.is ∙ c.in_ok-first-in-Runs.ensures.cases.0 in
    record {
      on = λ finite. (tt, tt, fewer _ _ _ first);
      keeps = tt;
      rests = λ finite. tt;
    }

pub returns-in_ok-first-in-Cells-clause-steps : goal.returns-in_ok-first-in-Cells-clause-steps
returns-in_ok-first-in-Cells-clause-steps c =
    let arm = c.in_ok-first-in-Cells in
    sym c.self.view_is ∙ ap runs_left c.in-Cells.is ∙ ap runs_of_cells arm.ensures.cases.0
    ∙ runs_of_cells-rest arm.first.now arm.others.now c.count_leading_equal_cells-alike.result
    c.count_leading_equal_cells-alike.ensures.value

pub returns-in_ok-first-in-Cells-clause-goes : goal.returns-in_ok-first-in-Cells-clause-goes
returns-in_ok-first-in-Cells-clause-goes c =
    let arm = c.in_ok-first-in-Cells in
    let first =
    sym c.self.view_is ∙ ap runs_left c.in-Cells.is ∙ ap runs_of_cells arm.ensures.cases.0
    ∙ runs_of_cells-rest arm.first.now arm.others.now c.count_leading_equal_cells-alike.result
    c.count_leading_equal_cells-alike.ensures.value in
    record {
      on = λ finite. (tt, tt, fewer _ _ _ first);
      keeps = tt;
      rests = λ finite. tt;
    }

pub returns-in_ok-first-in-Bytes-clause-steps : goal.returns-in_ok-first-in-Bytes-clause-steps
returns-in_ok-first-in-Bytes-clause-steps c =
    let arm = c.in_ok-first-in-Bytes in
    sym c.self.view_is ∙ ap runs_left c.in-Bytes.is
    ∙ ap (λ bytes. runs_of_cells (cells_of_bytes bytes)) arm.ensures.cases.0
    ∙ bytes_rest arm.first.now arm.others.now c.cell_of_byte-cell.result c.count_leading_bytes_of_cell-alike.result
    c.cell_of_byte-cell.ensures c.count_leading_bytes_of_cell-alike.ensures.value

pub returns-in_ok-first-in-Bytes-clause-goes : goal.returns-in_ok-first-in-Bytes-clause-goes
returns-in_ok-first-in-Bytes-clause-goes c =
    let arm = c.in_ok-first-in-Bytes in
    let first =
    sym c.self.view_is ∙ ap runs_left c.in-Bytes.is
    ∙ ap (λ bytes. runs_of_cells (cells_of_bytes bytes)) arm.ensures.cases.0
    ∙ bytes_rest arm.first.now arm.others.now c.cell_of_byte-cell.result c.count_leading_bytes_of_cell-alike.result
    c.cell_of_byte-cell.ensures c.count_leading_bytes_of_cell-alike.ensures.value in
    record {
      on = λ finite. (tt, tt, fewer _ _ _ first);
      keeps = tt;
      rests = λ finite. tt;
    }
