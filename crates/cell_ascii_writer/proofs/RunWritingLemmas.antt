-- The cells of a row, run by run.
use Rattle.std.specs.List.{All}
use Rattle.std.proofs.Common.{◌≡◌, ℕ, zero, suc, ◌+◌, ◌-◌, ◌<◌, List, [], ◌∷◌, ◌++◌, replicate, refl, ap, sym, ◌∙◌, arith, append_assoc, append-nil}
use Rattle.std.proofs.lemmas.List.{replicate-append-replicate}
use Rattle.std.proofs.lemmas.List.Concat.{flat_map-append}
use Rattle.cell_core.specs.Grid.{CellValue}
use Rattle.cell_core.specs.Runs.{RunValue, cells_of_runs}
use Rattle.cell_core.specs.Text.{cell_text}
use Rattle.cell_core.proofs.RunLemmas.{cells_of_runs-push}
use Rattle.cell_ascii_writer.specs.WrittenRuns.{repeated_text, cell_texts_each_after_a_space}
use Rattle.cell_ascii_writer.specs.WrittenRuns.{cell_texts_separated_by_spaces}

-- a run has at least one cell
pub first-some : (runs rest : List RunValue) (cell : CellValue) (n : ℕ) → All (λ run. 0 < run.1) runs
    → runs ≡ (cell, n) ∷ rest → 0 < n
first-some runs rest cell n some e = (rw e at some) 0 (cell, n) (omega arith)

module _ (null : List ℕ) where
  -- writing a cell n times is writing n equal cells
  pub times_cells : (n : ℕ) (cell : CellValue) → repeated_text n (32 ∷ cell_text null cell) ≡ cell_texts_each_after_a_space null (replicate n cell)
  times_cells zero cell = refl
  times_cells (suc n) cell = ap (λ (t : List ℕ). (32 ∷ cell_text null cell) ++ t) (times_cells n cell)

  pub both : (xs ys : List CellValue) → cell_texts_each_after_a_space null (xs ++ ys)
      ≡ cell_texts_each_after_a_space null xs ++ cell_texts_each_after_a_space null ys
  both xs ys = flat_map-append (λ cell. 32 ∷ cell_text null cell) xs ys

  -- n + m equal cells are written as n cells and then m cells
  pub spaced-more : (n m : ℕ) (cell : CellValue) → cell_texts_each_after_a_space null (replicate (n + m) cell) ≡ cell_texts_each_after_a_space null (replicate n cell) ++ cell_texts_each_after_a_space null (replicate m cell)
  spaced-more n m cell =
      ap (cell_texts_each_after_a_space null) (sym (replicate-append-replicate n m cell))
      ∙ both (replicate n cell) (replicate m cell)

  -- one more run adds the text of its cells
  pub cells_text-more : (runs : List RunValue) (cell : CellValue) (n : ℕ) → cell_texts_each_after_a_space null (cells_of_runs (runs ++ (cell, n) ∷ [])) ≡ cell_texts_each_after_a_space null (cells_of_runs runs) ++ cell_texts_each_after_a_space null (replicate n cell)
  cells_text-more runs cell n = ap (cell_texts_each_after_a_space null) (cells_of_runs-push runs cell n) ∙ both (cells_of_runs runs) (replicate n cell)

  -- the first cell of a row has no space before it
  pub joined-first : (cell : CellValue) (cells : List CellValue) → cell_texts_separated_by_spaces null (cell ∷ cells) ≡ cell_text null cell ++ cell_texts_each_after_a_space null cells
  joined-first cell [] = sym (append-nil (cell_text null cell))
  joined-first cell (next ∷ cells) = ap (λ (t : List ℕ). cell_text null cell ++ (32 ∷ t)) (joined-first next cells)

  pub joined-runs : (rest : List RunValue) (cell : CellValue) (n : ℕ) → 0 < n
      → cell_texts_separated_by_spaces null (cells_of_runs ((cell, n) ∷ rest)) ≡ (cell_text null cell ++ cell_texts_each_after_a_space null (replicate (n - 1) cell)) ++ cell_texts_each_after_a_space null (cells_of_runs rest)
  joined-runs rest cell zero some = absurd (omega arith)
  joined-runs rest cell (suc n) some =
      let count : suc n - 1 ≡ n = omega arith in
      rw count
      (joined-first cell (replicate n cell ++ cells_of_runs rest)
      ∙ ap (λ (t : List ℕ). cell_text null cell ++ t) (both (replicate n cell) (cells_of_runs rest))
      ∙ sym (append_assoc (cell_text null cell) (cell_texts_each_after_a_space null (replicate n cell)) (cell_texts_each_after_a_space null (cells_of_runs rest))))
