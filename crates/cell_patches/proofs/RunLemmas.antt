-- The cells of a row that is read run by run.
use Rattle.std.proofs.Common.{◌≡◌, ◌∙◌, ℕ, ◌+◌, ◌-◌, ◌<◌, List, ◌∷◌, ◌++◌, length, length-append, replicate}
use Rattle.std.proofs.Common.{get_or, None, ap, sym, arith}
use Rattle.std.specs.Prelude.{All}
use Rattle.std.proofs.lemmas.List.{length-replicate, get_or-replicate, get_or_append_left, get_or-append_right}
use Rattle.std.proofs.lemmas.List.Elements.{All-head, All-tail}
use Rattle.cell_core.specs.Grid.{CellValue}
use Rattle.cell_core.specs.Runs.{RunValue, cells_of_runs}

-- the cells of the first run, and of the others
module _ (cell : CellValue) (n : ℕ) (old rest : List RunValue) (next : old ≡ (cell, n) ∷ rest) where
  whole : cells_of_runs old ≡ replicate n cell ++ cells_of_runs rest
  whole = ap (λ l. cells_of_runs l) next

  pub count_more : length (cells_of_runs old) ≡ n + length (cells_of_runs rest)
  count_more =
      let count = ap (λ (l : List CellValue). length l) whole ∙ length-append (replicate n cell) (cells_of_runs rest) in
      let first = length-replicate n cell in omega arith

  pub cell_of_first : (b : ℕ) → b < n → get_or (cells_of_runs old) b None ≡ cell
  cell_of_first b lt =
      let first = length-replicate n cell in
      ap (λ (l : List CellValue). get_or l b None) whole
      ∙ get_or_append_left (replicate n cell) (cells_of_runs rest) None b (omega arith)
      ∙ get_or-replicate n b cell None lt

  pub cell_of_others : (b : ℕ) → get_or (cells_of_runs rest) b None ≡ get_or (cells_of_runs old) (n + b) None
  cell_of_others b =
      ap (λ (k : ℕ). get_or (cells_of_runs rest) k None) (let e : b ≡ n + b - n = omega arith in e)
      ∙ sym (get_or-append_right (replicate n cell) (cells_of_runs rest) n (n + b) None (length-replicate n cell)
      (omega arith))
      ∙ sym (ap (λ (l : List CellValue). get_or l (n + b) None) whole)

  module _ (some : All (λ (run : RunValue). 0 < run.1) old) where
    pub some_in_first : 0 < n
    some_in_first = All-head (λ (run : RunValue). 0 < run.1) (cell, n) rest (rw next at some)

    pub some_in_others : All (λ (run : RunValue). 0 < run.1) rest
    some_in_others = All-tail (λ (run : RunValue). 0 < run.1) (cell, n) rest (rw next at some)
