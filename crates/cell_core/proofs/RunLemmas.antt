-- Rows written out from their runs.
use Rattle.std.proofs.Common.{◌≡◌, ℕ, List, [], ◌∷◌, ◌++◌, replicate, ap, ◌∙◌, append-nil}
use Rattle.std.proofs.lemmas.List.Concat.{flat_map-append}
use Rattle.cell_core.specs.Grid.{CellValue}
use Rattle.cell_core.specs.Runs.{RunValue, cells_of_runs}

-- writing out one more run appends its cells
pub cells_of_runs-push : (runs : List RunValue) (x : CellValue) (n : ℕ) → cells_of_runs (runs ++ (x, n) ∷ []) ≡ cells_of_runs runs ++ replicate n x
cells_of_runs-push runs x n = flat_map-append (λ (run : RunValue). replicate run.1 run.0) runs ((x, n) ∷ []) ∙ ap (λ l. cells_of_runs runs ++ l) (append-nil (replicate n x))
