-- The runs of a row: maximal groups of adjacent equal cells.
use Rattle.std.specs.Prelude.{ℕ, ◌≢◌, ◌<◌, List, [], ◌∷◌, All, flat_map, replicate}
use Rattle.cell_core.specs.Grid.{CellValue}

-- a run: a cell, and how many times it is repeated
abbrev pub RunValue : Type 0
RunValue = CellValue × ℕ

-- the cells of runs, from left to right
abbrev pub cells_of_runs : List RunValue → List CellValue
cells_of_runs = flat_map (λ run. replicate run.1 run.0)

-- adjacent runs have different cells
abbrev pub AdjacentRunsDiffer : List RunValue → Type 0
AdjacentRunsDiffer [] = Unit {0}
AdjacentRunsDiffer (a ∷ []) = Unit {0}
AdjacentRunsDiffer (a ∷ b ∷ rest) = (a.0 ≢ b.0) × AdjacentRunsDiffer (b ∷ rest)

-- each run has at least one cell, and adjacent runs have different cells
pub record AreMaximalRuns (runs : List RunValue) : Type 0 where
  pub lengths : All (λ run. 0 < run.1) runs
  pub apart : AdjacentRunsDiffer runs
