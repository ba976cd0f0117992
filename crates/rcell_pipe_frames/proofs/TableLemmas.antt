-- The entries that are printed, and the labels of their cells.
use Rattle.std.proofs.Common.{◌≡◌, ◌∙◌, ℕ, suc, List, [], ◌∷◌, ◌++◌, map, All, Option, Some, None, refl, ap, arith}
use Rattle.std.specs.List.{zip, flat_map}
use Rattle.std.specs.Ordering.{is_lt}
use Rattle.std.proofs.lemmas.List.Folds.{flat_map-map}
use Rattle.std.proofs.lemmas.List.Elements.{All-filter}
use Rattle.cell_core.specs.Grid.{Grid, CellValue}
use Rattle.cell_stats_combinations.specs.Combinations.{Combination, combination_cmp}
use Rattle.cell_stats.specs.CategoryTables.{CombinationsWithCounts}
use Rattle.cell_stats.specs.TableText.{label_of_cell, table_entries_to_print}
use Rattle.rcell_pipe_frames.specs.Frames.{combination_labels}
use Rattle.rcell_pipe_frames.specs.FrameBytes.{length_and_text_bytes}

-- a property of all entries holds for the printed entries
pub printed-all : (P : Combination × ℕ → Type 0) (after : Option Combination) (pairs : CombinationsWithCounts) → All P pairs → All P (table_entries_to_print after pairs)
printed-all P None pairs all = all
printed-all P (Some k) pairs all = All-filter (λ pair. is_lt (combination_cmp k pair.0)) P pairs all

-- a property of a list holds for its first element
pub first-of : {X : Type 0} (P : X → Type 0) (x : X) (xs : List X) → All P (x ∷ xs) → P x
first-of P x xs all = all 0 x (omega arith)

pub others-of : {X : Type 0} (P : X → Type 0) (x : X) (xs : List X) → All P (x ∷ xs) → All P xs
others-of P x xs all = λ k d within. all (suc k) d (omega (arith, within))

-- the labels of entries are their labels cell by cell
pub labels-same : (maps : List Grid) (places : List ℕ) (pairs : CombinationsWithCounts) → flat_map (flat_map length_and_text_bytes) (map (combination_labels maps places) pairs) ≡ flat_map (λ pair. flat_map (λ p. length_and_text_bytes (label_of_cell maps p.0 p.1)) (zip places pair.0)) pairs
labels-same maps places [] = refl
labels-same maps places (pair ∷ pairs) =
    ap (λ (l : List ℕ). l ++ flat_map (flat_map length_and_text_bytes) (map (combination_labels maps places) pairs)) (flat_map-map length_and_text_bytes (λ (p : ℕ × CellValue). label_of_cell maps p.0 p.1) (zip places pair.0))
    ∙ ap (λ (l : List ℕ). flat_map (λ (p : ℕ × CellValue). length_and_text_bytes (label_of_cell maps p.0 p.1)) (zip places pair.0) ++ l) (labels-same maps places pairs)
