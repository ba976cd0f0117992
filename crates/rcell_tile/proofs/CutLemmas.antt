-- The cells of a rectangle that is inside a map.
use Rattle.std.proofs.Common.{◌≡◌, ℕ, ◌+◌, ◌<◌, ◌≤◌, List, [], ◌∷◌, take, drop, length, get_or, None, refl, sym}
use Rattle.std.proofs.Common.{◌∙◌, arith}
use Rattle.std.proofs.lemmas.List.{length-map, length-take-le, length-drop}
use Rattle.std.proofs.lemmas.List.Elements.{All-map, All-weaker, All-take, All-drop}
use Rattle.cell_core_values.specs.Region.{RegionValue}
use Rattle.cell_core.specs.Grid.{Grid, CellValue, RowsFillRegion, cell_at}
use Rattle.cell_join_numbers.specs.Parts.{Rectangle, cells_of_rectangle}
use Rattle.cell_join_numbers.proofs.CutLemmas.{cut-outs-are-parts}

cut-length : {A : Type 0} (first count : ℕ) (xs : List A) → first + count ≤ length xs
    → length (take count (drop first xs)) ≡ count
cut-length first count xs le =
    let rest = length-drop first xs in
    length-take-le count (drop first xs) (omega (arith, le, rest))

module _ (region inner : RegionValue) (r : Rectangle) (high : inner.rows ≡ r.rows) (wide : inner.cols ≡ r.cols) where
  -- the cells of a rectangle inside a region fill a region of its size
  pub cut-fills : (rows : List (List CellValue)) → RowsFillRegion region rows → r.top + r.rows ≤ region.rows
      → r.left + r.cols ≤ region.cols → RowsFillRegion inner (cells_of_rectangle r rows)
  cut-fills rows fills below right =
      let lines = take r.rows (drop r.top rows) in
      let count = fills.count in
      record {
        count = length-map lines (λ row. take r.cols (drop r.left row))
            ∙ cut-length r.top r.rows rows (omega (arith, below, count)) ∙ sym high;
        width = All-map (λ row. length row ≡ inner.cols) (λ row. take r.cols (drop r.left row)) lines
            (All-weaker (λ row. length row ≡ region.cols) (λ row. length (take r.cols (drop r.left row)) ≡ inner.cols)
            (λ row is. cut-length r.left r.cols row (omega (arith, right, is)) ∙ sym wide) lines
            (All-take (λ row. length row ≡ region.cols) r.rows (drop r.top rows)
            (All-drop (λ row. length row ≡ region.cols) r.top rows fills.width)));
      }

-- a cell of a rectangle is a cell of the map
pub cut-cell : (r : Rectangle) (m : Grid) (row col : ℕ) → row < r.rows → col < r.cols
    → get_or (get_or (cells_of_rectangle r m.rows) row []) col None ≡ cell_at m (r.top + row) (r.left + col)
cut-cell r m row col high wide =
    cut-outs-are-parts r (m ∷ []) (record m { rows = cells_of_rectangle r m.rows } ∷ []) refl row col 0 high wide
