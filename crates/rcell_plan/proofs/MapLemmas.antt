-- Two maps with equal cells everywhere are equal.
use Rattle.std.proofs.Common.{◌≡◌, ℕ, ◌<◌, List, [], None, length, get_or, ap, sym, ◌∙◌, arith}
use Rattle.std.proofs.lemmas.List.{get_or_default, same_lists}
use Rattle.std.proofs.lemmas.List.Elements.{All-get_or}
use Rattle.cell_core_values.specs.Region.{RegionValue}
use Rattle.cell_core.specs.Grid.{Grid, CellValue, RowsFillRegion}
use Rattle.cell_core.specs.Shelf.{ShelfValue}
use Rattle.cell_calc_language.specs.Applied.{grid_position}
use Rattle.cell_calc_language.specs.Formula.{Formula}
use Rattle.cell_calc_language.specs.Value.{value}
use Rattle.rcell.specs.Making.{IsMapOfExpressionValues}

-- two lists of rows of one region are equal if their cells are
module _ (region : RegionValue) (xs ys : List (List CellValue)) (x : RowsFillRegion region xs)
    (y : RowsFillRegion region ys) where
  pub same_rows :
      ((r c : ℕ) → r < region.rows → c < region.cols
      → get_or (get_or xs r []) c None ≡ get_or (get_or ys r []) c None)
      → xs ≡ ys
  same_rows cells =
      let x_count = x.count in
      let y_count = y.count in
      same_lists xs ys (omega arith) (λ r d lt.
      let within : r < length ys = omega arith in
      let x_wide : length (get_or xs r []) ≡ region.cols =
      All-get_or (λ l. length l ≡ region.cols) xs r [] lt x.width in
      let y_wide : length (get_or ys r []) ≡ region.cols =
      All-get_or (λ l. length l ≡ region.cols) ys r [] within y.width in
      get_or_default xs r d [] lt
      ∙ same_lists (get_or xs r []) (get_or ys r []) (omega arith) (λ c e c_lt.
      get_or_default (get_or xs r []) c e None c_lt
      ∙ cells r c (omega arith) (omega arith)
      ∙ get_or_default (get_or ys r []) c None e (omega arith))
      ∙ get_or_default ys r [] d within)

same_grid : (a b : Grid) → a.region ≡ b.region → a.rows ≡ b.rows → a.labels ≡ b.labels → a ≡ b
same_grid a b region rows labels = λ i. record { region = region i; rows = rows i; labels = labels i }

-- the rows of a map of values fill the region of the shelf
pub fills : (f : Formula) (shelf : ShelfValue) (x : Grid) → IsMapOfExpressionValues f shelf x
    → RowsFillRegion shelf.region x.rows
fills f shelf x are =
    let rows : x.region.rows ≡ shelf.region.rows = ap (λ (r : RegionValue). r.rows) are.region in
    let cols : x.region.cols ≡ shelf.region.cols = ap (λ (r : RegionValue). r.cols) are.region in
    record {
      count = are.filled.count ∙ rows;
      width = λ i d lt. are.filled.width i d lt ∙ cols;
    }

-- two expressions that have the same value at each cell give the same map
pub one-map-of-values : (f g : Formula) (shelf : ShelfValue) (x y : Grid) → IsMapOfExpressionValues f shelf x
    → IsMapOfExpressionValues g shelf y
    → ((row col : ℕ) → row < shelf.region.rows → col < shelf.region.cols
    → value f shelf.maps (grid_position shelf.region row col) ≡ value g shelf.maps (grid_position shelf.region row col))
    → x ≡ y
one-map-of-values f g shelf x y are_x are_y same =
    same_grid x y (are_x.region ∙ sym are_y.region)
    (same_rows shelf.region x.rows y.rows (fills f shelf x are_x) (fills g shelf y are_y) (λ r c r_lt c_lt.
    are_x.cells r c r_lt c_lt ∙ same r c r_lt c_lt ∙ sym (are_y.cells r c r_lt c_lt)))
    (are_x.labels ∙ sym are_y.labels)
