-- Values over tiles: an expression computed over a tile with its halo agrees, in the tile, with the expression computed
-- over the full map.
use Rattle.std.specs.Prelude.{ℕ, ◌≡◌, ◌-◌, false, All}
use Rattle.cell_core_values.specs.Region.{RegionValue}
use Rattle.cell_core.specs.Grid.{Grid, RowsFillRegion, cell_at}
use Rattle.cell_core.specs.Shelf.{ShelfValue}
use Rattle.cell_calc_grammar.specs.declared.function.Function.{Function}
use Rattle.cell_calc_grammar.specs.declared.function.Function.TheVariants.{Row, Column, RowCount, ColumnCount}
use Rattle.cell_calc_grammar.specs.declared.operator.Operator.TheVariants.{Plus}
use Rattle.cell_calc_language.specs.Formula.{Formula, Number, Map, Negated, Not, Binary, Call, ArgumentFormulas}
use Rattle.cell_calc_language.specs.Formula.{NoTrees, Then}
use Rattle.rcell_plan.specs.HaloParts.{calls, is_row_or_nrows_function, is_col_or_ncols_function}
use Rattle.cell_join_numbers.specs.Parts.{Rectangle, RowsAreCutOutOfMaps}
use Rattle.rcell_plan.specs.ReachParts.{reach_of, rectangle_with_halo_in_region, IsCellInRectangleInRegion}
use Rattle.rcell.specs.Making.{IsMapOfExpressionValues}

-- a tile with its halo: the surrounding rows and columns that the expression reaches, limited to the region
abbrev pub tile_rectangle_with_halo : Formula → ShelfValue → Rectangle → Rectangle
tile_rectangle_with_halo f whole r = rectangle_with_halo_in_region whole.region (reach_of f) r

-- the maps of a tile with its halo are cut out of the full maps
pub record IsHaloedTile (f : Formula) (r : Rectangle) (whole tile : ShelfValue) : Type 0 where
  pub filled : All (λ m. RowsFillRegion whole.region m.rows) whole.maps
  pub cells : RowsAreCutOutOfMaps (tile_rectangle_with_halo f whole r) whole.maps tile.maps
  pub rows : tile.region.rows ≡ (tile_rectangle_with_halo f whole r).rows
  pub cols : tile.region.cols ≡ (tile_rectangle_with_halo f whole r).cols

-- if `x = f` is computed over the full map and `y = f` over a tile with its halo, y equals x in the tile, unless f uses
-- a row or column number
abbrev pub HaloedTileHasFullMapValues : Type 0
HaloedTileHasFullMapValues =
    (f : Formula) (whole tile : ShelfValue) (r : Rectangle) → IsHaloedTile f r whole tile
    → calls is_row_or_nrows_function f ≡ false → calls is_col_or_ncols_function f ≡ false
    → (x y : Grid) → IsMapOfExpressionValues f whole x → IsMapOfExpressionValues f tile y
    → (row col : ℕ) → IsCellInRectangleInRegion whole.region r row col
    → cell_at y (row - (tile_rectangle_with_halo f whole r).top) (col - (tile_rectangle_with_halo f whole r).left)
    ≡ cell_at x row col

-- a call rewritten for a tile: row() and col() count from the tile's first row and column, and nrows() and ncols()
-- become the numbers of the region
abbrev pub call_rewritten_for_tile : RegionValue → Rectangle → Function → ArgumentFormulas → Formula
call_rewritten_for_tile region r Row xs = Binary Plus (Call Row xs) (Number r.top)
call_rewritten_for_tile region r Column xs = Binary Plus (Call Column xs) (Number r.left)
call_rewritten_for_tile region r RowCount xs = Number region.rows
call_rewritten_for_tile region r ColumnCount xs = Number region.cols
call_rewritten_for_tile region r f xs = Call f xs

abbrev mutual
  -- the expression with all of its calls rewritten for a tile
  pub placed : RegionValue → Rectangle → Formula → Formula
  placed region r (Number n) = Number n
  placed region r (Map i down right) = Map i down right
  placed region r (Negated a) = Negated (placed region r a)
  placed region r (Not a) = Not (placed region r a)
  placed region r (Binary op a b) = Binary op (placed region r a) (placed region r b)
  placed region r (Call f xs) = call_rewritten_for_tile region r f (all_placed region r xs)

  pub all_placed : RegionValue → Rectangle → ArgumentFormulas → ArgumentFormulas
  all_placed region r NoTrees = NoTrees
  all_placed region r (Then a xs) = Then (placed region r a) (all_placed region r xs)
