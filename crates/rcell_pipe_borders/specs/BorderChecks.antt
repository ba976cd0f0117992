-- The cells and numbers of a border that can belong to a tile, as far as the border alone shows it.
use Rattle.std.specs.Prelude.{ℕ, ℤ, pos, ◌-◌, ◌==◌, ◌&&◌, not, nat_le, Bool, true, false, List, length, sum, Some}
use Rattle.std.specs.Prelude.{None, slice_index_or, if◌then◌else◌}
use Rattle.std.specs.List.{list_all, range_with_len}
use Rattle.cell_core_values.specs.Cell.{cell_eq}
use Rattle.cell_core.specs.Grid.{CellValue}
use Rattle.cell_join_tiles.specs.Values.{TileSideValue, TileBorderValue}

-- a cell and its patch's number match: both are null, or the number is from 1 to the number of patches
abbrev pub cell_fits_patch_number : ℕ → (cell number : CellValue) → Bool
cell_fits_patch_number patches None None = true
cell_fits_patch_number patches None (Some n) = false
cell_fits_patch_number patches (Some v) None = false
cell_fits_patch_number patches (Some v) (Some (pos n)) = nat_le 1 n && nat_le n patches
cell_fits_patch_number patches (Some v) (Some n) = false

abbrev pub side_cell : TileSideValue → ℕ → CellValue
side_cell side k = slice_index_or side.cells k None

abbrev pub side_patch_number : TileSideValue → ℕ → CellValue
side_patch_number side k = slice_index_or side.numbers k None

-- two adjacent cells have one number if they have one category, and two numbers otherwise
abbrev pub adjacent_cells_fit_numbers : TileSideValue → (i k : ℕ) → Bool
adjacent_cells_fit_numbers side i k =
    if cell_eq (side_cell side i) (side_cell side k) then cell_eq (side_patch_number side i) (side_patch_number side k)
    else not (cell_eq (side_patch_number side i) (side_patch_number side k))

-- a cell of a side matches its number and the cell before it
abbrev pub is_valid_side_cell : ℕ → TileSideValue → ℕ → Bool
is_valid_side_cell patches side k = cell_fits_patch_number patches (side_cell side k) (side_patch_number side k)
    && adjacent_cells_fit_numbers side (k - 1) k

abbrev pub is_valid_tile_side : ℕ → TileSideValue → Bool
is_valid_tile_side patches side = list_all (is_valid_side_cell patches side) (range_with_len 0 (length side.cells))

-- two sides agree about the corner at index `i` of one and index `k` of the other
abbrev pub sides_agree_at_corner : TileSideValue → ℕ → TileSideValue → ℕ → Bool
sides_agree_at_corner one i other k =
    cell_eq (side_cell one i) (side_cell other k) && cell_eq (side_patch_number one i) (side_patch_number other k)

abbrev pub sides_agree_at_all_corners : TileBorderValue → Bool
sides_agree_at_all_corners border =
    sides_agree_at_corner border.first 0 border.left 0
    && (sides_agree_at_corner border.first (length border.first.cells - 1) border.right 0
    && (sides_agree_at_corner border.last 0 border.left (length border.left.cells - 1)
    && sides_agree_at_corner border.last (length border.last.cells - 1) border.right (length border.right.cells - 1)))

-- the sides match their numbers, for the number of patches that begin in the tile, and agree about the corners
abbrev pub is_valid_border : TileBorderValue → Bool
is_valid_border border =
    is_valid_tile_side (sum border.begun) border.first
    && (is_valid_tile_side (sum border.begun) border.last
    && (is_valid_tile_side (sum border.begun) border.left
    && (is_valid_tile_side (sum border.begun) border.right && sides_agree_at_all_corners border)))
