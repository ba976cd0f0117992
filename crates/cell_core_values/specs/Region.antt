-- The rectangle that a map covers, in units of 10^-8, and its numbers of rows and columns (g.region manual).
use Rattle.std.specs.Prelude.{ℕ, ℤ, pos, negsuc, ◌≡◌, ◌≤◌, ◌<◌, ◌*◌, Result, Ok, Err, Bool, ◌&&◌, not, int_lt, int_le, nat_le, if◌then◌else◌}
use Rattle.cell_core_values.specs.declared.region.RegionFault.{RegionFault}
use Rattle.cell_core_values.specs.declared.region.RegionFault.TheVariants.{BadExtent, BadRows, BadCols, TooManyCells}

-- a region: its four edges and its numbers of rows and columns
pub record RegionValue : Type 0 where
  pub north : ℤ
  pub south : ℤ
  pub east : ℤ
  pub west : ℤ
  pub rows : ℕ
  pub cols : ℕ

-- the maximum number of rows and of columns (profile)
abbrev pub most_rows_or_columns : ℕ
most_rows_or_columns = 65535

-- the maximum number of cells, which is the largest category (profile)
abbrev pub most_cells : ℕ
most_cells = 2147483647

-- the first edge is above the second, and both have at most ten digits before the point (profile)
abbrev pub is_edge_above_within_limits : ℤ → ℤ → Bool
is_edge_above_within_limits high low = int_lt low high && (int_le (negsuc 999999999999999998) low
    && int_le high (pos 999999999999999999))

-- the number is valid as a number of rows or columns (profile)
abbrev pub is_row_or_column_count : ℕ → Bool
is_row_or_column_count n = nat_le 1 n && nat_le n most_rows_or_columns

-- the number of cells is within the limit
abbrev pub is_within_cell_limit : RegionValue → Bool
is_within_cell_limit e = nat_le (e.rows * e.cols) most_cells

-- north is above south, and east above west
abbrev pub are_region_edges_in_order : RegionValue → Bool
are_region_edges_in_order e = is_edge_above_within_limits e.north e.south && is_edge_above_within_limits e.east e.west

-- the region, or the first error of its six numbers, in the order of the checks
abbrev pub region_or_first_fault : RegionValue → Result RegionValue RegionFault
region_or_first_fault e = if not (are_region_edges_in_order e) then Err BadExtent else
    (if not (is_row_or_column_count e.rows) then Err BadRows else
    (if not (is_row_or_column_count e.cols) then Err BadCols else
    (if not (is_within_cell_limit e) then Err TooManyCells else Ok e)))

-- the properties of every region: its numbers are accepted, so it has 1 to 65535 rows and columns
pub record IsValidRegion (e : RegionValue) : Type 0 where
  pub rows_least : 0 < e.rows
  pub rows_most : e.rows ≤ most_rows_or_columns
  pub cols_least : 0 < e.cols
  pub cols_most : e.cols ≤ most_rows_or_columns
  pub cells_most : e.rows * e.cols ≤ most_cells
  pub accepted : region_or_first_fault e ≡ Ok e
