-- The place of a cell: the number of cells before it in row order.
use Rattle.std.specs.Prelude.{ℕ, ◌+◌, ◌*◌, ◌/◌, ◌%◌, ◌<◌}
use Rattle.cell_core.specs.Grid.{Grid}
use Rattle.cell_clumps.specs.Clumps.{Position}

-- the position at row r and column c
abbrev pub position_at_row_and_column : ℕ → ℕ → Position
position_at_row_and_column r c = record { row = r; col = c }

-- the position at place k, for rows of w cells
abbrev pub position_at_place : ℕ → ℕ → Position
position_at_place w k = record { row = k / w; col = k % w }

-- the place of a position, for rows of w cells
abbrev pub place_of_position : ℕ → Position → ℕ
place_of_position w p = p.row * w + p.col

-- the position is inside the map
abbrev pub IsInsideMap : Grid → Position → Type 0
IsInsideMap m p = (p.row < m.region.rows) × (p.col < m.region.cols)
