-- The border in a frame of a response, sent on in a join request, is read as the same border.
use Rattle.std.specs.Prelude.{◌≡◌, ◌<◌, ◌^◌, true, List, [], ◌∷◌, ◌++◌, Ok}
use Rattle.cell_core_devices.specs.Device.{ComingBytes}
use Rattle.cell_core.specs.Grid.{CellValue, CellsAreNullOrCategories}
use Rattle.cell_join_tiles.specs.Values.{TileBorderValue, TileBorderHasSize}
use Rattle.rcell_pipe_request.specs.Feeds.{after}
use Rattle.rcell_pipe_frames.specs.Frames.{BorderFrame}
use Rattle.rcell_pipe_frames.specs.FrameBytes.{border_fields_bytes, tile_bytes, tile_position_bytes}
use Rattle.rcell_pipe_frames.specs.FrameBytes.{tile_size_and_border_bytes}
use Rattle.rcell_pipe_borders.specs.BorderGrids.{border_fields_reading, is_valid_tile_side_length, tile_size_reading}
use Rattle.rcell_pipe_borders.specs.BorderGrids.{tile_connectivity_reading, tile_position_reading}

-- the cells and the numbers of each side
abbrev pub lines_of_border : TileBorderValue → List (List CellValue)
lines_of_border border =
    border.first.cells ∷ border.first.numbers ∷ border.last.cells ∷ border.last.numbers ∷ border.left.cells
    ∷ border.left.numbers ∷ border.right.cells ∷ border.right.numbers ∷ []

-- the connectivity and the position of the frame are accepted, then the size of the tile is read, and then its border;
-- what follows the tile is left
pub record IsTileReadBack (b : BorderFrame) (rest : ComingBytes) : Type 0 where
  pub connectivity : tile_connectivity_reading b.joining (after (tile_bytes b) rest)
      ≡ Ok (
        tt,
        after (tile_position_bytes b.first_row b.first_col
            ++ tile_size_and_border_bytes b.rows b.cols b.border) rest,
      )
  pub position : tile_position_reading b.first_row b.first_col (after (tile_position_bytes b.first_row b.first_col
      ++ tile_size_and_border_bytes b.rows b.cols b.border) rest)
      ≡ Ok (tt, after (tile_size_and_border_bytes b.rows b.cols b.border) rest)
  pub size : tile_size_reading (after (tile_size_and_border_bytes b.rows b.cols b.border) rest)
      ≡ Ok ((b.rows, b.cols), after (border_fields_bytes b.border) rest)
  pub fields : border_fields_reading b.rows b.cols (after (border_fields_bytes b.border) rest) ≡ Ok (b.border, rest)

-- the bytes of a border in a frame are a tile of a join request
abbrev pub BorderFramesAreTilesOfJoinRequests : Type 0
BorderFramesAreTilesOfJoinRequests = (b : BorderFrame) (rest : ComingBytes)
    → b.first_row < 2 ^ 64 → b.first_col < 2 ^ 64
    → is_valid_tile_side_length b.rows ≡ true → is_valid_tile_side_length b.cols ≡ true
    → TileBorderHasSize b.rows b.cols b.border → CellsAreNullOrCategories (lines_of_border b.border)
    → IsTileReadBack b rest
