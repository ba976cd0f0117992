-- The bytes of a response: a magic line, the frames, and a last frame that reports how the run ended (profile).
use Rattle.std.specs.Prelude.{ℕ, pos, negsuc, Bool, true, false, List, [], ◌∷◌, ◌++◌, length, map, flat_map, codes, Option, Some, None, if◌then◌else◌, nat_le}
use Rattle.std.specs.List.{list_all, zip}
use Rattle.std.specs.Option.{is_some}
use Rattle.std.specs.Int.{w32, w64, to_le_bytes, cast_unsigned}
use Rattle.cell_core_values.specs.Cell.{stored_number_of_cell}
use Rattle.cell_core.specs.Grid.{CellValue}
use Rattle.cell_clumps.specs.declared.clump.Joining.{Joining}
use Rattle.cell_clumps.specs.declared.clump.Joining.TheVariants.{Edges, EdgesAndCorners}
use Rattle.cell_patches.specs.declared.patch.Patch.{Patch}
use Rattle.cell_stats.specs.CategoryTables.{CombinationsWithCounts}
use Rattle.cell_stats.specs.TableText.{TableFormatValue}
use Rattle.cell_join_tiles.specs.Values.{TileSideValue, TileBorderValue}
use Rattle.rcell_pipe_frames.specs.Frames.{TableFrame, GridFrame, PatchesFrame, PatchNumbersFrame, BorderFrame}
use Rattle.rcell_pipe_frames.specs.Frames.{OutputFrame, Table, Cells, Map, Patches, PatchNumbers, Border}

-- a number in eight bytes, lowest byte first
abbrev pub eight_bytes_of_number : ℕ → List ℕ
eight_bytes_of_number n = to_le_bytes w64 n

-- the length of a text, then the text
abbrev pub length_and_text_bytes : List ℕ → List ℕ
length_and_text_bytes text = eight_bytes_of_number (length text) ++ text

-- a cell in four bytes: its category, or -2147483648 for null
abbrev pub four_bytes_of_cell : CellValue → List ℕ
four_bytes_of_cell cell = to_le_bytes w32 (cast_unsigned w32 (stored_number_of_cell cell))

-- 1 for true, 0 for false
abbrev pub one_if_true_else_zero : Bool → ℕ
one_if_true_else_zero true = 1
one_if_true_else_zero false = 0

-- the head of a table: its four letters, the line, the numbers of combinations and of maps, whether it has counts and
-- labels, the separator, the null text, and the maps' names
abbrev pub table_frame_head_bytes : List ℕ → ℕ → ℕ → TableFormatValue → List (List ℕ) → List ℕ
table_frame_head_bytes letters line entries format names =
    letters ++ eight_bytes_of_number line ++ eight_bytes_of_number entries ++ eight_bytes_of_number (length names)
    ++ (one_if_true_else_zero format.counts ∷ one_if_true_else_zero format.labels ∷ format.separator ∷ []) ++ length_and_text_bytes format.null_text ++ flat_map length_and_text_bytes names

-- the counts, if the options ask for them
abbrev pub asked_counts_bytes : TableFormatValue → CombinationsWithCounts → List ℕ
asked_counts_bytes format pairs = if format.counts then flat_map (λ pair. eight_bytes_of_number pair.1) pairs else []

-- the cells of each combination in turn
abbrev pub cell_bytes_of_combinations : CombinationsWithCounts → List ℕ
cell_bytes_of_combinations pairs = flat_map (λ pair. flat_map four_bytes_of_cell pair.0) pairs

-- the labels in the order of the cells, if the options ask for them
abbrev pub asked_labels_bytes : TableFormatValue → List (List (List ℕ)) → List ℕ
asked_labels_bytes format labels = if format.labels then flat_map (flat_map length_and_text_bytes) labels else []

abbrev pub table_frame_bytes : List ℕ → TableFrame → List ℕ
table_frame_bytes letters t = table_frame_head_bytes letters t.line (length t.pairs) t.format t.names ++ asked_counts_bytes t.format t.pairs ++ cell_bytes_of_combinations t.pairs ++ asked_labels_bytes t.format t.labels

-- the cell fits in a byte: it is null or a category from 0 to 254
abbrev pub is_one_byte_cell : CellValue → Bool
is_one_byte_cell None = true
is_one_byte_cell (Some (pos n)) = nat_le n 254
is_one_byte_cell (Some (negsuc n)) = false

-- each cell fits in a byte
abbrev pub are_one_byte_cells : List (List CellValue) → Bool
are_one_byte_cells rows = list_all (list_all is_one_byte_cell) rows

-- the byte that encodes a cell: its category, or 255 for null and for categories that do not fit
abbrev pub byte_of_cell : CellValue → ℕ
byte_of_cell None = 255
byte_of_cell (Some (pos n)) = if nat_le n 254 then n else 255
byte_of_cell (Some (negsuc n)) = 255

-- the cells of a map, row by row: if every cell fits in a byte, 1 and then one byte per cell; otherwise 6 and then four
-- bytes per cell
abbrev pub cell_size_and_map_rows_bytes : List (List CellValue) → List ℕ
cell_size_and_map_rows_bytes rows = if are_one_byte_cells rows then 1 ∷ flat_map (map byte_of_cell) rows else 6 ∷ flat_map (flat_map four_bytes_of_cell) rows

-- the edges, in the order north, south, east, west
abbrev pub region_sides_bytes : List ℕ → List ℕ → List ℕ → List ℕ → List ℕ
region_sides_bytes north south east west = length_and_text_bytes north ++ length_and_text_bytes south
    ++ length_and_text_bytes east ++ length_and_text_bytes west

-- the head of a map: line, null text, and name
abbrev pub grid_frame_head_bytes : ℕ → List ℕ → List ℕ → List ℕ
grid_frame_head_bytes line null_text name = codes "GRID" ++ eight_bytes_of_number line
    ++ length_and_text_bytes null_text ++ length_and_text_bytes name

abbrev pub grid_frame_bytes : GridFrame → List ℕ
grid_frame_bytes g =
    grid_frame_head_bytes g.line g.null_text g.name ++ region_sides_bytes g.north g.south g.east g.west ++ (eight_bytes_of_number g.rows ++ eight_bytes_of_number g.cols) ++ cell_size_and_map_rows_bytes g.cells

-- the code of a connectivity
abbrev pub joining_code : Joining → ℕ
joining_code Edges = 4
joining_code EdgesAndCorners = 8

-- a patch in 68 bytes: four for the category, and eight for each count, row and column
abbrev pub patch_bytes : Patch → List ℕ
patch_bytes p =
    four_bytes_of_cell (Some p.class) ++ eight_bytes_of_number p.cells ++ eight_bytes_of_number p.ends ++ eight_bytes_of_number p.flanks ++ eight_bytes_of_number p.core
    ++ eight_bytes_of_number p.first_row ++ eight_bytes_of_number p.last_row ++ eight_bytes_of_number p.first_col
    ++ eight_bytes_of_number p.last_col

-- a patch, then its zone in four bytes
abbrev pub zoned_patch_bytes : Patch × CellValue → List ℕ
zoned_patch_bytes row = patch_bytes row.0 ++ four_bytes_of_cell row.1

-- the patches, with their zones if there are zones
abbrev pub patches_and_any_zones_bytes : List Patch → Option (List CellValue) → List ℕ
patches_and_any_zones_bytes patches None = flat_map patch_bytes patches
patches_and_any_zones_bytes patches (Some zones) = flat_map zoned_patch_bytes (zip patches zones)

-- the patches of a map: the question's index, the connectivity, the depth, whether there are zones, the number of
-- patches, and the patches
abbrev pub patches_frame_bytes : PatchesFrame → List ℕ
patches_frame_bytes p =
    codes "PTCH" ++ eight_bytes_of_number p.question ++ joining_code p.joining ∷ (to_le_bytes w32 p.depth
    ++ one_if_true_else_zero (is_some p.zones) ∷ (eight_bytes_of_number (length p.patches)
    ++ patches_and_any_zones_bytes p.patches p.zones))

-- the patch numbers of a map: the question's index, the numbers of rows and columns, and the cells
abbrev pub patch_numbers_frame_bytes : PatchNumbersFrame → List ℕ
patch_numbers_frame_bytes n =
    codes "NUMB" ++ eight_bytes_of_number n.question ++ (eight_bytes_of_number n.rows ++ eight_bytes_of_number n.cols)
    ++ cell_size_and_map_rows_bytes n.cells

-- the cells of a side of a tile, then their numbers
abbrev pub tile_side_bytes : TileSideValue → List ℕ
tile_side_bytes side = flat_map four_bytes_of_cell side.cells ++ flat_map four_bytes_of_cell side.numbers

-- the four sides of a tile, and the counts by row in four bytes each
abbrev pub border_fields_bytes : TileBorderValue → List ℕ
border_fields_bytes border = tile_side_bytes border.first ++ (tile_side_bytes border.last
    ++ (tile_side_bytes border.left ++ (tile_side_bytes border.right ++ flat_map (to_le_bytes w32) border.begun)))

-- a tile's first row and column in the full map
abbrev pub tile_position_bytes : (first_row first_col : ℕ) → List ℕ
tile_position_bytes first_row first_col = eight_bytes_of_number first_row ++ eight_bytes_of_number first_col

-- a tile's numbers of rows and columns, and its border
abbrev pub tile_size_and_border_bytes : (rows cols : ℕ) → TileBorderValue → List ℕ
tile_size_and_border_bytes rows cols border =
    to_le_bytes w32 rows ++ (to_le_bytes w32 cols ++ border_fields_bytes border)

-- a tile as in a join request: the connectivity, the position in the full map, the size, and the border
abbrev pub tile_bytes : BorderFrame → List ℕ
tile_bytes b = (joining_code b.joining ∷ []) ++ (tile_position_bytes b.first_row b.first_col
    ++ tile_size_and_border_bytes b.rows b.cols b.border)

-- the border of a map: the question's index, and the map as a tile in a join request
abbrev pub border_frame_bytes : BorderFrame → List ℕ
border_frame_bytes b = codes "BORD" ++ (eight_bytes_of_number b.question ++ tile_bytes b)

abbrev pub frame_bytes : OutputFrame → List ℕ
frame_bytes (Table t) = table_frame_bytes (codes "TABL") t
frame_bytes (Cells t) = table_frame_bytes (codes "CELL") t
frame_bytes (Map g) = grid_frame_bytes g
frame_bytes (Patches p) = patches_frame_bytes p
frame_bytes (PatchNumbers n) = patch_numbers_frame_bytes n
frame_bytes (Border b) = border_frame_bytes b

-- the bytes of all frames
abbrev pub frames_bytes : List OutputFrame → List ℕ
frames_bytes frames = flat_map frame_bytes frames

-- how a run ended: its status; where its error is (0 nowhere, 1 in the request, 2 in the script, 3 in a question); the
-- number of maps before the error; its line, row or question, and its column; and its text
pub record RunEndValue : Type 0 where
  pub status : ℕ
  pub source : ℕ
  pub maps : ℕ
  pub line : ℕ
  pub column : ℕ
  pub text : List ℕ

-- the bytes of the last frame
abbrev pub run_end_frame_bytes : RunEndValue → List ℕ
run_end_frame_bytes e = codes "DONE" ++ eight_bytes_of_number e.status ++ eight_bytes_of_number e.source ++ eight_bytes_of_number e.maps ++ eight_bytes_of_number e.line ++ eight_bytes_of_number e.column ++ length_and_text_bytes e.text

-- the first eight bytes of a response
abbrev pub response_magic : List ℕ
response_magic = codes "RCELLA1\n"

-- a complete response
abbrev pub response_bytes : List OutputFrame → RunEndValue → List ℕ
response_bytes frames end = response_magic ++ frames_bytes frames ++ run_end_frame_bytes end
