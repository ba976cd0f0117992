-- The frames of a response: one for each statement that writes, in order, with all that the statement prints (r.stats
-- and r.out.ascii manuals; profile). The frames of questions, in QuestionFrames.antt, follow them.
use Rattle.std.specs.Prelude.{ℕ, ◌≡◌, false, List, [], ◌∷◌, ◌++◌, map, flat_map, slice_get, unwrap_or, codes, decimal, Option, Some, None, if◌then◌else◌}
use Rattle.std.specs.List.{zip}
use Rattle.cell_core.specs.Grid.{Grid, CellValue}
use Rattle.cell_core.specs.Shelf.{ShelfValue}
use Rattle.cell_core.specs.Text.{cell_text}
use Rattle.cell_clumps.specs.declared.clump.Joining.{Joining}
use Rattle.cell_join_tiles.specs.Values.{TileBorderValue}
use Rattle.cell_patches.specs.declared.patch.Patch.{Patch}
use Rattle.cell_ascii_meaning.specs.Writing.{coordinate_text, key_line, null_text_header_line, row_text}
use Rattle.cell_stats_combinations.specs.Combinations.{Combination}
use Rattle.cell_stats.specs.CategoryTables.{CombinationsWithCounts, table_of_cells}
use Rattle.cell_stats_combinations.specs.LeftOut.{kept_cells}
use Rattle.cell_stats.specs.TableText.{TableFormatValue, table_entries_to_print, line_text, count_fields, label_of_cell}
use Rattle.rcell_script.specs.declared.statement.Statement.{Statement}
use Rattle.rcell_script.specs.declared.command.Command.{Command}
use Rattle.rcell_script.specs.declared.command.Command.TheVariants.{Mapcalc, Reclass, Clump, Stats, OutAscii}
use Rattle.rcell_script.specs.declared.command.StatsOptions.{StatsOptions}
use Rattle.rcell.specs.Output.{combinations_at_all_cells, table_format_of_stats_options}
use Rattle.rcell_tile.specs.TileRuns.{RunShelvesValue, AreShelvesAfterCommand, inner_shelf}

-- a table: its statement's line, the output format, its maps' names, its combinations with their counts, and a label
-- for each cell of each combination
pub record TableFrame : Type 0 where
  pub line : ℕ
  pub format : TableFormatValue
  pub names : List (List ℕ)
  pub pairs : CombinationsWithCounts
  pub labels : List (List (List ℕ))

-- a map: its statement's line, the text for null, its name, its edges as printed, and its cells, row by row
pub record GridFrame : Type 0 where
  pub line : ℕ
  pub null_text : List ℕ
  pub name : List ℕ
  pub north : List ℕ
  pub south : List ℕ
  pub east : List ℕ
  pub west : List ℕ
  pub rows : ℕ
  pub cols : ℕ
  pub cells : List (List CellValue)

-- the patches of a map: the question's index, from 0, which cells are adjacent, the depth of the core in steps from its
-- patch's edge, the patches in the order of their numbers, and their zones if the question has zones
pub record PatchesFrame : Type 0 where
  pub question : ℕ
  pub joining : Joining
  pub depth : ℕ
  pub patches : List Patch
  pub zones : Option (List CellValue)

-- the map of a map's patch numbers: the question's index, from 0, and the number of each cell's patch, row by row
pub record PatchNumbersFrame : Type 0 where
  pub question : ℕ
  pub rows : ℕ
  pub cols : ℕ
  pub cells : List (List CellValue)

-- the border of a map: the question's index, from 0, which cells are adjacent, the map's first row and column in the
-- full map, from 0, its numbers of rows and columns, and the border with the patches' numbers
pub record BorderFrame : Type 0 where
  pub question : ℕ
  pub joining : Joining
  pub first_row : ℕ
  pub first_col : ℕ
  pub rows : ℕ
  pub cols : ℕ
  pub border : TileBorderValue

-- a result of a question, or of a statement that writes
pub data OutputFrame : Type 0 where
  Table : TableFrame → OutputFrame
  Cells : TableFrame → OutputFrame
  Map : GridFrame → OutputFrame
  Patches : PatchesFrame → OutputFrame
  PatchNumbers : PatchNumbersFrame → OutputFrame
  Border : BorderFrame → OutputFrame

-- a cell and its label, as printed
abbrev pub printed_cell_and_label : TableFormatValue → CellValue × List ℕ → List (List ℕ)
printed_cell_and_label format given = cell_text format.null_text given.0 ∷ (if format.labels then given.1 ∷ [] else [])

-- the printed line of a combination, with its count and labels
abbrev pub printed_table_line : TableFormatValue → (Combination × ℕ) × List (List ℕ) → List ℕ
printed_table_line format given = line_text format (flat_map (printed_cell_and_label format) (zip given.0.0 given.1) ++ count_fields format given.0.1)

-- the printed lines of a table
abbrev pub printed_table_lines : TableFrame → List ℕ
printed_table_lines t = flat_map (printed_table_line t.format) (zip t.pairs t.labels)

-- the six lines that describe a region
abbrev pub grid_text_header : GridFrame → List ℕ
grid_text_header g =
    key_line (codes "north") g.north
    ++ key_line (codes "south") g.south
    ++ key_line (codes "east") g.east
    ++ key_line (codes "west") g.west
    ++ key_line (codes "rows") (decimal g.rows)
    ++ key_line (codes "cols") (decimal g.cols)

-- the text that rcell prints for a frame; frames of questions have no text
abbrev pub frame_text : OutputFrame → List ℕ
frame_text (Table t) = printed_table_lines t
frame_text (Cells t) = printed_table_lines t
frame_text (Map g) = grid_text_header g ++ null_text_header_line g.null_text ++ flat_map (row_text g.null_text) g.cells
frame_text (Patches p) = []
frame_text (PatchNumbers n) = []
frame_text (Border b) = []

-- the name of the map at index `place`, or an empty name if there is none
abbrev pub map_name_at_place : ShelfValue → ℕ → List ℕ
map_name_at_place shelf place = unwrap_or (slice_get shelf.names place) []

-- the label of each cell of a combination
abbrev pub combination_labels : List Grid → List ℕ → Combination × ℕ → List (List ℕ)
combination_labels maps places pair = map (λ p. label_of_cell maps p.0 p.1) (zip places pair.0)

-- the table that r.stats prints
abbrev pub printed_table_entries : ShelfValue → List ℕ → StatsOptions → CombinationsWithCounts
printed_table_entries shelf places options = table_entries_to_print options.after
    (table_of_cells options.skip (combinations_at_all_cells shelf places))

-- the cells that r.stats -1 prints, each an entry with count 1
abbrev pub cells_as_entries_with_count_one : List Combination → CombinationsWithCounts
cells_as_entries_with_count_one cells = map (λ k. (k, 1)) cells

abbrev pub entries_of_single_printed_cells : ShelfValue → List ℕ → StatsOptions → CombinationsWithCounts
entries_of_single_printed_cells shelf places options = cells_as_entries_with_count_one
    (kept_cells options.skip (combinations_at_all_cells shelf places))

-- the format of r.stats -1, which prints no counts
abbrev pub format_of_single_cell_lines : StatsOptions → TableFormatValue
format_of_single_cell_lines options = record (table_format_of_stats_options options) { counts = false }

abbrev pub table_frame : ShelfValue → ℕ → List ℕ → TableFormatValue → CombinationsWithCounts → TableFrame
table_frame shelf line places format pairs =
    record { line = line; format = format; names = map (map_name_at_place shelf) places; pairs = pairs; labels = map (combination_labels shelf.maps places) pairs }

abbrev pub stats_frame : ShelfValue → ℕ → List ℕ → StatsOptions → OutputFrame
stats_frame shelf line places options =
    if options.cells
    then Cells (table_frame shelf line places (format_of_single_cell_lines options)
    (entries_of_single_printed_cells shelf places options))
    else Table (table_frame shelf line places (table_format_of_stats_options options)
    (printed_table_entries shelf places options))

abbrev pub grid_frame : ℕ → List ℕ → List ℕ → Grid → GridFrame
grid_frame line null_text name grid = record {
  line = line;
  null_text = null_text;
  name = name;
  north = coordinate_text grid.region.north;
  south = coordinate_text grid.region.south;
  east = coordinate_text grid.region.east;
  west = coordinate_text grid.region.west;
  rows = grid.region.rows;
  cols = grid.region.cols;
  cells = grid.rows;
}

-- the frame of a map of patch numbers, for the question at index `place`
abbrev pub patch_numbers_frame : ℕ → Grid → PatchNumbersFrame
patch_numbers_frame place numbers =
    record { question = place; rows = numbers.region.rows; cols = numbers.region.cols; cells = numbers.rows }

-- the frame of r.out.ascii, or no frame if there is no map
abbrev pub out_ascii_frames : ShelfValue → ℕ → ℕ → List ℕ → Option Grid → List OutputFrame
out_ascii_frames shelf line place null_text None = []
out_ascii_frames shelf line place null_text (Some grid) = Map
    (grid_frame line null_text (map_name_at_place shelf place) grid) ∷ []

-- the frame of a command over a shelf, if the command writes
abbrev pub command_frames : ShelfValue → ℕ → Command → List OutputFrame
command_frames shelf line (Mapcalc target bound) = []
command_frames shelf line (Reclass place target rules) = []
command_frames shelf line (Clump place target joining) = []
command_frames shelf line (Stats places options) = stats_frame shelf line places options ∷ []
command_frames shelf line (OutAscii place null_text) = out_ascii_frames shelf line place null_text (slice_get shelf.maps place)

-- executed over `shelves`, the statements produce these frames and leave the shelves `after`; each statement runs over
-- the shelves that the previous statements have left, and its frames show the maps without their halo
abbrev pub StatementsGiveFrames : RunShelvesValue → List Statement → List OutputFrame → RunShelvesValue → Type 0
StatementsGiveFrames shelves [] frames after = (frames ≡ []) × (after ≡ shelves)
StatementsGiveFrames shelves (s ∷ ss) frames after =
    (next : RunShelvesValue) × ((rest : List OutputFrame) × (AreShelvesAfterCommand shelves s.command next
    × (StatementsGiveFrames next ss rest after
    × (frames ≡ command_frames (inner_shelf shelves) s.line s.command ++ rest))))
