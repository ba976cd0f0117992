-- What the statements of a script write, one after another (r.stats and r.out.ascii manuals; profile).
use Rattle.std.specs.Prelude.{ℕ, ◌≡◌, List, [], ◌∷◌, ◌++◌, slice_get, if◌then◌else◌}
use Rattle.std.specs.Option.{option_map_or}
use Rattle.cell_ascii_meaning.specs.Writing.{grid_text}
use Rattle.cell_core.specs.Shelf.{ShelfValue}
use Rattle.rcell_script.specs.declared.command.Command.{Command}
use Rattle.rcell_script.specs.declared.command.Command.TheVariants.{Mapcalc, Reclass, Clump, Stats, OutAscii}
use Rattle.rcell_script.specs.declared.statement.Statement.{Statement}
use Rattle.rcell_script.specs.declared.command.StatsOptions.{StatsOptions}
use Rattle.cell_stats_combinations.specs.Combinations.{Combination, all_combinations}
use Rattle.cell_stats.specs.TableText.{TableFormatValue, table_text, table_entries_to_print, cell_lines}
use Rattle.cell_stats.specs.CategoryTables.{table_of_cells}
use Rattle.rcell.specs.After.{IsShelfAfterCommand}

-- the combinations at all cells of these maps
abbrev pub combinations_at_all_cells : ShelfValue → List ℕ → List Combination
combinations_at_all_cells shelf places = all_combinations shelf.maps places shelf.region.rows shelf.region.cols

-- the format of r.stats
abbrev pub table_format_of_stats_options : StatsOptions → TableFormatValue
table_format_of_stats_options options = record { separator = options.separator; null_text = options.null_text; labels = options.labels; counts = options.counts }

-- r.stats: one line for each cell, or for each entry of the table or of its rest after a combination
abbrev pub stats_text : ShelfValue → List ℕ → StatsOptions → List ℕ
stats_text shelf places options =
    if options.cells then cell_lines (table_format_of_stats_options options) options.skip shelf.maps places shelf.region.rows shelf.region.cols
    else table_text (table_format_of_stats_options options) shelf.maps places (table_entries_to_print options.after (table_of_cells options.skip (combinations_at_all_cells shelf places)))

-- r.out.ascii: the grid text of the map at index `place`, or an empty text if there is no map
abbrev pub out_ascii_text : ShelfValue → ℕ → List ℕ → List ℕ
out_ascii_text shelf place null_text = option_map_or (grid_text null_text) (slice_get shelf.maps place) []

-- what a command writes over a shelf; a command that makes a map writes nothing
abbrev pub command_output_text : ShelfValue → Command → List ℕ
command_output_text shelf (Mapcalc target bound) = []
command_output_text shelf (Reclass place target rules) = []
command_output_text shelf (Clump place target joining) = []
command_output_text shelf (Stats places options) = stats_text shelf places options
command_output_text shelf (OutAscii place null_text) = out_ascii_text shelf place null_text

-- executed over `shelf`, the statements write the text and leave the shelf `after`; each runs over the shelf that the
-- previous statements left
abbrev pub StatementsWriteTextAndLeaveShelf : ShelfValue → List Statement → List ℕ → ShelfValue → Type 0
StatementsWriteTextAndLeaveShelf shelf [] text after = (text ≡ []) × (after ≡ shelf)
StatementsWriteTextAndLeaveShelf shelf (s ∷ ss) text after =
    (next : ShelfValue) × ((rest : List ℕ) × (IsShelfAfterCommand shelf s.command next × (StatementsWriteTextAndLeaveShelf next ss rest after × (text ≡ command_output_text shelf s.command ++ rest))))

-- the output of statements over a shelf
abbrev pub IsOutputOfStatements : ShelfValue → List Statement → List ℕ → Type 0
IsOutputOfStatements shelf statements text = (after : ShelfValue)
    × StatementsWriteTextAndLeaveShelf shelf statements text after
