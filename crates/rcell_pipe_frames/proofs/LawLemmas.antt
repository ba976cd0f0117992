-- The text of a statement's frames is the statement's output.
use Rattle.std.proofs.Common.{◌≡◌, ℕ, Bool, true, false, [], ◌∷◌, ◌++◌, List, Option, Some, None, map, flat_map, refl}
use Rattle.std.proofs.Common.{ap, sym, subst, ◌∙◌, append-nil, if◌then◌else◌}
use Rattle.std.specs.Prelude.{slice_get}
use Rattle.std.specs.Option.{option_map_or}
use Rattle.std.specs.List.{zip}
use Rattle.std.proofs.lemmas.List.Concat.{flat_map-append}
use Rattle.cell_core.specs.Grid.{Grid}
use Rattle.cell_core.specs.Shelf.{ShelfValue}
use Rattle.cell_ascii_meaning.specs.Writing.{grid_text}
use Rattle.cell_stats_combinations.specs.Combinations.{Combination}
use Rattle.cell_stats.specs.CategoryTables.{CombinationsWithCounts}
use Rattle.cell_stats_combinations.specs.LeftOut.{kept_cells}
use Rattle.cell_stats.specs.TableText.{TableFormatValue, cell_fields, cell_line, cell_lines, combination_fields, count_fields, label_of_cell, line_text, entry_line, table_text}
use Rattle.rcell_script.specs.declared.statement.Statement.{Statement}
use Rattle.rcell_script.specs.declared.command.Command.{Command}
use Rattle.rcell_script.specs.declared.command.Command.TheVariants.{Mapcalc, Reclass, Clump, Stats, OutAscii}
use Rattle.rcell_script.specs.declared.command.StatsOptions.{StatsOptions}
use Rattle.rcell.specs.Output.{StatementsWriteTextAndLeaveShelf, combinations_at_all_cells, command_output_text}
use Rattle.rcell.specs.Output.{stats_text}
use Rattle.rcell.specs.Output.{table_format_of_stats_options}
use Rattle.rcell_pipe_frames.specs.Frames.{OutputFrame, Cells, Table, printed_cell_and_label, printed_table_line, frame_text, combination_labels, printed_table_entries, cells_as_entries_with_count_one, entries_of_single_printed_cells, format_of_single_cell_lines, table_frame, stats_frame, out_ascii_frames, command_frames, StatementsGiveFrames}
use Rattle.rcell_tile.specs.TilePlaces.{TilePlaceValue}
use Rattle.rcell_tile.specs.TileRuns.{RunShelvesValue, AreShelvesAfterCommand, shelves_of_full_maps}
use Rattle.rcell_pipe_frames.specs.FrameLaw.{FrameTextsAreProgramOutput, ProgramOutputIsTextOfFrames}

-- the fields of a combination's cells, paired with their labels, are its printed fields
fields-same : (format : TableFormatValue) (maps : List Grid) (places : List ℕ) (k : Combination) → flat_map (printed_cell_and_label format) (zip k (map (λ p. label_of_cell maps p.0 p.1) (zip places k))) ≡ combination_fields format maps places k
fields-same format maps [] [] = refl
fields-same format maps [] (cell ∷ k) = refl
fields-same format maps (place ∷ places) [] = refl
fields-same format maps (place ∷ places) (cell ∷ k) = ap (λ (l : List (List ℕ)). cell_fields format maps place cell ++ l) (fields-same format maps places k)

line-same : (format : TableFormatValue) (maps : List Grid) (places : List ℕ) (pair : Combination × ℕ) → printed_table_line format (pair, combination_labels maps places pair) ≡ entry_line format maps places pair
line-same format maps places pair = ap (λ (fields : List (List ℕ)). line_text format (fields ++ count_fields format pair.1)) (fields-same format maps places pair.0)

table-same : (format : TableFormatValue) (maps : List Grid) (places : List ℕ) (pairs : CombinationsWithCounts) → flat_map (printed_table_line format) (zip pairs (map (combination_labels maps places) pairs)) ≡ table_text format maps places pairs
table-same format maps places [] = refl
table-same format maps places (pair ∷ pairs) =
    ap (λ (l : List ℕ). l ++ flat_map (printed_table_line format) (zip pairs (map (combination_labels maps places) pairs))) (line-same format maps places pair)
    ∙ ap (λ (l : List ℕ). entry_line format maps places pair ++ l) (table-same format maps places pairs)

-- the output with one line per cell is printed without counts
cells-same : (options : StatsOptions) (maps : List Grid) (places : List ℕ) (cells : List Combination) → table_text (format_of_single_cell_lines options) maps places (cells_as_entries_with_count_one cells) ≡ flat_map (cell_line (table_format_of_stats_options options) maps places) cells
cells-same options maps places [] = refl
cells-same options maps places (k ∷ ks) =
    ap (λ (fields : List (List ℕ)). line_text (table_format_of_stats_options options) fields ++ table_text (format_of_single_cell_lines options) maps places (cells_as_entries_with_count_one ks)) (append-nil (combination_fields (table_format_of_stats_options options) maps places k))
    ∙ ap (λ (l : List ℕ). cell_line (table_format_of_stats_options options) maps places k
    ++ l) (cells-same options maps places ks)

-- the text of a choice of two frames is the choice of their texts
chosen : (b : Bool) (x y : OutputFrame) (one other : List ℕ) → frame_text x ≡ one → frame_text y ≡ other → frame_text (if b then x else y) ≡ (if b then one else other)
chosen true x y one other first second = first
chosen false x y one other first second = second

stats-same : (shelf : ShelfValue) (line : ℕ) (places : List ℕ) (options : StatsOptions) → frame_text (stats_frame shelf line places options) ≡ stats_text shelf places options
stats-same shelf line places options =
    chosen options.cells (Cells (table_frame shelf line places (format_of_single_cell_lines options) (entries_of_single_printed_cells shelf places options))) (Table (table_frame shelf line places (table_format_of_stats_options options) (printed_table_entries shelf places options)))
    (cell_lines (table_format_of_stats_options options) options.skip shelf.maps places shelf.region.rows shelf.region.cols) (table_text (table_format_of_stats_options options) shelf.maps places (printed_table_entries shelf places options))
    (table-same (format_of_single_cell_lines options) shelf.maps places (entries_of_single_printed_cells shelf places options) ∙ cells-same options shelf.maps places (kept_cells options.skip (combinations_at_all_cells shelf places)))
    (table-same (table_format_of_stats_options options) shelf.maps places (printed_table_entries shelf places options))

map-same : (shelf : ShelfValue) (line place : ℕ) (null_text : List ℕ) (found : Option Grid) → flat_map frame_text (out_ascii_frames shelf line place null_text found) ≡ option_map_or (grid_text null_text) found []
map-same shelf line place null_text None = refl
map-same shelf line place null_text (Some grid) = append-nil (grid_text null_text grid)

pub command-same : (shelf : ShelfValue) (line : ℕ) (command : Command) → flat_map frame_text (command_frames shelf line command) ≡ command_output_text shelf command
command-same shelf line (Mapcalc target bound) = refl
command-same shelf line (Reclass place target rules) = refl
command-same shelf line (Clump place target joining) = refl
command-same shelf line (Stats places options) = append-nil (frame_text (stats_frame shelf line places options)) ∙ stats-same shelf line places options
command-same shelf line (OutAscii place null_text) = map-same shelf line place null_text (slice_get shelf.maps place)

-- the text of a statement's frames comes before the text of the frames after it
text-of : (shelf : ShelfValue) (s : Statement) (frames rest : List OutputFrame) → frames ≡ command_frames shelf s.line s.command ++ rest → flat_map frame_text frames ≡ command_output_text shelf s.command ++ flat_map frame_text rest
text-of shelf s frames rest same =
    ap (flat_map frame_text) same ∙ flat_map-append frame_text (command_frames shelf s.line s.command) rest
    ∙ ap (λ (l : List ℕ). l ++ flat_map frame_text rest) (command-same shelf s.line s.command)

-- a statement over full maps leaves full maps
pub full-maps-after : (shelf : ShelfValue) (command : Command) (next : RunShelvesValue)
    → AreShelvesAfterCommand (shelves_of_full_maps shelf) command next → next ≡ shelves_of_full_maps next.outer
full-maps-after shelf command next are =
    ap (λ (place : Option TilePlaceValue). record { outer = next.outer; place = place }) are.place

output-of : (statements : List Statement) (shelf : ShelfValue) (frames : List OutputFrame) (after : ShelfValue)
    → StatementsGiveFrames (shelves_of_full_maps shelf) statements frames (shelves_of_full_maps after)
    → StatementsWriteTextAndLeaveShelf shelf statements (flat_map frame_text frames) after
output-of [] shelf frames after given =
    (ap (flat_map frame_text) given.0, ap (λ (shelves : RunShelvesValue). shelves.outer) given.1)
output-of (s ∷ ss) shelf frames after given =
    let rest =
    subst (λ (next : RunShelvesValue). StatementsGiveFrames next ss given.1.0 (shelves_of_full_maps after))
    (full-maps-after shelf s.command given.0 given.1.1.0) given.1.1.1.0 in (
      given.0.outer,
      (
        flat_map frame_text given.1.0,
        (
          given.1.1.0.outer,
          (output-of ss given.0.outer given.1.0 after rest, text-of shelf s frames given.1.0 given.1.1.1.1),
        ),
      ),
    )

pub frame_texts_are_program_output : FrameTextsAreProgramOutput
frame_texts_are_program_output shelf statements frames after given = output-of statements shelf frames after given

frames-of : (statements : List Statement) (shelf : ShelfValue) (text : List ℕ) (after : ShelfValue)
    → StatementsWriteTextAndLeaveShelf shelf statements text after → (frames : List OutputFrame)
    × (StatementsGiveFrames (shelves_of_full_maps shelf) statements frames (shelves_of_full_maps after)
    × (text ≡ flat_map frame_text frames))
frames-of [] shelf text after done = ([], ((refl, ap shelves_of_full_maps done.1), done.0))
frames-of (s ∷ ss) shelf text after done =
    let others = frames-of ss done.0 done.1.0 after done.1.1.1.0 in
    let frames : List OutputFrame = command_frames shelf s.line s.command ++ others.0 in (
      frames,
      (
        (shelves_of_full_maps done.0, (others.0, (record { place = refl; outer = done.1.1.0 }, (others.1.0, refl)))),
        done.1.1.1.1 ∙ ap (λ (l : List ℕ). command_output_text shelf s.command ++ l) others.1.1 ∙ sym (text-of shelf s frames others.0 refl),
      ),
    )

pub output_is_frames : ProgramOutputIsTextOfFrames
output_is_frames shelf statements text after done = frames-of statements shelf text after done
