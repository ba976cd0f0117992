-- The meaning of the bytes of patch tables, whose first column is the number of a patch in its tile, and their sums by
-- the numbers of patches in the full map (profile).
use Rattle.std.specs.Prelude.{ℕ, ℤ, pos, negsuc, ◌+◌, ◌&&◌, nat_le, nat_lt, Bool, true, List, [], ◌∷◌, ◌++◌}
use Rattle.std.specs.Prelude.{Option, None, Ok, Err, length, map, flat_map, sum_by, unwrap_or, if◌then◌else◌}
use Rattle.std.specs.Int.{w32, w64}
use Rattle.std.specs.List.{list_all}
use Rattle.std.specs.List.Sorted.{IsStrictlySortedBy}
use Rattle.std.specs.Map.{keys_of, lookup}
use Rattle.std.specs.Option.{is_some, option_cmp, option_map, option_map_or}
use Rattle.std.specs.Ordering.{eq_by_cmp, nat_cmp}
use Rattle.std.specs.declared.cmp.Ordering.{Ordering}
use Rattle.cell_core.specs.Grid.{CellValue}
use Rattle.cell_core_devices.specs.Device.{ComingBytes}
use Rattle.cell_core_values.specs.Answers.{◌>>=◌}
use Rattle.cell_join_numbers.specs.declared.stretch.ConsecutiveClumps.{ConsecutiveClumps}
use Rattle.cell_join_patches.specs.PatchNumbers.{number_in_full_map}
use Rattle.cell_stats_combinations.specs.Combinations.{Combination}
use Rattle.cell_stats_combinations.specs.Listed.{CombinationCounts}
use Rattle.rcell_pipe_request.specs.declared.error.ErrorKind.TheVariants as kinds
use Rattle.rcell_pipe_request.specs.RequestFields.{RequestFieldReading, PositionedReading, result_with_error_position}
use Rattle.rcell_pipe_request.specs.RequestFields.{unsigned_number_reading, end_of_request_reading}
use Rattle.rcell_pipe_request.specs.RequestFields.{reading_repeated_n_times}
use Rattle.rcell_pipe_join.specs.declared.patch_tables.PatchTable.{PatchTable}
use Rattle.rcell_pipe_join.specs.PatchLists.{patch_numbering_reading}
use Rattle.rcell_pipe_join.specs.TableEntries.{AreSumsOfTables, cell_count_of_table, maps_per_table_reading}
use Rattle.rcell_pipe_join.specs.TableEntries.{one_table_reading}

-- ---- numbers in the full map

-- the number in the full map of a patch of a tile, or `None` if no run has the patch
abbrev pub number_of_tile_patch : List ConsecutiveClumps → (tile : ℕ) → ℤ → Option ℕ
number_of_tile_patch runs tile (pos k) = number_in_full_map runs tile k
number_of_tile_patch runs tile (negsuc k) = None

-- the cell is null, which is outside patches, or a run has the patch
abbrev pub patch_is_known : List ConsecutiveClumps → (tile : ℕ) → CellValue → Bool
patch_is_known runs tile cell = option_map_or (λ patch. is_some (number_of_tile_patch runs tile patch)) cell true

-- the patch of a combination's first cell is known
abbrev pub first_patch_is_known : List ConsecutiveClumps → (tile : ℕ) → Combination → Bool
first_patch_is_known runs tile [] = true
first_patch_is_known runs tile (cell ∷ others) = patch_is_known runs tile cell

-- the patches of all entries of a table are known
abbrev pub patches_are_known : List ConsecutiveClumps → (tile : ℕ) → CombinationCounts → Bool
patches_are_known runs tile entries = list_all (λ entry. first_patch_is_known runs tile entry.0) entries

-- the number in the full map of a cell's patch; null is outside patches. Patches that are in no run are rejected; here
-- they have the number 0
abbrev pub full_map_number_of_cell : List ConsecutiveClumps → (tile : ℕ) → CellValue → Option ℕ
full_map_number_of_cell runs tile cell = option_map (λ patch. unwrap_or (number_of_tile_patch runs tile patch) 0) cell

-- ---- reading

-- a table of a tile, and the tile
abbrev pub TileTable : Type 0
TileTable = ℕ × CombinationCounts

abbrev pub cell_count_of_tile_table : TileTable → ℕ
cell_count_of_tile_table table = cell_count_of_table table.1

-- a tile and its table; each patch is known
unfoldable pub patch_table_reading : List ConsecutiveClumps → (width cells : ℕ) → ComingBytes
    → RequestFieldReading TileTable
patch_table_reading runs width cells c = do
  tile ← unsigned_number_reading w64 c
  table ← one_table_reading width cells tile.1
  if patches_are_known runs tile.0 table.0 then Ok ((tile.0, table.0), table.1) else Err kinds.UnknownPatch

-- the tables so far, and one more; an error has the number of lists before it: the runs, and these tables
unfoldable pub patch_tables_with_next_table_reading : List ConsecutiveClumps → (width : ℕ) → List TileTable
    → ComingBytes → PositionedReading (List TileTable)
patch_tables_with_next_table_reading runs width tables c = do
  table ← result_with_error_position (length tables + 1) 0 (patch_table_reading runs width
      (sum_by cell_count_of_tile_table tables) c)
  Ok (tables ++ table.0 ∷ [], table.1)

-- the number of tables
unfoldable pub patch_table_count_reading : ComingBytes → RequestFieldReading ℕ
patch_table_count_reading c = do
  count ← unsigned_number_reading w32 c
  if nat_le 1 count.0 && nat_lt count.0 4294967295 then Ok count else Err kinds.BadTableCount

-- the runs, the number of maps, and the tables, which end the request
unfoldable pub patch_tables_reading : ComingBytes
    → PositionedReading (List ConsecutiveClumps × ℕ × List TileTable)
patch_tables_reading c = do
  runs ← result_with_error_position 0 0 (patch_numbering_reading c)
  width ← result_with_error_position 1 0 (maps_per_table_reading runs.1)
  count ← result_with_error_position 1 0 (patch_table_count_reading width.1)
  tables ← reading_repeated_n_times (patch_tables_with_next_table_reading runs.0 width.0) [] count.0 count.1
  end ← result_with_error_position (count.0 + 1) 0 (end_of_request_reading tables.1)
  Ok ((runs.0, width.0, tables.0), end.1)

-- the tables as values
abbrev pub patch_tables_as_values : List PatchTable → List TileTable
patch_tables_as_values tables = map (λ table. (table.tile, table.entries.items)) tables

-- ---- sums

-- numbers of patches in ascending order, after the entries outside patches
abbrev pub number_cmp : Option ℕ → Option ℕ → Ordering
number_cmp = option_cmp nat_cmp

-- the combination without its first cell, if its patch has this number in the full map
abbrev pub others_of_number : List ConsecutiveClumps → (tile : ℕ) → Option ℕ → Combination → ℕ → CombinationCounts
others_of_number runs tile number [] count = []
others_of_number runs tile number (cell ∷ others) count =
    if eq_by_cmp number_cmp number (full_map_number_of_cell runs tile cell) then (others, count) ∷ [] else []

-- the entries of a table whose patches have this number in the full map, without their first cells
abbrev pub entries_of_number : List ConsecutiveClumps → Option ℕ → TileTable → CombinationCounts
entries_of_number runs number table =
    flat_map (λ entry. others_of_number runs table.0 number entry.0 entry.1) table.1

-- the entries that are listed with this number
abbrev pub entries_with_number : Option ℕ → List (Option ℕ × CombinationCounts) → CombinationCounts
entries_with_number number sums = unwrap_or (lookup (eq_by_cmp number_cmp number) sums) []

-- each number at most once, in ascending order; for each number, the sums of the entries of all tables whose patches
-- have this number in the full map
pub record AreSumsOfPatchTables (runs : List ConsecutiveClumps) (tables : List TileTable)
    (sums : List (Option ℕ × CombinationCounts)) : Type 0 where
  pub ascending : IsStrictlySortedBy number_cmp (keys_of sums)
  pub each : (number : Option ℕ)
      → AreSumsOfTables (map (entries_of_number runs number) tables) (entries_with_number number sums)

-- the number of each entry in turn
abbrev pub numbers_of_entries : List (Option ℕ × CombinationCounts) → List (Option ℕ)
numbers_of_entries sums = flat_map (λ s. map (λ entry. s.0) s.1) sums

-- the entries of all numbers, one number after another
abbrev pub entries_of_numbers : List (Option ℕ × CombinationCounts) → CombinationCounts
entries_of_numbers sums = flat_map (λ s. s.1) sums
