-- The meaning of the bytes of tables: entries of combinations and their counts (profile).
use Rattle.std.specs.Prelude.{ℕ, ◌≡◌, ◌+◌, ◌^◌, ◌&&◌, nat_le, nat_lt, List, [], ◌∷◌, ◌++◌, length, map, sum, sum_by}
use Rattle.std.specs.Prelude.{slice_index, Vec, Ok, Err, if◌then◌else◌}
use Rattle.std.specs.Global.{Global}
use Rattle.std.specs.Int.{w8, w32, w64}
use Rattle.cell_core_devices.specs.Device.{ComingBytes}
use Rattle.cell_core_values.specs.Answers.{◌>>=◌}
use Rattle.cell_stats_combinations.specs.Combinations.{Combination}
use Rattle.cell_stats_combinations.specs.Listed.{CombinationCounts, CombinationsAreAscending, NoEntryCountIsZero}
use Rattle.cell_stats_combinations.specs.Listed.{listed_count_of_combination}
use Rattle.rcell_pipe_request.specs.declared.error.ErrorKind.TheVariants as kinds
use Rattle.rcell_pipe_request.specs.RequestFields.{RequestFieldReading, PositionedReading, result_with_error_position}
use Rattle.rcell_pipe_request.specs.RequestFields.{unsigned_number_reading, end_of_request_reading}
use Rattle.rcell_pipe_request.specs.RequestFields.{reading_repeated_n_times}
use Rattle.rcell_pipe_borders.specs.BorderGrids.{four_byte_cells_reading}

-- the number of cells that a table counts
abbrev pub cell_count_of_table : CombinationCounts → ℕ
cell_count_of_table entries = sum_by (λ entry. entry.1) entries

-- the counts so far, and one more
unfoldable pub counts_with_next_count_reading : List ℕ → ComingBytes → RequestFieldReading (List ℕ)
counts_with_next_count_reading counts c = do
  count ← unsigned_number_reading w64 c
  if nat_le 1 count.0 then Ok (counts ++ count.0 ∷ [], count.1) else Err kinds.ZeroCount

-- `n` counts, which add up to fewer than 2^64 together with the cells of the tables before
unfoldable pub counts_below_cell_limit_reading : (cells n : ℕ) → ComingBytes → RequestFieldReading (List ℕ)
counts_below_cell_limit_reading cells n c = do
  counts ← reading_repeated_n_times counts_with_next_count_reading [] n c
  if nat_lt (cells + sum counts.0) (2 ^ 64) then Ok counts else Err kinds.TooManyCells

-- the entries so far, and the combination of the next count
unfoldable pub entries_with_next_entry_reading : (width : ℕ) → (counts : List ℕ) → CombinationCounts → ComingBytes
    → RequestFieldReading CombinationCounts
entries_with_next_entry_reading width counts entries c = do
  cells ← four_byte_cells_reading width c
  Ok (entries ++ (cells.0, slice_index counts (length entries)) ∷ [], cells.1)

-- a table: its number of entries, their counts, and their combinations
unfoldable pub one_table_reading : (width cells : ℕ) → ComingBytes → RequestFieldReading CombinationCounts
one_table_reading width cells c = do
  size ← unsigned_number_reading w64 c
  counts ← counts_below_cell_limit_reading cells size.0 size.1
  reading_repeated_n_times (entries_with_next_entry_reading width counts.0) [] size.0 counts.1

-- the tables so far, and one more; an error has the number of tables before it
unfoldable pub tables_with_next_table_reading : (width : ℕ) → List CombinationCounts → ComingBytes
    → PositionedReading (List CombinationCounts)
tables_with_next_table_reading width tables c = do
  table ← result_with_error_position (length tables) 0 (one_table_reading width (sum_by cell_count_of_table tables) c)
  Ok (tables ++ table.0 ∷ [], table.1)

-- the number of maps of each table
unfoldable pub maps_per_table_reading : ComingBytes → RequestFieldReading ℕ
maps_per_table_reading c = do
  width ← unsigned_number_reading w8 c
  if nat_le 1 width.0 && nat_le width.0 16 then Ok width else Err kinds.BadWidth

-- the number of tables
unfoldable pub table_count_reading : ComingBytes → RequestFieldReading ℕ
table_count_reading c = do
  count ← unsigned_number_reading w32 c
  if nat_le 1 count.0 then Ok count else Err kinds.BadTableCount

-- the number of maps, and the tables, which end the request
unfoldable pub map_count_and_tables_reading : ComingBytes → PositionedReading (ℕ × List CombinationCounts)
map_count_and_tables_reading c = do
  width ← result_with_error_position 0 0 (maps_per_table_reading c)
  count ← result_with_error_position 0 0 (table_count_reading width.1)
  tables ← reading_repeated_n_times (tables_with_next_table_reading width.0) [] count.0 count.1
  end ← result_with_error_position count.0 0 (end_of_request_reading tables.1)
  Ok ((width.0, tables.0), end.1)

-- the tables as values
abbrev pub tables_as_values : List (Vec (Combination × ℕ) Global) → List CombinationCounts
tables_as_values tables = map (λ table. table.items) tables

-- each combination of tables once, in ascending order, with the sum of its counts
pub record AreSumsOfTables (tables : List CombinationCounts) (sums : CombinationCounts) : Type 0 where
  pub ascending : CombinationsAreAscending sums
  pub no_zero : NoEntryCountIsZero sums
  pub counts : (k : Combination) → listed_count_of_combination k sums ≡ sum_by (listed_count_of_combination k) tables
