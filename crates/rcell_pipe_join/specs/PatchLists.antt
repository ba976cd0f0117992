-- The meaning of the bytes of patches that are joined: the runs of a numbering, then patches of tiles (profile).
use Rattle.std.specs.Prelude.{ℕ, ℤ, ◌&&◌, nat_le, nat_lt, List, [], ◌∷◌, ◌++◌, Option, Some, None, Ok, Err}
use Rattle.std.specs.Prelude.{if◌then◌else◌}
use Rattle.std.specs.Option.{is_some}
use Rattle.std.specs.Int.{w32, w64}
use Rattle.cell_core_devices.specs.Device.{ComingBytes}
use Rattle.cell_core_values.specs.Answers.{◌>>=◌}
use Rattle.cell_core_values.specs.Cell.{cell_of_stored_number}
use Rattle.cell_join_numbers.specs.declared.stretch.ConsecutiveClumps.{ConsecutiveClumps}
use Rattle.cell_join_patches.specs.declared.patch_joiner.PartFault.{PartFault}
use Rattle.cell_join_patches.specs.declared.patch_joiner.PartFault.TheVariants as faults
use Rattle.cell_join_patches.specs.declared.part.PatchOfTile.{PatchOfTile}
use Rattle.cell_join_patches.specs.JoinedPatches.{fault_of_part, patch_can_be_added}
use Rattle.cell_join_patches.specs.PatchNumbers.{number_in_full_map, run_can_be_added}
use Rattle.cell_patches.specs.declared.patch.Patch.{Patch}
use Rattle.rcell_pipe_request.specs.declared.error.ErrorKind.{ErrorKind}
use Rattle.rcell_pipe_request.specs.declared.error.ErrorKind.TheVariants as kinds
use Rattle.rcell_pipe_request.specs.RequestFields.{reading_of_value_or_error_kind}
use Rattle.rcell_pipe_request.specs.RequestFields.{RequestFieldReading, PositionedReading, result_with_error_position}
use Rattle.rcell_pipe_request.specs.RequestFields.{unsigned_number_reading, signed_number_reading}
use Rattle.rcell_pipe_request.specs.RequestFields.{end_of_request_reading, reading_repeated_n_times}

-- ---- the runs of a numbering

-- a run: its tile, its first and last patch in the tile, and the number of its first patch in the full map
unfoldable pub patch_number_run_reading : ComingBytes → RequestFieldReading ConsecutiveClumps
patch_number_run_reading c = do
  tile ← unsigned_number_reading w64 c
  first ← unsigned_number_reading w64 tile.1
  last ← unsigned_number_reading w64 first.1
  number ← unsigned_number_reading w64 last.1
  Ok (record { tile = tile.0; first = first.0; last = last.0; number = number.0 }, number.1)

-- the runs so far, and one more
unfoldable pub runs_with_next_run_reading : List ConsecutiveClumps → ComingBytes
    → RequestFieldReading (List ConsecutiveClumps)
runs_with_next_run_reading runs c = do
  run ← patch_number_run_reading c
  if run_can_be_added runs run.0 then Ok (runs ++ run.0 ∷ [], run.1) else Err kinds.BadRun

-- the number of runs, and the runs
unfoldable pub patch_numbering_reading : ComingBytes → RequestFieldReading (List ConsecutiveClumps)
patch_numbering_reading c = do
  count ← unsigned_number_reading w64 c
  reading_repeated_n_times runs_with_next_run_reading [] count.0 count.1

-- ---- the patches of tiles

-- the index of a tile and the number of its patch, which comes after the parts so far
unfoldable pub next_tile_patch_reading : List PatchOfTile → ComingBytes → RequestFieldReading (ℕ × ℕ)
next_tile_patch_reading parts c = do
  tile ← unsigned_number_reading w64 c
  patch ← unsigned_number_reading w64 tile.1
  if patch_can_be_added parts tile.0 patch.0 then Ok ((tile.0, patch.0), patch.1) else Err kinds.PatchOrder

-- the index of a tile, the number of its patch, and the number that the runs give to it in the full map
unfoldable pub patch_numbers_reading : List ConsecutiveClumps → List PatchOfTile → ComingBytes
    → RequestFieldReading (ℕ × ℕ × ℕ)
patch_numbers_reading runs parts c = do
  place ← next_tile_patch_reading parts c
  number ← reading_of_value_or_error_kind kinds.UnknownPatch place.1 (number_in_full_map runs place.0.0 place.0.1)
  Ok ((place.0.0, place.0.1, number.0), number.1)

-- a patch's class, which is a category, and its numbers of cells, at least 1, of ends, flanks and core cells
unfoldable pub patch_counts_reading : ComingBytes → RequestFieldReading (ℤ × ℕ × ℕ × ℕ × ℕ)
patch_counts_reading c = do
  class ← signed_number_reading w32 c
  cells ← unsigned_number_reading w64 class.1
  ends ← unsigned_number_reading w64 cells.1
  flanks ← unsigned_number_reading w64 ends.1
  core ← unsigned_number_reading w64 flanks.1
  if is_some (cell_of_stored_number class.0) && nat_le 1 cells.0 then Ok
      ((class.0, cells.0, ends.0, flanks.0, core.0), core.1) else Err kinds.BadPatch

-- the first and the last row, or column, of a patch in a full map of at most 2,147,483,647 rows and columns
unfoldable pub first_and_last_line_reading : ComingBytes → RequestFieldReading (ℕ × ℕ)
first_and_last_line_reading c = do
  first ← unsigned_number_reading w64 c
  last ← unsigned_number_reading w64 first.1
  if nat_le first.0 last.0 && nat_lt last.0 2147483647 then Ok ((first.0, last.0), last.1) else Err kinds.BadPatch

-- the measures of a patch
unfoldable pub patch_measures_reading : ComingBytes → RequestFieldReading Patch
patch_measures_reading c = do
  counts ← patch_counts_reading c
  rows ← first_and_last_line_reading counts.1
  cols ← first_and_last_line_reading rows.1
  Ok (
    record {
      class = counts.0.0;
      cells = counts.0.1;
      ends = counts.0.2;
      flanks = counts.0.3;
      core = counts.0.4;
      first_row = rows.0.0;
      last_row = rows.0.1;
      first_col = cols.0.0;
      last_col = cols.0.1;
    },
    cols.1,
  )

abbrev pub error_kind_of_part_fault : PartFault → ErrorKind
error_kind_of_part_fault faults.OtherClass = kinds.OtherClass
error_kind_of_part_fault faults.TooManyCells = kinds.TooManyCells

-- the parts, or an error if there is a reason for one
abbrev pub reading_of_parts_or_fault : List PatchOfTile → ComingBytes → Option PartFault
    → RequestFieldReading (List PatchOfTile)
reading_of_parts_or_fault parts rest None = Ok (parts, rest)
reading_of_parts_or_fault parts rest (Some fault) = Err (error_kind_of_part_fault fault)

-- a part, given the tile, the patch's number in it and in the full map, and the measures
abbrev pub patch_of_tile : ℕ × ℕ × ℕ → Patch → PatchOfTile
patch_of_tile numbers patch =
    record { tile = numbers.0; number = numbers.1; full_map_number = numbers.2; patch = patch }

-- the parts so far, and one more
abbrev pub reading_of_parts_with_part : List PatchOfTile → PatchOfTile → ComingBytes
    → RequestFieldReading (List PatchOfTile)
reading_of_parts_with_part parts part rest =
    reading_of_parts_or_fault (parts ++ part ∷ []) rest (fault_of_part parts part)

unfoldable pub parts_with_next_part_reading : List ConsecutiveClumps → List PatchOfTile → ComingBytes
    → RequestFieldReading (List PatchOfTile)
parts_with_next_part_reading runs parts c = do
  numbers ← patch_numbers_reading runs parts c
  patch ← patch_measures_reading numbers.1
  reading_of_parts_with_part parts (patch_of_tile numbers.0 patch.0) patch.1

-- the number of parts, and the parts
unfoldable pub patch_parts_reading : List ConsecutiveClumps → ComingBytes → RequestFieldReading (List PatchOfTile)
patch_parts_reading runs c = do
  count ← unsigned_number_reading w64 c
  reading_repeated_n_times (parts_with_next_part_reading runs) [] count.0 count.1

-- the runs, and the parts, which end the request; an error has the number of these lists before it
unfoldable pub patches_to_join_reading : ComingBytes → PositionedReading (List ConsecutiveClumps × List PatchOfTile)
patches_to_join_reading c = do
  runs ← result_with_error_position 0 0 (patch_numbering_reading c)
  parts ← result_with_error_position 1 0 (patch_parts_reading runs.0 runs.1)
  end ← result_with_error_position 2 0 (end_of_request_reading parts.1)
  Ok ((runs.0, parts.0), end.1)
