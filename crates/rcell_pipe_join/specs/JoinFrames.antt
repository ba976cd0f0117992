-- The bytes of the response to a join request (profile).
use Rattle.std.specs.Prelude.{ℕ, List, Option, ◌++◌, length, flat_map, codes, unwrap_or}
use Rattle.cell_join_numbers.specs.declared.stretch.ConsecutiveClumps.{ConsecutiveClumps}
use Rattle.cell_patches.specs.declared.patch.Patch.{Patch}
use Rattle.cell_stats_combinations.specs.Listed.{CombinationCounts}
use Rattle.rcell_pipe_frames.specs.FrameBytes.{RunEndValue, eight_bytes_of_number, cell_bytes_of_combinations}
use Rattle.rcell_pipe_frames.specs.FrameBytes.{patch_bytes, run_end_frame_bytes, response_magic}

-- a run: its tile, its first and last patch in the tile, and the number of its first patch in the full map
abbrev pub patch_number_run_bytes : ConsecutiveClumps → List ℕ
patch_number_run_bytes run = eight_bytes_of_number run.tile ++ eight_bytes_of_number run.first
    ++ eight_bytes_of_number run.last
    ++ eight_bytes_of_number run.number

-- the frame of a numbering: the number of patches of the full map, the number of runs, and the runs
abbrev pub numbering_bytes : ℕ → List ConsecutiveClumps → List ℕ
numbering_bytes patches runs =
    codes "JOIN" ++ eight_bytes_of_number patches ++ eight_bytes_of_number (length runs)
    ++ flat_map patch_number_run_bytes runs

-- the frame of sums: the numbers of combinations and of maps, the counts, and the cells of each combination in turn
abbrev pub table_sums_bytes : ℕ → CombinationCounts → List ℕ
table_sums_bytes width entries =
    codes "SUMS" ++ eight_bytes_of_number (length entries) ++ eight_bytes_of_number width
    ++ flat_map (λ entry. eight_bytes_of_number entry.1) entries ++ cell_bytes_of_combinations entries

-- the frame of the sums of patch tables: the numbers of entries and of maps, the number of each entry's patch in the
-- full map, or 0 outside patches, the counts, and the other cells of each entry in turn
abbrev pub patch_sums_bytes : ℕ → List (Option ℕ) → CombinationCounts → List ℕ
patch_sums_bytes width numbers entries =
    codes "PSUM" ++ eight_bytes_of_number (length entries) ++ eight_bytes_of_number width
    ++ flat_map (λ number. eight_bytes_of_number (unwrap_or number 0)) numbers
    ++ flat_map (λ entry. eight_bytes_of_number entry.1) entries ++ cell_bytes_of_combinations entries

-- a patch of the full map: its number, then its measures in 68 bytes
abbrev pub numbered_patch_bytes : ℕ × Patch → List ℕ
numbered_patch_bytes entry = eight_bytes_of_number entry.0 ++ patch_bytes entry.1

-- the frame of joined patches: their number, and the patches
abbrev pub joined_patches_bytes : List (ℕ × Patch) → List ℕ
joined_patches_bytes patches =
    codes "PATS" ++ eight_bytes_of_number (length patches) ++ flat_map numbered_patch_bytes patches

-- a response with one frame and the end
abbrev pub one_frame_response : List ℕ → RunEndValue → List ℕ
one_frame_response frame end = response_magic ++ frame ++ run_end_frame_bytes end
