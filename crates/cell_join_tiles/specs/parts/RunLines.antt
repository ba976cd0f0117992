-- The runs of a tile, the last of which may continue.
use Rattle.std.specs.Prelude.{ℕ, ◌≡◌, List, ◌++◌, Option, Some, None}
use Rattle.cell_join_numbers.specs.Stretches.{consecutive_clumps_from_unfinished, consecutive_clumps_of_tile}
use Rattle.cell_join_numbers.specs.declared.stretch.ConsecutiveClumps.{ConsecutiveClumps}
use Rattle.cell_join_tiles.specs.declared.run_lines.UnfinishedConsecutiveClumps.{UnfinishedConsecutiveClumps}

-- the number of the tile's clumps before the end of a line
abbrev pub clump_count_up_to_unfinished_run : Option UnfinishedConsecutiveClumps → ℕ
clump_count_up_to_unfinished_run None = 0
clump_count_up_to_unfinished_run (Some line) = line.stretch.last

-- the runs of a tile from a line on, if its next clumps have these numbers
abbrev pub consecutive_clumps_from_last_run : ℕ → Option UnfinishedConsecutiveClumps → List ℕ → List ConsecutiveClumps
consecutive_clumps_from_last_run tile None numbers = consecutive_clumps_of_tile tile numbers
consecutive_clumps_from_last_run tile (Some line) numbers =
    consecutive_clumps_from_unfinished line.stretch.tile line.stretch.first line.stretch.last line.stretch.number
    line.previous numbers

-- `stretches` contains all runs before a tile and the runs of its first clumps, with these numbers, except for a line
-- that may continue
abbrev pub ConsecutiveClumpsAreListed : ℕ → List ConsecutiveClumps → List ℕ → List ConsecutiveClumps
    → Option UnfinishedConsecutiveClumps
    → Type 0
ConsecutiveClumpsAreListed tile before numbers stretches line = (rest : List ℕ) → before ++ consecutive_clumps_of_tile tile (numbers ++ rest) ≡ stretches ++ consecutive_clumps_from_last_run tile line rest
