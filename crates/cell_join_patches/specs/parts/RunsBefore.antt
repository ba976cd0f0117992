-- The runs before a patch.
use Rattle.std.specs.Prelude.{ℕ, ◌==◌, ◌&&◌, ◌||◌, nat_lt, Bool}
use Rattle.cell_join_numbers.specs.declared.stretch.ConsecutiveClumps.{ConsecutiveClumps}

-- the run is of an earlier tile, or has only earlier patches of the tile
abbrev pub run_is_before_patch : (tile patch : ℕ) → ConsecutiveClumps → Bool
run_is_before_patch tile patch run = nat_lt run.tile tile || (run.tile == tile && nat_lt run.last patch)
