-- The numbers in the full map of the patches of tiles, as runs.
use Rattle.std.specs.Prelude.{ℕ, ◌≡◌, ◌<◌, ◌+◌, ◌-◌, ◌^◌, ◌==◌, ◌&&◌, ◌||◌, nat_le, nat_lt, Bool, true, List, [], ◌∷◌}
use Rattle.std.specs.Prelude.{Option, Some, None, length, slice_get, slice_index_or, if◌then◌else◌}
use Rattle.cell_join_numbers.specs.declared.stretch.ConsecutiveClumps.{ConsecutiveClumps}

-- the run has a patch; its tile, patches and numbers in the full map are counted from 1, and the numbers are below 2^64
abbrev pub is_run_of_patches : ConsecutiveClumps → Bool
is_run_of_patches run =
    nat_lt 0 run.tile
    && (nat_lt 0 run.first
    && (nat_lt 0 run.number
    && (nat_le run.first run.last && nat_lt (run.number + (run.last - run.first)) (2 ^ 64))))

-- a run is of a later tile, or has later patches of the same tile
abbrev pub run_comes_after : (previous run : ConsecutiveClumps) → Bool
run_comes_after previous run =
    nat_lt previous.tile run.tile || (previous.tile == run.tile && nat_lt previous.last run.first)

-- a run comes after the previous run, if any
abbrev pub run_comes_after_any : Option ConsecutiveClumps → ConsecutiveClumps → Bool
run_comes_after_any None run = true
run_comes_after_any (Some previous) run = run_comes_after previous run

-- the run can be added to these runs
abbrev pub run_can_be_added : List ConsecutiveClumps → ConsecutiveClumps → Bool
run_can_be_added runs run =
    is_run_of_patches run && run_comes_after_any (slice_get runs (length runs - 1)) run

-- each run has a patch and numbers below 2^64, and the runs are in the order of tiles and their patches
pub record AreRunsInOrder (runs : List ConsecutiveClumps) : Type 0 where
  pub each : (i : ℕ) (d : ConsecutiveClumps) → i < length runs → is_run_of_patches (slice_index_or runs i d) ≡ true
  pub order : (i k : ℕ) (d : ConsecutiveClumps) → i < k → k < length runs
      → run_comes_after (slice_index_or runs i d) (slice_index_or runs k d) ≡ true

-- the run has this patch of the tile
abbrev pub run_has_patch : (tile patch : ℕ) → ConsecutiveClumps → Bool
run_has_patch tile patch run = run.tile == tile && (nat_le run.first patch && nat_le patch run.last)

-- the number that a run gives to a patch in the full map
abbrev pub number_in_run : ℕ → ConsecutiveClumps → ℕ
number_in_run patch run = run.number + (patch - run.first)

-- the number of a tile's patch in the full map, or `None` if no run has the patch
abbrev pub number_in_full_map : List ConsecutiveClumps → (tile patch : ℕ) → Option ℕ
number_in_full_map [] tile patch = None
number_in_full_map (run ∷ runs) tile patch =
    if run_has_patch tile patch run then Some (number_in_run patch run) else number_in_full_map runs tile patch
