use Rattle.std.proofs.Common.{◌≡◌, ◌<◌, ℕ, length, take}
use Rattle.cell_calc_language.specs.CellOperators.{non_null_cells}
use Rattle.cell_calc_modes.specs.parts.ModeLanes.{cell_denoted_by_key, number_in_lane, cells_of_vectors_in_lane}
use Rattle.cell_calc_modes.specs.parts.ModeLanes.{AreMostFrequentOrNullAndCount}
use Rattle.cell_calc_modes.proofs.mode_lanes.most_frequent.Given as goal

abbrev pub invariant-loop-i : goal.invariant-loop-i
invariant-loop-i l =
    record {
      best_long : length l.best ≡ 16;
      most_long : length l.most ≡ 16;
      each : (k : ℕ) → k < 16
          → AreMostFrequentOrNullAndCount (non_null_cells (take l.i (cells_of_vectors_in_lane k l.keys)))
          (cell_denoted_by_key (number_in_lane k l.best))
          (number_in_lane k l.most);
    }
