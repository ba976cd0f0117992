use Rattle.std.proofs.Common.{◌≡◌, ◌<◌, ◌+◌, ℕ, length, take}
use Rattle.cell_calc_language.specs.CellOperators.{occurrences}
use Rattle.cell_calc_modes.specs.parts.ModeLanes.{cell_denoted_by_key, number_in_lane, cells_of_vectors_in_lane}
use Rattle.cell_calc_modes.proofs.mode_lanes.occurrences.Given as goal

abbrev pub invariant-loop-i : goal.invariant-loop-i
invariant-loop-i l =
    record {
      long : length l.count ≡ 16;
      each : (k : ℕ) → k < 16
          → number_in_lane k l.count ≡ occurrences (cell_denoted_by_key (number_in_lane k l.key))
          (take l.i (cells_of_vectors_in_lane k l.before)) + 1;
    }
