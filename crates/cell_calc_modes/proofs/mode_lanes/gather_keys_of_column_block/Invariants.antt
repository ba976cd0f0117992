use Rattle.std.proofs.Common.{◌≡◌, ◌<◌, ◌+◌, ℕ, length, take, map}
use Rattle.cell_calc_modes.specs.ColumnCells.{cells_at_column}
use Rattle.cell_calc_modes.specs.parts.ModeLanes.{cells_of_vectors_in_lane}
use Rattle.cell_calc_modes.proofs.mode_lanes.gather_keys_of_column_block.Given as goal

abbrev pub invariant-loop-i : goal.invariant-loop-i
invariant-loop-i l =
    record {
      room : length l.keys ≡ length l.arguments;
      done : (k : ℕ) → k < 16
          → cells_of_vectors_in_lane k (take l.i l.keys) ≡ take l.i (cells_at_column (l.c + k)
          (map (λ cells. cells.items) l.arguments));
    }
