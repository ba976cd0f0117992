use Rattle.std.proofs.Common.{◌≡◌, ◌≤◌, ◌*◌, length, take, Bool, List}
use Rattle.std.specs.Simd.Lanes.{mask_l}
use Rattle.cell_ascii_lanes.specs.WordLanes.{flagged_items}
use Rattle.cell_ascii_lanes.proofs.ByteBitLemmas.{trues}
use Rattle.cell_ascii_lanes.proofs.word_lanes.put_selected_lanes_in_row.Given as goal

abbrev pub invariant-loop-k : goal.invariant-loop-k
invariant-loop-k l = record {
  few : l.i ≤ 8 * l.k;
  row : (ms : List Bool) → length ms ≡ 64 → l.bits ≡ mask_l ms
      → (l.i ≡ trues (take (8 * l.k) ms)) × (take l.i l.row ≡ flagged_items (take (8 * l.k) ms)
      (take (8 * l.k) l.values));
}
