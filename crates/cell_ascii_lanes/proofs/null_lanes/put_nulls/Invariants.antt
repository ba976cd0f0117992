use Rattle.std.proofs.Common.{ℕ, ◌≡◌, ◌+◌, ◌-◌, ◌<◌, ◌++◌, length, take, drop, get_or, replicate}
use Rattle.std.specs.Int.{bit_at}
use Rattle.std.specs.Simd.Lanes.{number_l}
use Rattle.cell_ascii_lanes.specs.NullLanes.{IsOtherLane}
use Rattle.cell_ascii_lanes.proofs.null_lanes.put_nulls.Given as goal

abbrev pub invariant-nulls : goal.invariant-nulls
invariant-nulls l = record {
  room : length l.lanes ≡ length l.fn.lanes;
  among : (p : ℕ) → bit_at l.left p ≡ 1 → bit_at l.starts p ≡ 1;
  done : (p : ℕ) → p < 64 → bit_at l.starts p ≡ 1 → bit_at l.left p ≡ 0
      → (l.key ≡ number_l 256 (replicate (8 - l.size) 0 ++ take l.size (drop p l.buffered)))
      × (get_or l.lanes (p + (l.size - 1)) 0 ≡ 255);
  others : (q : ℕ) → IsOtherLane l.starts l.size q → get_or l.lanes q 0 ≡ get_or l.fn.lanes q 0;
}

abbrev pub decreases-nulls : goal.decreases-nulls
decreases-nulls l = l.left
