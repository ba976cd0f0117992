use Rattle.std.proofs.Common.{◌≡◌, ◌<◌, ◌+◌, ◌^◌, ℕ, length, drop, get_or, cond, Bool, arith, ap, sym, ◌∙◌, refl}
use Rattle.cell_core_values.specs.SmallCells.{cell_of_stored_byte}
use Rattle.cell_stats_combinations.specs.Combinations.{Combination}
use Rattle.cell_stats_combinations.specs.declared.skip.Skip.{Skip}
use Rattle.cell_core.specs.Grid.{CellValue}
use Rattle.cell_stats_combinations.specs.LeftOut.{combination_is_left_out}
use Rattle.cell_stats_counts.specs.parts.Alone.{combination_of_one_cell}
use Rattle.cell_stats_counts.specs.parts.ByteCounts.{sum_over_counted_bytes}
use Rattle.cell_stats_combinations.specs.parts.Same.{are_same_combination}
use Rattle.cell_stats_counts.specs.parts.CountsUnderWay.{counted_cell_count_of_combination}
use Rattle.cell_stats_counts.specs.parts.CountsUnderWay.{CanContinueCountingCombinations}
use Rattle.cell_stats_counts.proofs.ByteCountLemmas.{byte-left, byte-none, byte-more, room-on, room-grown}
use Rattle.cell_stats_counts.proofs.alone.add_byte_counts_as_cell_counts.Goals as goal
use Rattle.cell_stats_counts.proofs.alone.add_byte_counts_as_cell_counts.Goals.{then-count-gt0+then-not-combination_is_left_out+in_ok-add_combination_count}
use Rattle.cell_stats_counts.proofs.alone.add_byte_counts_as_cell_counts.Goals.{else-count-gt0}
use Rattle.cell_stats_counts.proofs.alone.add_byte_counts_as_cell_counts.Goals.{else-count-gt0-via-then-count-gt0+else-not-combination_is_left_out}
use Rattle.cell_stats_counts.proofs.alone.add_byte_counts_as_cell_counts.Goals.{else-count-gt0-via-else-count-gt0}

-- the test of a byte is the test of its cell
left_as : (skip : Skip) (cell : CellValue) (byte : ℕ) {reported left : Bool} → cell ≡ cell_of_stored_byte byte
    → reported ≡ combination_is_left_out skip (combination_of_one_cell cell) → reported ≡ left
    → combination_is_left_out skip (combination_of_one_cell (cell_of_stored_byte byte)) ≡ left
left_as skip cell byte stands reported left = ap (λ x. combination_is_left_out skip (combination_of_one_cell x))
    (sym stands) ∙ sym reported ∙ left

inside : {byte size : ℕ} → byte < 256 → size ≡ 256 → byte < size
inside small size = omega arith

pub loop-byte-preserved : goal.loop-byte-preserved
loop-byte-preserved c =
    let inv = c.loop-byte.invariant in
    let skip = c.args.skip in
    let byte = c.loop-byte.byte in
    let counts = c.args.counts.now in
    let n = get_or counts byte 0 in
    let cell = c.cell_of_byte.result in
    let stands : cell ≡ cell_of_stored_byte byte = c.cell_of_byte.ensures in
    let within : byte < length counts = inside c.loop-byte-test.true c.told-counts in
    let now = c.if-count-gt0 in
    elim c.if-count-gt0.branch [
      | then-count-gt0+then-not-combination_is_left_out+in_ok-add_combination_count w ↦
          let kept = left_as skip cell byte stands w.combination_is_left_out.ensures
          w.if-not-combination_is_left_out.true in
          let grown : (k : Combination) → counted_cell_count_of_combination 1 k now.places now.entries.items
          ≡ counted_cell_count_of_combination 1 k c.loop-byte.places c.loop-byte.entries.items + cond
          (are_same_combination k (combination_of_one_cell (cell_of_stored_byte byte))) n 0 = λ k.
          rw (w.places-is, w.entries-is) (w.in_ok-add_combination_count.ensures.counts k
          ∙ ap (λ x. counted_cell_count_of_combination 1 k c.loop-byte.places c.loop-byte.entries.items + cond
          (are_same_combination k (combination_of_one_cell x)) n 0) stands) in
          record {
            counted = λ k. byte-more skip k byte n counts within refl _ _ _ kept (grown k) (inv.counted k);
            room = λ k. room-grown skip k byte n counts within refl _ _ (2 ^ 64) (grown k) (inv.room k);
            going = rw (w.places-is, w.entries-is) w.in_ok-add_combination_count.ensures.going;
          }
      | else-count-gt0 w ↦
          let same : (k : Combination) → counted_cell_count_of_combination 1 k now.places now.entries.items
          ≡ counted_cell_count_of_combination 1 k c.loop-byte.places c.loop-byte.entries.items = λ k.
          rw (w.places-is, w.entries-is) refl in
          let room : (k : Combination) → counted_cell_count_of_combination 1 k now.places now.entries.items
          + sum_over_counted_bytes (λ b. 1) (byte + 1) (drop (byte + 1) counts) < 2 ^ 64 = λ k.
          rw (same k) (room-on skip k byte n counts within refl _ (2 ^ 64) (inv.room k)) in
          let going : CanContinueCountingCombinations 1 now.places now.entries.items =
          rw (w.places-is, w.entries-is) inv.going in
          elim w.else-count-gt0.branch [
            | else-count-gt0-via-then-count-gt0+else-not-combination_is_left_out v ↦
                let left = left_as skip cell byte stands v.combination_is_left_out.ensures
                v.if-not-combination_is_left_out.false in
                record {
                  counted = λ k. rw (same k) (byte-left skip k byte n counts within refl _ _ left (inv.counted k));
                  room = room;
                  going = going;
                }
            | else-count-gt0-via-else-count-gt0 v ↦
                record {
                  counted = λ k. rw (same k)
                      (byte-none skip k byte n counts within refl _ _ (omega (arith, v.if-count-gt0.false))
                      (inv.counted k));
                  room = room;
                  going = going;
                }
          ]
    ]
