use Rattle.std.proofs.Common.{◌≡◌, ◌<◌, ◌+◌, ◌^◌, ℕ, Fits, w8, w64, List, length, take, get_or, sum_by, arith}
use Rattle.std.proofs.Common.{length-take, length-set, ap, ◌∙◌, zero-add}
use Rattle.std.proofs.lemmas.List.Sums.{sum_by_more}
use Rattle.cell_stats_counts.specs.parts.ByteCounts.{sum_over_counted_bytes}
use Rattle.cell_stats_counts.proofs.ByteCountLemmas.{sum_over_counted_bytes-more, counted-le, length-sum}
use Rattle.cell_stats_counts.proofs.alone.add_bytes_to_byte_counts.Goals as goal

fit : {n : ℕ} → n < 2 ^ 64 → Fits w64 n
fit small = omega arith

inside : {byte wide : ℕ} → Fits w8 byte → wide ≡ 256 → byte < wide
inside small wide = omega arith

-- a byte is counted at most as many times as there were bytes so far
few : (bytes counts : List ℕ) (old i byte : ℕ) → i < length bytes → old + length bytes < 2 ^ 64
    → sum_over_counted_bytes (λ b. 1) 0 counts ≡ old + sum_by (λ b. 1) (take i bytes)
    → get_or counts byte 0 + 1 < 2 ^ 64
few bytes counts old i byte within room sums =
    omega (arith, counted-le 0 byte counts, sums, length-sum (take i bytes), length-take i bytes)

more : (old sum one : ℕ) {new now all : ℕ} → new ≡ now + one → now ≡ old + sum → all ≡ sum + one → new ≡ old + all
more old sum one first second third = omega arith

pub overflow_add-counts : goal.overflow_add-counts
overflow_add-counts c =
    fit (few c.args.bytes.now c.loop-byte.counts _ c.loop-byte.byte-index _ c.loop-byte-test.true c.requires
    (c.loop-byte.invariant.sums (λ b. 1)))

pub loop-byte-preserved : goal.loop-byte-preserved
loop-byte-preserved c =
    let bytes = c.args.bytes.now in
    let counts = c.loop-byte.counts in
    let i = c.loop-byte.byte-index in
    let byte = get_or bytes i 0 in
    let wide = c.loop-byte.invariant.wide in
    record {
      sums = λ f.
          more _ _ _ (sum_over_counted_bytes-more f 0 byte 0 counts (inside (c.type_inv.bytes i) wide)
          ∙ ap (λ b. sum_over_counted_bytes f 0 counts + f b) (zero-add byte))
          (c.loop-byte.invariant.sums f)
          (sum_by_more f bytes i 0 c.loop-byte-test.true);
      wide = length-set counts byte _ ∙ wide;
    }
