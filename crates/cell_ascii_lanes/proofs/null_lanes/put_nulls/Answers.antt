use Rattle.std.proofs.Common.{◌≡◌, ℕ, ◌+◌, ◌-◌, ◌*◌, ◌%◌, ◌^◌, ◌<◌, ◌≤◌, eqb, Bool, true, false, ◌++◌}
use Rattle.std.proofs.Common.{length, take, drop, set, get_or, replicate, arith, refl, sym, ap, ◌∙◌, w64, length-set}
use Rattle.std.specs.Int.{bit_at}
use Rattle.std.proofs.lemmas.Bool.{eqb-true, eqb-false}
use Rattle.std.proofs.lemmas.Grind.{get_or-set_at}
use Rattle.std.proofs.lemmas.List.{get_or-set_other, take_rest}
use Rattle.std.proofs.lemmas.Nat.{and_le_l}
use Rattle.std.proofs.lemmas.Nat.Bits.{bit_at_and, bit_at-trailing_zeros, bit_at_clear_same, bit_at_clear_other}
use Rattle.cell_ascii_lanes.proofs.NullWordLemmas.{some_bits}
use Rattle.cell_ascii_lanes.proofs.null_lanes.put_nulls.Goals as goal
use lib.Bits.{bit_and}
use lib.Count.{count_trailing_zeros}
use lib.Lanes.{number_l}

less : (a b : ℕ) → a ≤ b → (a ≡ b → ⊥) → a < b
less a b le apart = by (eqb a b) refl
  where
    by : (t : Bool) → eqb a b ≡ t → a < b
    by true e = absurd (apart (eqb-true a b e))
    by false e = let no = eqb-false a b e in omega (arith, no)

pub word_key-requires-clause-some : goal.word_key-requires-clause-some
word_key-requires-clause-some c =
    let low = bit_at-trailing_zeros w64 c.nulls.left (omega (arith, c.nulls-test.true)) c.nulls.auto.left-fits.fits in
    c.requires.some (some_bits c.args.starts _ (c.nulls.invariant.among _ low.1))

pub overflow_sub-lanes : goal.overflow_sub-lanes
overflow_sub-lanes c =
    let low = bit_at-trailing_zeros w64 c.nulls.left (omega (arith, c.nulls-test.true)) c.nulls.auto.left-fits.fits in
    c.requires.some (some_bits c.args.starts _ (c.nulls.invariant.among _ low.1))

pub nulls-smaller : goal.nulls-smaller
nulls-smaller c =
    let left = c.nulls.left in
    let z = count_trailing_zeros 64 left in
    let low = bit_at-trailing_zeros w64 left (omega (arith, c.nulls-test.true)) c.nulls.auto.left-fits.fits in
    let clear = bit_at_clear_same w64 left z low.0 in
    less _ left (and_le_l left _) (λ same. omega (arith, clear, ap (λ n. bit_at n z) same, low.1))

pub nulls-preserved : goal.nulls-preserved
nulls-preserved c =
    let left = c.nulls.left in
    let z = count_trailing_zeros 64 left in
    let size = c.args.size in
    let lanes = c.nulls.lanes in
    let inv = c.nulls.invariant in
    let low = bit_at-trailing_zeros w64 left (omega (arith, c.nulls-test.true)) c.nulls.auto.left-fits.fits in
    let start = inv.among z low.1 in
    let last = z + (size - 1) in
    let room : last < length lanes = omega (arith, low.0, c.requires.few, c.requires.lanes, inv.room) in
    record {
      room = length-set lanes last 255 ∙ inv.room;
      among = λ p on. inv.among p
          (omega (arith, on, bit_at_and left (18446744073709551615 - 1 * 2 ^ z % 18446744073709551616) p));
      done = λ p lt on off. by p lt on off (eqb p z) refl;
      others = λ q other. get_or-set_other lanes last q 255 0 (λ same. other z low.0 start (sym same))
          ∙ inv.others q other;
    }
  where
    left : ℕ
    left = c.nulls.left

    z : ℕ
    z = count_trailing_zeros 64 left

    size : ℕ
    size = c.args.size

    low : (z < 64) × (bit_at left z ≡ 1)
    low = let is = bit_at-trailing_zeros w64 left (omega (arith, c.nulls-test.true)) c.nulls.auto.left-fits.fits in
        (is.0, is.1)

    room : z + (size - 1) < length c.nulls.lanes
    room = omega (arith, low.0, c.requires.few, c.requires.lanes, c.nulls.invariant.room)

    by : (p : ℕ) → p < 64 → bit_at c.args.starts p ≡ 1
        → bit_at (bit_and left (18446744073709551615 - 1 * 2 ^ z % 18446744073709551616)) p ≡ 0
        → (b : Bool) → eqb p z ≡ b
        → (c.args.key ≡ number_l 256 (replicate (8 - size) 0 ++ take size (drop p c.args.buffered.now)))
        × (get_or (set c.nulls.lanes (z + (size - 1)) 255) (p + (size - 1)) 0 ≡ 255)
    by p lt on off true e =
        let same = eqb-true p z e in
        let here : p + (size - 1) ≡ z + (size - 1) = ap (λ n. n + (size - 1)) same in
        let bytes = c.args.buffered.now in (
          sym c.if-word_key-key.false ∙ c.word_key.ensures
              ∙ ap (λ l. number_l 256 (replicate (8 - size) 0 ++ take size l))
              (take_rest bytes z ∙ ap (λ n. drop n bytes) (sym same)),
          get_or-set_at c.nulls.lanes (z + (size - 1)) (p + (size - 1)) 255 0 here room,
        )
    by p lt on off false e =
        let apart = eqb-false p z e in
        let so_far = c.nulls.invariant.done p lt on (sym (bit_at_clear_other w64 left z low.0 p lt apart) ∙ off) in (
          so_far.0,
          get_or-set_other c.nulls.lanes (z + (size - 1)) (p + (size - 1)) 255 0
              (λ same. apart (omega (arith, same))) ∙ so_far.1,
        )
