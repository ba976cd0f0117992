use Rattle.std.proofs.Common.{◌≡◌, ℕ, ◌-◌, ◌<◌, ◌≤◌, List, [], ◌∷◌, ◌++◌, Bool, true, false, not, map, length}
use Rattle.std.proofs.Common.{take, drop, get_or, replicate, arith, refl, sym, ap, ◌∙◌, length-append, length-drop}
use Rattle.std.proofs.lemmas.Simd.{length-replicate}
use Rattle.std.specs.List.{list_all}
use Rattle.std.specs.Int.{bit_at}
use Rattle.std.proofs.lemmas.Nat.Bits.{bit_at-zero}
use Rattle.cell_ascii_meaning.specs.GridTokens.{is_space, is_word_byte}
use Rattle.cell_ascii_lanes.specs.NullLanes.{IsNullKey}
use Rattle.cell_ascii_lanes.proofs.ByteBitLemmas.{bit}
use Rattle.cell_ascii_lanes.proofs.BlockByteLemmas.{all_from, bit_of}
use Rattle.cell_ascii_lanes.proofs.null_lanes.null_key.Goals as goal
use lib.Lanes.{mask_l, number_l}

front : (a b : List ℕ) → take (length a) (a ++ b) ≡ a
front [] b = refl
front (x ∷ a) b = ap (λ (l : List ℕ). x ∷ l) (front a b)

off : (b : Bool) → bit b ≡ 0 → not b ≡ true
off true e = absurd (omega arith)
off false e = refl

key_is : (text rest : List ℕ) (key mask : ℕ) → length text ≤ 8 → ((k : ℕ) → get_or text k 0 < 256)
    → 64 ≤ length (text ++ rest) → length text ≤ length (text ++ rest)
    → key ≡ number_l 256 (replicate (8 - length text) 0 ++ take (length text) (text ++ rest))
    → mask ≡ mask_l (map is_space (take 64 (text ++ rest))) → mask ≡ 0
    → IsNullKey text key (length text)
key_is text rest key mask few fits wide long is mask_is none = record {
  few = few;
  long = λ some. refl;
  spelled = λ some. is ∙ ap (λ l. number_l 256 (replicate (8 - length text) 0 ++ l)) (front text rest);
  bytes = fits;
  word = λ some. ap (list_all is_word_byte) (sym (front text rest))
      ∙ all_from is_word_byte (length text) (text ++ rest) long
      (λ i lt. off (is_space (get_or (text ++ rest) i 0))
      (sym (bit_of (text ++ rest) wide is_space i (omega arith)) ∙ sym (ap (λ m. bit_at m i) mask_is)
      ∙ ap (λ m. bit_at m i) none ∙ bit_at-zero i));
}

pub returns : goal.returns
returns c =
    let text = c.args.text.now in
    let rest : List ℕ = drop (length text) (replicate 64 0) in
    let bytes : c.copy_from_slice.new.self ++ rest ≡ text ++ rest = ap (λ l. l ++ rest)
    c.copy_from_slice.ensures.after in
    let size : length (text ++ rest) ≡ 64 = omega (
      arith,
      length-append text rest,
      length-drop (length text) (replicate {A = ℕ} 64 0),
      length-replicate {A = ℕ}
          64 0,
      c.if-size-gt-MOST_BYTES.false,
    ) in
    key_is text rest c.word_key.result c.space_mask.result (omega (arith, c.if-size-gt-MOST_BYTES.false))
    (λ k. (c.type_inv.text k).fits) (omega (arith, size))
    (omega (arith, size, c.if-size-gt-MOST_BYTES.false))
    (rw bytes at c.word_key.ensures) (rw bytes at c.space_mask.ensures) c.if-space_mask-ne0.false
