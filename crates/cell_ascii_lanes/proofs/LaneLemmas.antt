-- The number of equal bytes at the start of two loads.
use Rattle.std.proofs.Common.{◌≡◌, ℕ, ◌+◌, ◌%◌, ◌^◌, ◌<◌, ◌≤◌, suc, eqb, cond, Bool, true, false, not, List, [], ◌∷◌, ◌++◌, map, length, take, drop, w8, refl, sym, ap, ap₂, ◌∙◌, arith, length-take}
use Rattle.std.proofs.lemmas.Bool.{eqb-true}
use Rattle.std.proofs.lemmas.Simd.{mask_l-mod, leading_from_mask_l, trailing_mask_l, tops_compared, length-zip2}
use Rattle.std.proofs.lemmas.List.{take-take}
use Rattle.std.proofs.lemmas.List.Sums.{prefix_len-le-length}
use Rattle.std.proofs.Math.Seq.{take-add}
use Rattle.std.specs.List.{prefix_len}
use lib.Count.{count_trailing_zeros}
use lib.Lanes.{zip2, mask_l, top}

abbrev pub apart : ℕ → ℕ → Bool
apart a b = not (eqb a b)

itself : (ms : List Bool) → map (λ m. m) ms ≡ ms
itself [] = refl
itself (m ∷ ms) = ap (λ (l : List Bool). m ∷ l) (itself ms)

-- two lists agree before the first lane that differs
alike_front : (xs ys : List ℕ) → length xs ≡ length ys → take (prefix_len (λ m. not m) (zip2 apart xs ys)) xs ≡ take (prefix_len (λ m. not m) (zip2 apart xs ys)) ys
alike_front [] [] e = refl
alike_front [] (y ∷ ys) e = absurd (omega arith)
alike_front (x ∷ xs) [] e = absurd (omega arith)
alike_front (x ∷ xs) (y ∷ ys) e = by (prefix_len (λ m. not m) (zip2 apart xs ys)) (eqb x y) refl (alike_front xs ys (omega arith))
  where
    by : (r : ℕ) (b : Bool) → eqb x y ≡ b → take r xs ≡ take r ys → take (cond (not (not b)) (1 + r) 0) (x ∷ xs) ≡ take (cond (not (not b)) (1 + r) 0) (y ∷ ys)
    by r true same others =
        let one : 1 + r ≡ suc r = omega arith in
        let first : x ≡ y = eqb-true x y same in
        ap (λ (k : ℕ). take k (x ∷ xs)) one ∙ ap₂ (λ (z : ℕ) (l : List ℕ). z ∷ l) first others ∙ ap (λ (k : ℕ). take k (y ∷ ys)) (sym one)
    by r false other others = refl

module _ (a b : List ℕ) (left : 16 ≤ length a) (right : 16 ≤ length b) where
  abbrev lanes : List Bool
  lanes = zip2 apart (take 16 a) (take 16 b)

  abbrev mask : ℕ
  mask = mask_l (map (top 7) (zip2 (λ x y. cond (apart x y) 255 0) (take 16 a) (take 16 b))) % 2 ^ 64

  long : length lanes ≡ 16
  long =
      let l : length (take 16 a) ≡ 16 = omega (arith, length-take 16 a) in
      let m : length (take 16 b) ≡ 16 = omega (arith, length-take 16 b) in
      length-zip2 apart (take 16 a) (take 16 b) (l ∙ sym m) ∙ l

  mask-is : mask ≡ mask_l (map (λ m. m) lanes)
  mask-is =
      let few : length lanes ≤ 64 = omega (arith, long) in
      ap (λ (l : List Bool). mask_l l % 2 ^ 64) (tops_compared w8 apart (take 16 a) (take 16 b)) ∙ mask_l-mod lanes 64 few ∙ ap mask_l (sym (itself lanes))

  front : (r : ℕ) → r ≡ prefix_len (λ m. not m) lanes → (take r a ≡ take r b) × (r ≤ 16)
  front r e =
      let few : r ≤ 16 = omega (arith, e, long, prefix_len-le-length (λ m. not m) lanes) in
      let same : length (take 16 a) ≡ length (take 16 b) = omega (arith, length-take 16 a, length-take 16 b) in
      let alike : take r (take 16 a) ≡ take r (take 16 b) = ap (λ (k : ℕ). take k (take 16 a)) e ∙ alike_front (take 16 a) (take 16 b) same ∙ ap (λ (k : ℕ). take k (take 16 b)) (sym e) in
      (sym (take-take r 16 a few) ∙ alike ∙ take-take r 16 b few, few)

  pub none_differ : mask ≡ 0 → take 16 a ≡ take 16 b
  none_differ none = (front 16 (sym (leading_from_mask_l (λ (m : Bool). m) lanes (sym mask-is ∙ none) ∙ long))).0

  pub some_differ : (mask ≡ 0 → ⊥) → (take (count_trailing_zeros 64 mask) a ≡ take (count_trailing_zeros 64 mask) b) × (count_trailing_zeros 64 mask ≤ 16)
  some_differ some =
      let few : length lanes ≤ 64 = omega (arith, long) in
      let set : 0 < mask_l (map (λ m. m) lanes) = omega (arith, mask-is, some) in
      front (count_trailing_zeros 64 mask) (ap (count_trailing_zeros 64) mask-is ∙ trailing_mask_l (λ (m : Bool). m) 64 lanes few set)

-- lists that agree on their first n items and on the next m agree on the first n + m
pub alike_longer : (n m : ℕ) (xs ys : List ℕ) → take n xs ≡ take n ys → take m (drop n xs) ≡ take m (drop n ys) → take (n + m) xs ≡ take (n + m) ys
alike_longer n m xs ys e f = take-add n m xs ∙ ap₂ (λ (p : List ℕ) (q : List ℕ). p ++ q) e f ∙ sym (take-add n m ys)
