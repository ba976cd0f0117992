-- The digits of a number, and the digits without the zeros at the end.
use Rattle.std.proofs.Common.{◌≡◌, ℕ, zero, suc, ◌+◌, ◌-◌, ◌*◌, ◌^◌, ◌<◌, ◌≤◌, List, [], ◌∷◌, ◌++◌, length, drop, take, replicate, reverse, Bool, true, false, ◌==◌, decimal, refl, ap, sym, ◌∙◌, arith, cond, fold, ◌⊎◌, inl, inr, rules, subst}
use Rattle.std.proofs.Math.Nat.{pow-suc}
use Rattle.std.proofs.Math.Seq.{take-append_seam}
use Rattle.std.specs.List.{list_all, prefix_len}
use Rattle.std.proofs.lemmas.List.Folds.{list_all-append}
use Rattle.std.proofs.lemmas.Bool.{cases_lt, and_parts, eqb-true}
use Rattle.std.proofs.lemmas.Fmt.{digits_decimal, digits_value-decimal, decimal_nonempty, length-decimal-le}
use Rattle.std.proofs.lemmas.List.{reverse-append, reverse-reverse, length-reverse, length-drop, replicate-append-replicate}
use Rattle.std.proofs.lemmas.List.Sums.{fold-append, prefix_len-le-length}
use Rattle.std.proofs.lemmas.Str.Parse.{IsNumeralModel, numerals_by_fold, digits_value_short}
use Rattle.cell_ascii_meaning.specs.EdgeNumbers.{is_digit, value_of_digits}
use Rattle.cell_ascii_meaning.specs.Writing.{digits_without_trailing_zeros}

abbrev value_after : ℕ → List ℕ → ℕ
value_after n ds = fold (λ m b. m * 10 + (b - 48)) n ds

own : IsNumeralModel (λ ds. list_all is_digit ds ≡ true) value_of_digits
own = numerals_by_fold _ (search rules) value_after (search rules)

-- at least one digit, with the value n
pub record IsNumeralOf (n : ℕ) (ds : List ℕ) : Type 0 where
  pub digits : list_all is_digit ds ≡ true
  pub value : value_of_digits ds ≡ n
  pub some : 0 < length ds

pub numeral : (n : ℕ) → n < 2 ^ 64 → IsNumeralOf n (decimal n)
numeral n low = record { digits = digits_decimal own n low; value = digits_value-decimal own n low; some = decimal_nonempty n low }

-- digits after a number add their value to the number times a power of ten
value_behind : (n : ℕ) (ds : List ℕ) → value_after n ds ≡ n * 10 ^ length ds + value_of_digits ds
value_behind n [] = let e : value_after n [] ≡ n = refl in let z : value_of_digits [] ≡ 0 = refl in let o : 10 ^ 0 ≡ 1 = refl in e ∙ omega arith
value_behind n (d ∷ ds) =
    let whole : value_after n (d ∷ ds) ≡ (n * 10 + (d - 48)) * 10 ^ length ds + value_of_digits ds = value_behind (n * 10 + (d - 48)) ds in
    let alone : value_of_digits (d ∷ ds) ≡ (0 * 10 + (d - 48)) * 10 ^ length ds + value_of_digits ds = value_behind (0 * 10 + (d - 48)) ds in
    let weight : n * 10 ^ length (d ∷ ds) ≡ n * (10 ^ length ds * 10) = ap (λ w. n * w) (pow-suc 10 (length ds)) in
    omega arith

-- A 1 and eight more digits.
first_digit : (d : ℕ) (ds : List ℕ) (part : ℕ) → part < 100000000 → length (d ∷ ds) ≤ 9 → IsNumeralOf (100000000 + part) (d ∷ ds) → (length ds ≡ 8) × IsNumeralOf part ds
first_digit d ds part low short is = by (cases_lt (length ds) 8)
  where
    digits : list_all is_digit ds ≡ true
    digits = (and_parts (is_digit d) (list_all is_digit ds) is.digits).1

    by : (length ds < 8) ⊎ (8 ≤ length ds) → (length ds ≡ 8) × IsNumeralOf part ds
    by (inl few) = let h : value_of_digits (d ∷ ds) < 100000000 = digits_value_short own (d ∷ ds) 8 is.digits (omega arith) in let v = is.value in absurd (omega arith)
    by (inr many) =
        let eight : length ds ≡ 8 = omega arith in
        let below : value_of_digits ds < 100000000 = digits_value_short own ds 8 digits (omega arith) in
        let whole : (0 * 10 + (d - 48)) * 10 ^ length ds + value_of_digits ds ≡ 100000000 + part = sym (value_behind (0 * 10 + (d - 48)) ds) ∙ is.value in
        let split : (0 * 10 + (d - 48)) * 100000000 + value_of_digits ds ≡ 100000000 + part = ap (λ n. (0 * 10 + (d - 48)) * 10 ^ n + value_of_digits ds) (sym eight) ∙ whole in
        (eight, record { digits = digits; value = omega arith; some = omega arith })

-- a number below 10^8 as eight digits
abbrev pub eight : ℕ → List ℕ
eight part = drop 1 (decimal (100000000 + part))

pub eight_digits_of_fraction : (part : ℕ) → part < 100000000 → (length (eight part) ≡ 8) × IsNumeralOf part (eight part)
eight_digits_of_fraction part low = by (decimal (100000000 + part)) (length-decimal-le 9 (100000000 + part) (omega arith) (omega arith) (omega arith)) (numeral (100000000 + part) (omega arith))
  where
    by : (ds : List ℕ) → length ds ≤ 9 → IsNumeralOf (100000000 + part) ds → (length (drop 1 ds) ≡ 8) × IsNumeralOf part (drop 1 ds)
    by [] short is = absurd (let h = is.some in omega arith)
    by (d ∷ ds) short is = first_digit d ds part low short is

-- Zeros at the end.
abbrev pub is_zero : ℕ → Bool
is_zero b = b == 48

abbrev pub zeros : List ℕ → ℕ
zeros ds = prefix_len is_zero (reverse ds)

leading : (ds : List ℕ) → ds ≡ replicate (prefix_len is_zero ds) 48 ++ drop (prefix_len is_zero ds) ds
leading [] = refl
leading (d ∷ ds) = by (leading ds) (is_zero d) refl
  where
    by : ds ≡ replicate (prefix_len is_zero ds) 48 ++ drop (prefix_len is_zero ds) ds → (t : Bool) → is_zero d ≡ t → d ∷ ds ≡ replicate (cond t (1 + prefix_len is_zero ds) 0) 48 ++ drop (cond t (1 + prefix_len is_zero ds) 0) (d ∷ ds)
    by on true e =
        let more : suc (prefix_len is_zero ds) ≡ 1 + prefix_len is_zero ds = omega arith in
        (λ i. eqb-true d 48 e i ∷ on i) ∙ ap (λ n. replicate n 48 ++ drop n (d ∷ ds)) more
    by on false e = refl

value_zeros : (n k : ℕ) → value_after n (replicate k 48) ≡ n * 10 ^ k
value_zeros n zero = let e : value_after n (replicate 0 48) ≡ n = refl in e ∙ omega arith
value_zeros n (suc k) =
    let whole : value_after n (replicate (suc k) 48) ≡ (n * 10 + 0) * 10 ^ k = value_zeros (n * 10 + 0) k in
    let weight : n * 10 ^ suc k ≡ n * (10 ^ k * 10) = ap (λ w. n * w) (pow-suc 10 k) in
    omega arith

digits_front : (xs ys : List ℕ) → list_all is_digit (xs ++ ys) ≡ true → list_all is_digit xs ≡ true
digits_front xs ys e = (and_parts (list_all is_digit xs) (list_all is_digit ys) (sym (list_all-append is_digit xs ys) ∙ e)).0

reverse_same : (k : ℕ) → reverse {A = ℕ} (replicate k 48) ≡ replicate k 48
reverse_same zero = refl
reverse_same (suc k) =
    let one : k + 1 ≡ suc k = omega arith in
    reverse-append {A = ℕ} (48 ∷ []) (replicate k 48) ∙ ap (λ l. l ++ replicate 1 48) (reverse_same k) ∙ replicate-append-replicate k 1 48 ∙ ap (λ n. replicate n 48) one

-- the digits are `front` followed by the zeros at the end
pub record IsCut (ds front : List ℕ) : Type 0 where
  pub whole : ds ≡ front ++ replicate (zeros ds) 48
  pub count : length front + zeros ds ≡ length ds

pub cut : (ds : List ℕ) → IsCut ds (digits_without_trailing_zeros ds)
cut ds =
    let k = zeros ds in
    let front = reverse (drop k (reverse ds)) in
    let whole : ds ≡ front ++ replicate k 48 = sym (reverse-reverse ds) ∙ ap reverse (leading (reverse ds)) ∙ reverse-append (replicate k 48) (drop k (reverse ds)) ∙ ap (λ l. front ++ l) (reverse_same k) in
    let count : length front + k ≡ length ds = omega (arith, length-reverse ds, length-reverse (drop k (reverse ds)), length-drop k (reverse ds), prefix_len-le-length is_zero (reverse ds)) in
    let least : length front ≡ length ds - k = omega arith in
    let taken : front ≡ digits_without_trailing_zeros ds = sym (take-append_seam front (replicate k 48)) ∙ (λ i. take (least i) (sym whole i)) in
    subst (IsCut ds) taken (record { whole = whole; count = count })

-- The part is the value of the remaining digits times the weight of the zeros.
pub record IsFraction (part : ℕ) (ds : List ℕ) : Type 0 where
  pub digits : list_all is_digit ds ≡ true
  pub short : length ds ≤ 8
  pub value : value_of_digits ds * 10 ^ (8 - length ds) ≡ part

pub fraction : (part : ℕ) → part < 100000000 → IsFraction part (digits_without_trailing_zeros (eight part))
fraction part low =
    let front = digits_without_trailing_zeros (eight part) in
    let k = zeros (eight part) in
    let is = eight_digits_of_fraction part low in
    let c = cut (eight part) in
    let weight : 8 - length front ≡ k = (let count = c.count in let all = is.0 in omega arith) in
    record {
      digits = digits_front front (replicate k 48) (ap (list_all is_digit) (sym c.whole) ∙ is.1.digits);
      short = (let count = c.count in let all = is.0 in omega arith);
      value = ap (λ n. value_of_digits front * 10 ^ n) weight ∙ sym (value_zeros (value_of_digits front) k) ∙ sym (fold-append (λ m b. m * 10 + (b - 48)) 0 front (replicate k 48)) ∙ ap value_of_digits (sym c.whole) ∙ is.1.value;
    }
