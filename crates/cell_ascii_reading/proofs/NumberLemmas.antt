-- Capped numbers denote the same cells as uncapped numbers.
use Rattle.std.proofs.Common.{◌≡◌, ℕ, ℤ, ◌≤◌, pos, negsuc, Bool, true, false, List, [], ◌∷◌, ap, sym, ◌∙◌, refl, arith, Option, Some, None, Err, if◌then◌else◌}
use Rattle.std.specs.Prelude.{neg_ℤ, ◌==◌, ◌*ℤ◌, bytes_eq}
use Rattle.std.specs.Int.RustNames.{unsigned_abs}
use Rattle.std.specs.Option.{option_map}
use Rattle.std.proofs.lemmas.Bool.Decides.{nat_tests}
use Rattle.std.proofs.lemmas.Int.{ints}
use Rattle.cell_ascii_meaning.specs.EdgeNumbers.{is_in_category_range, whole_number_of_text, value_if_digits}
use Rattle.cell_core_values.specs.Capped.{capped_at_10_to_18, capped_whole_number_of_text}
use Rattle.cell_core_values.proofs.NameLemmas.{bytes_eq-differ}
use Rattle.cell_ascii_reading.specs.InRange.{cell_or_range_fault}
use Rattle.cell_ascii_meaning.specs.Header.{GridHeaderContents}
use Rattle.cell_ascii_meaning.specs.CellTexts.{cell_of_word, cell_of_number}
use Rattle.cell_ascii_meaning.specs.declared.grid_fault.GridKind.TheVariants.{CellRange}

cell_far : (m n : ℤ) → is_in_category_range n ≡ false → cell_of_number m (Some n) ≡ Err CellRange
cell_far m n e = rw e refl

-- a number in range is not capped, and a number out of range stays out of range
agree : (m z y : ℤ) → is_in_category_range y ≡ is_in_category_range z → (is_in_category_range z ≡ true → y ≡ z) → cell_of_number m (Some y) ≡ cell_of_number m (Some z)
agree m z y e same = by (is_in_category_range z) refl
  where
    by : (b : Bool) → is_in_category_range z ≡ b → cell_of_number m (Some y) ≡ cell_of_number m (Some z)
    by true f = ap (λ (x : ℤ). cell_of_number m (Some x)) (same f)
    by false f = cell_far m y (e ∙ f) ∙ sym (cell_far m z f)

range_pos : (n : ℕ) → is_in_category_range (pos (capped_at_10_to_18 n)) ≡ is_in_category_range (pos n)
range_pos n = grind (arith, ints, nat_tests)

range_neg : (n : ℕ) → is_in_category_range (neg_ℤ (pos (capped_at_10_to_18 n))) ≡ is_in_category_range (neg_ℤ (pos n))
range_neg n = grind (arith, ints, nat_tests)

kept_pos : (n : ℕ) → is_in_category_range (pos n) ≡ true → capped_at_10_to_18 n ≡ n
kept_pos n e = grind (arith, ints, nat_tests)

kept_neg : (n : ℕ) → is_in_category_range (neg_ℤ (pos n)) ≡ true → capped_at_10_to_18 n ≡ n
kept_neg n e = grind (arith, ints, nat_tests)

plus_cell : (m : ℤ) (o : Option ℕ) → cell_of_number m (option_map pos (option_map capped_at_10_to_18 o)) ≡ cell_of_number m (option_map pos o)
plus_cell m None = refl
plus_cell m (Some n) = agree m (pos n) (pos (capped_at_10_to_18 n)) (range_pos n) (λ f. ap pos (kept_pos n f))

minus_cell : (m : ℤ) (o : Option ℕ) → cell_of_number m (option_map (λ n. neg_ℤ (pos n)) (option_map capped_at_10_to_18 o)) ≡ cell_of_number m (option_map (λ n. neg_ℤ (pos n)) o)
minus_cell m None = refl
minus_cell m (Some n) = agree m (neg_ℤ (pos n)) (neg_ℤ (pos (capped_at_10_to_18 n))) (range_neg n) (λ f. ap (λ (k : ℕ). neg_ℤ (pos k)) (kept_neg n f))

abbrev signed_by : Bool → Bool → Option ℕ → Option ℕ → Option ℤ
signed_by minus plus rest all = if minus then option_map (λ n. neg_ℤ (pos n)) rest else (if plus then option_map pos rest else option_map pos all)

signed_cell : (m : ℤ) (minus plus : Bool) (rest all : Option ℕ) → cell_of_number m (signed_by minus plus (option_map capped_at_10_to_18 rest) (option_map capped_at_10_to_18 all)) ≡ cell_of_number m (signed_by minus plus rest all)
signed_cell m true plus rest all = minus_cell m rest
signed_cell m false true rest all = plus_cell m rest
signed_cell m false false rest all = plus_cell m all

-- a capped number denotes the same cell as the number
pub capped_cell : (m : ℤ) (bs : List ℕ) → cell_of_number m (capped_whole_number_of_text bs)
    ≡ cell_of_number m (whole_number_of_text bs)
capped_cell m [] = refl
capped_cell m (b ∷ bs) = signed_cell m (b == 45) (b == 43) (value_if_digits bs) (value_if_digits (b ∷ bs))

plus_same : (o : Option ℕ) (n : ℤ) → option_map pos o ≡ Some n → is_in_category_range n ≡ true → option_map pos (option_map capped_at_10_to_18 o) ≡ Some n
plus_same None n e r = cc
plus_same (Some k) n e r = let same : pos k ≡ n = cc in ap (λ (m : ℕ). Some (pos m)) (kept_pos k (ap is_in_category_range same ∙ r)) ∙ e

minus_same : (o : Option ℕ) (n : ℤ) → option_map (λ m. neg_ℤ (pos m)) o ≡ Some n → is_in_category_range n ≡ true → option_map (λ m. neg_ℤ (pos m)) (option_map capped_at_10_to_18 o) ≡ Some n
minus_same None n e r = cc
minus_same (Some k) n e r = let same : neg_ℤ (pos k) ≡ n = cc in ap (λ (m : ℕ). Some (neg_ℤ (pos m))) (kept_neg k (ap is_in_category_range same ∙ r)) ∙ e

signed_same : (minus plus : Bool) (rest all : Option ℕ) (n : ℤ) → signed_by minus plus rest all ≡ Some n → is_in_category_range n ≡ true → signed_by minus plus (option_map capped_at_10_to_18 rest) (option_map capped_at_10_to_18 all) ≡ Some n
signed_same true plus rest all n e r = minus_same rest n e r
signed_same false true rest all n e r = plus_same rest n e r
signed_same false false rest all n e r = plus_same all n e r

-- a number in range is unchanged by the cap
pub capped_same : (bs : List ℕ) (n : ℤ) → whole_number_of_text bs ≡ Some n → is_in_category_range n ≡ true
    → capped_whole_number_of_text bs ≡ Some n
capped_same [] n e r = cc
capped_same (b ∷ bs) n e r = signed_same (b == 45) (b == 43) (value_if_digits bs) (value_if_digits (b ∷ bs)) n e r

signed_none : (minus plus : Bool) (rest all : Option ℕ) → signed_by minus plus (option_map capped_at_10_to_18 rest) (option_map capped_at_10_to_18 all) ≡ None → signed_by minus plus rest all ≡ None
signed_none true plus None all e = refl
signed_none true plus (Some k) all e = cc
signed_none false true None all e = refl
signed_none false true (Some k) all e = cc
signed_none false false rest None e = refl
signed_none false false rest (Some k) e = cc

-- a text without a capped number is not a number
capped_none : (bs : List ℕ) → capped_whole_number_of_text bs ≡ None → whole_number_of_text bs ≡ None
capped_none [] e = refl
capped_none (b ∷ bs) e = signed_none (b == 45) (b == 43) (value_if_digits bs) (value_if_digits (b ∷ bs)) e

times_one : (n : ℤ) → n *ℤ pos 1 ≡ n
times_one n = omega (arith, ints)

by_one : (m n : ℤ) → m ≡ pos 1 → cell_or_range_fault n ≡ cell_of_number m (Some n)
by_one m n e = by (is_in_category_range n) refl
  where
    by : (b : Bool) → is_in_category_range n ≡ b → cell_or_range_fault n ≡ cell_of_number m (Some n)
    by true f = rw (e, times_one n, f) refl
    by false f = rw f refl

-- a number denotes its cell if the null text is not a number and the multiplier is 1
pub plain_cell : (h : GridHeaderContents) (word : List ℕ) (n : ℤ) → whole_number_of_text word ≡ Some n → capped_whole_number_of_text h.null_text ≡ None → h.multiplier ≡ pos 1
    → cell_or_range_fault n ≡ cell_of_word h word
plain_cell h word n is none one =
    let other : bytes_eq word h.null_text ≡ false = bytes_eq-differ word h.null_text (λ same. let no : whole_number_of_text word ≡ None = capped_none word (ap capped_whole_number_of_text same ∙ none) in cc) in
    rw (other, is) (by_one h.multiplier n one)

-- a word other than the null text denotes the cell of its number
pub number_judged : (h : GridHeaderContents) (word : List ℕ) (number : ℤ) → bytes_eq word h.null_text ≡ false
    → Some number ≡ capped_whole_number_of_text word → cell_of_number h.multiplier (Some number) ≡ cell_of_word h word
number_judged h word number other is = rw other (ap (cell_of_number h.multiplier) is ∙ capped_cell h.multiplier word)

-- the magnitude of a number in range is at most 2147483647
pub number_small : (n : ℤ) → is_in_category_range n ≡ true → unsigned_abs n ≤ 2147483647
number_small (pos k) e = grind (arith, nat_tests)
number_small (negsuc k) e = grind (arith, nat_tests)
