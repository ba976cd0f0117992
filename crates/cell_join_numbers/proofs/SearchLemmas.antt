-- The number of labels before a label, in ascending order, and the place at which a search finds the label.
use Rattle.std.proofs.Common.{◌≡◌, ℕ, zero, suc, ◌+◌, ◌-◌, ◌<◌, ◌≤◌, List, length, get_or, Ok, Err, Bool, true, false, ltb, refl, ap, sym, ◌∙◌, arith, ⊎_elim}
use Rattle.std.specs.List.{AllPairs}
use Rattle.std.specs.List.Sorted.{IsBinarySearchResult}
use Rattle.std.specs.Ordering.{nat_cmp}
use Rattle.std.proofs.Math.Nat.{add-suc}
use Rattle.std.proofs.lemmas.Bool.{cases_lt}
use Rattle.std.proofs.lemmas.List.Sorted.{searched}
use Rattle.std.proofs.lemmas.List.Sums.{count_by-le-length}
use Rattle.cell_join_numbers.specs.SparseLabels.{paired_label_count_before_label, is_paired_label}
use Rattle.cell_join_numbers.proofs.CountLemmas.{one-if}
use Rattle.cell_join_numbers.proofs.PlaceLemmas.{few-before, next-before, place-is, touching-at}

module _ (ts : List ℕ) (order : AllPairs ◌<◌ ts) where
  before-up : (l n : ℕ) → paired_label_count_before_label ts l ≤ paired_label_count_before_label ts (l + n)
  before-up l zero = let same : paired_label_count_before_label ts (l + 0) ≡ paired_label_count_before_label ts l =
      ap (paired_label_count_before_label ts) (omega arith) in omega (arith, same)
  before-up l (suc n) =
      let same : paired_label_count_before_label ts (l + suc n) ≡ paired_label_count_before_label ts (suc (l + n)) = ap
      (paired_label_count_before_label ts) (add-suc l n) in
      omega (arith, same, next-before ts order (l + n), before-up l n)

  pub before-most : (l m : ℕ) → l ≤ m → paired_label_count_before_label ts l ≤ paired_label_count_before_label ts m
  before-most l m le =
      let same : paired_label_count_before_label ts (l + (m - l))
      ≡ paired_label_count_before_label ts m = ap (paired_label_count_before_label ts)
      (omega (arith, le)) in
      omega (arith, same, before-up l (m - l))

  -- a label is not listed if as many labels come before the next number as before it
  pub alone-here : (l : ℕ) → paired_label_count_before_label ts (suc l) ≡ paired_label_count_before_label ts l
      → is_paired_label ts l ≡ false
  alone-here l same = by (is_paired_label ts l) refl
    where
      by : (b : Bool) → is_paired_label ts l ≡ b → is_paired_label ts l ≡ false
      by false e = e
      by true e =
          let one : one-if (is_paired_label ts l) ≡ 1 = ap one-if e in
          absurd (omega (arith, one, next-before ts order l, same))

  -- the label at the place found is at least the label searched for
  pub label-above : (l place : ℕ) → paired_label_count_before_label ts l ≡ place → place < length ts
      → l ≤ get_or ts place 0
  label-above l place is within =
      ⊎_elim
      (λ lt.
      let own : paired_label_count_before_label ts (get_or ts place 0) ≡ place = place-is ts order place 0 within in
      let one : one-if (is_paired_label ts (get_or ts place 0)) ≡ 1 = ap one-if (touching-at ts place 0 within) in
      let up = before-most (suc (get_or ts place 0)) l (omega (arith, lt)) in
      absurd (omega (arith, own, one, up, is, next-before ts order (get_or ts place 0))))
      (λ le. le)
      (cases_lt (get_or ts place 0) l)

  pub before-next : (place l : ℕ) → place < length ts → get_or ts place 0 ≡ l
      → paired_label_count_before_label ts (l + 1) ≡ place + 1
  before-next place l within is =
      let own : paired_label_count_before_label ts l ≡ place = ap (paired_label_count_before_label ts) (sym is)
      ∙ place-is ts order place 0 within in
      let one : one-if (is_paired_label ts l) ≡ 1 = ap one-if (ap (is_paired_label ts) (sym is)
      ∙ touching-at ts place 0 within) in
      let same : paired_label_count_before_label ts (l + 1) ≡ paired_label_count_before_label ts (suc l) = ap
      (paired_label_count_before_label ts)
      (omega arith) in
      omega (arith, own, one, same, next-before ts order l)

  -- if no listed label from the place on is below an end, the place is the number of listed labels below the end
  pub before-end : (l place end : ℕ) → paired_label_count_before_label ts l ≡ place → l ≤ end
      → ((place < length ts) × (get_or ts place 0 < end) → ⊥) → paired_label_count_before_label ts end ≡ place
  before-end l place end is le none =
      let up = before-most l end le in
      ⊎_elim
      (λ within.
      let own : paired_label_count_before_label ts (get_or ts place 0) ≡ place = place-is ts order place 0 within in
      ⊎_elim (λ lt. absurd (none (within, lt)))
      (λ ge. let down = before-most end (get_or ts place 0) ge in omega (arith, own, up, down, is))
      (cases_lt (get_or ts place 0) end))
      (λ past. let most = count_by-le-length (λ k. ltb k end) ts in omega (arith, up, past, most, is))
      (cases_lt place (length ts))

pub place-low : (ts : List ℕ) → AllPairs ◌<◌ ts → (place : ℕ) → place < length ts → place ≤ get_or ts place 0
place-low ts order place within = omega (arith, place-is ts order place 0 within, few-before ts order (get_or ts place 0))

-- ---- a binary search

rises : (found : List ℕ) → AllPairs ◌<◌ found → (i j : ℕ) → i ≤ j → j < length found
    → get_or found i 0 ≤ get_or found j 0
rises found order i j le within =
    ⊎_elim (λ lt. let less = order i j 0 lt within in omega (arith, less))
    (λ ge. let e : i ≡ j = omega (arith, le, ge) in let same = ap (λ (k : ℕ). get_or found k 0) e in
    omega (arith, same))
    (cases_lt i j)

-- a search finds a label at its place, or at the place where it would be inserted
pub place-found : (found : List ℕ) (label : ℕ) → AllPairs ◌<◌ found → (i : ℕ)
    → IsBinarySearchResult (λ y. nat_cmp y label) found (Ok i)
    → i ≡ paired_label_count_before_label found label
place-found found label order i r =
    let at = searched found label (Ok i) r (rises found order) in
    sym (place-is found order i 0 at.0) ∙ ap (paired_label_count_before_label found) at.1

pub place-missing : (found : List ℕ) (label : ℕ) → AllPairs ◌<◌ found → (i : ℕ)
    → IsBinarySearchResult (λ y. nat_cmp y label) found (Err i)
    → i ≡ paired_label_count_before_label found label
place-missing found label order i r =
    let at = searched found label (Err i) r (rises found order) in
    by i at.0 at.1 at.2
  where
    by : (n : ℕ) → n ≤ length found → ((k : ℕ) → k < n → get_or found k 0 < label)
        → ((k : ℕ) → n ≤ k → k < length found → label < get_or found k 0)
        → n ≡ paired_label_count_before_label found label
    by zero le low high = sym (before-end found order 0 0 label (let few = few-before found order 0 in
        omega (arith, few)) (omega arith)
        (λ both. let above = high 0 (omega arith) both.0 in omega (arith, above, both.1)))
    by (suc n) le low high =
        let last = low n (omega arith) in
        let own = before-next found order n (get_or found n 0) (omega (arith, le)) refl in
        omega (
          arith,
          sym (before-end found order (get_or found n 0 + 1) (n + 1) label own (omega (arith, last))
              (λ both. let above = high (n + 1) (omega arith) both.0 in omega (arith, above, both.1))),
        )
