-- Numbers in ascending order, and the place of each number among them.
use Rattle.std.proofs.Common.{◌≡◌, ℕ, zero, suc, ◌+◌, ◌<◌, ◌≤◌, ◌||◌, List, [], ◌∷◌, length, get_or, Bool, true}
use Rattle.std.proofs.Common.{false}
use Rattle.std.proofs.Common.{ltb, eqb, max, min, refl, ap, sym, ◌∙◌, arith, ⊎_elim, eq-eqb, eqb-true}
use Rattle.std.specs.Prelude.{All, Contains}
use Rattle.std.specs.List.{AllPairs}
use Rattle.std.proofs.lemmas.Bool.{lt-ltb, le-ltb, cases_lt, cases_order, ne_eqb, or_right}
use Rattle.std.proofs.lemmas.List.{get_or_default}
use Rattle.std.proofs.lemmas.List.Elements.{All-head, All-tail}
use Rattle.cell_join_numbers.proofs.CountLemmas.{one-if, count_by-cons}
use Rattle.cell_join_numbers.specs.SparseLabels.{paired_label_count_before_label, is_paired_label}

-- ---- one more label

before-cons : (t : ℕ) (ts : List ℕ) (l : ℕ) → paired_label_count_before_label (t ∷ ts) l
    ≡ one-if (ltb t l) + paired_label_count_before_label ts l
before-cons t ts l = count_by-cons (λ k. ltb k l) t ts

before-yes : (t : ℕ) (ts : List ℕ) (l : ℕ) → t < l → paired_label_count_before_label (t ∷ ts) l
    ≡ paired_label_count_before_label ts l + 1
before-yes t ts l lt =
    let one : one-if (ltb t l) ≡ 1 = ap one-if (lt-ltb t l lt) in omega (arith, one, before-cons t ts l)

before-no : (t : ℕ) (ts : List ℕ) (l : ℕ) → l ≤ t → paired_label_count_before_label (t ∷ ts) l
    ≡ paired_label_count_before_label ts l
before-no t ts l le =
    let none : one-if (ltb t l) ≡ 0 = ap one-if (le-ltb t l le) in omega (arith, none, before-cons t ts l)

before-none : (ts : List ℕ) (l : ℕ) → All (λ t. l ≤ t) ts → paired_label_count_before_label ts l ≡ 0
before-none [] l all = refl
before-none (t ∷ ts) l all =
    before-no t ts l (All-head (λ k. l ≤ k) t ts all) ∙ before-none ts l (All-tail (λ k. l ≤ k) t ts all)

pub before-all : (ts : List ℕ) (l : ℕ) → All (λ t. t < l) ts → paired_label_count_before_label ts l ≡ length ts
before-all [] l all = refl
before-all (t ∷ ts) l all =
    let here = before-yes t ts l (All-head (λ k. k < l) t ts all) in
    let rest = before-all ts l (All-tail (λ k. k < l) t ts all) in
    omega (arith, here, rest)

later-greater : (t : ℕ) (ts : List ℕ) → AllPairs ◌<◌ (t ∷ ts) → All (λ s. t < s) ts
later-greater t ts order k d within = order 0 (suc k) d (omega arith) (omega (arith, within))

later-order : (t : ℕ) (ts : List ℕ) → AllPairs ◌<◌ (t ∷ ts) → AllPairs ◌<◌ ts
later-order t ts order i k d less within = order (suc i) (suc k) d (omega (arith, less)) (omega (arith, within))

-- ---- the places of labels

pub place-is : (ts : List ℕ) → AllPairs ◌<◌ ts → (r d : ℕ) → r < length ts
    → paired_label_count_before_label ts (get_or ts r d) ≡ r
place-is [] order r d within = absurd (omega (arith, within))
place-is (t ∷ ts) order zero d within =
    before-no t ts t (omega arith)
    ∙ before-none ts t (λ k e inside. let lt = later-greater t ts order k e inside in omega (arith, lt))
place-is (t ∷ ts) order (suc r) d within =
    let inside : r < length ts = omega (arith, within) in
    let here = before-yes t ts (get_or ts r d) (later-greater t ts order r d inside) in
    omega (arith, here, place-is ts (later-order t ts order) r d inside)

pub touching-at : (ts : List ℕ) (r d : ℕ) → r < length ts → is_paired_label ts (get_or ts r d) ≡ true
touching-at [] r d within = absurd (omega (arith, within))
touching-at (t ∷ ts) zero d within = ap (λ b. b || is_paired_label ts t) (eq-eqb t t refl)
touching-at (t ∷ ts) (suc r) d within =
    or_right (eqb (get_or ts r d) t) (is_paired_label ts (get_or ts r d)) (touching-at ts r d (omega (arith, within)))

-- a label in the list, with its place
pub record HasPlace (ts : List ℕ) (l : ℕ) : Type 0 where
  pub inside : paired_label_count_before_label ts l < length ts
  pub label : get_or ts (paired_label_count_before_label ts l) 0 ≡ l

pub contained-place : (ts : List ℕ) → AllPairs ◌<◌ ts → (l : ℕ) → Contains ts l → HasPlace ts l
contained-place ts order l c =
    let place : paired_label_count_before_label ts l ≡ c.0 = ap (paired_label_count_before_label ts) (sym c.2)
    ∙ place-is ts order c.0 l c.1 in
    record {
      inside = omega (arith, place, c.1);
      label = ap (λ (k : ℕ). get_or ts k 0) place ∙ get_or_default ts c.0 0 l c.1 ∙ c.2;
    }

touching-contained : (ts : List ℕ) (l : ℕ) → is_paired_label ts l ≡ true → Contains ts l
touching-contained [] l is = cc
touching-contained (t ∷ ts) l is = by (touching-contained ts l) (eqb l t) refl is
  where
    by : (is_paired_label ts l ≡ true → Contains ts l) → (b : Bool) → eqb l t ≡ b → (b || is_paired_label ts l) ≡ true →
        Contains (t ∷ ts) l
    by rest true e either = (0, omega arith, sym (eqb-true l t e))
    by rest false e either = let later = rest either in (suc later.0, omega (arith, later.1), later.2)

pub touching-place : (ts : List ℕ) → AllPairs ◌<◌ ts → (l : ℕ) → is_paired_label ts l ≡ true → HasPlace ts l
touching-place ts order l is = contained-place ts order l (touching-contained ts l is)

-- ---- the next label

not-first : (t : ℕ) (ts : List ℕ) (l : ℕ) → (l ≡ t → ⊥) → one-if (is_paired_label (t ∷ ts) l)
    ≡ one-if (is_paired_label ts l)
not-first t ts l ne = ap (λ b. one-if (b || is_paired_label ts l)) (ne_eqb l t ne)

pub next-before : (ts : List ℕ) → AllPairs ◌<◌ ts → (l : ℕ) →
    paired_label_count_before_label ts (suc l) ≡ paired_label_count_before_label ts l + one-if (is_paired_label ts l)
next-before [] order l = refl
next-before (t ∷ ts) order l =
    let rest = next-before ts (later-order t ts order) l in
    ⊎_elim
    (λ same.
    let above : All (λ s. suc l ≤ s) ts = λ k d within.
    let lt = later-greater t ts order k d within in omega (arith, lt, same) in
    let one : one-if (is_paired_label (t ∷ ts) l) ≡ 1 =
    ap (λ b. one-if (b || is_paired_label ts l)) (eq-eqb l t (sym same)) in
    let there = before-yes t ts (suc l) (omega (arith, same)) in
    let here = before-no t ts l (omega (arith, same)) in
    let none = before-none ts (suc l) above in
    let none_too = before-none ts l (λ k d within. let le = above k d within in omega (arith, le)) in
    omega (arith, one, there, here, none, none_too))
    (λ apart. ⊎_elim
    (λ less.
    let there = before-yes t ts (suc l) (omega (arith, less)) in
    let here = before-yes t ts l less in
    omega (arith, there, here, rest, not-first t ts l (λ e. absurd (omega (arith, e, less)))))
    (λ more.
    let there = before-no t ts (suc l) (omega (arith, more)) in
    let here = before-no t ts l (omega (arith, more)) in
    omega (arith, there, here, rest, not-first t ts l (λ e. absurd (omega (arith, e, more)))))
    apart)
    (cases_order t l)

pub before-zero : (ts : List ℕ) → paired_label_count_before_label ts 0 ≡ 0
before-zero ts = before-none ts 0 (λ k d within. omega arith)

pub few-before : (ts : List ℕ) → AllPairs ◌<◌ ts → (l : ℕ) → paired_label_count_before_label ts l ≤ l
few-before ts order zero = omega (arith, before-zero ts)
few-before ts order (suc l) =
    omega (arith, next-before ts order l, few-before ts order l, at-most-one (is_paired_label ts l))
  where
    at-most-one : (b : Bool) → one-if b ≤ 1
    at-most-one true = omega arith
    at-most-one false = omega arith

-- ---- the places of two labels

module _ (ts : List ℕ) (order : AllPairs ◌<◌ ts) where
  abbrev at : ℕ → ℕ
  at r = get_or ts r 0

  pub one-place : (r s : ℕ) → r < length ts → s < length ts → at r ≡ at s → r ≡ s
  one-place r s one other same =
      ⊎_elim (λ e. e)
      (λ apart. ⊎_elim
      (λ less. absurd (let lt = order r s 0 less other in omega (arith, lt, same)))
      (λ more. absurd (let lt = order s r 0 more one in omega (arith, lt, same)))
      apart)
      (cases_order r s)

  pub max-at : (r s : ℕ) → r < length ts → s < length ts → max (at r) (at s) ≡ at (max r s)
  max-at r s one other =
      ⊎_elim
      (λ less. let lt = order r s 0 less other in
      let most : max (at r) (at s) ≡ at s = omega (arith, lt) in
      let e : s ≡ max r s = omega (arith, less) in most ∙ ap at e)
      (λ le. ⊎_elim
      (λ more. let lt = order s r 0 more one in
      let most : max (at r) (at s) ≡ at r = omega (arith, lt) in
      let e : r ≡ max r s = omega (arith, le) in most ∙ ap at e)
      (λ ge. let e : s ≡ r = omega (arith, le, ge) in
      let same : at s ≡ at r = ap at e in
      let most : max (at r) (at s) ≡ at r = omega (arith, same) in
      let back : r ≡ max r s = omega (arith, e) in most ∙ ap at back)
      (cases_lt s r))
      (cases_lt r s)

  pub min-at : (r s : ℕ) → r < length ts → s < length ts → min (at r) (at s) ≡ at (min r s)
  min-at r s one other =
      ⊎_elim
      (λ less. let lt = order r s 0 less other in
      let least : min (at r) (at s) ≡ at r = omega (arith, lt) in
      let e : r ≡ min r s = omega (arith, less) in least ∙ ap at e)
      (λ le. ⊎_elim
      (λ more. let lt = order s r 0 more one in
      let least : min (at r) (at s) ≡ at s = omega (arith, lt) in
      let e : s ≡ min r s = omega (arith, le) in least ∙ ap at e)
      (λ ge. let e : s ≡ r = omega (arith, le, ge) in
      let same : at s ≡ at r = ap at e in
      let least : min (at r) (at s) ≡ at s = omega (arith, same) in
      let back : s ≡ min r s = omega (arith, e) in least ∙ ap at back)
      (cases_lt s r))
      (cases_lt r s)
