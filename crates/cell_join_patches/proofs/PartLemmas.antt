-- The measures of parts, and of one more part.
use Rattle.std.proofs.Common.{◌≡◌, ◌∙◌, ◌<◌, ◌≤◌, ℕ, ℤ, ◌+◌, List, [], ◌∷◌, ◌++◌, Contains, length, map}
use Rattle.std.proofs.Common.{true, false, refl, ap, sym, arith, ⊎_elim, min}
use Rattle.std.proofs.Common.{max, get_or, Some, None}
use Rattle.std.specs.Ordering.{int_eq}
use Rattle.std.proofs.lemmas.Bool.{cases_lt, false_from_ne_true}
use Rattle.std.proofs.lemmas.Bool.Decides.{Decides-int_eq}
use Rattle.std.proofs.lemmas.List.{length-map, map-append}
use Rattle.std.proofs.lemmas.List.Elements.{All-push, Contains-push, Contains-push_cases}
use Rattle.std.proofs.lemmas.List.Elements.{Contains-append_left}
use Rattle.std.proofs.lemmas.List.Sums.{AllPass-from_list_all, list_all-from_AllPass, sum_by_push}
use Rattle.cell_patches.specs.Patches.{IsSmallestWithProperty, IsLargestWithProperty}
use Rattle.cell_patches.specs.declared.patch.Patch.{Patch}
use Rattle.cell_join_patches.specs.declared.patch_joiner.PartFault.TheVariants.{OtherClass, TooManyCells}
use Rattle.cell_join_patches.specs.JoinedPatches.{AreMeasuresOfParts, fault_of_measures, parts_have_class}
use Rattle.cell_join_patches.specs.JoinedPatches.{sums_of_parts_are_below_limit}
use Rattle.cell_join_patches.specs.parts.BothMeasures.{measures_of_both, sums_of_both_are_below_limit}

smallest-push : (f : Patch → ℕ) (parts : List Patch) (x : Patch) (n : ℕ)
    → IsSmallestWithProperty (Contains (map f parts)) n
    → IsSmallestWithProperty (Contains (map f (parts ++ x ∷ []))) (min n (f x))
smallest-push f parts x n is =
    rw (map-append f parts (x ∷ []))
    (record {
      some = ⊎_elim
          (λ (low : n < f x).
          let e : min n (f x) ≡ n = omega (arith, low) in
          rw e (Contains-append_left (map f parts) (f x ∷ []) n is.some))
          (λ (high : f x ≤ n).
          let e : min n (f x) ≡ f x = omega (arith, high) in
          rw e (Contains-push (map f parts) (f x)))
          (cases_lt n (f x));
      least = λ k has. ⊎_elim
          (λ (old : Contains (map f parts) k). let l = is.least k old in omega (arith, l))
          (λ (new : f x ≡ k). omega (arith, new))
          (Contains-push_cases (map f parts) (f x) k has);
    })

largest-push : (f : Patch → ℕ) (parts : List Patch) (x : Patch) (n : ℕ)
    → IsLargestWithProperty (Contains (map f parts)) n
    → IsLargestWithProperty (Contains (map f (parts ++ x ∷ []))) (max n (f x))
largest-push f parts x n is =
    rw (map-append f parts (x ∷ []))
    (record {
      some = ⊎_elim
          (λ (low : n < f x).
          let e : max n (f x) ≡ f x = omega (arith, low) in
          rw e (Contains-push (map f parts) (f x)))
          (λ (high : f x ≤ n).
          let e : max n (f x) ≡ n = omega (arith, high) in
          rw e (Contains-append_left (map f parts) (f x ∷ []) n is.some))
          (cases_lt n (f x));
      most = λ k has. ⊎_elim
          (λ (old : Contains (map f parts) k). let l = is.most k old in omega (arith, l))
          (λ (new : f x ≡ k). omega (arith, new))
          (Contains-push_cases (map f parts) (f x) k has);
    })

-- the measures with one more part
pub measures-push : (parts : List Patch) (patch part : Patch) → AreMeasuresOfParts parts patch
    → patch.class ≡ part.class → AreMeasuresOfParts (parts ++ part ∷ []) (measures_of_both patch part)
measures-push parts patch part is same = record {
  class = All-push (λ (p : Patch). p.class ≡ patch.class) parts part is.class (sym same);
  cells = ap (λ (n : ℕ). n + part.cells) is.cells ∙ sym (sum_by_push (λ (p : Patch). p.cells) parts part);
  ends = ap (λ (n : ℕ). n + part.ends) is.ends ∙ sym (sum_by_push (λ (p : Patch). p.ends) parts part);
  flanks = ap (λ (n : ℕ). n + part.flanks) is.flanks ∙ sym (sum_by_push (λ (p : Patch). p.flanks) parts part);
  core = ap (λ (n : ℕ). n + part.core) is.core ∙ sym (sum_by_push (λ (p : Patch). p.core) parts part);
  first_row = smallest-push (λ (p : Patch). p.first_row) parts part patch.first_row is.first_row;
  last_row = largest-push (λ (p : Patch). p.last_row) parts part patch.last_row is.last_row;
  first_col = smallest-push (λ (p : Patch). p.first_col) parts part patch.first_col is.first_col;
  last_col = largest-push (λ (p : Patch). p.last_col) parts part patch.last_col is.last_col;
}

-- parts of a patch have its class
class-same : (parts : List Patch) (patch : Patch) (class : ℤ) → AreMeasuresOfParts parts patch → patch.class ≡ class
    → parts_have_class class parts ≡ true
class-same parts patch class is same =
    list_all-from_AllPass (λ (p : Patch). int_eq p.class class) parts
    (λ k d lt. (Decides-int_eq (get_or parts k d).class class).1 (is.class k d lt ∙ same))

-- and no other class
class-other : (parts : List Patch) (patch : Patch) (class : ℤ) → AreMeasuresOfParts parts patch
    → (patch.class ≡ class → ⊥) → parts_have_class class parts ≡ false
class-other parts patch class is apart =
    false_from_ne_true (parts_have_class class parts) (λ all.
    let each = AllPass-from_list_all (λ (p : Patch). int_eq p.class class) parts all in
    let at = is.first_row.some.0 in
    let lt : at < length parts = rw (length-map parts (λ (p : Patch). p.first_row)) at is.first_row.some.1 in
    apart (sym (is.class at patch lt) ∙ (Decides-int_eq (get_or parts at patch).class class).0 (each at patch lt)))

sums-same : (parts : List Patch) (patch part : Patch) → AreMeasuresOfParts parts patch
    → sums_of_parts_are_below_limit (parts ++ part ∷ []) ≡ sums_of_both_are_below_limit patch part
sums-same parts patch part is =
    rw (
      sum_by_push (λ (p : Patch). p.cells) parts part,
      sum_by_push (λ (p : Patch). p.ends) parts part,
      sum_by_push (λ (p : Patch). p.flanks) parts part,
      sum_by_push (λ (p : Patch). p.core) parts part,
      ← is.cells,
      ← is.ends,
      ← is.flanks,
      ← is.core,
    ) refl

-- a part with another class
pub fault-of-class : (parts : List Patch) (patch part : Patch) → AreMeasuresOfParts parts patch
    → (patch.class ≡ part.class → ⊥) → fault_of_measures parts part ≡ Some OtherClass
fault-of-class parts patch part is apart = rw (class-other parts patch part.class is apart) refl

-- a part with which a sum does not fit
pub fault-of-sums : (parts : List Patch) (patch part : Patch) → AreMeasuresOfParts parts patch
    → patch.class ≡ part.class → sums_of_both_are_below_limit patch part ≡ false
    → fault_of_measures parts part ≡ Some TooManyCells
fault-of-sums parts patch part is same over =
    rw (class-same parts patch part.class is same, sums-same parts patch part is, over) refl

-- a part that can be added
pub no-fault : (parts : List Patch) (patch part : Patch) → AreMeasuresOfParts parts patch
    → patch.class ≡ part.class → sums_of_both_are_below_limit patch part ≡ true
    → fault_of_measures parts part ≡ None
no-fault parts patch part is same fits =
    rw (class-same parts patch part.class is same, sums-same parts patch part is, fits) refl
