-- Adding needs one after another.
use Rattle.std.proofs.Common.{◌≡◌, ℕ, ◌+◌, ◌<◌, List, [], ◌∷◌, ◌++◌, length, drop, get_or, Option, Some, None, Bool}
use Rattle.std.proofs.Common.{true, false, refl, ap, ◌∙◌, arith, add-one}
use Rattle.std.specs.Prelude.{◌==◌, nat_lt, nat_le, slice_get, slice_set, if◌then◌else◌}
use Rattle.std.specs.List.{insert}
use Rattle.std.proofs.Math.Seq.{drop-cons}
use Rattle.rcell_plan.specs.declared.needs.MapNeed.{MapNeed}
use Rattle.rcell_plan.specs.Needs.{need_covering_both_needs, needs_with_added_need, needs_with_added_needs}
use Rattle.rcell_plan.specs.parts.Places.{position_among_needs, insert_or_join_need_at_position, insert_or_join_need}

-- the rest of a list is its next item and the items after it
pub next_at : {A : Type 0} (xs : List A) (i : ℕ) (d : A) → i < length xs → drop i xs ≡ get_or xs i d ∷ drop (i + 1) xs
next_at xs i d lt = rw add-one (drop-cons xs i d lt)

pub needs_with_added_needs-append : (xs ms ns : List MapNeed)
    → needs_with_added_needs xs (ms ++ ns) ≡ needs_with_added_needs (needs_with_added_needs xs ms) ns
needs_with_added_needs-append xs [] ns = refl
needs_with_added_needs-append xs (m ∷ ms) ns = needs_with_added_needs-append (needs_with_added_need xs m) ms ns

put_behind : (x n : MapNeed) (xs : List MapNeed) (at : ℕ) → insert_or_join_need (x ∷ xs) (at + 1) n ≡ x
    ∷ insert_or_join_need xs at n
put_behind x n xs at = ap (λ o. insert_or_join_need_at_position (x ∷ xs) (at + 1) n o) next
    ∙ by_option (slice_get xs at)
  where
    next : slice_get (x ∷ xs) (at + 1) ≡ slice_get xs at
    next = rw add-one refl

    by_case : (y : MapNeed) (b : Bool) → (if b then slice_set (x
        ∷ xs) (at + 1) (need_covering_both_needs y n) else insert (x ∷ xs)
        (at + 1) n) ≡ x ∷ (if b then slice_set xs at (need_covering_both_needs y n) else insert xs at n)
    by_case y true = rw add-one refl
    by_case y false = rw add-one refl

    by_option : (o : Option MapNeed) → insert_or_join_need_at_position (x ∷ xs) (at + 1) n o ≡ x
        ∷ insert_or_join_need_at_position xs at n o
    by_option None = refl
    by_option (Some y) = by_case y (y.place == n.place)

-- a need put at its place in the list is added to it
pub put_among : (xs : List MapNeed) (n : MapNeed) → insert_or_join_need xs (position_among_needs n.place xs) n
    ≡ needs_with_added_need xs n
put_among [] n = refl
put_among (x ∷ xs) n = by_case (nat_le n.place x.place) refl (put_among xs n)
  where
    there : (b : Bool) → (x.place == n.place) ≡ b → nat_le n.place x.place ≡ true
        → insert_or_join_need_at_position (x ∷ xs) 0 n (Some x) ≡ needs_with_added_need (x ∷ xs) n
    there true h le =
        let same : x.place ≡ n.place = grind arith in
        let not_before : nat_lt x.place n.place ≡ false = grind (arith, same) in
        let not_after : nat_lt n.place x.place ≡ false = grind (arith, same) in
        rw (h, not_before, not_after) refl
    there false h le =
        let not_before : nat_lt x.place n.place ≡ false = grind arith in
        let after : nat_lt n.place x.place ≡ true = grind arith in
        rw (h, not_before, after) refl

    by_case : (b : Bool) → nat_le n.place x.place ≡ b → insert_or_join_need xs (position_among_needs n.place xs) n
        ≡ needs_with_added_need xs n
        → insert_or_join_need (x ∷ xs) (position_among_needs n.place (x ∷ xs)) n ≡ needs_with_added_need (x ∷ xs) n
    by_case true le behind = rw le (there (x.place == n.place) refl le)
    by_case false le behind =
        let before : nat_lt x.place n.place ≡ true = grind arith in
        rw (le, before) (put_behind x n xs (position_among_needs n.place xs) ∙ ap (λ l. x ∷ l) behind)
