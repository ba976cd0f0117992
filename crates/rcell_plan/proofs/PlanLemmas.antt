-- One more item in a list whose needs are added.
use Rattle.std.proofs.Common.{◌≡◌, ℕ, suc, ◌+◌, ◌-◌, ◌<◌, List, [], ◌∷◌, ◌++◌, length, drop, get_or, ap, sym, ◌∙◌}
use Rattle.std.proofs.Common.{arith, append_assoc}
use Rattle.std.specs.Prelude.{flat_map}
use Rattle.rcell_plan.specs.declared.needs.MapNeed.{MapNeed}
use Rattle.rcell_plan.specs.Needs.{need_of_own_cell, needs_with_added_needs}
use Rattle.rcell_plan.specs.Plans.{needs_of_given_maps_from}
use Rattle.rcell_plan.proofs.NeedLemmas.{next_at, needs_with_added_needs-append}

-- the needs of one more item are added
pub flat_more : {A : Type 0} (xs : List A) (i : ℕ) (d : A) (f : A → List MapNeed) (was now all : List MapNeed)
    → i < length xs
    → needs_with_added_needs was (flat_map f (drop i xs)) ≡ all → now ≡ needs_with_added_needs was (f (get_or xs i d))
    → needs_with_added_needs now (flat_map f (drop (i + 1) xs)) ≡ all
flat_more xs i d f was now all lt before is =
    ap (λ l. needs_with_added_needs l (flat_map f (drop (i + 1) xs))) is
    ∙ sym (needs_with_added_needs-append was (f (get_or xs i d)) (flat_map f (drop (i + 1) xs)))
    ∙ sym (ap (λ l. needs_with_added_needs was (flat_map f l)) (next_at xs i d lt))
    ∙ before

-- one more given map is added to those that remain
pub given_more : (count i : ℕ) (known more all : List (List MapNeed)) → i < count
    → known ++ needs_of_given_maps_from i (count - i) ≡ all
    → more ≡ known ++ (need_of_own_cell i ∷ []) ∷ [] → more ++ needs_of_given_maps_from (i + 1) (count - (i + 1)) ≡ all
given_more count i known more all lt before is =
    let left : count - i ≡ suc (count - (i + 1)) = omega (arith, lt) in
    ap (λ l. l ++ needs_of_given_maps_from (i + 1) (count - (i + 1))) is
    ∙ append_assoc known ((need_of_own_cell i ∷ []) ∷ []) (needs_of_given_maps_from (i + 1) (count - (i + 1)))
    ∙ sym (ap (λ n. known ++ needs_of_given_maps_from i n) left)
    ∙ before
