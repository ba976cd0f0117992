-- Adding up the entries of equal combinations in a sorted list.
use Rattle.std.proofs.Common.{◌≡◌, ℕ, zero, suc, ◌+◌, ◌<◌, ◌≤◌, List, [], ◌∷◌, length, get_or, set, take, drop, map, cond, false, refl, ap, sym, ◌∙◌, arith, add-one, length-take, subst, ◌⊎◌, inl, inr}
use Rattle.std.proofs.lemmas.List.{take_more, take_more_set, take-set-le, get_or-take, get_or-set_other, length-set, get_or-map}
use Rattle.std.proofs.Math.Seq.{map-set_same}
use Rattle.std.proofs.lemmas.Bool.{cases_lt}
use Rattle.std.proofs.lemmas.List.Elements.{All-push, All-take}
use Rattle.std.proofs.lemmas.List.Sums.{sum_by_more, sum_by-drop_more, sum_by-take-drop, sum_by_push}
use Rattle.std.specs.List.{SwappedAt, AllByRecursion}
use Rattle.std.specs.List.Sorted.{IsStrictlySortedBy}
use Rattle.std.specs.Ordering.{is_lt, is_eq, ordering_reverse}
use Rattle.std.specs.declared.cmp.Ordering.{Ordering}
use Rattle.std.specs.declared.cmp.Ordering.TheVariants.{Less, Equal, Greater}
use Rattle.cell_stats_combinations.specs.Combinations.{Combination, combination_cmp, combination_cmp_total}
use Rattle.cell_stats_combinations.specs.Listed.{CombinationCounts, entry_count_of_combination}
use Rattle.cell_stats_combinations.specs.Listed.{listed_count_of_combination, NoEntryCountIsZero}
use Rattle.cell_stats_combinations.specs.parts.Same.{are_same_combination}
use Rattle.cell_stats_combinations.specs.parts.Joined.{CombinationsNeverDescend, AreEntriesMergedUpTo}
use Rattle.cell_stats_combinations.proofs.CursorLemmas.{All-take-set}
use Rattle.cell_stats_combinations.proofs.GatheredLemmas.{entry-own, cond-add}

-- ---- from ascending neighbours to an ascending list

abbrev pub Ascends : CombinationCounts → Type 0
Ascends es = (i : ℕ) (d : Combination × ℕ) → suc i < length es → combination_cmp (get_or es i d).0 (get_or es (suc i) d).0 ≡ Less

below : (x : Combination) (es : CombinationCounts) → ((d : Combination × ℕ) → 0 < length es → combination_cmp x (get_or es 0 d).0 ≡ Less) → Ascends es → AllByRecursion (λ y. combination_cmp x y ≡ Less) (map (λ e. e.0) es)
below x [] h up = tt
below x (e ∷ es) h up =
    let here : combination_cmp x e.0 ≡ Less = h e (omega arith) in
    (here, below x es (λ d some. combination_cmp_total.trans x e.0 (get_or es 0 d).0 here (up 0 d (omega (arith, some)))) (λ i d within. up (suc i) d (omega (arith, within))))

pub strictly : (es : CombinationCounts) → Ascends es → IsStrictlySortedBy combination_cmp (map (λ e. e.0) es)
unfolding IsStrictlySortedBy
strictly [] up = tt
strictly (e ∷ es) up = (below e.0 es (λ d some. up 0 d (omega (arith, some))) (λ i d within. up (suc i) d (omega (arith, within))), strictly es (λ i d within. up (suc i) d (omega (arith, within))))

-- ---- a combination that is neither less nor equal is above

greater : (o : Ordering) → is_lt o ≡ false → is_eq o ≡ false → ordering_reverse o ≡ Less
greater Less l e = cc
greater Equal l e = cc
greater Greater l e = refl

rises : (a b : Combination) → is_lt (combination_cmp a b) ≡ false → are_same_combination a b ≡ false
    → combination_cmp b a ≡ Less
rises a b l e = combination_cmp_total.antisymm b a ∙ greater (combination_cmp a b) l e

pub any : {X : Type 0} (xs : List X) (i : ℕ) (d e : X) → i < length xs → get_or xs i d ≡ get_or xs i e
any [] i d e h = absurd (omega (arith, h))
any (x ∷ xs) zero d e h = refl
any (x ∷ xs) (suc i) d e h = any xs i d e (omega (arith, h))

-- ---- the steps of joining entries

module _ (old : CombinationCounts) (rising : CombinationsNeverDescend old) (zeros : NoEntryCountIsZero old) where
  pub joined-start : 0 < length old → AreEntriesMergedUpTo old old 0 1
  joined-start some = record {
    size = refl;
    before = omega arith;
    within = omega (arith, some);
    ascends = λ i d none. absurd (omega (arith, none));
    border = λ d within. rising 0 d within;
    others = λ i d from. refl;
    counts = λ k. sum_by-take-drop (entry_count_of_combination k) old 1;
    no_zero = All-take (λ (e : Combination × ℕ). 0 < e.1) 1 old zeros;
  }

-- if the first n + 1 counts are not 0, the first n counts are not 0
front : (n : ℕ) (xs : CombinationCounts) → NoEntryCountIsZero (take (n + 1) xs) → NoEntryCountIsZero (take n xs)
front n xs all i d within =
    let sizes : i < n = omega (arith, within, length-take n xs) in
    let more : i < length (take (n + 1) xs) = omega (arith, within, length-take n xs, length-take (n + 1) xs) in
    let same : get_or (take (n + 1) xs) i d ≡ get_or (take n xs) i d = get_or-take (n + 1) xs i d (omega (arith, sizes)) ∙ sym (get_or-take n xs i d sizes) in
    subst (λ (e : Combination × ℕ). 0 < e.1) same (all i d more)

latest : (n : ℕ) (xs : CombinationCounts) (d : Combination × ℕ) → n < length xs → NoEntryCountIsZero (take (n + 1) xs) → 0 < (get_or xs n d).1
latest n xs d within all =
    let more : n < length (take (n + 1) xs) = omega (arith, within, length-take (n + 1) xs) in
    subst (λ (e : Combination × ℕ). 0 < e.1) (get_or-take (n + 1) xs n d (omega arith)) (all n d more)

-- the keys stay the same if an entry is replaced by one with the same key
keys-set : (xs : CombinationCounts) (at j : ℕ) (y d : Combination × ℕ) → j < length xs → y.0 ≡ (get_or xs at d).0 → (get_or (set xs at y) j d).0 ≡ (get_or xs j d).0
keys-set xs at j y d within same =
    let size : j < length (set xs at y) = omega (arith, within, length-set xs at y) in
    sym (get_or-map (λ (e : Combination × ℕ). e.0) (set xs at y) j d d.0 size)
    ∙ ap (λ (ks : List Combination). get_or ks j d.0) (map-set_same (λ (e : Combination × ℕ). e.0) xs at y d same)
    ∙ get_or-map (λ (e : Combination × ℕ). e.0) xs j d d.0 within

module _ (old : CombinationCounts) (rising : CombinationsNeverDescend old) (zeros : NoEntryCountIsZero old) (now : CombinationCounts) (last at : ℕ) (d : Combination × ℕ) (joined : AreEntriesMergedUpTo old now last at) (here : at < length old) where
  last_now : last < length now
  last_now = omega (arith, joined.size, joined.before, here)

  at_now : at < length now
  at_now = omega (arith, joined.size, here)

  -- the sum of two entries of a combination is at most the combination's count in the list
  pub joined-fits : (k : Combination) → (get_or now last d).0 ≡ k → (get_or now at d).0 ≡ k → (get_or now last d).1 + (get_or now at d).1 ≤ listed_count_of_combination k old
  joined-fits k one two =
      let f = entry_count_of_combination k in
      let was : listed_count_of_combination k (take (last + 1) now) ≡ listed_count_of_combination k (take last now) + f (get_or now last d) = sum_by_more f now last d last_now in
      let left : listed_count_of_combination k (drop at old) ≡ f (get_or old at d) + listed_count_of_combination k (drop (at + 1) old) = sum_by-drop_more f old at d here in
      omega (arith, was, left, joined.counts k, entry-own k (get_or now last d) one, entry-own k (get_or now at d) two, ap f (joined.others at d (omega arith)))

  -- the last entry is set to the sum of itself and the entry at the place
  module _ (y : Combination × ℕ) (key : y.0 ≡ (get_or now last d).0) (sum : y.1 ≡ (get_or now last d).1 + (get_or old at d).1) (same : (get_or old at d).0 ≡ (get_or now last d).0) where
    key_any : (e : Combination × ℕ) → y.0 ≡ (get_or now last e).0
    key_any e = key ∙ ap (λ (x : Combination × ℕ). x.0) (any now last d e last_now)

    counts_same : (k : Combination) → listed_count_of_combination k (take (last + 1) (set now last y)) + listed_count_of_combination k (drop (at + 1) old) ≡ listed_count_of_combination k old
    counts_same k =
        let f = entry_count_of_combination k in
        let e = get_or now last d in
        let a = get_or old at d in
        let new : listed_count_of_combination k (take (last + 1) (set now last y)) ≡ listed_count_of_combination k (take last now) + f y = ap (listed_count_of_combination k) (take_more_set now last y last_now) ∙ sum_by_push f (take last now) y in
        let was : listed_count_of_combination k (take (last + 1) now) ≡ listed_count_of_combination k (take last now) + f e = sum_by_more f now last d last_now in
        let left : listed_count_of_combination k (drop at old) ≡ f a + listed_count_of_combination k (drop (at + 1) old) = sum_by-drop_more f old at d here in
        let split : f y ≡ f e + cond (are_same_combination k e.0) a.1 0 = ap (λ x. cond (are_same_combination k x) y.1 0) key ∙ ap (λ n. cond (are_same_combination k e.0) n 0) sum ∙ cond-add (are_same_combination k e.0) e.1 a.1 in
        let own : f a ≡ cond (are_same_combination k e.0) a.1 0 = ap
        (λ x. cond (are_same_combination k x) a.1 0) same in
        omega (arith, new, was, left, split, own, joined.counts k)

    pub joined-same : AreEntriesMergedUpTo old (set now last y) last (at + 1)
    joined-same = record {
      size = length-set now last y ∙ joined.size;
      before = omega (arith, joined.before);
      within = omega (arith, here);
      ascends = λ i e h.
          let first = keys-set now last i y e (omega (arith, h, last_now)) (key_any e) in
          let second = keys-set now last (i + 1) y e (omega (arith, h, last_now)) (key_any e) in
          ap (λ x. combination_cmp x (get_or (set now last y) (i + 1) e).0) first ∙ ap (combination_cmp (get_or now i e).0) second ∙ joined.ascends i e h;
      border = λ e h.
          let to : (get_or (set now last y) last e).0 ≡ (get_or old at e).0 = keys-set now last last y e last_now (key_any e) ∙ ap (λ (x : Combination × ℕ). x.0) (any now last e d last_now) ∙ sym same ∙ ap (λ (x : Combination × ℕ). x.0) (any old at d e here) in
          ap (λ x. is_lt (combination_cmp (get_or old (at + 1) e).0 x)) to ∙ rising at e h;
      others = λ i e h. get_or-set_other now last i y e (λ same. omega (arith, same, h, joined.before)) ∙ joined.others i e (omega (arith, h));
      counts = counts_same;
      no_zero = All-take-set (λ (e : Combination × ℕ). 0 < e.1) (λ (e : Combination × ℕ). 0 < e.1) now last y last_now (λ x h. h) (front last now joined.no_zero) (omega (arith, sum, latest last now d last_now joined.no_zero));
    }

  -- the entry at the place becomes the one after the last
  module _ (new : CombinationCounts) (swapped : SwappedAt now new (last + 1) at) (size : length new ≡ length now) (other : are_same_combination (get_or old at d).0 (get_or now last d).0 ≡ false) where
    next_is : (e : Combination × ℕ) → get_or new (last + 1) e ≡ get_or old at e
    next_is e = swapped.0 e ∙ joined.others at e (omega arith)

    stays : (i : ℕ) (e : Combination × ℕ) → i ≤ last → get_or new i e ≡ get_or now i e
    stays i e h = swapped.2 i e (λ same. omega (arith, same, h)) (λ same. omega (arith, same, h, joined.before))

    front_is : take (last + 1) new ≡ take (last + 1) now
    front_is =
        ap (take (last + 1)) (swapped.3 d) ∙ take-set-le (last + 1) _ at _ (omega (arith, joined.before)) ∙ take-set-le (last + 1) now (last + 1) _ (omega arith)

    last_new : last + 1 < length new
    last_new = omega (arith, size, at_now, joined.before)

    counts_next : (k : Combination) → listed_count_of_combination k (take (last + 1 + 1) new) + listed_count_of_combination k (drop (at + 1) old) ≡ listed_count_of_combination k old
    counts_next k =
        let f = entry_count_of_combination k in
        let more : listed_count_of_combination k (take (last + 1 + 1) new) ≡ listed_count_of_combination k (take (last + 1) new) + f (get_or new (last + 1) d) = sum_by_more f new (last + 1) d last_new in
        let was = ap (listed_count_of_combination k) front_is in
        let entry = ap f (next_is d) in
        let left : listed_count_of_combination k (drop at old) ≡ f (get_or old at d) + listed_count_of_combination k (drop (at + 1) old) = sum_by-drop_more f old at d here in
        omega (arith, more, was, entry, left, joined.counts k)

    climbs : (i : ℕ) (e : Combination × ℕ) → i < last + 1 → (i < last) ⊎ (last ≤ i) → combination_cmp (get_or new i e).0 (get_or new (i + 1) e).0 ≡ Less
    climbs i e h (inl low) =
        ap (λ (x : Combination × ℕ). combination_cmp x.0 (get_or new (i + 1) e).0) (stays i e (omega (arith, low)))
        ∙ ap (λ (x : Combination × ℕ). combination_cmp (get_or now i e).0 x.0) (stays (i + 1) e (omega (arith, low))) ∙ joined.ascends i e low
    climbs i e h (inr high) =
        let is : i ≡ last = omega (arith, h, high) in
        let unlike : are_same_combination (get_or old at e).0 (get_or now last e).0 ≡ false =
        ap (λ (x : Combination × ℕ). are_same_combination x.0 (get_or now last e).0) (any old at e d here) ∙ ap (λ (x : Combination × ℕ). are_same_combination (get_or old at d).0 x.0) (any now last e d last_now) ∙ other in
        ap (λ n. combination_cmp (get_or new n e).0 (get_or new (n + 1) e).0) is
        ∙ ap (λ (x : Combination × ℕ). combination_cmp x.0 (get_or new (last + 1) e).0) (stays last e (omega arith)) ∙ ap (λ (x : Combination × ℕ). combination_cmp (get_or now last e).0 x.0) (next_is e)
        ∙ rises (get_or old at e).0 (get_or now last e).0 (joined.border e here) unlike

    pub joined-next : AreEntriesMergedUpTo old new (last + 1) (at + 1)
    joined-next = record {
      size = size ∙ joined.size;
      before = omega (arith, joined.before);
      within = omega (arith, here);
      ascends = λ i e h. climbs i e h (cases_lt i last);
      border = λ e h. ap (λ (x : Combination × ℕ). is_lt (combination_cmp (get_or old (at + 1) e).0 x.0)) (next_is e) ∙ rising at e h;
      others = λ i e h. swapped.2 i e (λ same. omega (arith, same, h, joined.before)) (λ same. omega (arith, same, h)) ∙ joined.others i e (omega (arith, h));
      counts = counts_next;
      no_zero =
          let last_one : 0 < (get_or new (last + 1) d).1 = subst (λ (e : Combination × ℕ). 0 < e.1) (sym (next_is d)) (zeros at d here) in
          let before : NoEntryCountIsZero (take (last + 1) new) = subst NoEntryCountIsZero
          (sym front_is) joined.no_zero in
          subst NoEntryCountIsZero (sym (take_more new (last + 1) d last_new)) (All-push (λ (e : Combination × ℕ). 0 < e.1) (take (last + 1) new) (get_or new (last + 1) d) before last_one);
    }

-- ---- the joined list at the end

module _ (old now : CombinationCounts) (last at : ℕ) (joined : AreEntriesMergedUpTo old now last at)
    (end : length old ≤ at) where
  pub end-ascends : IsStrictlySortedBy combination_cmp (map (λ e. e.0) (take (last + 1) now))
  end-ascends = strictly (take (last + 1) now) up
    where
      up : Ascends (take (last + 1) now)
      up i d within =
          let size : suc i < last + 1 = omega (arith, within, length-take (last + 1) now) in
          let first = get_or-take (last + 1) now i d (omega (arith, size)) in
          let second = get_or-take (last + 1) now (suc i) d size in
          ap (λ (x : Combination × ℕ). combination_cmp x.0 (get_or (take (last + 1) now) (suc i) d).0) first ∙ ap (λ (x : Combination × ℕ). combination_cmp (get_or now i d).0 x.0) second
          ∙ ap (λ n. combination_cmp (get_or now i d).0 (get_or now n d).0) (sym (add-one i)) ∙ joined.ascends i d (omega (arith, size))
