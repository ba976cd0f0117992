-- The most frequent category is the one with the longest run in sorted order.
use Rattle.std.proofs.Common.{◌≡◌, ◌<◌, ◌≤◌, ◌+◌, ◌-◌, ◌<ℤ◌, ◌≤ℤ◌, ◌⊎◌, inl, inr, ℕ, ℤ, List, [], ◌∷◌, ◌++◌, length}
use Rattle.std.proofs.Common.{take, get_or, refl, sym, ap, subst, ◌∙◌, Some, None, Bool, true, false, true≢false, max}
use Rattle.std.proofs.Common.{arith, All, IsPermutation, IsSorted, is_lt, int_cmp, Ordering, Less, Equal, Greater}
use Rattle.std.proofs.Common.{append-nil, length-take-le, take_all, map, set}
use Rattle.std.specs.Prelude.{fold, filter, nat_lt, nat_le, not, ◌&&◌, if◌then◌else◌}
use Rattle.std.specs.Ordering.{MatchOrdering}
use Rattle.std.specs.Cmp.{int_ranks, signed_Decides}
use Rattle.std.specs.Int.{int_min}
use Rattle.std.specs.Int.Signed.{<ℤ_irrefl}
use Rattle.std.specs.List.{list_all, list_any}
use Rattle.std.proofs.Math.Bool.{and-false}
use Rattle.std.proofs.lemmas.Int.{ints, int_min_is, by_lt_z}
use Rattle.std.proofs.lemmas.List.{take_more, take_more_set, take-set}
use Rattle.std.proofs.lemmas.List.Elements.{All-nil, All-cons, All-head, All-tail, All-weaker, All-get_or}
use Rattle.std.proofs.lemmas.List.Elements.{filter-append}
use Rattle.std.proofs.lemmas.List.Sorted.{sum_by-IsPermutation, All-permutation, IsPermutation-sym, length_permutation}
use Rattle.std.proofs.lemmas.List.Sums.{sum_by_push, sum_by-cons, list_all-from_AllPass, length-filter}
use Rattle.std.proofs.lemmas.List.Sums.{count_by-le-length}
use Rattle.cell_core_values.specs.Cell.{compare_cells_null_last, cell_eq, cell_eq-Decides}
use Rattle.cell_core.specs.Grid.{CellValue}
use Rattle.cell_calc_language.specs.CellOperators.{lesser, least, non_null_cells, is_null, occurrences}
use Rattle.cell_calc_language.specs.CellOperators.{is_most_frequent_cell}
use Rattle.cell_calc_language.specs.CellOperators.{most_frequent, mode}
use Rattle.cell_calc_modes.specs.parts.Modes.{IsMostFrequentAndLastCategory, AreMostFrequentAndLastCells}
use Rattle.cell_calc_modes.specs.parts.Modes.{cell_unless_other_null}
use Rattle.cell_calc_modes.specs.ColumnCells.{at, cells_at_column}
use Rattle.cell_calc_modes.proofs.Columns.{column_item, column_length, whole}

-- a claim that follows from w < v, from w = v and from v < w is true
pub by_order : {P : Type 0} (w v : ℤ) → (w <ℤ v → P) → (w ≡ v → P) → (v <ℤ w → P) → P
by_order {P} w v less same greater = go (int_cmp w v) (int_ranks w v)
  where
    go : (o : Ordering) → MatchOrdering o (w <ℤ v) (w ≡ v) (v <ℤ w) → P
    go Less h = less h
    go Equal h = same h
    go Greater h = greater h

pub differ : (w v : ℤ) → (w ≡ v → ⊥) → cell_eq (Some w) (Some v) ≡ false
differ w v other = by_case (cell_eq (Some w) (Some v)) refl
  where
    by_case : (t : Bool) → cell_eq (Some w) (Some v) ≡ t → t ≡ false
    by_case true e = absurd (other ((signed_Decides w v).0 e))
    by_case false e = refl

pub is_self : (v : ℤ) → cell_eq (Some v) (Some v) ≡ true
is_self v = (signed_Decides v v).1 refl

pub less_differ : (w v : ℤ) → w <ℤ v → w ≡ v → ⊥
less_differ w v less same = <ℤ_irrefl (subst (λ x. x <ℤ v) same less)

pub greater_differ : (w v : ℤ) → v <ℤ w → w ≡ v → ⊥
greater_differ w v less same = <ℤ_irrefl (subst (λ x. v <ℤ x) same less)

-- one more category at the end adds 1 to its count
one_more : (w : ℤ) (cells : List CellValue) (y : CellValue)
    → occurrences (Some w) (cells ++ y ∷ []) ≡ occurrences (Some w) cells + (if cell_eq (Some w) y then 1 else 0)
one_more w cells y = sum_by_push _ cells y

pub same_more : (v : ℤ) (cells : List CellValue)
    → occurrences (Some v) (cells ++ Some v ∷ []) ≡ occurrences (Some v) cells + 1
same_more v cells = one_more v cells (Some v) ∙ ap (λ t. occurrences (Some v) cells + (if t then 1 else 0)) (is_self v)

pub other_more : (w v : ℤ) (cells : List CellValue) → (w ≡ v → ⊥)
    → occurrences (Some w) (cells ++ Some v ∷ []) ≡ occurrences (Some w) cells
other_more w v cells other =
    let e = one_more w cells (Some v)
    ∙ ap (λ t. occurrences (Some w) cells + (if t then 1 else 0)) (differ w v other) in
    omega (arith, e)

-- the number of times that the next category occurs is the length of its run
next_run : (cells : List CellValue) (b : ℤ) (most : ℕ) (u : ℤ) (run : ℕ) (v : ℤ) (n : ℕ)
    → IsMostFrequentAndLastCategory cells b most u run → (v <ℤ u → ⊥)
    → n ≡ (if cell_eq (Some v) (Some u) then run else 0) + 1
    → occurrences (Some v) (cells ++ Some v ∷ []) ≡ n
next_run cells b most u run v n is not_less e = by_order v u
    (λ h. absurd (not_less h))
    (λ h.
    let t : cell_eq (Some v) (Some u) ≡ true = subst (λ x. cell_eq (Some v) (Some x) ≡ true) h (is_self v) in
    let so = e ∙ ap (λ t. (if t then run else 0) + 1) t in
    let r : occurrences (Some v) cells ≡ run = subst (λ x. occurrences (Some x) cells ≡ run) (sym h) is.running in
    let s = same_more v cells in
    omega (arith, so, r, s))
    (λ h.
    let so = e ∙ ap (λ t. (if t then run else 0) + 1) (differ v u (greater_differ v u h)) in
    let r = is.above v h in
    let s = same_more v cells in
    omega (arith, so, r, s))

-- if the last run is longer than the longest, it becomes the longest
new_longest : (cells : List CellValue) (b : ℤ) (most : ℕ) (u : ℤ) (run : ℕ) (v : ℤ) (n : ℕ)
    → IsMostFrequentAndLastCategory cells b most u run → (v <ℤ u → ⊥)
    → occurrences (Some v) (cells ++ Some v ∷ []) ≡ n → most < n
    → IsMostFrequentAndLastCategory (cells ++ Some v ∷ []) v n v n
new_longest cells b most u run v n is not_less counted more = record {
  within = λ w. by_order w v (λ h. let k = other_more w v cells (less_differ w v h) in let a = is.within w in omega
      (arith, k, a))
      (λ h. let k : occurrences (Some w) (cells ++ Some v ∷ [])
      ≡ n = subst (λ x. occurrences (Some x) (cells ++ Some v ∷ []) ≡ n) (sym h) counted in omega (arith, k))
      (λ h. let k = other_more w v cells (greater_differ w v h) in let a = is.within w in omega (arith, k, a));
  below = λ w h. let k = other_more w v cells (less_differ w v h) in let a = is.within w in omega (arith, k, a);
  same = counted;
  running = counted;
  above = λ w h. other_more w v cells (greater_differ w v h) ∙ is.above w (beyond w h);
  positive = omega arith;
}
  where
    beyond : (w : ℤ) → v <ℤ w → u <ℤ w
    beyond w h = by_lt_z v u (λ k. absurd (not_less k)) (λ k. omega (arith, ints, k, h))

-- if the last run is not longer than the longest, the longest stays
old_longest : (cells : List CellValue) (b : ℤ) (most : ℕ) (u : ℤ) (run : ℕ) (v : ℤ) (n : ℕ)
    → IsMostFrequentAndLastCategory cells b most u run → (v <ℤ u → ⊥)
    → occurrences (Some v) (cells ++ Some v ∷ []) ≡ n → n ≤ most
    → IsMostFrequentAndLastCategory (cells ++ Some v ∷ []) b most v n
old_longest cells b most u run v n is not_less counted few = record {
  within = λ w. by_order w v (λ h. let k = other_more w v cells (less_differ w v h) in let a = is.within w in omega
      (arith, k, a))
      (λ h. let k : occurrences (Some w) (cells ++ Some v ∷ [])
      ≡ n = subst (λ x. occurrences (Some x) (cells ++ Some v ∷ []) ≡ n) (sym h) counted in omega (arith, k))
      (λ h. let k = other_more w v cells (greater_differ w v h) in let a = is.within w in omega (arith, k, a));
  below = λ w h. let k = other_more w v cells (λ e. too_late w h e) in let a = is.below w h in omega (arith, k, a);
  same = other_more b v cells apart ∙ is.same;
  running = counted;
  above = λ w h. other_more w v cells (greater_differ w v h) ∙ is.above w (beyond w h);
  positive = is.positive;
}
  where
    beyond : (w : ℤ) → v <ℤ w → u <ℤ w
    beyond w h = by_lt_z v u (λ k. absurd (not_less k)) (λ k. omega (arith, ints, k, h))

    apart : b ≡ v → ⊥
    apart e =
        let s = same_more v cells in
        let k : occurrences (Some v) cells ≡ most = subst (λ x. occurrences (Some x) cells ≡ most) e is.same in
        omega (arith, s, k, counted)

    too_late : (w : ℤ) → w <ℤ b → w ≡ v → ⊥
    too_late w h e =
        let none = is.above b (beyond b (subst (λ x. x <ℤ b) e h)) in
        let some = is.positive in
        let k = is.same in
        omega (arith, none, some, k)

-- if v is not less than u in the order of cells, v is not below u as a number
not_below : (v u : ℤ) → is_lt (compare_cells_null_last (Some v) (Some u)) ≡ false → v <ℤ u → ⊥
not_below v u e less = go (int_cmp v u) (int_ranks v u) e
  where
    go : (o : Ordering) → MatchOrdering o (v <ℤ u) (v ≡ u) (u <ℤ v) → is_lt o ≡ false → ⊥
    go Less h k = true≢false k
    go Equal h k = less_differ v u less h
    go Greater h k = omega (arith, ints, h, less)

-- one more cell updates the longest run
longest_more : (cells : List CellValue) (best : CellValue) (most : ℕ) (last : CellValue) (run : ℕ) (y : CellValue)
    (n : ℕ)
    → AreMostFrequentAndLastCells cells best most last run → is_null y ≡ false
    → is_lt (compare_cells_null_last y last) ≡ false
    → n ≡ (if cell_eq y last then run else 0) + 1
    → AreMostFrequentAndLastCells (cells ++ y ∷ []) (if nat_lt most n then y else best) (max most n) y n
longest_more cells None most last run y n is non_null_cells order e = absurd is
longest_more cells (Some b) most None run y n is non_null_cells order e = absurd is
longest_more cells (Some b) most (Some u) run None n is non_null_cells order e = absurd (true≢false non_null_cells)
longest_more cells (Some b) most (Some u) run (Some v) n is non_null_cells order e = by_case (nat_lt most n) refl
  where
    counted : occurrences (Some v) (cells ++ Some v ∷ []) ≡ n
    counted = next_run cells b most u run v n is (not_below v u order) e

    by_case : (t : Bool) → nat_lt most n ≡ t
        → AreMostFrequentAndLastCells (cells ++ Some v ∷ []) (if t then Some v else Some b) (max most n) (Some v) n
    by_case true t =
        let more : most < n = grind arith in
        let most_is : max most n ≡ n = omega arith in
        rw most_is (new_longest cells b most u run v n is (not_below v u order) counted more)
    by_case false t =
        let few : n ≤ most = grind arith in
        let most_is : max most n ≡ most = omega arith in
        rw most_is (old_longest cells b most u run v n is (not_below v u order) counted few)

-- in the first cell alone, the longest run is that cell, of length 1
pub longest_first : (cells : List CellValue) → 0 < length cells → All (λ cell. is_null cell ≡ false) cells
    → AreMostFrequentAndLastCells (take 1 cells) (at cells 0) 1 (at cells 0) 1
longest_first [] some non_null_cells = absurd (let no : ⊥ = omega arith in no)
longest_first (None ∷ cells) some non_null_cells =
    absurd (true≢false (All-head (λ cell. is_null cell ≡ false) None cells non_null_cells))
longest_first (Some v ∷ cells) some non_null_cells = record {
  within = λ w. by_order w v (λ h. let k = other_more w v [] (less_differ w v h) in omega (arith, k))
      (λ h. let k : occurrences (Some w) (Some v ∷ [])
      ≡ 1 = subst (λ x. occurrences (Some x) (Some v ∷ []) ≡ 1) (sym h) (same_more v []) in omega (arith, k))
      (λ h. let k = other_more w v [] (greater_differ w v h) in omega (arith, k));
  below = λ w h. let k = other_more w v [] (less_differ w v h) in omega (arith, k);
  same = same_more v [];
  running = same_more v [];
  above = λ w h. other_more w v [] (greater_differ w v h);
  positive = omega arith;
}

-- one more cell in the loop updates the longest run
pub longest_step : (cells : List CellValue) (i : ℕ) (best : CellValue) (most run n : ℕ) (cell last : CellValue)
    → 1 ≤ i → i < length cells → All (λ cell. is_null cell ≡ false) cells → IsSorted compare_cells_null_last cells
    → AreMostFrequentAndLastCells (take i cells) best most (at cells (i - 1)) run
    → cell ≡ at cells i → last ≡ at cells (i - 1) → n ≡ (if cell_eq cell last then run else 0) + 1
    → AreMostFrequentAndLastCells (take (i + 1) cells) (if nat_lt most n then cell else best) (max most n)
    (at cells (i + 1 - 1)) n
longest_step cells i best most run n cell last some within non_null_cells sorted is cell_is last_is e =
    let order : is_lt (compare_cells_null_last (at cells i) (at cells (i - 1))) ≡ false =
    subst (λ k. is_lt (compare_cells_null_last (at cells k) (at cells (i - 1)))
    ≡ false) (omega arith) (sorted (i - 1) None (omega arith) (omega arith)) in
    let here : i + 1 - 1 ≡ i = omega arith in
    let more = longest_more (take i cells) best most (at cells (i - 1)) run (at cells i) n is
    (All-get_or (λ cell. is_null cell ≡ false) cells i None within non_null_cells) order
    (e ∙ ap (λ x. (if cell_eq x last then run else 0) + 1) cell_is
    ∙ ap (λ x. (if cell_eq (at cells i) x then run else 0) + 1) last_is) in
    rw (here, cell_is, take_more cells i None within) more

-- the smallest category that passes a test is found by folding the cells that pass it
least_on : (p : CellValue → Bool) (b : ℤ) (cells : List CellValue) (a : ℤ)
    → All (λ cell. is_null cell ≡ false) cells → ((w : ℤ) → w <ℤ b → p (Some w) ≡ false) → p (Some b) ≡ true
    → b ≤ℤ a → (a ≡ b) ⊎ (0 < occurrences (Some b) cells) → fold lesser (Some a) (filter p cells) ≡ Some b
least_on p b [] a all low holds from (inl e) = ap Some e
least_on p b [] a all low holds from (inr h) = absurd (let no : ⊥ = omega arith in no)
least_on p b (None ∷ cells) a all low holds from there = absurd
    (true≢false (All-head (λ cell. is_null cell ≡ false) None cells all))
least_on p b (Some v ∷ cells) a all low holds from there =
    by_case (p (Some v)) refl
    (λ e. least_on p b cells (int_min a v) rest low holds (lowest (not_low e)) (taken (not_low e) there))
    (λ e. least_on p b cells a rest low holds from (passed e there))
  where
    rest : All (λ cell. is_null cell ≡ false) cells
    rest = All-tail (λ cell. is_null cell ≡ false) (Some v) cells all

    count : occurrences (Some b) (Some v ∷ cells)
        ≡ (if cell_eq (Some b) (Some v) then 1 else 0) + occurrences (Some b) cells
    count = sum_by-cons _ (Some v) cells

    later : (b ≡ v → ⊥) → 0 < occurrences (Some b) (Some v ∷ cells) → 0 < occurrences (Some b) cells
    later other h = let e = count
        ∙ ap (λ t. (if t then 1 else 0) + occurrences (Some b) cells) (differ b v other) in omega (arith, e, h)

    not_low : p (Some v) ≡ true → b ≤ℤ v
    not_low e = by_lt_z v b (λ h. absurd (true≢false (sym e ∙ low v h))) (λ h. h)

    lowest : b ≤ℤ v → b ≤ℤ int_min a v
    lowest h = let m = int_min_is a v in omega (arith, ints, m, h, from)

    taken : b ≤ℤ v → (a ≡ b) ⊎ (0 < occurrences (Some b) (Some v ∷ cells))
        → (int_min a v ≡ b) ⊎ (0 < occurrences (Some b) cells)
    taken h (inl e) = inl (let m = int_min_is a v in omega (arith, ints, m, h, e))
    taken h (inr k) = by_order b v
        (λ l. inr (later (less_differ b v l) k))
        (λ e. inl (let m = int_min_is a v in omega (arith, ints, m, e, from)))
        (λ l. inr (later (greater_differ b v l) k))

    passed : p (Some v) ≡ false → (a ≡ b) ⊎ (0 < occurrences (Some b) (Some v ∷ cells))
        → (a ≡ b) ⊎ (0 < occurrences (Some b) cells)
    passed e (inl h) = inl h
    passed e (inr h) = inr (later (λ s. true≢false (sym holds ∙ ap (λ x. p (Some x)) s ∙ e)) h)

    by_case : (t : Bool) → p (Some v) ≡ t
        → (p (Some v) ≡ true → fold lesser (Some (int_min a v)) (filter p cells) ≡ Some b)
        → (p (Some v) ≡ false → fold lesser (Some a) (filter p cells) ≡ Some b)
        → fold lesser (Some a) (if t then Some v ∷ filter p cells else filter p cells) ≡ Some b
    by_case true e passes fails = passes e
    by_case false e passes fails = fails e

least_of : (p : CellValue → Bool) (b : ℤ) (cells : List CellValue)
    → All (λ cell. is_null cell ≡ false) cells → ((w : ℤ) → w <ℤ b → p (Some w) ≡ false) → p (Some b) ≡ true
    → 0 < occurrences (Some b) cells → least (filter p cells) ≡ Some b
least_of p b [] all low holds there = absurd (let no : ⊥ = omega arith in no)
least_of p b (None ∷ cells) all low holds there = absurd
    (true≢false (All-head (λ cell. is_null cell ≡ false) None cells all))
least_of p b (Some v ∷ cells) all low holds there =
    by_case (p (Some v)) refl
    (λ e. least_on p b cells v rest low holds (not_low e)
    (by_order b v (λ l. inr (later (less_differ b v l))) (λ s. inl (sym s))
    (λ l. inr (later (greater_differ b v l)))))
    (λ e. least_of p b cells rest low holds (later (λ s. true≢false (sym holds ∙ ap (λ x. p (Some x)) s ∙ e))))
  where
    rest : All (λ cell. is_null cell ≡ false) cells
    rest = All-tail (λ cell. is_null cell ≡ false) (Some v) cells all

    count : occurrences (Some b) (Some v ∷ cells)
        ≡ (if cell_eq (Some b) (Some v) then 1 else 0) + occurrences (Some b) cells
    count = sum_by-cons _ (Some v) cells

    later : (b ≡ v → ⊥) → 0 < occurrences (Some b) cells
    later other = let e = count
        ∙ ap (λ t. (if t then 1 else 0) + occurrences (Some b) cells) (differ b v other) in omega (arith, e, there)

    not_low : p (Some v) ≡ true → b ≤ℤ v
    not_low e = by_lt_z v b (λ h. absurd (true≢false (sym e ∙ low v h))) (λ h. h)

    by_case : (t : Bool) → p (Some v) ≡ t
        → (p (Some v) ≡ true → fold lesser (Some v) (filter p cells) ≡ Some b)
        → (p (Some v) ≡ false → least (filter p cells) ≡ Some b)
        → least (if t then Some v ∷ filter p cells else filter p cells) ≡ Some b
    by_case true e passes fails = passes e
    by_case false e passes fails = fails e

-- if a category that occurs fails a test, not all cells pass the test
fails_one : (q : CellValue → Bool) (b : ℤ) (cells : List CellValue) → q (Some b) ≡ false
    → 0 < occurrences (Some b) cells → list_all q cells ≡ false
fails_one q b [] fails there = absurd (let no : ⊥ = omega arith in no)
fails_one q b (y ∷ cells) fails there = by_case (cell_eq (Some b) y) refl (λ e. fails_one q b cells fails (later e))
  where
    count : occurrences (Some b) (y ∷ cells) ≡ (if cell_eq (Some b) y then 1 else 0) + occurrences (Some b) cells
    count = sum_by-cons _ y cells

    later : cell_eq (Some b) y ≡ false → 0 < occurrences (Some b) cells
    later e = let k = count ∙ ap (λ t. (if t then 1 else 0) + occurrences (Some b) cells) e in omega (arith, k, there)

    by_case : (t : Bool) → cell_eq (Some b) y ≡ t → (cell_eq (Some b) y ≡ false → list_all q cells ≡ false)
        → (q y && list_all q cells) ≡ false
    by_case true e others = ap (λ x. q x && list_all q cells) (sym ((cell_eq-Decides (Some b) y).0 e))
        ∙ ap (λ t. t && list_all q cells) fails
    by_case false e others = ap (λ t. q y && t) (others e) ∙ and-false (q y)

-- the smallest of the categories that occur most often is the most frequent category
pub frequent_is : (cells : List CellValue) (b : ℤ) (most : ℕ) → All (λ cell. is_null cell ≡ false) cells
    → ((w : ℤ) → occurrences (Some w) cells ≤ most) → ((w : ℤ) → w <ℤ b → occurrences (Some w) cells < most)
    → occurrences (Some b) cells ≡ most → 0 < most → most_frequent cells ≡ Some b
frequent_is cells b most all within below same positive =
    least_of (is_most_frequent_cell cells) b cells all low
    (list_all-from_AllPass _ cells (All-weaker (λ cell. is_null cell ≡ false) _ passes cells all)) there
  where
    there : 0 < occurrences (Some b) cells
    there = omega (arith, same, positive)

    low : (w : ℤ) → w <ℤ b → is_most_frequent_cell cells (Some w) ≡ false
    low w h =
        let less = below w h in
        let fails : nat_le (occurrences (Some b) cells) (occurrences (Some w) cells)
        ≡ false = grind (arith, less, same) in
        fails_one (λ x. nat_le (occurrences x cells) (occurrences (Some w) cells)) b cells fails there

    passes : (x : CellValue) → is_null x ≡ false → nat_le (occurrences x cells) (occurrences (Some b) cells) ≡ true
    passes None h = absurd (true≢false h)
    passes (Some w) h = let few = within w in grind (arith, few, same)

-- the category of the longest run in sorted cells is the most frequent category of these cells in any order
pub longest_is : (cells xs : List CellValue) (best : CellValue) (most : ℕ) (last : CellValue) (run : ℕ)
    → AreMostFrequentAndLastCells cells best most last run → All (λ cell. is_null cell ≡ false) cells
    → IsPermutation xs cells
    → best ≡ most_frequent xs
longest_is cells xs None most last run is all moved = absurd is
longest_is cells xs (Some b) most None run is all moved = absurd is
longest_is cells xs (Some b) most (Some u) run is all moved =
    sym (frequent_is xs b most (All-permutation (λ cell. is_null cell ≡ false) cells xs
    (IsPermutation-sym xs cells moved) all)
    (λ w. subst (λ n. n ≤ most) (occurs w) (is.within w)) (λ w h. subst (λ n. n < most) (occurs w) (is.below w h))
    (sym (occurs b) ∙ is.same) is.positive)
  where
    occurs : (w : ℤ) → occurrences (Some w) cells ≡ occurrences (Some w) xs
    occurs w = sum_by-IsPermutation (λ x. if cell_eq (Some w) x then 1 else 0) xs cells moved

-- after the loop, the category of the longest run is the most frequent category of all cells
pub longest_all : (cells xs : List CellValue) (i : ℕ) (best : CellValue) (most run : ℕ)
    → length cells ≤ i → All (λ cell. is_null cell ≡ false) cells
    → AreMostFrequentAndLastCells (take i cells) best most (at cells (i - 1)) run
    → IsPermutation xs cells → best ≡ most_frequent xs
longest_all cells xs i best most run le all is moved =
    longest_is cells xs best most (at cells (i - 1)) run
    (subst (λ l. AreMostFrequentAndLastCells l best most (at cells (i - 1)) run) (take_all i cells le) is) all moved

-- a part that is kept or left out is at most the full number
pub kept_within : (t : Bool) (whole n : ℕ) → n ≡ (if t then whole else 0) → n ≤ whole
kept_within true whole n e = omega (arith, e)
kept_within false whole n e = omega (arith, e)

pub one_at_most : (t : Bool) (n : ℕ) → n ≡ (if t then 0 else 1) → n ≤ 1
one_at_most true n e = omega (arith, e)
one_at_most false n e = omega (arith, e)

-- without cells, there is no most frequent category
pub none_of : (cells xs : List CellValue) → length cells ≡ 0 → IsPermutation xs cells → None ≡ most_frequent xs
none_of cells [] empty moved = refl
none_of cells (x ∷ xs) empty moved = let long = length_permutation (x ∷ xs) cells moved in absurd
    (let no : ⊥ = omega (arith, long, empty) in no)

-- the category of one more argument is kept, and null is left out
pub gather_step : {V : Type 0} (f : V
    → List CellValue) (args : List V) (i k count n : ℕ) (x : V) (row : List CellValue) (cell : CellValue)
    (cells : List CellValue)
    → i < length args → x ≡ get_or args i x → row ≡ f x → cell ≡ at row k → count < length cells
    → take count cells ≡ non_null_cells (take i (cells_at_column k (map f args))) → n ≡ (if is_null cell then 0 else 1)
    → take (count + n) (set cells count cell) ≡ non_null_cells (take (i + 1) (cells_at_column k (map f args)))
gather_step f args i k count n x row cell cells lt is slice cell_is room so_far n_is =
    kept cell n_is
    ∙ ap (λ l. l ++ non_null_cells (cell ∷ [])) so_far
    ∙ sym (filter-append (λ a. not (is_null a)) (take i col) (cell ∷ []))
    ∙ ap (λ v. non_null_cells (take i col ++ v ∷ []))
    (cell_is ∙ ap (λ o. at o k) slice ∙ sym (column_item f args i k x lt is))
    ∙ ap non_null_cells (sym (take_more col i None within))
  where
    col : List CellValue
    col = cells_at_column k (map f args)

    within : i < length (cells_at_column k (map f args))
    within = rw (column_length f args k) lt

    kept : (v : CellValue) → n ≡ (if is_null v then 0 else 1)
        → take (count + n) (set cells count v) ≡ take count cells ++ non_null_cells (v ∷ [])
    kept None e =
        let same : count + n ≡ count = omega (arith, e) in
        ap (λ m. take m (set cells count None)) same ∙ take-set cells count None ∙ sym (append-nil (take count cells))
    kept (Some v) e = ap (λ m. take (count + m) (set cells count (Some v))) e ∙ take_more_set cells count (Some v) room

-- after the loop, all categories of a column are kept
pub gathered : {V : Type 0} (f : V → List CellValue) (args : List V) (i k : ℕ) (cells : List CellValue)
    → length args ≤ i → cells ≡ non_null_cells (take i (cells_at_column k (map f args)))
    → cells ≡ non_null_cells (cells_at_column k (map f args))
gathered f args i k cells le is = is ∙ ap non_null_cells (whole f args i k le)

pub all_known : (xs : List CellValue) → All (λ cell. is_null cell ≡ false) (non_null_cells xs)
all_known [] = All-nil (λ cell. is_null cell ≡ false)
all_known (None ∷ xs) = all_known xs
all_known (Some v ∷ xs) = All-cons (λ cell. is_null cell ≡ false) (Some v) (non_null_cells xs) refl (all_known xs)

-- if no cell is null, all cells are known
all_are_known : (xs : List CellValue) → list_any is_null xs ≡ false → non_null_cells xs ≡ xs
all_are_known [] h = refl
all_are_known (None ∷ xs) h = cc
all_are_known (Some v ∷ xs) h = ap (λ l. Some v ∷ l) (all_are_known xs h)

-- folding `cell_unless_other_null` gives null if an argument is null, and otherwise the cell
one_null : (cell : CellValue) (xs : List CellValue)
    → fold cell_unless_other_null cell xs ≡ (if list_any is_null xs then None else cell)
one_null cell [] = refl
one_null cell (None ∷ xs) = nulls xs
  where
    nulls : (xs : List CellValue) → fold cell_unless_other_null None xs ≡ None
    nulls [] = refl
    nulls (None ∷ xs) = nulls xs
    nulls (Some v ∷ xs) = nulls xs
one_null cell (Some v ∷ xs) = one_null cell xs

-- the mode is the most frequent category, or null if a cell is null
pub mode_is : (xs : List CellValue) → fold cell_unless_other_null (most_frequent (non_null_cells xs)) xs ≡ mode xs
mode_is xs = one_null (most_frequent (non_null_cells xs)) xs ∙ by (list_any is_null xs) refl
  where
    by : (t : Bool) → list_any is_null xs ≡ t
        → (if t then None else most_frequent (non_null_cells xs)) ≡ (if t then None else most_frequent xs)
    by true e = refl
    by false e = ap most_frequent (all_are_known xs e)
