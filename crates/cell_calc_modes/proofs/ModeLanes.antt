-- The most frequent cells in the lanes of vectors.
use Rattle.std.proofs.Common.{◌≡◌, ◌≢◌, below_more, get_or-set_same, get_or-set_other, ◌<◌, ◌≤◌, ◌+◌, ◌-◌, ◌%◌, ◌<ℤ◌}
use Rattle.std.proofs.Common.{◌≤ℤ◌, ◌⊎◌, inl, inr, ℕ, ℤ, List, [], ◌∷◌, ◌++◌, length, take, map, set, get_or, replicate}
use Rattle.std.proofs.Common.{refl, sym, ap, subst, ◌∙◌, Some, None, Bool, true, false, true≢false, cond, ltb, eqb}
use Rattle.std.proofs.Common.{arith, All, append-nil, length-take-le, take_all, w32}
use Rattle.std.specs.Prelude.{pos, ◌-ℤ◌, not, if◌then◌else◌}
use Rattle.std.proofs.lemmas.Bool.{eqb-true, eqb-false, eq-eqb, ne_eqb, ltb-true, lt-ltb, le-ltb, cases_order, cases_lt}
use Rattle.std.proofs.lemmas.Int.{ints}
use Rattle.std.proofs.lemmas.List.{get_or_default, length-map, get_or-map, map_more, map_push, take-map, take_more}
use Rattle.std.proofs.lemmas.List.{take-set, take_more_set}
use Rattle.std.proofs.lemmas.List.Elements.{filter-append}
use Rattle.std.proofs.lemmas.List.Sums.{sum_by_push, sum_by-cons, count_by-le-length}
use Rattle.std.proofs.lemmas.Simd.{tops_compared, length-zip2, get_or-zip2, length-sel_l, get_or-sel_l}
use Rattle.std.proofs.lemmas.Simd.{get_or-replicate}
use Rattle.cell_core_values.specs.Cell.{cell_eq}
use Rattle.cell_core.specs.Grid.{CellValue}
use Rattle.cell_calc_language.specs.CellOperators.{is_null, non_null_cells, occurrences, most_frequent}
use Rattle.cell_calc_modes.specs.ColumnCells.{at, cells_at_column}
use Rattle.cell_calc_modes.specs.parts.ModeLanes.{cell_denoted_by_key, cells_of_vectors_in_lane}
use Rattle.cell_calc_modes.specs.parts.ModeLanes.{AreMostFrequentCategoryAndCount, AreMostFrequentOrNullAndCount}
use Rattle.cell_calc_modes.proofs.Columns.{column_item, column_length, whole}
use Rattle.cell_calc_modes.proofs.Frequent.{by_order, differ, is_self, less_differ, greater_differ, same_more}
use Rattle.cell_calc_modes.proofs.Frequent.{other_more, frequent_is, all_known}
use lib.Lanes.{zip2, top, sel_l}

-- in each lane, the value of one vector or of another, chosen with a test
abbrev chosen : (ℕ → ℕ → Bool) → (xs ys us vs : List ℕ) → List ℕ
chosen t xs ys us vs = sel_l (map (top 31) (zip2 (λ a b. cond (t a b) 4294967295 0) xs ys)) us vs

pub chosen_long : (t : ℕ → ℕ → Bool) (xs ys us vs : List ℕ) → length xs ≡ 16 → length ys ≡ 16 → length us ≡ 16
    → length vs ≡ 16
    → length (chosen t xs ys us vs) ≡ 16
chosen_long t xs ys us vs ex ey ea eb =
    let long : length (zip2 t xs ys) ≡ 16 = length-zip2 t xs ys (ex ∙ sym ey) ∙ ex in
    ap (λ l. length (sel_l l us vs)) (tops_compared w32 t xs ys)
    ∙ length-sel_l (zip2 t xs ys) us vs (long ∙ sym ea) (long ∙ sym eb) ∙ long

pub chosen_at : (t : ℕ → ℕ → Bool) (xs ys us vs : List ℕ) (k : ℕ) → length xs ≡ 16 → length ys ≡ 16 → length us ≡ 16
    → length vs ≡ 16 → k < 16
    → get_or (chosen t xs ys us vs) k 0 ≡ cond (t (get_or xs k 0) (get_or ys k 0)) (get_or us k 0) (get_or vs k 0)
chosen_at t xs ys us vs k ex ey ea eb lt =
    let long : length (zip2 t xs ys) ≡ 16 = length-zip2 t xs ys (ex ∙ sym ey) ∙ ex in
    ap (λ l. get_or (sel_l l us vs) k 0) (tops_compared w32 t xs ys)
    ∙ get_or-sel_l (zip2 t xs ys) us vs k 0 (omega (arith, long, lt)) (omega (arith, ea, lt)) (omega (arith, eb, lt))
    ∙ ap (λ b. cond b (get_or us k 0) (get_or vs k 0))
    (get_or-zip2 t xs ys k 0 0 false (omega (arith, ex, lt)) (omega (arith, ey, lt)))

-- ---- counts

small_sum : (x : ℕ) (b : Bool) → x + 1 < 4294967296 → (x + cond b 1 0) % 4294967296 ≡ x + cond b 1 0
small_sum x true lt = omega (arith, lt)
small_sum x false lt = omega (arith, lt)

abbrev wrapped : ℕ → ℕ → ℕ
wrapped a b = (a + b) % 4294967296

abbrev ones : List ℕ → List ℕ → List ℕ
ones key other = chosen eqb key other (replicate 16 1) (replicate 16 0)

pub counted_long : (count key other : List ℕ) → length count ≡ 16 → length key ≡ 16 → length other ≡ 16
    → length (zip2 wrapped count (ones key other)) ≡ 16
counted_long count key other ec ek eo =
    length-zip2 wrapped count (ones key other) (ec
    ∙ sym (chosen_long eqb key other (replicate 16 1) (replicate 16 0) ek eo refl refl)) ∙ ec

pub counted_at : (count key other : List ℕ) (k : ℕ) → length count ≡ 16 → length key ≡ 16 → length other ≡ 16 → k < 16
    → get_or count k 0 + 1 < 4294967296
    → get_or (zip2 wrapped count (ones key other)) k 0
    ≡ get_or count k 0 + cond (eqb (get_or key k 0) (get_or other k 0)) 1 0
counted_at count key other k ec ek eo lt few =
    let long = chosen_long eqb key other (replicate 16 1) (replicate 16 0) ek eo refl refl in
    get_or-zip2 wrapped count (ones key other) k 0 0 0 (omega (arith, ec, lt)) (omega (arith, long, lt))
    ∙ ap (λ n. wrapped (get_or count k 0) n)
    (chosen_at eqb key other (replicate 16 1) (replicate 16 0) k ek eo refl refl lt
    ∙ ap (λ n. cond (eqb (get_or key k 0) (get_or other k 0)) n (get_or (replicate 16 0) k 0))
    (get_or-replicate 16 k 1 0 lt)
    ∙ ap (λ n. cond (eqb (get_or key k 0) (get_or other k 0)) 1 n) (get_or-replicate 16 k 0 0 lt))
    ∙ small_sum (get_or count k 0) (eqb (get_or key k 0) (get_or other k 0)) few

-- the category of a key other than 0
abbrev category : ℕ → ℤ
category key = pos key -ℤ pos 2147483648

is_category : (key : ℕ) → eqb key 0 ≡ false → cell_denoted_by_key key ≡ Some (category key)
is_category key e = ap (λ s. if s then None else Some (category key)) e

is_nothing : (key : ℕ) → eqb key 0 ≡ true → cell_denoted_by_key key ≡ None
is_nothing key e = ap (λ s. if s then None else Some (category key)) e

-- two keys are equal exactly if their cells are
same_key : (a b : ℕ) → cell_eq (cell_denoted_by_key a) (cell_denoted_by_key b) ≡ eqb a b
same_key a b = by_null (eqb a 0) refl (eqb b 0) refl
  where
    both : (t : Bool) → eqb a b ≡ t → cell_eq (Some (category a)) (Some (category b)) ≡ t
    both true e = subst (λ n. cell_eq (Some (category a)) (Some (category n))
        ≡ true) (eqb-true a b e) (is_self (category a))
    both false e = differ (category a) (category b) (λ same. eqb-false a b e (omega (arith, ints, same)))

    by_null : (s : Bool) → eqb a 0 ≡ s → (t : Bool) → eqb b 0 ≡ t
        → cell_eq (if s then None else Some (category a)) (if t then None else Some (category b)) ≡ eqb a b
    by_null true e true f = let x = eqb-true a 0 e in let y = eqb-true b 0 f in sym (eq-eqb a b (omega (arith, x, y)))
    by_null true e false f = sym (ne_eqb a b
        (λ same. eqb-false b 0 f (let x = eqb-true a 0 e in omega (arith, x, same))))
    by_null false e true f = sym (ne_eqb a b
        (λ same. eqb-false a 0 e (let y = eqb-true b 0 f in omega (arith, y, same))))
    by_null false e false f = both (eqb a b) refl

lane_count : (k : ℕ) (keys : List (List ℕ)) → length (cells_of_vectors_in_lane k keys) ≡ length keys
lane_count k keys = length-map keys (λ lanes. cell_denoted_by_key (get_or lanes k 0))

lane_item : (k i : ℕ) (keys : List (List ℕ)) (key : List ℕ) → i < length keys → key ≡ get_or keys i key
    → get_or (cells_of_vectors_in_lane k keys) i None ≡ cell_denoted_by_key (get_or key k 0)
lane_item k i keys key lt is =
    get_or-map (λ lanes. cell_denoted_by_key (get_or lanes k 0)) keys i key None lt
    ∙ ap (λ lanes. cell_denoted_by_key (get_or lanes k 0)) (sym is)

pub counted_few : (k i : ℕ) (keys : List (List ℕ)) (v : CellValue) (count : ℕ) → i < length keys → length keys < 65536
    → count ≡ occurrences v (take i (cells_of_vectors_in_lane k keys)) + 1 → count + 1 < 4294967296
counted_few k i keys v count lt few counted =
    let all = lane_count k keys in
    let long = length-take-le i (cells_of_vectors_in_lane k keys) (omega (arith, all, lt)) in
    let some = count_by-le-length (cell_eq v) (take i (cells_of_vectors_in_lane k keys)) in
    omega (arith, long, some, counted, few, lt)

add_one : (b : Bool) (count occurs new more : ℕ) → count ≡ occurs + 1 → new ≡ count + cond b 1 0
    → more ≡ occurs + cond b 1 0 → new ≡ more + 1
add_one true count occurs new more e f g = omega (arith, e, f, g)
add_one false count occurs new more e f g = omega (arith, e, f, g)

pub counted_more : (k i : ℕ) (keys : List (List ℕ)) (key other : List ℕ) (count new : ℕ) → i < length keys
    → other ≡ get_or keys i other
    → count ≡ occurrences (cell_denoted_by_key (get_or key k 0)) (take i (cells_of_vectors_in_lane k keys)) + 1
    → new ≡ count + cond (eqb (get_or key k 0) (get_or other k 0)) 1 0
    → new ≡ occurrences (cell_denoted_by_key (get_or key k 0)) (take (i + 1) (cells_of_vectors_in_lane k keys)) + 1
counted_more k i keys key other count new lt is counted e =
    let v = cell_denoted_by_key (get_or key k 0) in
    let cells = cells_of_vectors_in_lane k keys in
    let all = lane_count k keys in
    let more : occurrences v (take (i + 1) cells)
    ≡ occurrences v (take i cells) + cond (eqb (get_or key k 0) (get_or other k 0)) 1 0 =
    ap (occurrences v) (take_more cells i None (omega (arith, all, lt)))
    ∙ sum_by_push _ (take i cells) (get_or cells i None)
    ∙ ap (λ y. occurrences v (take i cells) + cond (cell_eq v y) 1 0) (lane_item k i keys other lt is)
    ∙ ap (λ t. occurrences v (take i cells) + cond t 1 0) (same_key (get_or key k 0) (get_or other k 0)) in
    add_one (eqb (get_or key k 0) (get_or other k 0)) count (occurrences v (take i cells)) new _ counted e more

pub counted_all : (k i : ℕ) (keys : List (List ℕ)) (key count : List ℕ) → length key ≡ 16 → length count ≡ 16 → k < 16
    → length keys ≤ i
    → get_or count k 0 ≡ occurrences (cell_denoted_by_key (get_or key k 0))
    (take i (cells_of_vectors_in_lane k keys)) + 1
    → get_or (chosen eqb key (replicate 16 0) (replicate 16 0) count) k 0
    ≡ cond (eqb (get_or key k 0) 0) 0 (occurrences (cell_denoted_by_key (get_or key k 0))
    (cells_of_vectors_in_lane k keys) + 1)
counted_all k i keys key count ek ec lt le counted =
    let all = lane_count k keys in
    chosen_at eqb key (replicate 16 0) (replicate 16 0) count k ek refl refl ec lt
    ∙ ap (λ n. cond (eqb (get_or key k 0) n) n (get_or count k 0)) (get_or-replicate 16 k 0 0 lt)
    ∙ ap (λ n. cond (eqb (get_or key k 0) 0) 0 n)
    (counted ∙ ap (λ l. occurrences (cell_denoted_by_key (get_or key k 0)) l + 1)
    (take_all i (cells_of_vectors_in_lane k keys) (omega (arith, all, le))))

-- ---- the number that occurs most often, and its count

abbrev better_key : (most count key best : ℕ) → ℕ
better_key most count key best = cond (ltb most count) key (cond (eqb count most) (cond (ltb key best) key best) best)

abbrev larger_count : (most count : ℕ) → ℕ
larger_count most count = cond (ltb most count) count most

pub better_at : (best most key count : List ℕ) (k : ℕ) → length best ≡ 16 → length most ≡ 16 → length key ≡ 16
    → length count ≡ 16 → k < 16
    → get_or (chosen ltb most count key (chosen eqb count most (chosen ltb key best key best) best)) k 0
    ≡ better_key (get_or most k 0) (get_or count k 0) (get_or key k 0) (get_or best k 0)
better_at best most key count k eb em ek ec lt =
    let smaller = chosen ltb key best key best in
    let small_long = chosen_long ltb key best key best ek eb ek eb in
    let tied_long = chosen_long eqb count most smaller best ec em small_long eb in
    chosen_at ltb most count key (chosen eqb count most smaller best) k em ec ek tied_long lt
    ∙ ap (λ n. cond (ltb (get_or most k 0) (get_or count k 0)) (get_or key k 0) n)
    (chosen_at eqb count most smaller best k ec em small_long eb lt
    ∙ ap (λ n. cond (eqb (get_or count k 0) (get_or most k 0)) n (get_or best k 0))
    (chosen_at ltb key best key best k ek eb ek eb lt))

pub better_long : (best most key count : List ℕ) → length best ≡ 16 → length most ≡ 16 → length key ≡ 16
    → length count ≡ 16
    → length (chosen ltb most count key (chosen eqb count most (chosen ltb key best key best) best)) ≡ 16
better_long best most key count eb em ek ec =
    let small_long = chosen_long ltb key best key best ek eb ek eb in
    chosen_long ltb most count key _ em ec ek
    (chosen_long eqb count most (chosen ltb key best key best) best ec em small_long eb)

new_key : (most count key best : ℕ) → most < count
    → (better_key most count key best ≡ key) × (larger_count most count ≡ count)
new_key most count key best lt =
    let e = lt-ltb most count lt in
    (ap (λ s. cond s key (cond (eqb count most) (cond (ltb key best) key best) best)) e, ap (λ s. cond s count most) e)

tied_key : (most count key best : ℕ) → count ≡ most → key < best
    → (better_key most count key best ≡ key) × (larger_count most count ≡ most)
tied_key most count key best same lt =
    let e = le-ltb most count (omega (arith, same)) in (
      ap (λ s. cond s key (cond (eqb count most) (cond (ltb key best) key best) best)) e
          ∙ ap (λ s. cond s (cond (ltb key best) key best) best) (eq-eqb count most same)
          ∙ ap (λ s. cond s key best) (lt-ltb key best lt),
      ap (λ s. cond s count most) e,
    )

old_key : (most count key best : ℕ) → count ≤ most → (key < best → count < most)
    → (better_key most count key best ≡ best) × (larger_count most count ≡ most)
old_key most count key best le less =
    let e = le-ltb most count le in (
      ap (λ s. cond s key (cond (eqb count most) (cond (ltb key best) key best) best)) e
          ∙ rest (eqb count most) refl (ltb key best) refl,
      ap (λ s. cond s count most) e,
    )
  where
    rest : (s : Bool) → eqb count most ≡ s → (t : Bool) → ltb key best ≡ t → cond s (cond t key best) best ≡ best
    rest true e true f =
        let same = eqb-true count most e in
        let lt = less (ltb-true key best f) in
        absurd (let no : ⊥ = omega (arith, same, lt) in no)
    rest true e false f = refl
    rest false e t f = refl

moved : (cells : List CellValue) (b new m more : ℕ) → (new ≡ b) × (more ≡ m)
    → AreMostFrequentOrNullAndCount cells (cell_denoted_by_key b) m
    → AreMostFrequentOrNullAndCount cells (cell_denoted_by_key new) more
moved cells b new m more e is = subst (λ x. AreMostFrequentOrNullAndCount cells (cell_denoted_by_key x) more) (sym e.0)
    (subst (λ n. AreMostFrequentOrNullAndCount cells (cell_denoted_by_key b) n) (sym e.1) is)

new_most : (cells : List CellValue) (most : ℕ) (v : ℤ) (n : ℕ) → ((w : ℤ) → occurrences (Some w) cells ≤ most)
    → occurrences (Some v) (cells ++ Some v ∷ []) ≡ n → most < n
    → AreMostFrequentCategoryAndCount (cells ++ Some v ∷ []) v n
new_most cells most v n few counted more = record {
  within = λ w. by_order w v (λ h. let k = other_more w v cells (less_differ w v h) in let a = few w in omega
      (arith, k, a, more))
      (λ h. let k : occurrences (Some w) (cells ++ Some v ∷ [])
      ≡ n = subst (λ x. occurrences (Some x) (cells ++ Some v ∷ []) ≡ n) (sym h) counted in omega (arith, k))
      (λ h. let k = other_more w v cells (greater_differ w v h) in let a = few w in omega (arith, k, a, more));
  below = λ w h. let k = other_more w v cells (less_differ w v h) in let a = few w in omega (arith, k, a, more);
  same = counted;
  positive = omega (arith, more);
}

tied_most : (cells : List CellValue) (b : ℤ) (most : ℕ) (v : ℤ) → AreMostFrequentCategoryAndCount cells b most
    → occurrences (Some v) (cells ++ Some v ∷ []) ≡ most → v <ℤ b
    → AreMostFrequentCategoryAndCount (cells ++ Some v ∷ []) v most
tied_most cells b most v is counted less = record {
  within = λ w. by_order w v (λ h. let k = other_more w v cells (less_differ w v h) in let a = is.within w in omega
      (arith, k, a))
      (λ h. let k : occurrences (Some w) (cells ++ Some v ∷ [])
      ≡ most = subst (λ x. occurrences (Some x) (cells ++ Some v ∷ []) ≡ most) (sym h) counted in omega (arith, k))
      (λ h. let k = other_more w v cells (greater_differ w v h) in let a = is.within w in omega (arith, k, a));
  below = λ w h. let k = other_more w v cells (less_differ w v h) in let a = is.below w (omega (arith, ints, h, less))
      in omega (arith, k, a);
  same = counted;
  positive = is.positive;
}

kept_most : (cells : List CellValue) (b : ℤ) (most : ℕ) (v : ℤ) (n : ℕ) → AreMostFrequentCategoryAndCount cells b most
    → occurrences (Some v) (cells ++ Some v ∷ []) ≡ n → n ≤ most → (v <ℤ b → n < most)
    → AreMostFrequentCategoryAndCount (cells ++ Some v ∷ []) b most
kept_most cells b most v n is counted few fewer = record {
  within = λ w. by_order w v (λ h. let k = other_more w v cells (less_differ w v h) in let a = is.within w in omega
      (arith, k, a))
      (λ h. let k : occurrences (Some w) (cells ++ Some v ∷ [])
      ≡ n = subst (λ x. occurrences (Some x) (cells ++ Some v ∷ []) ≡ n) (sym h) counted in omega (arith, k, few))
      (λ h. let k = other_more w v cells (greater_differ w v h) in let a = is.within w in omega (arith, k, a));
  below = λ w l. by_order w v (λ h. let k = other_more w v cells (less_differ w v h) in let a = is.below w l in omega
      (arith, k, a))
      (λ h. let k : occurrences (Some w) (cells ++ Some v ∷ [])
      ≡ n = subst (λ x. occurrences (Some x) (cells ++ Some v ∷ []) ≡ n) (sym h) counted in
      let a = fewer (subst (λ x. x <ℤ b) h l) in omega (arith, k, a))
      (λ h. let k = other_more w v cells (greater_differ w v h) in let a = is.below w l in omega (arith, k, a));
  same = by_order b v (λ h. other_more b v cells (less_differ b v h) ∙ is.same)
      (λ h. let k : occurrences (Some v) cells ≡ most = subst (λ x. occurrences (Some x) cells ≡ most) h is.same in
      let s = same_more v cells in absurd (let no : ⊥ = omega (arith, k, s, counted, few) in no))
      (λ h. other_more b v cells (greater_differ b v h) ∙ is.same);
  positive = is.positive;
}

known_occurs : (v : ℤ) (xs : List CellValue) → occurrences (Some v) (non_null_cells xs) ≡ occurrences (Some v) xs
known_occurs v [] = refl
known_occurs v (None ∷ xs) =
    let e : occurrences (Some v) (None ∷ xs)
    ≡ (if cell_eq (Some v) None then 1 else 0) + occurrences (Some v) xs = sum_by-cons _ None xs in
    let r = known_occurs v xs in
    omega (arith, e, r)
known_occurs v (Some w ∷ xs) =
    let e : occurrences (Some v) (Some w ∷ xs)
    ≡ (if cell_eq (Some v) (Some w) then 1 else 0) + occurrences (Some v) xs = sum_by-cons _ (Some w) xs in
    let f : occurrences (Some v) (Some w ∷ non_null_cells xs)
    ≡ (if cell_eq (Some v) (Some w) then 1 else 0) + occurrences (Some v) (non_null_cells xs) =
    sum_by-cons _ (Some w) (non_null_cells xs) in
    f ∙ ap (λ n. (if cell_eq (Some v) (Some w) then 1 else 0) + n) (known_occurs v xs) ∙ sym e

-- one more number updates the most frequent one
most_more : (xs : List CellValue) (key count best most : ℕ) → AreMostFrequentOrNullAndCount (non_null_cells xs)
    (cell_denoted_by_key best) most
    → count ≡ cond (eqb key 0) 0 (occurrences (cell_denoted_by_key key) xs + 1)
    → AreMostFrequentOrNullAndCount (non_null_cells xs ++ non_null_cells (cell_denoted_by_key key ∷ []))
    (cell_denoted_by_key (better_key most count key best))
    (larger_count most count)
most_more xs key count best most is counted = by_key (eqb key 0) refl
  where
    cells : List CellValue
    cells = non_null_cells xs

    Goal : Type 0
    Goal = AreMostFrequentOrNullAndCount (cells ++ non_null_cells (cell_denoted_by_key key ∷ []))
        (cell_denoted_by_key (better_key most count key best))
        (larger_count most count)

    some : eqb best 0 ≡ false → AreMostFrequentCategoryAndCount cells (category best) most
    some f = subst (λ c. AreMostFrequentOrNullAndCount cells c most) (is_category best f) is

    null_key : eqb key 0 ≡ true → Goal
    null_key e =
        let zero : count ≡ 0 = counted ∙ ap (λ s. cond s 0 (occurrences (cell_denoted_by_key key) xs + 1)) e in
        let none = eqb-true key 0 e in
        let fewer : key < best → count < most = (λ lt.
        let positive = (some (ne_eqb best 0 (λ z. omega (arith, z, lt)))).positive in omega (arith, zero, positive)) in
        let kept = moved cells best _ most _ (old_key most count key best (omega (arith, zero)) fewer) is in
        subst (λ c. AreMostFrequentOrNullAndCount (cells ++ non_null_cells (c ∷ []))
        (cell_denoted_by_key (better_key most count key best))
        (larger_count most count)) (sym (is_nothing key e))
        (subst (λ l. AreMostFrequentOrNullAndCount l (cell_denoted_by_key (better_key most count key best))
        (larger_count most count))
        (sym (append-nil cells)) kept)

    -- the count of a number's category includes the number itself
    occurs : eqb key 0 ≡ false → occurrences (Some (category key)) (cells ++ Some (category key) ∷ []) ≡ count
    occurs e =
        same_more (category key) cells ∙ ap (λ n. n + 1) (known_occurs (category key) xs)
        ∙ ap (λ c. occurrences c xs + 1) (sym (is_category key e))
        ∙ sym (counted ∙ ap (λ s. cond s 0 (occurrences (cell_denoted_by_key key) xs + 1)) e)

    -- the new number becomes the most frequent one
    taken : (m : ℕ) → eqb key 0 ≡ false → (better_key most count key best ≡ key) × (larger_count most count ≡ m)
        → AreMostFrequentCategoryAndCount (cells ++ Some (category key) ∷ []) (category key) m → Goal
    taken m e now h = moved (cells ++ non_null_cells (cell_denoted_by_key key ∷ [])) key _ m _ now
        (subst (λ c. AreMostFrequentOrNullAndCount (cells ++ non_null_cells (c ∷ [])) c m) (sym (is_category key e)) h)

    -- the most frequent number stays
    stays : eqb key 0 ≡ false → eqb best 0 ≡ false → count ≤ most → (key < best → count < most) → Goal
    stays e f le less =
        let h = kept_most cells (category best) most (category key) count (some f) (occurs e) le
        (λ l. less (omega (arith, ints, l))) in
        moved (cells ++ non_null_cells (cell_denoted_by_key key ∷ [])) best _ most _
        (old_key most count key best le less)
        (subst (λ c. AreMostFrequentOrNullAndCount (cells ++ non_null_cells (cell_denoted_by_key key ∷ [])) c most)
        (sym (is_category best f))
        (subst (λ c. AreMostFrequentOrNullAndCount (cells ++ non_null_cells (c ∷ [])) (Some (category best)) most)
        (sym (is_category key e)) h))

    tied : eqb key 0 ≡ false → eqb best 0 ≡ false → count ≡ most → (t : Bool) → ltb key best ≡ t → Goal
    tied e f same true g =
        let lt = ltb-true key best g in
        taken most e (tied_key most count key best same lt)
        (tied_most cells (category best) most (category key) (some f) (occurs e ∙ same) (omega (arith, ints, lt)))
    tied e f same false g = stays e f (omega (arith, same)) (λ lt. absurd (true≢false (sym (lt-ltb key best lt) ∙ g)))

    by_best : eqb key 0 ≡ false → (t : Bool) → eqb best 0 ≡ t → Goal
    by_best e true f =
        let none : (cells ≡ []) × (most ≡ 0) = subst (λ c. AreMostFrequentOrNullAndCount cells c most)
        (is_nothing best f) is in
        let own = counted ∙ ap (λ s. cond s 0 (occurrences (cell_denoted_by_key key) xs + 1)) e in
        let more : most < count = omega (arith, own, none.1) in
        taken count e (new_key most count key best more)
        (new_most cells most (category key) count (λ w. subst (λ l. occurrences (Some w) l ≤ most) (sym none.0)
        (omega arith)) (occurs e) more)
    by_best e false f = by_count (cases_order most count)
      where
        by_count : (most ≡ count) ⊎ ((most < count) ⊎ (count < most)) → Goal
        by_count (inl same) = tied e f (sym same) (ltb key best) refl
        by_count (inr (inl more)) = taken count e (new_key most count key best more)
            (new_most cells most (category key) count (some f).within (occurs e) more)
        by_count (inr (inr less)) = stays e f (omega (arith, less)) (λ lt. less)

    by_key : (t : Bool) → eqb key 0 ≡ t → Goal
    by_key true e = null_key e
    by_key false e = by_best e (eqb best 0) refl

pub most_first : (k : ℕ) (keys : List (List ℕ)) → k < 16
    → AreMostFrequentOrNullAndCount (non_null_cells (take 0 (cells_of_vectors_in_lane k keys)))
    (cell_denoted_by_key (get_or (replicate 16 0) k 0))
    (get_or (replicate 16 0) k 0)
most_first k keys lt = subst (λ n. AreMostFrequentOrNullAndCount [] (cell_denoted_by_key n) n)
    (sym (get_or-replicate 16 k 0 0 lt))
    (refl, refl)

pub most_step : (k i : ℕ) (keys : List (List ℕ)) (key : List ℕ) (count best most new more : ℕ) → i < length keys
    → key ≡ get_or keys i key
    → AreMostFrequentOrNullAndCount (non_null_cells (take i (cells_of_vectors_in_lane k keys)))
    (cell_denoted_by_key best) most
    → count ≡ cond (eqb (get_or key k 0) 0) 0 (occurrences (cell_denoted_by_key (get_or key k 0))
    (cells_of_vectors_in_lane k (take i keys)) + 1)
    → new ≡ better_key most count (get_or key k 0) best → more ≡ larger_count most count
    → AreMostFrequentOrNullAndCount (non_null_cells (take (i + 1) (cells_of_vectors_in_lane k keys)))
    (cell_denoted_by_key new) more
most_step k i keys key count best most new more lt is so_far counted new_is more_is =
    let cells = cells_of_vectors_in_lane k keys in
    let all = lane_count k keys in
    let before = sym (take-map (λ lanes. cell_denoted_by_key (get_or lanes k 0)) i keys) in
    let step = most_more (take i cells) (get_or key k 0) count best most so_far
    (counted ∙ ap (λ l. cond (eqb (get_or key k 0) 0) 0 (occurrences (cell_denoted_by_key (get_or key k 0)) l + 1))
    before) in
    let now : non_null_cells (take i cells) ++ non_null_cells (cell_denoted_by_key (get_or key k 0) ∷ [])
    ≡ non_null_cells (take (i + 1) cells) =
    sym (filter-append (λ a. not (is_null a)) (take i cells) (cell_denoted_by_key (get_or key k 0) ∷ []))
    ∙ ap non_null_cells (ap (λ y. take i cells ++ y ∷ []) (sym (lane_item k i keys key lt is))
    ∙ sym (take_more cells i None (omega (arith, all, lt)))) in
    moved (non_null_cells (take (i + 1) cells)) _ new _ more (new_is, more_is)
    (subst (λ l. AreMostFrequentOrNullAndCount l (cell_denoted_by_key (better_key most count (get_or key k 0) best))
    (larger_count most count)) now
    step)

most_is : (cells : List CellValue) (best : CellValue) (most : ℕ) → All (λ cell. is_null cell ≡ false) cells
    → AreMostFrequentOrNullAndCount cells best most → best ≡ most_frequent cells
most_is cells None most all is = ap most_frequent (sym is.0)
most_is cells (Some b) most all is = sym (frequent_is cells b most all is.within is.below is.same is.positive)

pub most_all : (k i : ℕ) (keys : List (List ℕ)) (best : CellValue) (most : ℕ) → length keys ≤ i
    → AreMostFrequentOrNullAndCount (non_null_cells (take i (cells_of_vectors_in_lane k keys))) best most
    → best ≡ most_frequent (non_null_cells (cells_of_vectors_in_lane k keys))
most_all k i keys best most le is =
    let all = lane_count k keys in
    let cells = cells_of_vectors_in_lane k keys in
    most_is (non_null_cells cells) best most (all_known cells)
    (subst (λ l. AreMostFrequentOrNullAndCount (non_null_cells l) best most)
    (take_all i cells (omega (arith, all, le))) is)

-- ---- blocks of columns

pub gather_more : {V : Type 0} (f : V
    → List CellValue) (args : List V) (i c k : ℕ) (x : V) (row : List CellValue) (keys : List (List ℕ)) (key : List ℕ)
    → i < length args → i < length keys → x ≡ get_or args i x → row ≡ f x
    → cell_denoted_by_key (get_or key k 0) ≡ at row (c + k)
    → cells_of_vectors_in_lane k (take i keys) ≡ take i (cells_at_column (c + k) (map f args))
    → cells_of_vectors_in_lane k (take (i + 1) (set keys i key)) ≡ take (i + 1) (cells_at_column (c + k) (map f args))
gather_more f args i c k x row keys key lt room is slice here so_far =
    let count = column_length f args (c + k) in
    ap (cells_of_vectors_in_lane k) (take_more_set keys i key room)
    ∙ map_push (λ lanes. cell_denoted_by_key (get_or lanes k 0)) (take i keys) key
    ∙ ap (λ l. l ++ cell_denoted_by_key (get_or key k 0) ∷ []) so_far
    ∙ ap (λ y. take i (cells_at_column (c + k) (map f args)) ++ y ∷ []) (here ∙ ap (λ o. at o (c + k)) slice
    ∙ sym (column_item f args i (c + k) x lt is))
    ∙ sym (take_more (cells_at_column (c + k) (map f args)) i None (omega (arith, count, lt)))

pub gathered_all : {V : Type 0} (f : V → List CellValue) (args : List V) (i c k : ℕ) (keys : List (List ℕ))
    → length args ≤ i → length keys ≡ length args
    → cells_of_vectors_in_lane k (take i keys) ≡ take i (cells_at_column (c + k) (map f args))
    → cells_of_vectors_in_lane k keys ≡ cells_at_column (c + k) (map f args)
gathered_all f args i c k keys le same is =
    ap (cells_of_vectors_in_lane k) (sym (take_all i keys (omega (arith, same, le)))) ∙ is ∙ whole f args i (c + k) le

-- the columns of a block are done after the columns before it
pub block_done : (P : ℕ → CellValue → Type 0) (old new : List CellValue) (done c : ℕ) → c ≤ done
    → ((k : ℕ) → k < done → P k (at old k)) → ((k : ℕ) → k < c → at new k ≡ at old k)
    → ((k : ℕ) → k < 16 → P (c + k) (at new (c + k)))
    → (k : ℕ) → k < c + 16 → P k (at new k)
block_done P old new done c le was before each k lt = by (cases_lt k c)
  where
    by : (k < c) ⊎ (c ≤ k) → P k (at new k)
    by (inl less) = subst (P k) (sym (before k less)) (was k (omega (arith, less, le)))
    by (inr more) =
        let here : c + (k - c) ≡ k = omega (arith, more) in
        subst (λ j. P j (at new j)) here (each (k - c) (omega (arith, more, lt)))

-- adding the key of one more cell keeps each number of a block the key of its cell
pub keys_more : (cells : List CellValue) (c k : ℕ) (keys : List ℕ) (key : ℕ) (cell : CellValue) → k < length keys
    → c + k < length cells
    → cell ≡ get_or cells (c + k) cell → cell_denoted_by_key key ≡ cell
    → ((j : ℕ) → j < k → cell_denoted_by_key (get_or keys j 0) ≡ at cells (c + j)) → (j : ℕ) → j < k + 1
    → cell_denoted_by_key (get_or (set keys k key) j 0) ≡ at cells (c + j)
keys_more cells c k keys key cell lt within is same done j less =
    let before : (m : ℕ) → m < k → cell_denoted_by_key (get_or (set keys k key) m 0) ≡ at cells (c + m) = (λ m below.
    let other : m ≢ k = omega (arith, below) in
    ap cell_denoted_by_key (get_or-set_other keys k m key 0 other) ∙ done m below) in
    let now : cell_denoted_by_key (get_or (set keys k key) k 0) ≡ at cells (c + k) =
    ap cell_denoted_by_key (get_or-set_same keys k key 0 lt) ∙ same ∙ is
    ∙ get_or_default cells (c + k) cell None within in
    below_more (λ m. cell_denoted_by_key (get_or (set keys k key) m 0) ≡ at cells (c + m)) k before now j less
