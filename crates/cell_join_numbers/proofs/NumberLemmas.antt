-- The number of a cell, computed from the labels of a map.
use Rattle.std.proofs.Common.{◌≡◌, ℕ, zero, suc, ℤ, true, false, ◌+◌, ◌<◌, ◌≤◌, [], ◌∷◌, ◌++◌, List, Some, IsSome, length, get_or, refl, ap, sym, ◌∙◌, arith, subst, inl, inr, ⊎_elim, ◌⊎◌, eq-eqb, eqb-true}
use Rattle.std.specs.Prelude.{if◌then◌else◌}
use Rattle.std.specs.List.{Contains, AllPairs}
use Rattle.std.proofs.lemmas.List.{get_or_default, length_push}
use Rattle.std.proofs.lemmas.List.Elements.{Contains-append_left, Contains-push, Contains-push_cases, Contains-get_or}
use Rattle.std.proofs.lemmas.List.Quantifiers.{all_pairs_push}
use Rattle.std.proofs.lemmas.Bool.{cases_lt, cases_Bool, cond-true, cond-false}
use Rattle.cell_core.specs.Grid.{Grid}
use Rattle.cell_clumps.specs.declared.clump.Joining.{Joining}
use Rattle.cell_clumps.specs.Clumps.{Position, cell_at_position, IsEarlierCell, AreAdjacent, AreCellsConnected, IsFirstCellOfClump, HasClumpNumber}
use Rattle.cell_clumps.specs.ClumpLaw.{AreFirstCellsOfAllClumps}
use Rattle.cell_clumps.specs.parts.CellPlaces.{position_at_row_and_column}
use Rattle.cell_clumps.proofs.PathLemmas.{AreJoined-trans, AreJoined-sym, AreJoined-adjacent, AreJoined-first, AreJoined-along}
use Rattle.cell_clumps.proofs.LawLemmas.{cases_before}
use Rattle.cell_join_numbers.specs.Labelled.{AreCellsLabelledInOrder}
use Rattle.cell_join_numbers.specs.UnionFind.{AreRootsOfLabels, roots_after_all_joins}
use Rattle.cell_join_numbers.specs.LabelNumbers.{is_open, root_labels_below, root_count_up_to_label}
use Rattle.cell_join_numbers.proofs.UnionLemmas.{IsLinking, after_all-meets, after_all-linked}
use Rattle.cell_join_numbers.proofs.OpenLemmas.{open-more, open-same}

pub before-then : (p q s : Position) → IsEarlierCell p q → IsEarlierCell q s → IsEarlierCell p s
before-then p q s (inl a) (inl b) = inl (omega (arith, a, b))
before-then p q s (inl a) (inr b) = inl (let e = b.0 in omega (arith, a, e))
before-then p q s (inr a) (inl b) = inl (let e = a.0 in omega (arith, e, b))
before-then p q s (inr a) (inr b) = inr (a.0 ∙ b.0, omega (arith, a.1, b.1))

pub is-some : (m : Grid) (p : Position) (v : ℤ) → cell_at_position m p ≡ Some v → IsSome (cell_at_position m p)
is-some m p v is = rw is refl

-- the first cells of the open labels below a count
abbrev firsts-below : (ℕ → Position) → List ℕ → ℕ → List Position
firsts-below start table zero = []
firsts-below start table (suc k) = if is_open table k then firsts-below start table k ++ start k ∷ [] else firsts-below start table k

firsts-more : (start : ℕ → Position) (table : List ℕ) (k : ℕ) → is_open table k ≡ true → firsts-below start table (suc k) ≡ firsts-below start table k ++ start k ∷ []
firsts-more start table k is = cond-true (is_open table k) _ _ is

firsts-same : (start : ℕ → Position) (table : List ℕ) (k : ℕ) → is_open table k ≡ false → firsts-below start table (suc k) ≡ firsts-below start table k
firsts-same start table k is = cond-false (is_open table k) _ _ is

firsts-count : (start : ℕ → Position) (table : List ℕ) (n : ℕ) → length (firsts-below start table n) ≡ length (root_labels_below table n)
firsts-count start table zero = refl
firsts-count start table (suc n) =
    ⊎_elim
    (λ yes'. ap (length {A = Position}) (firsts-more start table n yes') ∙ length_push (firsts-below start table n) (start n) ∙ ap (λ (k : ℕ). k + 1) (firsts-count start table n) ∙ sym (ap (length {A = ℕ}) (open-more table n yes') ∙ length_push (root_labels_below table n) n))
    (λ no'. ap (length {A = Position}) (firsts-same start table n no') ∙ firsts-count start table n ∙ sym (ap (length {A = ℕ}) (open-same table n no')))
    (cases_Bool (is_open table n))

below-some : (start : ℕ → Position) (table : List ℕ) (n : ℕ) (p : Position) → Contains (firsts-below start table n) p → (i : ℕ) × (i < n) × (p ≡ start i) × (is_open table i ≡ true)
below-some start table zero p h = absurd (let lt = h.1 in omega arith)
below-some start table (suc n) p h =
    let more : (i : ℕ) × (i < n) × (p ≡ start i) × (is_open table i ≡ true) → (i : ℕ) × (i < suc n) × (p ≡ start i) × (is_open table i ≡ true) = λ t. (t.0, let lt = t.1 in omega arith, t.2, t.3) in
    ⊎_elim
    (λ yes'. ⊎_elim (λ before. more (below-some start table n p before)) (λ e. (n, omega arith, sym e, yes'))
    (Contains-push_cases (firsts-below start table n) (start n) p (subst (λ (ps : List Position). Contains ps p) (firsts-more start table n yes') h)))
    (λ no'. more (below-some start table n p (subst (λ (ps : List Position). Contains ps p) (firsts-same start table n no') h)))
    (cases_Bool (is_open table n))

some-below : (start : ℕ → Position) (table : List ℕ) (n i : ℕ) → i < n → is_open table i ≡ true → Contains (firsts-below start table n) (start i)
some-below start table zero i lt is = absurd (omega arith)
some-below start table (suc n) i lt is =
    let HasIt : List Position → Type 0 = λ ps. Contains ps (start i) in
    ⊎_elim
    (λ below. let before : Contains (firsts-below start table n) (start i) = some-below start table n i below is in
    ⊎_elim (λ yes'. subst HasIt (sym (firsts-more start table n yes')) (Contains-append_left (firsts-below start table n) (start n ∷ []) (start i) before))
    (λ no'. subst HasIt (sym (firsts-same start table n no')) before) (cases_Bool (is_open table n)))
    (λ le. let e : i ≡ n = omega arith in
    let yes' : is_open table n ≡ true = subst (λ (k : ℕ). is_open table k ≡ true) e is in
    subst (λ (k : ℕ). Contains (firsts-below start table (suc n)) (start k)) (sym e)
    (subst (λ (ps : List Position). Contains ps (start n)) (sym (firsts-more start table n yes')) (Contains-push (firsts-below start table n) (start n))))
    (cases_lt i n)

module _ (j : Joining) (m : Grid) (starts : List Position) (label_of : Position → ℕ) (pairs : List (ℕ × ℕ)) (labelled : AreCellsLabelledInOrder j m starts label_of pairs) where
  abbrev f : ℕ → ℕ
  f = roots_after_all_joins (λ k. k) pairs

  abbrev start : ℕ → Position
  start k = get_or starts k (position_at_row_and_column 0 0)

  start-is : (k : ℕ) (d : Position) → k < length starts → get_or starts k d ≡ start k
  start-is k d lt = get_or_default starts k d (position_at_row_and_column 0 0) lt

  joined-to : (p : Position) → IsSome (cell_at_position m p) → AreCellsConnected j m (start (label_of p)) p
  joined-to p some = subst (λ (s : Position). AreCellsConnected j m s p) (start-is (label_of p) p (labelled.few p some)) (labelled.joined p some)

  not-before : (p : Position) → IsSome (cell_at_position m p) → ¬ IsEarlierCell p (start (label_of p))
  not-before p some before = labelled.early p some (subst (λ (s : Position). IsEarlierCell p s) (sym (start-is (label_of p) p (labelled.few p some))) before)

  -- ---- the label that each label leads to

  abbrev Linked : ℕ → ℕ → Type 0
  Linked a b = (a ≡ b) ⊎ AreCellsConnected j m (start a) (start b)

  linking : IsLinking Linked
  linking = record {
    turned = λ a b h. ⊎_elim (λ e. inl (sym e)) (λ joined. inr (AreJoined-sym j m (start a) (start b) joined)) h;
    chained = λ a b c h k. ⊎_elim (λ e. subst (λ (n : ℕ). Linked n c) (sym e) k)
        (λ one. ⊎_elim (λ e. subst (λ (n : ℕ). Linked a n) e (inr one)) (λ other. inr (AreJoined-trans j m (start a) (start b) (start c) one other)) k) h;
  }

  pair-linked : (a b : ℕ) → Contains pairs (a, b) → Linked a b
  pair-linked a b c =
      let h = labelled.only a b c in
      let one = joined-to h.one (is-some m h.one h.category h.first) in
      let other = joined-to h.other (is-some m h.other h.category h.second) in
      let step = AreJoined-adjacent j m h.one h.other h.category h.adjacent h.first h.second in
      let joined = AreJoined-trans j m (start (label_of h.one)) h.one (start (label_of h.other)) one
      (AreJoined-trans j m h.one h.other (start (label_of h.other)) step (AreJoined-sym j m (start (label_of h.other)) h.other other)) in
      inr (subst (λ (n : ℕ). AreCellsConnected j m (start n) (start b)) (sym h.first_label) (subst (λ (n : ℕ). AreCellsConnected j m (start (label_of h.one)) (start n)) (sym h.second_label) joined))

  linked : (k : ℕ) → Linked k (f k)
  linked k = after_all-linked Linked linking pairs (λ n. n) (λ n. inl refl) pair-linked k

  met : (p q : Position) (v : ℤ) → AreAdjacent j p q → cell_at_position m p ≡ Some v → cell_at_position m q ≡ Some v → f (label_of p) ≡ f (label_of q)
  met p q v near one other =
      ⊎_elim (λ e. ap f e)
      (λ paired. ⊎_elim (λ c. after_all-meets pairs (λ n. n) (label_of p) (label_of q) c) (λ c. sym (after_all-meets pairs (λ n. n) (label_of q) (label_of p) c)) paired)
      (labelled.meet p q v near one other)

  same-open : (p q : Position) → AreCellsConnected j m p q → f (label_of p) ≡ f (label_of q)
  same-open p q joined = AreJoined-along j m (λ s. f (label_of s)) met p q joined

  to-first : (p : Position) → IsSome (cell_at_position m p) → AreCellsConnected j m (start (f (label_of p))) p
  to-first p some =
      ⊎_elim (λ e. subst (λ (n : ℕ). AreCellsConnected j m (start n) p) e (joined-to p some))
      (λ far. AreJoined-trans j m (start (f (label_of p))) (start (label_of p)) p (AreJoined-sym j m (start (label_of p)) (start (f (label_of p))) far) (joined-to p some))
      (linked (label_of p))

  -- ---- open labels of a table

  module _ (table : List ℕ) (lead : AreRootsOfLabels table f) (size : length table ≡ length starts) where
    inside : (p : Position) → IsSome (cell_at_position m p) → label_of p < length table
    inside p some = omega (arith, size, labelled.few p some)

    low : (p : Position) → IsSome (cell_at_position m p) → f (label_of p) ≤ label_of p
    low p some = lead.reports.low (label_of p) (inside p some)

    start-some : (k : ℕ) → k < length table → IsSome (cell_at_position m (start k))
    start-some k lt = labelled.cells k (position_at_row_and_column 0 0) (omega (arith, size, lt))

    label-own : (k : ℕ) → k < length table → label_of (start k) ≡ k
    label-own k lt = labelled.own k (position_at_row_and_column 0 0) (omega (arith, size, lt))

    starts-before : (i n : ℕ) → i < n → n < length table → IsEarlierCell (start i) (start n)
    starts-before i n lt le = labelled.in_order i n (position_at_row_and_column 0 0) lt (omega (arith, size, le))

    open-is-first : (p : Position) → IsSome (cell_at_position m p) → is_open table (f (label_of p)) ≡ true
    open-is-first p some = eq-eqb _ _ (lead.reports.is_open (label_of p) (inside p some))

    -- each cell before the first cell of a label has a smaller label
    label-before : (k : ℕ) (p : Position) → k < length table → IsSome (cell_at_position m p) → IsEarlierCell p (start k) → label_of p < k
    label-before k p lt some before =
        ⊎_elim (λ less. less)
        (λ le. absurd (⊎_elim
        (λ less. not-before p some (before-then p (start k) (start (label_of p)) before (starts-before k (label_of p) less (inside p some))))
        (λ ge. let e : k ≡ label_of p = omega (arith, le, ge) in not-before p some (subst (λ (n : ℕ). IsEarlierCell p (start n)) e before))
        (cases_lt k (label_of p))))
        (cases_lt (label_of p) k)

    first-from : (k : ℕ) → k < length table → is_open table k ≡ true → IsFirstCellOfClump j m (start k)
    first-from k lt is =
        let own : f k ≡ k = lead.reports.itself k lt (eqb-true _ _ is) in
        record {
          category = start-some k lt;
          none_before = λ q before joined.
              let some = is-some m q joined.category (AreJoined-first j m q (start k) joined) in
              let less = label-before k q lt some before in
              let same = same-open q (start k) joined ∙ ap f (label-own k lt) ∙ own in
              absurd (omega (arith, less, same, low q some));
        }

    first-is : (p : Position) → IsFirstCellOfClump j m p → start (f (label_of p)) ≡ p
    first-is p first =
        ⊎_elim (λ e. e)
        (λ apart. ⊎_elim (λ before. absurd (first.none_before (start (f (label_of p))) before (to-first p first.category)))
        (λ after. absurd (let below = low p first.category in let in_table = inside p first.category in
        let less = label-before (f (label_of p)) p (omega (arith, below, in_table)) first.category after in omega (arith, less, below))) apart)
        (cases_before (start (f (label_of p))) p)

    in-order-below : (n : ℕ) → n ≤ length table → AllPairs IsEarlierCell (firsts-below start table n)
    in-order-below zero le = λ i k d less within. absurd (omega (arith, within))
    in-order-below (suc n) le =
        ⊎_elim
        (λ yes'. subst (AllPairs IsEarlierCell) (sym (firsts-more start table n yes'))
        (all_pairs_push IsEarlierCell (firsts-below start table n) (start n) (in-order-below n (omega (arith, le)))
        (λ k d less. let t = below-some start table n (get_or (firsts-below start table n) k d) (Contains-get_or (firsts-below start table n) k d less) in
        subst (λ (p : Position). IsEarlierCell p (start n)) (sym t.2) (starts-before t.0 n t.1 (omega (arith, le))))))
        (λ no'. subst (AllPairs IsEarlierCell) (sym (firsts-same start table n no')) (in-order-below n (omega (arith, le))))
        (cases_Bool (is_open table n))

    -- the label of a first cell leads to itself
    first-own : (p : Position) → IsFirstCellOfClump j m p → label_of p ≡ f (label_of p)
    first-own p first =
        let below = low p first.category in
        let in_table = inside p first.category in
        ap label_of (sym (first-is p first)) ∙ label-own (f (label_of p)) (omega (arith, below, in_table))

    -- a cell has the number of its label
    pub has-number : (p : Position) → IsSome (cell_at_position m p)
        → HasClumpNumber j m p (root_count_up_to_label table (f (label_of p)))
    has-number p some =
        let g : ℕ = f (label_of p) in
        let below = low p some in
        let in_table = inside p some in
        let g_in : g < length table = omega (arith, below, in_table) in
        record {
          first = start g;
          is_first = first-from g g_in (open-is-first p some);
          joined = to-first p some;
          firsts = firsts-below start table (suc g);
          up_to = record {
            in_order = in-order-below (suc g) (omega (arith, g_in));
            exactly = λ q. (
              λ within.
                  let s = below-some start table (suc g) q within in
                  let s_in : s.0 < length table = omega (arith, s.1, g_in) in (
                    subst (λ (x : Position). IsFirstCellOfClump j m x) (sym s.2) (first-from s.0 s_in s.3),
                    λ before.
                        let back = label-before s.0 (start g) s_in (start-some g g_in) (subst (λ (x : Position). IsEarlierCell (start g) x) s.2 before) in
                        let there = label-own g g_in in
                        absurd (omega (arith, back, there, s.1)),
                  ),
              λ both.
                  let q_in = inside q both.0.category in
                  let own = first-own q both.0 in
                  let here : start (label_of q) ≡ q = ap start own ∙ first-is q both.0 in
                  let le : label_of q < suc g =
                  ⊎_elim (λ lt. absurd (both.1 (subst (λ (x : Position). IsEarlierCell (start g) x) here (starts-before g (label_of q) lt q_in)))) (λ le. omega (arith, le)) (cases_lt g (label_of q)) in
                  subst (Contains (firsts-below start table (suc g))) here
                  (some-below start table (suc g) (label_of q) le (subst (λ (n : ℕ). is_open table n ≡ true) (sym own) (open-is-first q both.0.category))),
            );
          };
          count = firsts-count start table (suc g);
        }

    -- there are as many open labels as clumps
    pub all-firsts : (firsts : List Position) × AreFirstCellsOfAllClumps j m firsts × (length firsts ≡ length (root_labels_below table (length table)))
    all-firsts = (
      firsts-below start table (length table),
      record {
        in_order = in-order-below (length table) (omega arith);
        exactly = λ q. (
          λ within.
              let s = below-some start table (length table) q within in
              subst (λ (x : Position). IsFirstCellOfClump j m x) (sym s.2) (first-from s.0 s.1 s.3),
          λ first.
              let own = first-own q first in
              let here : start (label_of q) ≡ q = ap start own ∙ first-is q first in
              subst (Contains (firsts-below start table (length table))) here
              (some-below start table (length table) (label_of q) (inside q first.category) (subst (λ (n : ℕ). is_open table n ≡ true) (sym own) (open-is-first q first.category))),
        );
      },
      firsts-count start table (length table),
    )
