-- Replacing labels by numbers makes a map a clumping.
use Rattle.std.proofs.Common.{◌≡◌, ℕ, zero, suc, ℤ, pos, true, ◌+◌, ◌*◌, ◌<◌, [], ◌∷◌, List, Some, None, IsSome}
use Rattle.std.proofs.Common.{is_some, not, length, get_or, refl, ap, sym, ◌∙◌, arith, subst, ⊎_elim}
use Rattle.std.specs.List.{Contains, AllPairs}
use Rattle.std.proofs.lemmas.List.Elements.{Contains-append_left, Contains-push, Contains-push_cases, Contains-get_or}
use Rattle.std.proofs.lemmas.List.Quantifiers.{all_pairs_push}
use Rattle.std.proofs.lemmas.Bool.{cases_lt, cases_Bool, eq-eqb, eqb-true, and_parts}
use Rattle.std.proofs.lemmas.Nat.{div-add-mod'}
use Rattle.cell_core.specs.Grid.{Grid, CellValue, RowsFillRegion, empty_category_labels}
use Rattle.cell_clumps.specs.declared.clump.Joining.{Joining}
use Rattle.cell_clumps.specs.Clumps.{Position, cell_at_position, IsEarlierCell, AreCellsConnected, IsFirstCellOfClump}
use Rattle.cell_clumps.specs.Clumps.{HasClumpNumber, IsClumpMapOf}
use Rattle.cell_clumps.specs.parts.CellPlaces.{position_at_row_and_column, place_of_position}
use Rattle.cell_clumps.specs.parts.ClumpsRead.{AreLabelsOfCellsRead, clump_label_at_position}
use Rattle.cell_clumps.specs.parts.Starts.{cell_that_began_label, count_of_begun_labels, cell_begins_new_label}
use Rattle.cell_clumps.specs.parts.Starts.{has_equal_earlier_neighbour}
use Rattle.cell_clumps.specs.parts.ClumpNumbers.{is_first, first_cells_of_roots_below_label, clump_number_of_root}
use Rattle.cell_clumps.specs.parts.ClumpNumbers.{cell_of_clump_map}
use Rattle.cell_clumps.specs.parts.LabelTables.{IsLabelTableOfMap}
use Rattle.cell_clumps.proofs.PathLemmas.{AreJoined-trans, AreJoined-sym, AreJoined-first, AreJoined-along}
use Rattle.cell_clumps.proofs.LawLemmas.{cases_before}
use Rattle.cell_clumps.proofs.MeetingLemmas.{some_of}
use Rattle.cell_clumps.proofs.NearLemmas.{label_below}
use Rattle.cell_clumps.proofs.StartLemmas.{inside_map, count_le, place_lt, start_found}
use Rattle.cell_clumps.proofs.NumberLemmas.{cell_null, cell_numbered, firsts_more, firsts_same, number_apart, number_is}
use Rattle.cell_clumps.proofs.NumberLemmas.{read_all}

-- ---- the cells of open labels

below_some : (j : Joining) (m : Grid) (labels : List ℕ) (n : ℕ) (p : Position)
    → Contains (first_cells_of_roots_below_label j m labels n) p → (i : ℕ) × (i < n)
    × (p ≡ cell_that_began_label j m i) × (is_first labels i ≡ true)
below_some j m labels zero p h = absurd (let lt = h.1 in omega arith)
below_some j m labels (suc n) p h =
    let more : (i : ℕ) × (i < n) × (p ≡ cell_that_began_label j m i) × (is_first labels i ≡ true) → (i : ℕ)
    × (i < suc n) × (p ≡ cell_that_began_label j m i) × (is_first labels i
    ≡ true) = λ t. (t.0, let lt = t.1 in omega arith, t.2, t.3) in
    ⊎_elim
    (λ yes'. ⊎_elim (λ before. more (below_some j m labels n p before)) (λ e. (n, omega arith, sym e, yes'))
    (Contains-push_cases (first_cells_of_roots_below_label j m labels n) (cell_that_began_label j m n) p
    (subst (λ (ps : List Position). Contains ps p) (firsts_more j m labels n yes') h)))
    (λ no'. more (below_some j m labels n p (subst (λ (ps : List Position). Contains ps p)
    (firsts_same j m labels n no') h)))
    (cases_Bool (is_first labels n))

some_below : (j : Joining) (m : Grid) (labels : List ℕ) (n i : ℕ) → i < n → is_first labels i ≡ true
    → Contains (first_cells_of_roots_below_label j m labels n) (cell_that_began_label j m i)
some_below j m labels zero i lt is = absurd (omega arith)
some_below j m labels (suc n) i lt is =
    let HasIt : List Position → Type 0 = λ ps. Contains ps (cell_that_began_label j m i) in
    ⊎_elim
    (λ below. let before : Contains (first_cells_of_roots_below_label j m labels n)
    (cell_that_began_label j m i) = some_below j m labels n i below is in
    ⊎_elim (λ yes'. subst HasIt (sym (firsts_more j m labels n yes'))
    (Contains-append_left (first_cells_of_roots_below_label j m labels n) (cell_that_began_label j m n
    ∷ []) (cell_that_began_label j m i) before))
    (λ no'. subst HasIt (sym (firsts_same j m labels n no')) before) (cases_Bool (is_first labels n)))
    (λ le. let e : i ≡ n = omega arith in
    let yes' : is_first labels n ≡ true = subst (λ (k : ℕ). is_first labels k ≡ true) e is in
    subst (λ (k : ℕ). Contains (first_cells_of_roots_below_label j m labels (suc n)) (cell_that_began_label j m k))
    (sym e)
    (subst (λ (ps : List Position). Contains ps (cell_that_began_label j m n)) (sym (firsts_more j m labels n yes'))
    (Contains-push (first_cells_of_roots_below_label j m labels n) (cell_that_began_label j m n))))
    (cases_lt i n)

-- ---- the labels of a map

module _ (j : Joining) (m : Grid) (table : List ℕ) (h : IsLabelTableOfMap j m table) where
  abbrev f : ℕ → ℕ
  f = h.has_read.open_of

  abbrev rd : AreLabelsOfCellsRead j m table h.labels h.has_read.open_of
  rd = h.has_read.read

  inside_table : (p : Position) (v : ℤ) → cell_at_position m p ≡ Some v
      → clump_label_at_position m h.labels p < length table
  inside_table p v is = label_below j m table h.labels f rd p v is (read_all j m table h p v is)

  -- each label has a place where its run begins, and it is the label of that place
  place_found : (k : ℕ) → k < length table → (x : ℕ) × (count_of_begun_labels j m x ≡ k)
      × (place_of_position m.region.cols (cell_that_began_label j m k) ≡ x)
      × (cell_begins_new_label j m (cell_that_began_label j m k) ≡ true)
  place_found k lt =
      let total : length table ≡ count_of_begun_labels j m (m.region.rows * m.region.cols) = rd.long
      ∙ ap (count_of_begun_labels j m) h.long in
      let t = start_found j m k (omega arith) in
      (t.0, t.3, ap (place_of_position m.region.cols) t.4 ∙ div-add-mod' t.0 m.region.cols, t.2)

  start_some : (k : ℕ) → k < length table → IsSome (cell_at_position m (cell_that_began_label j m k))
  start_some k lt = (and_parts (is_some (cell_at_position m (cell_that_began_label j m k)))
      (not (has_equal_earlier_neighbour j m (cell_that_began_label j m k).row (cell_that_began_label j m k).col))
      (place_found k lt).3).0

  label_own : (k : ℕ) → k < length table → clump_label_at_position m h.labels (cell_that_began_label j m k) ≡ k
  label_own k lt =
      let t = place_found k lt in
      let v = some_of (cell_at_position m (cell_that_began_label j m k)) (start_some k lt) in
      rd.own (cell_that_began_label j m k) (rd.inside (cell_that_began_label j m k) v.0 v.1) t.3
      (read_all j m table h (cell_that_began_label j m k) v.0 v.1) ∙ ap (count_of_begun_labels j m) t.2 ∙ t.1

  -- a cell before the first cell of a label has a smaller label
  label_before : (k : ℕ) (p : Position) (v : ℤ) → k < length table → cell_at_position m p ≡ Some v
      → IsEarlierCell p (cell_that_began_label j m k) → clump_label_at_position m h.labels p < k
  label_before k p v lt is less =
      let t = place_found k lt in
      let few = rd.few p v is (read_all j m table h p v is) in
      let below = place_lt m.region.cols p (cell_that_began_label j m k) ((rd.inside p v is).1) less in
      let here = t.2 in let count = t.1 in
      let le = count_le j m (suc (place_of_position m.region.cols p)) t.0 (omega arith) in
      omega arith

  -- runs begin in ascending order of their labels
  starts_before : (i n : ℕ) → i < n → n < length table → IsEarlierCell (cell_that_began_label j m i)
      (cell_that_began_label j m n)
  starts_before i n lt inside =
      let v = some_of (cell_at_position m (cell_that_began_label j m n)) (start_some n inside) in
      let one = label_own i (omega arith) in let other = label_own n inside in
      ⊎_elim (λ e. absurd (let same = ap (clump_label_at_position m h.labels) e in omega arith))
      (λ apart. ⊎_elim (λ less. less) (λ more. absurd (let less = label_before i (cell_that_began_label j m n) v.0
      (omega arith) v.1 more in omega arith)) apart)
      (cases_before (cell_that_began_label j m i) (cell_that_began_label j m n))

  in_order_below : (n : ℕ) → n < length table + 1 → AllPairs IsEarlierCell
      (first_cells_of_roots_below_label j m table n)
  in_order_below zero lt = λ i k d less inside. absurd (omega arith)
  in_order_below (suc n) lt =
      ⊎_elim
      (λ yes'. subst (AllPairs IsEarlierCell) (sym (firsts_more j m table n yes'))
      (all_pairs_push IsEarlierCell (first_cells_of_roots_below_label j m table n) (cell_that_began_label j m n)
      (in_order_below n (omega arith))
      (λ k d less. let t = below_some j m table n (get_or (first_cells_of_roots_below_label j m table n) k d)
      (Contains-get_or (first_cells_of_roots_below_label j m table n) k d less) in
      subst (λ (p : Position). IsEarlierCell p (cell_that_began_label j m n)) (sym t.2)
      (starts_before t.0 n t.1 (omega arith)))))
      (λ no'. subst (AllPairs IsEarlierCell) (sym (firsts_same j m table n no')) (in_order_below n (omega arith)))
      (cases_Bool (is_first table n))

  same_open : (p q : Position) → AreCellsConnected j m p q → f (clump_label_at_position m h.labels p)
      ≡ f (clump_label_at_position m h.labels q)
  same_open p q joined =
      AreJoined-along j m (λ s. f (clump_label_at_position m h.labels s))
      (λ a b v near a_is b_is. rd.meet a b v near a_is b_is (read_all j m table h a v a_is)
      (read_all j m table h b v b_is)) p q joined

  to_first : (p : Position) (v : ℤ) → cell_at_position m p ≡ Some v
      → AreCellsConnected j m (cell_that_began_label j m (f (clump_label_at_position m h.labels p))) p
  to_first p v is =
      let k : ℕ = clump_label_at_position m h.labels p in
      ⊎_elim
      (λ own. subst (λ (n : ℕ). AreCellsConnected j m (cell_that_began_label j m n) p) (sym own)
      (rd.joined p v is (read_all j m table h p v is)))
      (λ far. AreJoined-trans j m _ _ _ (AreJoined-sym j m _ _ far) (rd.joined p v is (read_all j m table h p v is)))
      (rd.sound.joined k (inside_table p v is))

  open_is_first : (p : Position) (v : ℤ) → cell_at_position m p ≡ Some v
      → is_first table (f (clump_label_at_position m h.labels p)) ≡ true
  open_is_first p v is = eq-eqb _ _ (rd.sound.reports.is_open (clump_label_at_position m h.labels p)
      (inside_table p v is))

  first_from : (g : ℕ) → g < length table → is_first table g ≡ true
      → IsFirstCellOfClump j m (cell_that_began_label j m g)
  first_from g inside is =
      let own : f g ≡ g = rd.sound.reports.itself g inside (eqb-true _ _ is) in
      record {
        category = start_some g inside;
        none_before = λ q before joined.
            let v = AreJoined-first j m q (cell_that_began_label j m g) joined in
            let less = label_before g q joined.category inside v before in
            let low = rd.sound.reports.low (clump_label_at_position m h.labels q) (inside_table q joined.category v) in
            let same = same_open q (cell_that_began_label j m g) joined in
            let there : f (clump_label_at_position m h.labels (cell_that_began_label j m g))
            ≡ g = ap f (label_own g inside)
            ∙ own in
            absurd (omega arith);
      }

  -- the first cell of a clump is the cell at which the run of its label begins
  first_begins : (p : Position) → IsFirstCellOfClump j m p → cell_that_began_label j m
      (f (clump_label_at_position m h.labels p)) ≡ p
  first_begins p first =
      let v = some_of (cell_at_position m p) first.category in
      let inside = inside_table p v.0 v.1 in
      let low = rd.sound.reports.low (clump_label_at_position m h.labels p) inside in
      ⊎_elim (λ e. e)
      (λ apart. ⊎_elim (λ before. absurd (first.none_before _ before (to_first p v.0 v.1)))
      (λ after. absurd (let less = label_before (f (clump_label_at_position m h.labels p)) p v.0
      (omega arith) v.1 after in omega arith)) apart)
      (cases_before (cell_that_began_label j m (f (clump_label_at_position m h.labels p))) p)

  first_own : (p : Position) → IsFirstCellOfClump j m p → f (clump_label_at_position m h.labels p)
      ≡ clump_label_at_position m h.labels p
  first_own p first =
      let v = some_of (cell_at_position m p) first.category in
      let inside = inside_table p v.0 v.1 in
      let low = rd.sound.reports.low (clump_label_at_position m h.labels p) inside in
      sym (label_own (f (clump_label_at_position m h.labels p)) (omega arith))
      ∙ ap (clump_label_at_position m h.labels) (first_begins p first)

  -- each cell that is not null has the number of its label
  pub has_number : (p : Position) (v : ℤ) → cell_at_position m p ≡ Some v
      → HasClumpNumber j m p (clump_number_of_root j m table (f (clump_label_at_position m h.labels p)))
  has_number p v is =
      let g : ℕ = f (clump_label_at_position m h.labels p) in
      let inside = inside_table p v is in
      let low = rd.sound.reports.low (clump_label_at_position m h.labels p) inside in
      let g_first = first_from g (omega arith) (open_is_first p v is) in
      record {
        first = cell_that_began_label j m g;
        is_first = g_first;
        joined = to_first p v is;
        firsts = first_cells_of_roots_below_label j m table (suc g);
        up_to = record {
          in_order = in_order_below (suc g) (omega arith);
          exactly = λ q. (
            λ within. let s = below_some j m table (suc g) q within in
                let less = s.1 in (
                  subst (λ (x : Position). IsFirstCellOfClump j m x) (sym s.2) (first_from s.0 (omega arith) s.3),
                  λ before. let u = some_of (cell_at_position m (cell_that_began_label j m g)) g_first.category in
                      let back = label_before s.0 (cell_that_began_label j m g) u.0 (omega arith) u.1
                      (subst (λ (x : Position). IsEarlierCell (cell_that_began_label j m g) x) s.2 before) in
                      let there = label_own g (omega arith) in
                      absurd (omega arith),
                ),
            λ both. let u = some_of (cell_at_position m q) both.0.category in
                let own = first_own q both.0 in let here = ap (cell_that_began_label j m) (sym own)
                ∙ first_begins q both.0 in
                let q_in = inside_table q u.0 u.1 in
                let le : clump_label_at_position m h.labels q < suc g =
                ⊎_elim (λ lt. absurd (both.1 (subst (λ (x : Position). IsEarlierCell
                (cell_that_began_label j m g) x) here (starts_before g
                (clump_label_at_position m h.labels q) lt q_in))))
                (λ le. omega arith) (cases_lt g (clump_label_at_position m h.labels q)) in
                subst (Contains (first_cells_of_roots_below_label j m table (suc g))) here
                (some_below j m table (suc g) (clump_label_at_position m h.labels q) le
                (subst (λ (n : ℕ). is_first table n
                ≡ true) own (open_is_first q u.0 u.1))),
          );
        };
        count = refl;
      }

  -- cells with the same number are joined
  joined_from : (p q : Position) (v u : ℤ) → cell_at_position m p ≡ Some v → cell_at_position m q ≡ Some u
      → clump_number_of_root j m table (f (clump_label_at_position m h.labels p))
      ≡ clump_number_of_root j m table (f (clump_label_at_position m h.labels q)) → AreCellsConnected j m p q
  joined_from p q v u p_is q_is e =
      let same = number_apart j m table _ _ (open_is_first p v p_is) (open_is_first q u q_is) e in
      AreJoined-trans j m p _ q (AreJoined-sym j m _ _ (to_first p v p_is))
      (subst (λ (n : ℕ). AreCellsConnected j m (cell_that_began_label j m n) q) (sym same) (to_first q u q_is))

  pub clumping : (numbers : Grid) → numbers.region ≡ m.region → numbers.labels ≡ empty_category_labels
      → RowsFillRegion numbers.region numbers.rows → ((r c : ℕ) → r < m.region.rows → c < m.region.cols
      → cell_at_position numbers (position_at_row_and_column r c)
      ≡ cell_of_clump_map j m table h (position_at_row_and_column r c))
      → IsClumpMapOf j m numbers
  clumping numbers region unlabelled full cells =
      let number : (p : Position) (v : ℤ) → cell_at_position m p ≡ Some v
      → cell_at_position numbers p ≡ Some (pos (clump_number_of_root j m table
      (f (clump_label_at_position m h.labels p)))) = λ p v is.
      let t = rd.inside p v is in cells p.row p.col t.0 t.1 ∙ cell_numbered j m table h p v is
      ∙ ap (λ (n : ℕ). Some (pos n)) (number_is j m table h p) in
      record {
        region = region;
        labels = unlabelled;
        nulls = λ p is. nulls_at p is (cell_at_position numbers p) refl;
        numbered = λ p some. let v = some_of (cell_at_position m p) some in (
          clump_number_of_root j m table
              (f (clump_label_at_position m h.labels p)),
          has_number p v.0 v.1,
          number p v.0 v.1,
        );
        same = λ p q p_some q_some.
            let v = some_of (cell_at_position m p) p_some in
            let u = some_of (cell_at_position m q) q_some in (
              λ e. joined_from p q v.0 u.0 v.1 u.1 (let both : Some
                  (pos (clump_number_of_root j m table (f (clump_label_at_position m h.labels p))))
                  ≡ Some (pos (clump_number_of_root j m table (f (clump_label_at_position m h.labels q)))) = sym
                  (number p v.0 v.1) ∙ e ∙ number q u.0 u.1 in cc),
              λ joined. number p v.0 v.1 ∙ ap (λ (n : ℕ). Some (pos (clump_number_of_root j m table n)))
                  (same_open p q joined) ∙ sym (number q u.0 u.1),
            );
      }
    where
      nulls_at : (p : Position) → cell_at_position m p ≡ None → (x : CellValue) → cell_at_position numbers p ≡ x
          → cell_at_position numbers p ≡ None
      nulls_at p is None e = e
      nulls_at p is (Some v) e =
          let t = inside_map numbers p v full e in
          let row : p.row < m.region.rows = (let lt = t.0 in let same = ap (λ r. r.rows) region in omega arith) in
          let col : p.col < m.region.cols = (let lt = t.1 in let same = ap (λ r. r.cols) region in omega arith) in
          cells p.row p.col row col ∙ cell_null j m table h p is
