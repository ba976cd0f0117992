-- Numbers replace the nodes of the paired labels.
use Rattle.std.proofs.Common.{◌≡◌, ℕ, suc, ◌+◌, ◌-◌, ◌<◌, ◌≤◌, List, length, get_or, set, refl, ap, sym, ◌∙◌, arith, subst, ltb, ⊎_elim, eq-eqb, get_or-set_other, get_or-set_same}
use Rattle.std.proofs.lemmas.List.Sums.{count_by-le-length}
use Rattle.std.proofs.lemmas.Bool.{cases_lt, ne_eqb, cond-false}
use Rattle.cell_join_numbers.specs.LabelNumbers.{root_labels_below, root_count_up_to_label}
use Rattle.cell_join_numbers.specs.SparseLabels.{IncludesLabelsOfPairs, IsUnionFindOfPairedLabels, paired_label_count_before_label, is_paired_label, root_place_after_joins_of_pairs, number_of_root_label, clump_number_of_any_label}
use Rattle.cell_join_numbers.specs.SparseNumbers.{ArePairLabelsBelowLabelCount, FirstNodesHoldLabelNumbers}
use Rattle.cell_join_numbers.specs.SparseNumbers.{AreNumbersOfLabels}
use Rattle.cell_join_numbers.specs.SparseNumbers.{AreNumbersOfPairedLabels}
use Rattle.cell_join_numbers.proofs.OpenLemmas.{count-more, open-same}
use Rattle.cell_join_numbers.proofs.SparseLemmas.{sparse-places-number, sparse-labels-number}

-- the number of the paired label at place k, in terms of the joined places
abbrev number_to : (paired joined : List ℕ) → ℕ → ℕ
number_to paired joined k = (get_or paired k 0 - k) + root_count_up_to_label joined k

module _ (labels : ℕ) (pairs : List (ℕ × ℕ)) (paired joined table : List ℕ) (place count : ℕ) (h : FirstNodesHoldLabelNumbers labels pairs paired joined place table count) (long : length table ≡ length paired) (inside : place < length table) where
  abbrev f : ℕ → ℕ
  f = root_place_after_joins_of_pairs paired pairs

  number-at : (k : ℕ) → k < length paired → clump_number_of_any_label pairs paired joined (get_or paired k 0) ≡ number_to paired joined (f k)
  number-at k lt = sparse-places-number labels pairs paired joined h.touching h.is k lt

  in_joined : place < length joined
  in_joined = let t = h.is in omega (arith, inside, long, t.long)

  written : (v new : ℕ) → v + 1 ≡ clump_number_of_any_label pairs paired joined (get_or paired place 0) → new ≡ length (root_labels_below joined (suc place)) → FirstNodesHoldLabelNumbers labels pairs paired joined (place + 1) (set table place v) new
  written v new is counted = record {
    touching = h.touching;
    is = h.is;
    later = λ k le. get_or-set_other table place k v 0 (omega (arith, le)) ∙ h.later k (omega (arith, le));
    done = λ k lt. ⊎_elim
        (λ below. ap (λ (n : ℕ). n + 1) (get_or-set_other table place k v 0 (omega (arith, below))) ∙ h.done k below)
        (λ ge.
        let e : k ≡ place = omega (arith, ge, lt) in
        ap (λ (n : ℕ). get_or (set table place v) n 0 + 1) e
        ∙ ap (λ (n : ℕ). n + 1) (get_or-set_same table place v 0 inside)
        ∙ is
        ∙ ap (λ (n : ℕ). clump_number_of_any_label pairs paired joined (get_or paired n 0)) (sym e))
        (cases_lt k place);
    counted = let e : suc place ≡ place + 1 = omega arith in counted
        ∙ ap (λ (n : ℕ). length (root_labels_below joined n)) e;
  }

  pub root : (v : ℕ) → get_or table place 0 ≡ place → v ≡ get_or paired place 0 - place + count → FirstNodesHoldLabelNumbers labels pairs paired joined (place + 1) (set table place v) (count + 1)
  root v here is =
      let own : get_or joined place 0 ≡ place = sym (h.later place (omega arith)) ∙ here in
      let lead = h.is.leads in
      let itself : f place ≡ place = lead.reports.itself place in_joined own in
      let more : length (root_labels_below joined (suc place)) ≡ length (root_labels_below joined place) + 1 = count-more joined place (eq-eqb _ _ own) in
      let number : clump_number_of_any_label pairs paired joined (get_or paired place 0)
      ≡ number_to paired joined place =
      number-at place (omega (arith, inside, long)) ∙ ap (number_to paired joined) itself in
      written v (count + 1) (omega (arith, is, number, more, h.counted)) (omega (arith, more, h.counted))

  pub closed : get_or table place 0 < place → FirstNodesHoldLabelNumbers labels pairs paired joined (place + 1) (set table place (get_or table (get_or table place 0) 0)) count
  closed less =
      let up = get_or table place 0 in
      let same_up : up ≡ get_or joined place 0 = h.later place (omega arith) in
      let lead = h.is.leads in
      let leads : f up ≡ f place = ap f same_up ∙ lead.reports.points place in_joined in
      let number : get_or table up 0 + 1 ≡ clump_number_of_any_label pairs paired joined (get_or paired place 0) =
      h.done up less
      ∙ number-at up (omega (arith, less, inside, long))
      ∙ ap (number_to paired joined) leads
      ∙ sym (number-at place (omega (arith, inside, long))) in
      let same : length (root_labels_below joined (suc place)) ≡ length (root_labels_below joined place) =
      ap (length {A = ℕ}) (open-same joined place (ne_eqb _ _ (λ e. absurd (omega (arith, e, less, same_up))))) in
      written (get_or table up 0) count number (omega (arith, same, h.counted))

-- at the start, no place is numbered
pub places-first : (labels : ℕ) (pairs : List (ℕ × ℕ)) (paired joined : List ℕ) → IncludesLabelsOfPairs labels pairs paired → IsUnionFindOfPairedLabels pairs paired joined → FirstNodesHoldLabelNumbers labels pairs paired joined 0 joined 0
places-first labels pairs paired joined touching is = record {
  touching = touching;
  is = is;
  later = λ k le. refl;
  done = λ k lt. absurd (omega (arith, lt));
  counted = refl;
}

-- once every place is numbered, the pairs are numbered
pub number-pairs : (most : ℕ) (pairs : List (ℕ × ℕ)) (paired joined numbers roots : List ℕ) (count : ℕ)
    → ((labels : ℕ) → ArePairLabelsBelowLabelCount labels pairs → IncludesLabelsOfPairs labels pairs paired)
    → FirstNodesHoldLabelNumbers most pairs paired joined (length paired) numbers count
    → ((k : ℕ) → k ≤ length paired → get_or roots k 0 ≡ length (root_labels_below joined k))
    → AreNumbersOfPairedLabels pairs paired numbers roots
number-pairs most pairs paired joined numbers roots count touching h are =
    let sparse = h.is in
    let roots-all : get_or roots (length paired) 0 ≡ length (root_labels_below joined (length joined)) =
    are (length paired) (omega arith) ∙ ap (λ (k : ℕ). length (root_labels_below joined k)) (sym sparse.long) in
    record {
      number = clump_number_of_any_label pairs paired joined;
      are = record {
        at = h.done;
        alone = λ label none.
            let led = cond-false (is_paired_label paired label) _ _ none in
            ap (number_of_root_label paired joined) led ∙ ap (λ (n : ℕ). (label - paired_label_count_before_label paired label) + n + 1) (sym (are (paired_label_count_before_label paired label) (few-labels paired label)));
      };
      right = λ labels below j m starts label_of labelled many p some.
          (sparse-labels-number j m starts label_of pairs labelled paired joined (for-starts labels starts many (touching labels below)) sparse).0 p some;
      count = λ labels below j m starts label_of labelled many.
          let all = (sparse-labels-number j m starts label_of pairs labelled paired joined (for-starts labels starts many (touching labels below)) sparse).1 in
          let same : (length starts - length paired) + length (root_labels_below joined (length joined)) ≡ (labels - length paired) + get_or roots (length paired) 0 = omega (arith, many, roots-all) in
          (all.0, all.1, all.2 ∙ same);
    }
  where
    for-starts : {X : Type 0} (labels : ℕ) (starts : List X) → length starts ≡ labels → IncludesLabelsOfPairs labels pairs paired → IncludesLabelsOfPairs (length starts) pairs paired
    for-starts labels starts many t = subst (λ (n : ℕ). IncludesLabelsOfPairs n pairs paired) (sym many) t

    few-labels : (ts : List ℕ) (l : ℕ) → paired_label_count_before_label ts l ≤ length ts
    few-labels ts l = count_by-le-length (λ k. ltb k l) ts

-- each number is at most its label
pub low-set : (table paired : List ℕ) (place v : ℕ) → place < length table → v ≤ get_or paired place 0 → ((k : ℕ) → k < place → get_or table k 0 ≤ get_or paired k 0) → (k : ℕ) → k < place + 1 → get_or (set table place v) k 0 ≤ get_or paired k 0
low-set table paired place v inside le low k lt =
    ⊎_elim
    (λ below. let same = get_or-set_other table place k v 0 (omega (arith, below)) in omega (arith, same, low k below))
    (λ ge.
    let e : k ≡ place = omega (arith, ge, lt) in
    let here : get_or (set table place v) k 0 ≡ v = ap (λ (n : ℕ). get_or (set table place v) n 0) e ∙ get_or-set_same table place v 0 inside in
    let own : get_or paired k 0 ≡ get_or paired place 0 = ap (λ (n : ℕ). get_or paired n 0) e in
    omega (arith, here, own, le))
    (cases_lt k place)
