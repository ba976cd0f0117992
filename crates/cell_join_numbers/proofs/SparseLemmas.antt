-- A table of only the labels that touch a cut gives the numbers of all labels.
use Rattle.std.proofs.Common.{◌≡◌, ℕ, zero, suc, ◌+◌, ◌-◌, ◌<◌, ◌≤◌, List, [], ◌∷◌, map, length, get_or, set, Bool}
use Rattle.std.proofs.Common.{true}
use Rattle.std.proofs.Common.{false, eqb, max, min, refl, ap, sym, ◌∙◌, arith, subst, ⊎_elim, eq-eqb, eqb-true}
use Rattle.std.specs.Prelude.{All, Contains}
use Rattle.std.specs.List.{AllPairs, range_with_len}
use Rattle.std.proofs.lemmas.Bool.{cases_eq, cond-true, cond-false}
use Rattle.std.proofs.lemmas.List.{length-set, length_push}
use Rattle.std.proofs.lemmas.List.Elements.{All-head, All-tail}
use Rattle.std.proofs.lemmas.List.FromFn.{length-range_with_len, get_or-range_with_len}
use Rattle.cell_clumps.specs.Clumps.{HasClumpNumber}
use Rattle.cell_clumps.specs.parts.Labels.{root_label_after_join}
use Rattle.cell_clumps.proofs.LabelLemmas.{closed_high, closed_other}
use Rattle.cell_join_numbers.proofs.CountLemmas.{one-if, same-answer}
use Rattle.cell_join_numbers.specs.UnionFind.{AreRootsOfLabels, roots_after_all_joins}
use Rattle.cell_join_numbers.specs.LabelNumbers.{is_open, root_labels_below, root_count_up_to_label}
use Rattle.cell_join_numbers.proofs.UnionLemmas.{AreRootsOfLabels-joined}
use Rattle.cell_join_numbers.proofs.OpenLemmas.{open-more, open-same}
use Rattle.cell_join_numbers.proofs.NumberLemmas.{has-number, all-firsts}
use Rattle.cell_join_numbers.specs.SparseLabels.{IncludesLabelsOfPairs, IsUnionFindOfPairedLabels}
use Rattle.cell_join_numbers.specs.SparseLabels.{paired_label_count_before_label}
use Rattle.cell_join_numbers.specs.SparseLabels.{is_paired_label, places_of_label_pair}
use Rattle.cell_join_numbers.specs.SparseLabels.{root_place_after_joins_of_pairs, root_label_of_any_label}
use Rattle.cell_join_numbers.specs.SparseLabels.{number_of_root_label, clump_number_of_any_label}
use Rattle.cell_join_numbers.specs.SparseLabels.{root_count_of_all_labels}
use Rattle.cell_join_numbers.specs.SparseLabels.{PairedLabelsGiveClumpNumbers, RootPlacesGivePairedLabelNumbers}
use Rattle.cell_join_numbers.proofs.PlaceLemmas.{HasPlace, contained-place, touching-place, touching-at}
use Rattle.cell_join_numbers.proofs.PlaceLemmas.{place-is, next-before, before-zero, before-all, few-before}
use Rattle.cell_join_numbers.proofs.PlaceLemmas.{one-place, max-at, min-at}

-- ---- labels are joined as their places are joined

module _ (ts : List ℕ) (order : AllPairs ◌<◌ ts) where
  abbrev place : ℕ → ℕ
  place l = paired_label_count_before_label ts l

  abbrev label : ℕ → ℕ
  label r = get_or ts r 0

  -- a listed label leads to the label at the place that its own place leads to, and other labels to themselves
  record Follows (f g : ℕ → ℕ) : Type 0 where
    stays : (l : ℕ) → is_paired_label ts l ≡ false → f l ≡ l
    leads : (r : ℕ) → r < length ts → f (label r) ≡ label (g r)
    few : (r : ℕ) → r < length ts → g r < length ts

  follows-first : Follows (λ k. k) (λ k. k)
  follows-first = record { stays = λ l no'. refl; leads = λ r within. refl; few = λ r within. within }

  module _ (f g : ℕ → ℕ) (h : Follows f g) (a b : ℕ) (one : HasPlace ts a) (other : HasPlace ts b) where
    abbrev high : ℕ
    high = max (g (place a)) (g (place b))

    abbrev low : ℕ
    low = min (g (place a)) (g (place b))

    from-one : f a ≡ label (g (place a))
    from-one = ap f (sym one.label) ∙ h.leads (place a) one.inside

    from-other : f b ≡ label (g (place b))
    from-other = ap f (sym other.label) ∙ h.leads (place b) other.inside

    one-few : g (place a) < length ts
    one-few = h.few (place a) one.inside

    other-few : g (place b) < length ts
    other-few = h.few (place b) other.inside

    high-is : max (f a) (f b) ≡ label high
    high-is =
        ap (λ (n : ℕ). max n (f b)) from-one
        ∙ ap (λ (n : ℕ). max (label (g (place a))) n) from-other
        ∙ max-at ts order (g (place a)) (g (place b)) one-few other-few

    low-is : min (f a) (f b) ≡ label low
    low-is =
        ap (λ (n : ℕ). min n (f b)) from-one
        ∙ ap (λ (n : ℕ). min (label (g (place a))) n) from-other
        ∙ min-at ts order (g (place a)) (g (place b)) one-few other-few

    high-few : high < length ts
    high-few = omega (arith, one-few, other-few)

    low-few : low < length ts
    low-few = omega (arith, one-few, other-few)

    after-stays : (l : ℕ) → is_paired_label ts l ≡ false → root_label_after_join f a b l ≡ l
    after-stays l no' =
        closed_other f (max (f a) (f b)) (min (f a) (f b)) l (λ e.
        let here : l ≡ label high = sym (h.stays l no') ∙ e ∙ high-is in
        let yes' = ap (is_paired_label ts) here ∙ touching-at ts high 0 high-few in
        absurd (let both : true ≡ false = sym yes' ∙ no' in cc))
        ∙ h.stays l no'

    after-leads : (r : ℕ) → r < length ts →
        root_label_after_join f a b (label r) ≡ label (root_label_after_join g (place a) (place b) r)
    after-leads r within =
        ⊎_elim
        (λ e.
        closed_high f (max (f a) (f b)) (min (f a) (f b)) (label r) (h.leads r within ∙ ap label e ∙ sym high-is)
        ∙ low-is
        ∙ ap label (sym (closed_high g high low r e)))
        (λ ne.
        closed_other f (max (f a) (f b)) (min (f a) (f b)) (label r) (λ e.
        ne (one-place ts order (g r) high (h.few r within) high-few (sym (h.leads r within) ∙ e ∙ high-is)))
        ∙ h.leads r within
        ∙ ap label (sym (closed_other g high low r ne)))
        (cases_eq (g r) high)

    after-few : (r : ℕ) → r < length ts → root_label_after_join g (place a) (place b) r < length ts
    after-few r within =
        ⊎_elim
        (λ e. let is = closed_high g high low r e in omega (arith, is, low-few))
        (λ ne. let is = closed_other g high low r ne in let less = h.few r within in omega (arith, is, less))
        (cases_eq (g r) high)

    follows-after : Follows (root_label_after_join f a b) (root_label_after_join g (place a) (place b))
    follows-after = record { stays = after-stays; leads = after-leads; few = after-few }

  follows-all : (pairs : List (ℕ × ℕ)) (f g : ℕ → ℕ) → Follows f g →
      All (λ pair. Contains ts pair.0 × Contains ts pair.1) pairs →
      Follows (roots_after_all_joins f pairs) (roots_after_all_joins g (map (places_of_label_pair ts) pairs))
  follows-all [] f g h paired = h
  follows-all (p ∷ pairs) f g h paired =
      let both = All-head (λ (pair : ℕ × ℕ). Contains ts pair.0 × Contains ts pair.1) p pairs paired in
      follows-all pairs (root_label_after_join f p.0 p.1) (root_label_after_join g (place p.0) (place p.1))
      (follows-after f g h p.0 p.1 (contained-place ts order p.0 both.0) (contained-place ts order p.1 both.1))
      (All-tail (λ (pair : ℕ × ℕ). Contains ts pair.0 × Contains ts pair.1) p pairs paired)

-- ---- a table with all labels

first-table : (n : ℕ) → AreRootsOfLabels (range_with_len 0 n) (λ k. k)
first-table n = record {
  reports = record {
    points = λ k lt. own k (omega (arith, lt, length-range_with_len 0 n));
    itself = λ k lt e. refl;
    is_open = λ k lt. own k (omega (arith, lt, length-range_with_len 0 n));
    low = λ k lt. omega arith;
  };
  beyond = λ k le. refl;
}
  where
    own : (k : ℕ) → k < n → get_or (range_with_len 0 n) k 0 ≡ k
    own k lt = let is = get_or-range_with_len 0 n k 0 lt in omega (arith, is)

-- a table that gives, for each label, the label it leads to after the pairs were joined
record HasTable (n : ℕ) (f : ℕ → ℕ) : Type 0 where
  table : List ℕ
  long : length table ≡ n
  leads : AreRootsOfLabels table f

joined-table : (n : ℕ) (pairs : List (ℕ × ℕ)) (f : ℕ → ℕ) → All (λ pair. (pair.0 < n) × (pair.1 < n)) pairs →
    HasTable n f → HasTable n (roots_after_all_joins f pairs)
joined-table n [] f few h = h
joined-table n (p ∷ pairs) f few h =
    let both = All-head (λ (pair : ℕ × ℕ). (pair.0 < n) × (pair.1 < n)) p pairs few in
    let high = max (f p.0) (f p.1) in
    let low = min (f p.0) (f p.1) in
    let one : p.0 < length h.table = omega (arith, both.0, h.long) in
    let other : p.1 < length h.table = omega (arith, both.1, h.long) in
    joined-table n pairs (root_label_after_join f p.0 p.1)
    (All-tail (λ (pair : ℕ × ℕ). (pair.0 < n) × (pair.1 < n)) p pairs few) (record {
      table = set h.table high low;
      long = length-set h.table high low ∙ h.long;
      leads = AreRootsOfLabels-joined h.table p.0 p.1 (f p.0) (f p.1) high low f one other h.leads refl refl refl refl;
    })

-- a label is open exactly if it leads to itself
open-is : (table : List ℕ) (f : ℕ → ℕ) → AreRootsOfLabels table f → (k : ℕ) → k < length table
    → is_open table k ≡ eqb (f k) k
open-is table f lead k within =
    same-answer (is_open table k) (eqb (f k) k)
    (λ e. eq-eqb (f k) k (lead.reports.itself k within (eqb-true (get_or table k 0) k e)))
    (λ e. let own = eqb-true (f k) k e in
    eq-eqb (get_or table k 0) k
    (ap (λ (n : ℕ). get_or table n 0) (sym own) ∙ lead.reports.is_open k within ∙ own))

open-step : (table : List ℕ) (k : ℕ) →
    length (root_labels_below table (suc k)) ≡ length (root_labels_below table k) + one-if (is_open table k)
open-step table k = by (is_open table k) refl
  where
    by : (b : Bool) → is_open table k ≡ b →
        length (root_labels_below table (suc k)) ≡ length (root_labels_below table k) + one-if (is_open table k)
    by true e =
        let one : one-if (is_open table k) ≡ 1 = ap one-if e in
        let more = ap (length {A = ℕ}) (open-more table k e) in
        omega (arith, one, more, length_push (root_labels_below table k) k)
    by false e =
        let none : one-if (is_open table k) ≡ 0 = ap one-if e in
        let same = ap (length {A = ℕ}) (open-same table k e) in
        omega (arith, none, same)

-- ---- the numbers of labels

module _ (n : ℕ) (pairs : List (ℕ × ℕ)) (ts sparse : List ℕ) (touching : IncludesLabelsOfPairs n pairs ts)
    (is : IsUnionFindOfPairedLabels pairs ts sparse) where
  abbrev full_leads : ℕ → ℕ
  full_leads = roots_after_all_joins (λ k. k) pairs

  abbrev place_leads : ℕ → ℕ
  place_leads = root_place_after_joins_of_pairs ts pairs

  follows : Follows ts touching.in_order full_leads place_leads
  follows =
      follows-all ts touching.in_order pairs (λ k. k) (λ k. k) (follows-first ts touching.in_order) touching.paired

  led-to : (l : ℕ) → full_leads l ≡ root_label_of_any_label ts pairs l
  led-to l = by (is_paired_label ts l) refl
    where
      by : (b : Bool) → is_paired_label ts l ≡ b → full_leads l ≡ root_label_of_any_label ts pairs l
      by true e =
          let at = touching-place ts touching.in_order l e in
          ap full_leads (sym at.label)
          ∙ follows.leads (paired_label_count_before_label ts l) at.inside
          ∙ sym (cond-true (is_paired_label ts l) (get_or ts (place_leads (paired_label_count_before_label ts l)) 0) l
          e)
      by false e =
          follows.stays l e
          ∙ sym (cond-false (is_paired_label ts l) (get_or ts
          (place_leads (paired_label_count_before_label ts l)) 0) l e)

  -- the number of the label at a place, in terms of the place to which that place leads
  place-number : (r : ℕ) → r < length ts →
      clump_number_of_any_label pairs ts sparse (get_or ts r 0)
      ≡ (get_or ts (place_leads r) 0 - place_leads r) + root_count_up_to_label sparse (place_leads r)
  place-number r within =
      let l = get_or ts r 0 in
      let q = place_leads r in
      let own : paired_label_count_before_label ts l ≡ r = place-is ts touching.in_order r 0 within in
      let led : root_label_of_any_label ts pairs l ≡ get_or ts q 0 =
      cond-true (is_paired_label ts l) (get_or ts (place_leads (paired_label_count_before_label ts l)) 0) l
      (touching-at ts r 0 within)
      ∙ ap (λ (i : ℕ). get_or ts (place_leads i) 0) own in
      let there : paired_label_count_before_label ts (get_or ts q 0) ≡ q =
      place-is ts touching.in_order q 0 (follows.few r within) in
      let q_open : get_or sparse q 0 ≡ q = is.leads.reports.is_open r (omega (arith, within, is.long)) in
      let one : one-if (is_open sparse q) ≡ 1 = ap one-if (eq-eqb (get_or sparse q 0) q q_open) in
      let before : length (root_labels_below sparse (paired_label_count_before_label ts (get_or ts q 0)))
      ≡ length (root_labels_below sparse q) =
      ap (λ (i : ℕ). length (root_labels_below sparse i)) there in
      let number : number_of_root_label ts sparse (get_or ts q 0)
      ≡ (get_or ts q 0 - q) + root_count_up_to_label sparse q =
      omega (arith, open-step sparse q, one, there, before) in
      ap (number_of_root_label ts sparse) led ∙ number

  contained-few : (l : ℕ) → Contains ts l → l < n
  contained-few l c = subst (λ (k : ℕ). k < n) c.2 (touching.few c.0 l c.1)

  full-table : HasTable n full_leads
  full-table =
      joined-table n pairs (λ k. k)
      (λ k d within. let both = touching.paired k d within in (contained-few _ both.0, contained-few _ both.1))
      (record { table = range_with_len 0 n; long = length-range_with_len 0 n; leads = first-table n })

  module _ (full : List ℕ) (long : length full ≡ n) (lead : AreRootsOfLabels full full_leads) where
    -- a listed label is open exactly if its place is open
    open-alike : (l : ℕ) → l < n → is_paired_label ts l ≡ true
        → is_open full l ≡ is_open sparse (paired_label_count_before_label ts l)
    open-alike l within e =
        let at = touching-place ts touching.in_order l e in
        let r = paired_label_count_before_label ts l in
        let r_in : r < length sparse = omega (arith, at.inside, is.long) in
        let there : full_leads l ≡ get_or ts (place_leads r) 0 =
        ap full_leads (sym at.label) ∙ follows.leads r at.inside in
        open-is full full_leads lead l (omega (arith, within, long))
        ∙ same-answer (eqb (full_leads l) l) (eqb (place_leads r) r)
        (λ y. eq-eqb (place_leads r) r (one-place ts touching.in_order (place_leads r) r (follows.few r at.inside)
        at.inside (sym there ∙ eqb-true (full_leads l) l y ∙ sym at.label)))
        (λ y. eq-eqb (full_leads l) l (there
        ∙ ap (λ (k : ℕ). get_or ts k 0) (eqb-true (place_leads r) r y) ∙ at.label))
        ∙ sym (open-is sparse place_leads is.leads r r_in)

    open-alone : (l : ℕ) → l < n → is_paired_label ts l ≡ false → is_open full l ≡ true
    open-alone l within e =
        open-is full full_leads lead l (omega (arith, within, long)) ∙ eq-eqb (full_leads l) l (follows.stays l e)

    abbrev open_before : ℕ → ℕ
    open_before l = (l - paired_label_count_before_label ts l) + length
        (root_labels_below sparse (paired_label_count_before_label ts l))

    count-open : (l : ℕ) → l ≤ n → length (root_labels_below full l) ≡ open_before l
    count-open zero most =
        let none : length (root_labels_below sparse (paired_label_count_before_label ts 0)) ≡ 0 =
        ap (λ (k : ℕ). length (root_labels_below sparse k)) (before-zero ts) in
        omega (arith, none)
    count-open (suc l) most =
        by (is_paired_label ts l) refl (count-open l (omega (arith, most)))
      where
        by : (b : Bool) → is_paired_label ts l ≡ b → length (root_labels_below full l) ≡ open_before l →
            length (root_labels_below full (suc l)) ≡ open_before (suc l)
        by true e before =
            let r = paired_label_count_before_label ts l in
            let one : one-if (is_paired_label ts l) ≡ 1 = ap one-if e in
            let next : paired_label_count_before_label ts (suc l) ≡ suc r = omega
            (arith, next-before ts touching.in_order l, one) in
            let alike : one-if (is_open full l) ≡ one-if (is_open sparse r) =
            ap one-if (open-alike l (omega (arith, most)) e) in
            let there : length (root_labels_below sparse (paired_label_count_before_label ts (suc l)))
            ≡ length (root_labels_below sparse (suc r)) =
            ap (λ (k : ℕ). length (root_labels_below sparse k)) next in
            omega (
              arith,
              open-step full l,
              open-step sparse r,
              alike,
              there,
              next,
              before,
              few-before ts touching.in_order l,
            )
        by false e before =
            let r = paired_label_count_before_label ts l in
            let none : one-if (is_paired_label ts l) ≡ 0 = ap one-if e in
            let next : paired_label_count_before_label ts (suc l)
            ≡ r = omega (arith, next-before ts touching.in_order l, none) in
            let one : one-if (is_open full l) ≡ 1 = ap one-if (open-alone l (omega (arith, most)) e) in
            let there : length (root_labels_below sparse (paired_label_count_before_label ts (suc l)))
            ≡ length (root_labels_below sparse r) =
            ap (λ (k : ℕ). length (root_labels_below sparse k)) next in
            omega (arith, open-step full l, one, there, next, before, few-before ts touching.in_order l)

    -- the number of a label is the number of the open label at the end of its path
    number-of-label : (l : ℕ) → l < n → root_count_up_to_label full (full_leads l)
        ≡ clump_number_of_any_label pairs ts sparse l
    number-of-label l within =
        let in_full : l < length full = omega (arith, within, long) in
        let g = full_leads l in
        let below : g ≤ l = lead.reports.low l in_full in
        let g_open : get_or full g 0 ≡ g = lead.reports.is_open l in_full in
        let one : one-if (is_open full g) ≡ 1 = ap one-if (eq-eqb (get_or full g 0) g g_open) in
        let number : root_count_up_to_label full g ≡ number_of_root_label ts sparse g =
        omega (arith, open-step full g, one, count-open g (omega (arith, below, within))) in
        number ∙ ap (number_of_root_label ts sparse) (led-to l)

    clumps-are : length (root_labels_below full (length full)) ≡ root_count_of_all_labels n ts sparse
    clumps-are =
        let all : paired_label_count_before_label ts n ≡ length ts = before-all ts n touching.few in
        let there : length (root_labels_below sparse (paired_label_count_before_label ts n))
        ≡ length (root_labels_below sparse (length sparse)) =
        ap (λ (k : ℕ). length (root_labels_below sparse k)) (all ∙ sym is.long) in
        let whole : length (root_labels_below full (length full)) ≡ length (root_labels_below full n) =
        ap (λ (k : ℕ). length (root_labels_below full k)) long in
        omega (arith, whole, count-open n (omega arith), all, there)

pub sparse-places-number : RootPlacesGivePairedLabelNumbers
sparse-places-number labels pairs ts sparse touching is place within =
    place-number labels pairs ts sparse touching is place within

pub sparse-labels-number : PairedLabelsGiveClumpNumbers
sparse-labels-number j m starts label_of pairs labelled ts sparse touching is =
    let n = length starts in
    let h = full-table n pairs ts sparse touching is in
    let clumps = clumps-are n pairs ts sparse touching is h.table h.long h.leads in
    let firsts = all-firsts j m starts label_of pairs labelled h.table h.leads h.long in (
      λ p some.
          subst (HasClumpNumber j m p)
          (number-of-label n pairs ts sparse touching is h.table h.long h.leads (label_of p) (labelled.few p some))
          (has-number j m starts label_of pairs labelled h.table h.leads h.long p some),
      (firsts.0, firsts.1, firsts.2 ∙ clumps),
    )
