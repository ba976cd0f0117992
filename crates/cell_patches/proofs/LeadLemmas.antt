-- The leading zone, after a zone gains cells.
use Rattle.std.proofs.Common.{◌≡◌, ◌≢◌, ℕ, ℤ, pos, ◌+◌, ◌<◌, ◌≤◌, ◌≤ℤ◌, ◌<ℤ◌, true, false, Bool, cond, List, length}
use Rattle.std.specs.HashMap.{HashMap, get}
use Rattle.std.proofs.Common.{get_or, Option, Some, None, unwrap_or, refl, ap, sym, subst, ◌∙◌, arith, inl, inr, ◌⊎◌}
use Rattle.std.specs.Ordering.{int_eq}
use Rattle.std.specs.Cmp.{signed_Decides}
use Rattle.std.proofs.lemmas.Bool.{and_from, and_parts, both_ways, false_from_ne_true}
use Rattle.std.proofs.lemmas.Int.{ints}
use Rattle.cell_patches.specs.declared.zone_counts.LeadingZone.{LeadingZone}
use Rattle.cell_patches.specs.parts.Leads.{IsLeadingZoneByCellCounts, UpdatesLeadingZoneOfPair, pair_count_in_table}
use Rattle.cell_patches.specs.parts.Leads.{leading_zone_before_any_cell, same_pair}

pub cases_zone : (x y : ℤ) → (x ≡ y) ⊎ (x ≢ y)
cases_zone x y = by (int_eq x y) refl
  where
    by : (b : Bool) → int_eq x y ≡ b → (x ≡ y) ⊎ (x ≢ y)
    by true e = inl ((signed_Decides x y).0 e)
    by false e = inr (λ same. both_ways _ e ((signed_Decides x y).1 same))

-- counts of cells per zone, before and after one zone gains cells
pub record IsRaised (before after : ℤ → ℕ) (zone : ℤ) (many : ℕ) : Type 0 where
  pub here : after zone ≡ many
  pub more : before zone ≤ many
  pub others : (other : ℤ) → other ≢ zone → after other ≡ before other

module _ (before after : ℤ → ℕ) (zone : ℤ) (many : ℕ) (raised : IsRaised before after zone many) where
  most_after : (old most : ℕ) → ((other : ℤ) → before other ≤ old) → old ≤ most → many ≤ most → (other : ℤ)
      → after other ≤ most
  most_after old most below le here other = by (cases_zone other zone)
    where
      by : (other ≡ zone) ⊎ (other ≢ zone) → after other ≤ most
      by (inl same) = let e = ap after same ∙ raised.here in omega arith
      by (inr apart) = let e = raised.others other apart in let l = below other in omega arith

  -- the first zone that gains cells leads
  pub lead_first : (old : LeadingZone) → IsLeadingZoneByCellCounts before old → old.zone ≡ None → 0 < many
      → IsLeadingZoneByCellCounts after (record { zone = Some zone; cells = many })
  lead_first old h none some = record {
    none = λ is. cc;
    some = λ z is. (let same : zone ≡ z = cc in ap after (sym same) ∙ raised.here, some);
    most = most_after old.cells many h.most (let e = h.none none in omega arith) (omega arith);
    first = λ z other is equal. by z other is equal (cases_zone other zone);
  }
    where
      by : (z other : ℤ) → Some zone ≡ Some z → after other ≡ many → (other ≡ zone) ⊎ (other ≢ zone) → z ≤ℤ other
      by z other is equal (inl same) = let e : z ≡ other = cc in omega (arith, ints)
      by z other is equal (inr apart) =
          let e = raised.others other apart in
          let l = h.most other in
          let n = h.none none in
          absurd (omega arith)

  -- a zone with more cells, or as many cells and a smaller number, takes the lead
  pub lead_taken : (old : LeadingZone) (first : ℤ) → IsLeadingZoneByCellCounts before old → old.zone ≡ Some first
      → (old.cells < many) ⊎ ((many ≡ old.cells) × (zone <ℤ first))
      → IsLeadingZoneByCellCounts after (record { zone = Some zone; cells = many })
  lead_taken old first h leads ahead = record {
    none = λ is. cc;
    some = λ z is. (let same : zone ≡ z = cc in ap after (sym same) ∙ raised.here, large ahead);
    most = most_after old.cells many h.most (as_many ahead) (omega arith);
    first = λ z other is equal. by z other is equal (cases_zone other zone);
  }
    where
      as_many : (old.cells < many) ⊎ ((many ≡ old.cells) × (zone <ℤ first)) → old.cells ≤ many
      as_many (inl lt) = omega arith
      as_many (inr both) = let e = both.0 in omega arith

      large : (old.cells < many) ⊎ ((many ≡ old.cells) × (zone <ℤ first)) → 0 < many
      large (inl lt) = omega arith
      large (inr both) = let e = both.0 in let l = (h.some first leads).1 in omega arith

      smaller : (other : ℤ) → before other ≡ many → (old.cells < many) ⊎ ((many ≡ old.cells) × (zone <ℤ first))
          → zone ≤ℤ other
      smaller other equal (inl lt) = let l = h.most other in absurd (omega arith)
      smaller other equal (inr both) =
          let l = h.first first other leads (equal ∙ both.0) in let lt = both.1 in omega (arith, ints)

      by : (z other : ℤ) → Some zone ≡ Some z → after other ≡ many → (other ≡ zone) ⊎ (other ≢ zone) → z ≤ℤ other
      by z other is equal (inl same) = let e : z ≡ other = cc in omega (arith, ints)
      by z other is equal (inr apart) =
          let same : zone ≡ z = cc in
          let l = smaller other (sym (raised.others other apart) ∙ equal) ahead in
          omega (arith, ints)

  -- a zone with fewer cells, or as many cells and a larger number, does not take the lead
  pub lead_kept : (old : LeadingZone) (first : ℤ) → IsLeadingZoneByCellCounts before old → old.zone ≡ Some first
      → many ≤ old.cells
      → (many ≡ old.cells → first ≤ℤ zone) → IsLeadingZoneByCellCounts after old
  lead_kept old first h leads fewer small = record {
    none = λ is. cc;
    some = λ z is. (as_before z is (cases_zone z zone), (h.some z is).1);
    most = most_after old.cells old.cells h.most (omega arith) fewer;
    first = λ z other is equal. by z other is equal (cases_zone other zone);
  }
    where
      as_before : (z : ℤ) → old.zone ≡ Some z → (z ≡ zone) ⊎ (z ≢ zone) → after z ≡ old.cells
      as_before z is (inl same) =
          let e = ap after same ∙ raised.here in
          let was = ap before (sym same) ∙ (h.some z is).0 in
          let more = raised.more in omega arith
      as_before z is (inr apart) = raised.others z apart ∙ (h.some z is).0

      by : (z other : ℤ) → old.zone ≡ Some z → after other ≡ old.cells → (other ≡ zone) ⊎ (other ≢ zone) → z ≤ℤ other
      by z other is equal (inl same) =
          let many_is : many ≡ old.cells = sym raised.here ∙ ap after (sym same) ∙ equal in
          let one : first ≡ z = (let both : Some first ≡ Some z = sym leads ∙ is in cc) in
          let l = small many_is in omega (arith, ints)
      by z other is equal (inr apart) = h.first z other is (sym (raised.others other apart) ∙ equal)

-- ---- pairs

pub same_from : (p q : ℤ × ℤ) → p.0 ≡ q.0 → p.1 ≡ q.1 → same_pair p q ≡ true
same_from p q one other = and_from _ _ ((signed_Decides p.0 q.0).1 one) ((signed_Decides p.1 q.1).1 other)

pub same_to : (p q : ℤ × ℤ) → same_pair p q ≡ true → (p.0 ≡ q.0) × (p.1 ≡ q.1)
same_to p q h =
    let both = and_parts _ _ h in ((signed_Decides p.0 q.0).0 both.0, (signed_Decides p.1 q.1).0 both.1)

-- ---- counts of all numbers

abbrev pub AreLeadsBy : (ℤ → ℤ → ℕ) → List LeadingZone → Type 0
AreLeadsBy cells leads = (k : ℕ) → k < length leads → IsLeadingZoneByCellCounts (cells (pos (k + 1)))
    (get_or leads k leading_zone_before_any_cell)

lead_same : (f g : ℤ → ℕ) (lead : LeadingZone) → ((z : ℤ) → g z ≡ f z) → IsLeadingZoneByCellCounts f lead
    → IsLeadingZoneByCellCounts g lead
lead_same f g lead same h = record {
  none = h.none;
  some = λ z is. (same z ∙ (h.some z is).0, (h.some z is).1);
  most = λ z. let e = same z in let l = h.most z in omega arith;
  first = λ z other is equal. h.first z other is (sym (same other) ∙ equal);
}

-- counts in which one pair has gained cells
abbrev pub IsAddedTo : (ℤ → ℤ → ℕ) → (ℤ → ℤ → ℕ) → ℤ × ℤ → ℕ → Type 0
IsAddedTo f g pair cells = (v z : ℤ) → g v z ≡ f v z + cond (same_pair pair (v, z)) cells 0

added_here : (f g : ℤ → ℤ → ℕ) (pair : ℤ × ℤ) (cells : ℕ) → IsAddedTo f g pair cells → (v z : ℤ) → pair.0 ≡ v
    → pair.1 ≡ z → g v z ≡ f v z + cells
added_here f g pair cells more v z one other = more v z ∙ (rw (same_from pair (v, z) one other) refl)

added_apart : (f g : ℤ → ℤ → ℕ) (pair : ℤ × ℤ) (cells : ℕ) → IsAddedTo f g pair cells → (v z : ℤ)
    → (same_pair pair (v, z) ≡ true → ⊥) → g v z ≡ f v z
added_apart f g pair cells more v z apart =
    more v z ∙ (rw (false_from_ne_true _ apart) (omega arith))

pub leads_raised : (f g : ℤ → ℤ → ℕ) (pair : ℤ × ℤ) (cells total : ℕ) (old new : List LeadingZone)
    → IsAddedTo f g pair cells → total ≡ f pair.0 pair.1 + cells → UpdatesLeadingZoneOfPair old pair total new
    → AreLeadsBy f old
    → AreLeadsBy g new
leads_raised f g pair cells total old new more sum raises leads k lt = by (cases_zone pair.0 (pos (k + 1)))
  where
    within : k < length old
    within = let e = raises.0 in omega arith

    by : (pair.0 ≡ pos (k + 1)) ⊎ (pair.0 ≢ pos (k + 1)) → IsLeadingZoneByCellCounts (g (pos (k + 1)))
        (get_or new k leading_zone_before_any_cell)
    by (inl same) =
        let was : f pair.0 pair.1 ≡ f (pos (k + 1)) pair.1 = ap (λ (v : ℤ). f v pair.1) same in
        let here = added_here f g pair cells more (pos (k + 1)) pair.1 same refl in
        (raises.1 k within).0 same (f (pos (k + 1))) (g (pos (k + 1))) (leads k within) (omega arith) (omega arith)
        (λ other apart. added_apart f g pair cells more (pos (k + 1)) other
        (λ is. apart (sym (same_to pair (pos (k + 1), other) is).1)))
    by (inr apart) =
        subst (λ (lead : LeadingZone). IsLeadingZoneByCellCounts (g (pos (k + 1))) lead)
        (sym ((raises.1 k within).1 apart))
        (lead_same (f (pos (k + 1))) (g (pos (k + 1))) _
        (λ z. added_apart f g pair cells more (pos (k + 1)) z (λ is. apart (same_to pair (pos (k + 1), z) is).0))
        (leads k within))

-- a count of 0 stays 0
pub idle : (b : Bool) (cells : ℕ) → cells ≡ 0 → cond b cells 0 ≡ 0
idle true cells none = none
idle false cells none = refl

-- in a table, only the count of the pair that gains cells changes
pub cells_more : {S : Type 0} (old new : HashMap (ℤ × ℤ) ℕ S) (pair q : ℤ × ℤ) (was cells : ℕ)
    → was ≡ pair_count_in_table old pair
    → get same_pair new q ≡ cond (same_pair pair q) (Some (was + cells)) (get same_pair old q)
    → pair_count_in_table new q ≡ pair_count_in_table old q + cond (same_pair pair q) cells 0
cells_more old new pair q was cells e updated = by (same_pair pair q) refl updated
  where
    by : (b : Bool) → same_pair pair q ≡ b
        → get same_pair new q ≡ cond b (Some (was + cells)) (get same_pair old q)
        → pair_count_in_table new q ≡ pair_count_in_table old q + cond (same_pair pair q) cells 0
    by true is found =
        let same = same_to pair q is in
        let at : pair_count_in_table old pair ≡ pair_count_in_table old q =
        ap (λ (x : ℤ). pair_count_in_table old (x, pair.1)) same.0
        ∙ ap (λ (x : ℤ). pair_count_in_table old (q.0, x)) same.1 in
        let now : pair_count_in_table new q ≡ was + cells = ap (λ (o : Option ℕ). unwrap_or o 0) found in
        rw is (omega arith)
    by false is found =
        let now : pair_count_in_table new q ≡ pair_count_in_table old q = ap (λ (o : Option ℕ). unwrap_or o 0) found in
        rw is (omega arith)
