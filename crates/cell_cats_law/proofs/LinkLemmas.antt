-- Adjacency of cells of one category is decidable, so each cell leads to the first cell joined to it.
use Rattle.std.proofs.Common.{◌≡◌, ℕ, ℤ, ◌+◌, ◌*◌, ◌≤◌, Bool, true, false, Some, None, refl, sym, ◌∙◌, subst, inl, inr}
use Rattle.std.proofs.Common.{⊎_elim, ◌⊎◌}
use Rattle.std.proofs.lemmas.Bool.{cases_eq}
use Rattle.cell_core_values.specs.Cell.{cell_eq, cell_eq-Decides}
use Rattle.cell_core.specs.Grid.{Grid, CellValue, RowsFillRegion}
use Rattle.cell_clumps.specs.declared.clump.Joining.{Joining}
use Rattle.cell_clumps.specs.declared.clump.Joining.TheVariants.{Edges, EdgesAndCorners}
use Rattle.cell_clumps.specs.Clumps.{Position, cell_at_position, DifferByOne, CellsShareEdge, AreAdjacent}
use Rattle.cell_clumps.specs.Clumps.{AreCellsConnected}
use Rattle.cell_clumps.specs.parts.CellPlaces.{position_at_place, place_of_position, IsInsideMap}
use Rattle.cell_clumps.proofs.PathLemmas.{AreJoined-sym, AreJoined-trans, AreJoined-adjacent, AreJoined-along}
use Rattle.cell_clumps.proofs.PathLemmas.{AreJoined-refl}
use Rattle.cell_clumps.proofs.StartLemmas.{cell_of-place, place_inside, one_place, inside_map}
use Rattle.cell_cats_law.proofs.LeadLemmas.{AreNear, near_of_same, leads_all}

-- ---- decidable properties

abbrev IsDecided : Type 0 → Type 0
IsDecided P = P ⊎ (P → ⊥)

decided_both : {P Q : Type 0} → IsDecided P → IsDecided Q → IsDecided (P × Q)
decided_both (inl p) (inl q) = inl (p, q)
decided_both (inl p) (inr none) = inr (λ h. none h.1)
decided_both (inr none) q = inr (λ h. none h.0)

neither : {P Q : Type 0} → (P → ⊥) → (Q → ⊥) → P ⊎ Q → ⊥
neither none other (inl p) = none p
neither none other (inr q) = other q

decided_either : {P Q : Type 0} → IsDecided P → IsDecided Q → IsDecided (P ⊎ Q)
decided_either (inl p) q = inl (inl p)
decided_either (inr none) (inl q) = inl (inr q)
decided_either (inr none) (inr other) = inr (neither none other)

neighbours_decided : (i k : ℕ) → IsDecided (DifferByOne i k)
neighbours_decided i k = decided_either (cases_eq (i + 1) k) (cases_eq (k + 1) i)

edge_decided : (p q : Position) → IsDecided (CellsShareEdge p q)
edge_decided p q =
    decided_either (decided_both (cases_eq p.row q.row) (neighbours_decided p.col q.col))
    (decided_both (neighbours_decided p.row q.row) (cases_eq p.col q.col))

adjacent_decided : (j : Joining) (p q : Position) → IsDecided (AreAdjacent j p q)
adjacent_decided Edges p q = edge_decided p q
adjacent_decided EdgesAndCorners p q =
    decided_either (edge_decided p q) (decided_both (neighbours_decided p.row q.row) (neighbours_decided p.col q.col))

abbrev AreAlike : CellValue → CellValue → Type 0
AreAlike x y = (v : ℤ) × ((x ≡ Some v) × (y ≡ Some v))

alike_decided : (x y : CellValue) → IsDecided (AreAlike x y)
alike_decided None y = inr (λ h. let e : None ≡ Some h.0 = h.1.0 in cc)
alike_decided (Some v) y = by (cell_eq y (Some v)) refl
  where
    by : (t : Bool) → cell_eq y (Some v) ≡ t → IsDecided (AreAlike (Some v) y)
    by true e = inl (v, (refl, (cell_eq-Decides y (Some v)).0 e))
    by false e = inr (λ h. let same : y ≡ Some v = h.1.1 ∙ sym h.1.0 in let is = (cell_eq-Decides y (Some v)).1 same in
        let both : true ≡ false = sym is ∙ e in cc)

-- ---- the cell that each cell leads to

module _ (j : Joining) (m : Grid) where
  -- the cell at a place
  abbrev at_place : ℕ → Position
  at_place k = position_at_place m.region.cols k

  abbrev pub JoinedPlaces : ℕ → ℕ → Type 0
  JoinedPlaces x y = AreCellsConnected j m (at_place x) (at_place y)

  abbrev LinkedPlaces : ℕ → ℕ → Type 0
  LinkedPlaces x y = AreAdjacent j (at_place x) (at_place y) × AreAlike (cell_at_position m (at_place x))
      (cell_at_position m (at_place y))

  -- each place leads to the first place joined to it
  pub record AreLed (f : ℕ → ℕ) : Type 0 where
    pub low : (k : ℕ) → f k ≤ k
    pub stays : (k : ℕ) → f (f k) ≡ f k
    pub near : (p q : Position) (v : ℤ) → IsInsideMap m p → IsInsideMap m q → cell_at_position m p ≡ Some v → f
        (place_of_position m.region.cols p) ≡ f (place_of_position m.region.cols q) → AreCellsConnected j m p q
    pub one : (p q : Position) → AreCellsConnected j m p q → f (place_of_position m.region.cols p)
        ≡ f (place_of_position m.region.cols q)
    pub first : (k : ℕ) → AreNear JoinedPlaces k (f k)

  pub are_led : RowsFillRegion m.region m.rows → (f : ℕ → ℕ) × AreLed f
  are_led filled =
      let all = leads_all JoinedPlaces (λ x y. AreJoined-sym j m (at_place x) (at_place y))
      (λ x y z. AreJoined-trans j m (at_place x) (at_place y) (at_place z))
      LinkedPlaces (λ x y. decided_both (adjacent_decided j (at_place x) (at_place y))
      (alike_decided (cell_at_position m (at_place x)) (cell_at_position m (at_place y))))
      (λ x y h. AreJoined-adjacent j m (at_place x) (at_place y) h.1.0 h.0 h.1.1.0 h.1.1.1)
      (m.region.rows * m.region.cols) in
      let f = all.0 in
      let leads = all.1.0 in
      let back : (p : Position) → IsInsideMap m p → at_place (place_of_position m.region.cols p) ≡ p =
      λ p inside. cell_of-place m.region.cols p.row p.col inside.1 in (
        f,
        record {
          low = leads.low;
          stays = leads.stays;
          first = leads.near;
          near = λ p q v p_in q_in is same.
              ⊎_elim (λ e. subst (λ (s : Position). AreCellsConnected j m p s)
              (one_place m.region.cols p q p_in.1 q_in.1 e)
              (AreJoined-refl j m p v is))
              (λ h. subst (λ (s : Position). AreCellsConnected j m s q) (back p p_in)
              (subst (λ (s : Position). AreCellsConnected j m (at_place (place_of_position m.region.cols p)) s)
              (back q q_in) h))
              (near_of_same JoinedPlaces (λ x y. AreJoined-sym j m (at_place x) (at_place y))
              (λ x y z. AreJoined-trans j m (at_place x) (at_place y) (at_place z)) f leads
              (place_of_position m.region.cols p) (place_of_position m.region.cols q) same);
          one = λ p q. AreJoined-along j m (λ s. f (place_of_position m.region.cols s))
              (λ a b v near first second.
              let a_in = inside_map m a v filled first in
              let b_in = inside_map m b v filled second in
              let Link : Position → Position → Type 0 = λ s t. AreAdjacent j s t × AreAlike (cell_at_position m s)
              (cell_at_position m t) in
              let here : Link a b = (near, (v, (first, second))) in
              all.1.1 (place_of_position m.region.cols a) (place_of_position m.region.cols b) (place_inside m a a_in)
              (place_inside m b b_in)
              (subst (λ (s : Position). Link s (at_place (place_of_position m.region.cols b))) (sym (back a a_in))
              (subst (λ (s : Position). Link a s) (sym (back b b_in)) here)))
              p q;
        },
      )
