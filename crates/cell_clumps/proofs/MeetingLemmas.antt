-- Labels are joined if their cells are adjacent and have the same category.
use Rattle.std.proofs.Common.{◌≡◌, ℕ, ℤ, ◌+◌, ◌++◌, ◌∷◌, [], ◌<◌, List, Option, Some, None, IsSome, is_some, false}
use Rattle.std.proofs.Common.{length, refl, ap, sym, ◌∙◌, arith, subst, inl, inr, ⊎_elim, ◌⊎◌, eqb, cond, max, min}
use Rattle.std.proofs.lemmas.Bool.{cases_eq, cases_lt}
use Rattle.cell_core.specs.Grid.{Grid, CellValue}
use Rattle.cell_clumps.specs.declared.clump.Joining.{Joining}
use Rattle.cell_clumps.specs.Clumps.{cell_at_position, AreCellsConnected}
use Rattle.cell_clumps.specs.parts.Labels.{LabelsPointToSmallerOrSelf, LabelsLeadToRoots, root_after_linking_roots}
use Rattle.cell_clumps.specs.parts.Labels.{root_label_after_join}
use Rattle.cell_clumps.specs.parts.Meetings.{LabelsLeadToConnectedRoots}
use Rattle.cell_clumps.specs.parts.Starts.{cell_that_began_label}
use Rattle.std.proofs.lemmas.List.{length_push}
use Rattle.cell_clumps.proofs.LabelLemmas.{by_order, closed_high, closed_other, extended, extended_new, extended_old}
use Rattle.cell_clumps.proofs.LabelLemmas.{LabelsLeadToRoots-push}
use Rattle.cell_clumps.proofs.PathLemmas.{AreJoined-refl, AreJoined-trans, AreJoined-sym, AreJoined-first}
use Rattle.cell_clumps.proofs.PathLemmas.{AreJoined-last}

closed_low : (f : ℕ → ℕ) (high low k : ℕ) → f k ≡ low → root_after_linking_roots f high low k ≡ low
closed_low f high low k e = ⊎_elim (λ h. closed_high f high low k h) (λ ne. closed_other f high low k ne
    ∙ e) (cases_eq (f k) high)

-- two labels that were joined lead to the same label
pub after_join_one : (f : ℕ → ℕ) (a b : ℕ) → root_label_after_join f a b a ≡ root_label_after_join f a b b
after_join_one f a b =
    by_order (λ h l. root_after_linking_roots f h l a ≡ root_after_linking_roots f h l b) (f a) (f b)
    (closed_high f (f a) (f b) a refl ∙ sym (closed_low f (f a) (f b) b refl))
    (closed_low f (f b) (f a) a refl ∙ sym (closed_high f (f b) (f a) b refl))

-- the first cell of a label is joined to the first cell of the label that it leads to
to_open : (j : Joining) (m : Grid) (table : List ℕ) (f : ℕ → ℕ) (k : ℕ) (v : ℤ)
    → LabelsLeadToConnectedRoots j m table f → k < length table
    → cell_at_position m (cell_that_began_label j m k) ≡ Some v
    → AreCellsConnected j m (cell_that_began_label j m k) (cell_that_began_label j m (f k))
to_open j m table f k v sound inside is =
    ⊎_elim (λ e. subst (λ (n : ℕ). AreCellsConnected j m (cell_that_began_label j m k) (cell_that_began_label j m n))
    (sym e) (AreJoined-refl j m (cell_that_began_label j m k) v is)) (λ h. h) (sound.joined k inside)

-- after a label is closed, its first cell is joined to the first cell of the label that it points to
closed_joined : (j : Joining) (m : Grid) (f : ℕ → ℕ) (high low k : ℕ)
    → AreCellsConnected j m (cell_that_began_label j m high) (cell_that_began_label j m low)
    → (f k ≡ k) ⊎ AreCellsConnected j m (cell_that_began_label j m k) (cell_that_began_label j m (f k))
    → (root_after_linking_roots f high low k ≡ k) ⊎ AreCellsConnected j m (cell_that_began_label j m k)
    (cell_that_began_label j m (root_after_linking_roots f high low k))
closed_joined j m f high low k joined here =
    let To : ℕ → Type 0 = λ n. (n ≡ k) ⊎ AreCellsConnected j m (cell_that_began_label j m k)
    (cell_that_began_label j m n) in
    ⊎_elim
    (λ e. subst To (sym (closed_high f high low k e))
    (inr (⊎_elim
    (λ own. subst (λ (n : ℕ). AreCellsConnected j m (cell_that_began_label j m n) (cell_that_began_label j m low))
    (sym e ∙ own) joined)
    (λ h. AreJoined-trans j m (cell_that_began_label j m k) (cell_that_began_label j m high)
    (cell_that_began_label j m low) (subst (λ (n : ℕ). AreCellsConnected j m (cell_that_began_label j m k)
    (cell_that_began_label j m n)) e h) joined) here)))
    (λ ne. subst To (sym (closed_other f high low k ne)) here) (cases_eq (f k) high)

-- joining two labels is sound if their first cells are joined
pub AreSound-joined : (j : Joining) (m : Grid) (table new : List ℕ) (f : ℕ → ℕ) (a b : ℕ)
    → LabelsLeadToConnectedRoots j m table f → length new ≡ length table
    → LabelsLeadToRoots new (root_label_after_join f a b) → a < length table → b < length table
    → AreCellsConnected j m (cell_that_began_label j m a) (cell_that_began_label j m b)
    → LabelsLeadToConnectedRoots j m new (root_label_after_join f a b)
AreSound-joined j m table new f a b sound long reports a_inside b_inside near =
    let IsJoined : ℕ → ℕ → Type 0 = λ x y. AreCellsConnected j m (cell_that_began_label j m x)
    (cell_that_began_label j m y) in
    let a_to = to_open j m table f a near.category sound a_inside (AreJoined-first j m _ _ near) in
    let b_to = to_open j m table f b near.category sound b_inside (AreJoined-last j m _ _ near) in
    let from_a : IsJoined (f a) (f b) = AreJoined-trans j m _ (cell_that_began_label j m a) _
    (AreJoined-sym j m _ _ a_to) (AreJoined-trans j m _ (cell_that_began_label j m b) _ near b_to) in
    let from_b : IsJoined (f b) (f a) = AreJoined-sym j m _ _ from_a in
    let down = by_order IsJoined (f a) (f b) from_a from_b in
    record {
      reports = reports;
      joined = λ k lt. closed_joined j m f (max (f a) (f b)) (min (f a) (f b)) k down (sound.joined k (omega arith));
    }

pub none_of : (x : CellValue) → is_some x ≡ false → x ≡ None
none_of None h = refl
none_of (Some v) h = cc

pub no_label : (x : Option ℕ) → ((l : ℕ) → x ≡ Some l → ⊥) → x ≡ None
no_label None never = refl
no_label (Some l) never = absurd (never l refl)

pub some_of : (x : CellValue) → IsSome x → (v : ℤ) × (x ≡ Some v)
some_of None h = cc
some_of (Some v) h = (v, refl)

pub after_join_keeps : (f : ℕ → ℕ) (x y a b : ℕ) → f a ≡ f b → root_label_after_join f x y a
    ≡ root_label_after_join f x y b
after_join_keeps f x y a b e = ap (λ (n : ℕ). cond (eqb n (max (f x) (f y))) (min (f x) (f y)) n) e

-- adding an open label keeps the labels sound
pub AreSound-push : (j : Joining) (m : Grid) (table : List ℕ) (open_of : ℕ → ℕ) → LabelsPointToSmallerOrSelf table
    → LabelsLeadToConnectedRoots j m table open_of → LabelsLeadToConnectedRoots j m (table ++ length table
    ∷ []) (extended open_of (length table))
AreSound-push j m table open_of down sound = record {
  reports = LabelsLeadToRoots-push table open_of down sound.reports;
  joined = λ k lt.
      let n : ℕ = length table in
      let long : length (table ++ n ∷ []) ≡ n + 1 = length_push table n in
      ⊎_elim
      (λ less. subst (λ (i : ℕ). (i ≡ k) ⊎ AreCellsConnected j m (cell_that_began_label j m k)
      (cell_that_began_label j m i)) (sym (extended_old open_of n k less)) (sound.joined k less))
      (λ le. let e : n ≡ k = omega arith in inl (ap (extended open_of n) (sym e) ∙ extended_new open_of n ∙ e))
      (cases_lt k n);
}
