-- Pairs of labels that are added to other pairs.
use Rattle.std.proofs.Common.{◌≡◌, ℕ, zero, suc, [], ◌∷◌, ◌++◌, List, None, get_or, refl, sym, subst, arith, inl, inr, ⊎_elim}
use Rattle.std.specs.Prelude.{Contains}
use Rattle.std.proofs.lemmas.List.Elements.{Contains-append_left, Contains-append_right, Contains-append_cases}
use Rattle.cell_clumps.specs.declared.clump.Joining.{Joining}
use Rattle.cell_clumps.specs.declared.clump.Joining.TheVariants.{Edges, EdgesAndCorners}
use Rattle.cell_join_tiles.specs.SeamLines.{UnfinishedConsecutiveClumps, label_pair_of_equal_cells}
use Rattle.cell_join_tiles.specs.SeamLines.{label_pairs_of_opposite_cells}
use Rattle.cell_join_tiles.specs.parts.RowMarks.{AddsLabelPairs}

pub adds-none : (xs : List (ℕ × ℕ)) → AddsLabelPairs xs xs []
adds-none xs x = (λ h. inl h, λ h. ⊎_elim (λ here. here) (λ none. absurd (let lt = none.1 in omega (arith, lt))) h)

pub adds-then : (a b c xs ys : List (ℕ × ℕ)) → AddsLabelPairs a b xs → AddsLabelPairs b c ys
    → AddsLabelPairs a c (xs ++ ys)
adds-then a b c xs ys one other x = (
  λ h. ⊎_elim (λ in_b. ⊎_elim (λ in_a. inl in_a) (λ in_xs. inr (Contains-append_left xs ys x in_xs)) ((one x).0 in_b)) (λ in_ys. inr (Contains-append_right xs ys x in_ys)) ((other x).0 h),
  λ h. ⊎_elim (λ in_a. (other x).1 (inl ((one x).1 (inl in_a)))) (λ both. ⊎_elim (λ in_xs. (other x).1 (inl ((one x).1 (inr in_xs)))) (λ in_ys. (other x).1 (inr in_ys)) (Contains-append_cases xs ys x both)) h,
)

pub adds-pushed : (old new : List (ℕ × ℕ)) (pair : ℕ × ℕ) → new ≡ old ++ pair ∷ [] → AddsLabelPairs old new (pair ∷ [])
adds-pushed old new pair e x = (
  λ h. Contains-append_cases old (pair ∷ []) x (subst (λ (l : List (ℕ × ℕ)). Contains l x) e h),
  λ h. subst (λ (l : List (ℕ × ℕ)). Contains l x) (sym e) (⊎_elim (λ in_old. Contains-append_left old (pair ∷ []) x in_old) (λ is. Contains-append_right old (pair ∷ []) x is) h),
)

-- adding a pair that is already known changes nothing
pub adds-known : (old : List (ℕ × ℕ)) (pair : ℕ × ℕ) → Contains old pair → AddsLabelPairs old old (pair ∷ [])
adds-known old pair known x = (
  λ h. inl h,
  λ h. ⊎_elim (λ here. here) (λ is. subst (Contains old) (only pair x is) known) h,
)
  where
    only : (pair x : ℕ × ℕ) → Contains (pair ∷ []) x → pair ≡ x
    only pair x (zero, lt, e) = e
    only pair x (suc i, lt, e) = absurd (omega (arith, lt))

-- when only edges connect, a place adds only the meeting of its two marks
pub edges-only : (j : Joining) (one other : UnfinishedConsecutiveClumps) (k : ℕ) (old new : List (ℕ × ℕ)) → (j ≡ EdgesAndCorners → ⊥) → AddsLabelPairs old new (label_pair_of_equal_cells (get_or one k None) (get_or other k None)) → AddsLabelPairs old new (label_pairs_of_opposite_cells j one other k)
edges-only Edges one other k old new apart h = h
edges-only EdgesAndCorners one other k old new apart h = absurd (apart refl)
