-- Adding one more span of labels.
use Rattle.std.proofs.Common.{◌≡◌, ◌<◌, ◌≤◌, ◌+◌, ◌++◌, [], ◌∷◌, ℕ, List, length, take, get_or, ap, sym, ◌∙◌, arith, subst, append-nil, refl, ⊎_elim}
use Rattle.std.specs.Prelude.{All}
use Rattle.std.proofs.lemmas.Bool.{cases_lt}
use Rattle.std.proofs.lemmas.List.{get_or_append_left, get_or_push, length_push, take_more}
use Rattle.std.proofs.lemmas.List.Concat.{flat_map-cons}
use Rattle.std.proofs.lemmas.List.Folds.{length-flat_map-take}
use Rattle.std.proofs.lemmas.List.FromFn.{length-range_with_len}
use Rattle.std.proofs.lemmas.Grind.{flat_map-append}
use Rattle.cell_join_tiles.specs.declared.spans.LabelRange.{LabelRange}
use Rattle.cell_join_tiles.specs.parts.Spans.{labels_of_ranges, labels_of_range}

pub spans-pushed : (spans : List LabelRange) (span : LabelRange) → labels_of_ranges (spans ++ span ∷ []) ≡ labels_of_ranges spans ++ labels_of_range span
spans-pushed spans span =
    flat_map-append labels_of_range spans (span ∷ []) ∙ ap (λ (l : List ℕ). labels_of_ranges spans ++ l) (flat_map-cons labels_of_range span [] ∙ append-nil (labels_of_range span))

pub spans-more : (spans : List LabelRange) (i : ℕ) (d : LabelRange) → i < length spans → labels_of_ranges (take (i + 1) spans) ≡ labels_of_ranges (take i spans) ++ labels_of_range (get_or spans i d)
spans-more spans i d lt = ap labels_of_ranges (take_more spans i d lt) ∙ spans-pushed (take i spans) (get_or spans i d)

-- the first spans and the next one have at most as many labels as all spans
pub spans-few : (spans : List LabelRange) (i : ℕ) (d : LabelRange) → i < length spans → length (labels_of_ranges (take i spans)) + (get_or spans i d).count ≤ length (labels_of_ranges spans)
spans-few spans i d lt =
    let span = get_or spans i d in
    omega (arith, length-flat_map-take labels_of_range spans i d lt, length-range_with_len span.first span.count)

pub all-pushed : {X : Type 0} (P : X → Type 0) (xs ys : List X) (x : X) → ys ≡ xs ++ x ∷ [] → All P xs → P x → All P ys
all-pushed {X} P xs ys x e all one i d lt =
    let long = ap (λ (l : List X). length l) e in
    subst (λ (l : List X). P (get_or l i d)) (sym e)
    (⊎_elim
    (λ inside. subst P (sym (get_or_append_left xs (x ∷ []) d i inside)) (all i d inside))
    (λ past. subst P (sym (ap (λ (k : ℕ). get_or (xs ++ x ∷ []) k d) (let e : i ≡ length xs = omega (arith, past, lt, long, length_push xs x) in e) ∙ get_or_push xs x d (length xs) refl)) one)
    (cases_lt i (length xs)))
