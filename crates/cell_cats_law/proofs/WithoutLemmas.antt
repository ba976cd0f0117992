-- A map with one clump made null keeps its other clumps.
use Rattle.std.proofs.Common.{◌≡◌, ℤ, ◌≢◌, [], ◌∷◌, List, Some, None, IsSome, Bool, true, false, cond, ◌↔◌, refl, ap}
use Rattle.std.proofs.Common.{sym, ◌∙◌}
use Rattle.std.specs.Prelude.{All}
use Rattle.std.proofs.lemmas.List.Elements.{All-nil, All-cons, All-head, All-tail}
use Rattle.std.specs.Ordering.{eq_by_cmp}
use Rattle.cell_core_values.specs.Cell.{cell_eq, cell_eq-Decides}
use Rattle.cell_core.specs.Grid.{Grid, CellValue}
use Rattle.cell_clumps.specs.declared.clump.Joining.{Joining}
use Rattle.cell_clumps.specs.Clumps.{Position, cell_at_position, IsPathFromTo, AreCellsConnected, IsClumpMapOf}
use Rattle.cell_clumps.proofs.PathLemmas.{AreJoined-adjacent}
use Rattle.cell_stats_combinations.specs.Combinations.{combination_cmp}
use Rattle.cell_cats_law.proofs.CountLemmas.{counts-same}
use Rattle.cell_cats_law.specs.ClumpSizeLaw.{IsMapWithoutClump, RemovingClumpKeepsOthers}
use Rattle.cell_clumps.proofs.MeetingLemmas.{some_of}
use Rattle.cell_join_numbers.proofs.ClumpCellLemmas.{is-some}
use Rattle.cell_cats_law.proofs.ClumpCellLemmas.{some-below, first-cell, tests-same}

module _ (j : Joining) (m numbers : Grid) (is : IsClumpMapOf j m numbers) (number : ℤ) (less : Grid)
    (without : IsMapWithoutClump m numbers number less) where
  abbrev pub gone : Position → Bool
  gone p = cell_eq (cell_at_position numbers p) (Some number)

  pub kept-cell : (p : Position) → gone p ≡ false → cell_at_position less p ≡ cell_at_position m p
  kept-cell p stays = without p ∙ ap (λ b. cond b None (cell_at_position m p)) stays

  gone-cell : (p : Position) → gone p ≡ true → cell_at_position less p ≡ None
  gone-cell p goes = without p ∙ ap (λ b. cond b None (cell_at_position m p)) goes

  -- a cell that is not null afterwards is not in the removed clump
  pub stays-some : (p : Position) (v : ℤ) → cell_at_position less p ≡ Some v → gone p ≡ false
  stays-some p v some = by (gone p) refl
    where
      by : (b : Bool) → gone p ≡ b → b ≡ false
      by false e = refl
      by true e = let none = gone-cell p e in cc

  pub some-before : (p : Position) (v : ℤ) → cell_at_position less p ≡ Some v → cell_at_position m p ≡ Some v
  some-before p v some = sym (kept-cell p (stays-some p v some)) ∙ some

  -- a path of remaining cells is a path of the original map
  alike-before : (v : ℤ) (ps : List Position) → All (λ s. cell_at_position less s ≡ Some v) ps →
      All (λ s. cell_at_position m s ≡ Some v) ps
  alike-before v [] all = All-nil (λ s. cell_at_position m s ≡ Some v)
  alike-before v (p ∷ ps) all =
      All-cons (λ s. cell_at_position m s ≡ Some v) p ps
      (some-before p v (All-head (λ s. cell_at_position less s ≡ Some v) p ps all))
      (alike-before v ps (All-tail (λ s. cell_at_position less s ≡ Some v) p ps all))

  pub joined-before : (p q : Position) → AreCellsConnected j less p q → AreCellsConnected j m p q
  joined-before p q h = record {
    category = h.category;
    others = h.others;
    leads = h.leads;
    alike = alike-before h.category (p ∷ h.others) h.alike;
  }

  -- a path of the original map that begins at a remaining cell uses only remaining cells
  alike-after : (v : ℤ) (p : Position) (others : List Position) (q : Position) → IsPathFromTo j p others q →
      gone p ≡ false → All (λ s. cell_at_position m s ≡ Some v) (p ∷ others) →
      All (λ s. cell_at_position less s ≡ Some v) (p ∷ others)
  alike-after v p [] q h stays alike =
      All-cons (λ s. cell_at_position less s ≡ Some v) p [] (kept-cell p stays
      ∙ All-head (λ s. cell_at_position m s ≡ Some v) p [] alike) (All-nil (λ s. cell_at_position less s ≡ Some v))
  alike-after v p (x ∷ others) q h stays alike =
      let here = All-head (λ s. cell_at_position m s ≡ Some v) p (x ∷ others) alike in
      let rest = All-tail (λ s. cell_at_position m s ≡ Some v) p (x ∷ others) alike in
      let next = All-head (λ s. cell_at_position m s ≡ Some v) x others rest in
      let same : cell_at_position numbers p ≡ cell_at_position numbers x =
      (is.same p x (is-some (cell_at_position m p) v here)
      (is-some (cell_at_position m x) v next)).1 (AreJoined-adjacent j m p x v h.0 here next) in
      let stays_too : gone x ≡ false = ap (λ c. cell_eq c (Some number)) (sym same) ∙ stays in
      All-cons (λ s. cell_at_position less s ≡ Some v) p (x ∷ others) (kept-cell p stays ∙ here)
      (alike-after v x others q h.1 stays_too rest)

  pub joined-after : (p q : Position) → gone p ≡ false → AreCellsConnected j m p q → AreCellsConnected j less p q
  joined-after p q stays h = record {
    category = h.category;
    others = h.others;
    leads = h.leads;
    alike = alike-after h.category p h.others q h.leads stays h.alike;
  }

  module _ (renumbered : Grid) (is_less : IsClumpMapOf j less renumbered) where
    pub others-stay : (p q : Position) → IsSome (cell_at_position less p) → IsSome (cell_at_position less q) →
        (cell_at_position renumbered p ≡ cell_at_position renumbered q) ↔ (cell_at_position numbers p ≡ cell_at_position numbers q)
    others-stay p q some_p some_q =
        let v = some_of (cell_at_position less p) some_p in
        let w = some_of (cell_at_position less q) some_q in
        let was_p = is-some (cell_at_position m p) v.0 (some-before p v.0 v.1) in
        let was_q = is-some (cell_at_position m q) w.0 (some-before q w.0 w.1) in (
          λ now. (is.same p q was_p was_q).1 (joined-before p q ((is_less.same p q some_p some_q).0 now)),
          λ was. (is_less.same p q some_p some_q).1 (joined-after p q (stays-some p v.0 v.1)
              ((is.same p q was_p was_q).0 was)),
        )

pub other-clumps-stay : RemovingClumpKeepsOthers
other-clumps-stay j m numbers is number less renumbered without is_less =
    others-stay j m numbers is number less without renumbered is_less
