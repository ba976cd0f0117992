-- The clumps of one map: the list of their first cells, and their numbers.
use Rattle.std.proofs.Common.{◌≡◌, ℕ, pos, ◌+◌, ◌<◌, ◌≤◌, List, Some, IsSome, length, get_or, take, ap, sym, ◌∙◌, arith, subst, ⊎_elim}
use Rattle.std.specs.List.{AllPairs}
use Rattle.std.proofs.lemmas.Bool.{cases_lt}
use Rattle.std.proofs.lemmas.List.{get_or-take, get_or_default, length-take-le}
use Rattle.std.proofs.lemmas.List.Elements.{Contains-get_or}
use Rattle.cell_core.specs.Grid.{Grid}
use Rattle.cell_clumps.specs.declared.clump.Joining.{Joining}
use Rattle.cell_clumps.specs.Clumps.{Position, cell_at_position, IsEarlierCell, AreCellsConnected, IsFirstCellOfClump, AreFirstCellsOfClumpsUpTo, IsClumpMapOf}
use Rattle.cell_clumps.specs.ClumpLaw.{AreFirstCellsOfAllClumps}
use Rattle.cell_clumps.proofs.PathLemmas.{AreJoined-sym}
use Rattle.cell_clumps.proofs.LawLemmas.{IsBefore-asym, within_le}

module _ (j : Joining) (m : Grid) (firsts : List Position) (all : AreFirstCellsOfAllClumps j m firsts) where
  before-itself : (p : Position) → ¬ IsEarlierCell p p
  before-itself p before = IsBefore-asym p p before before

  -- the number of first cells up to the i-th one is i + 1
  count-firsts : (i : ℕ) (d : Position) (up_to : List Position) → i < length firsts → AreFirstCellsOfClumpsUpTo j m (get_or firsts i d) up_to → length up_to ≡ i + 1
  count-firsts i d up_to lt are =
      let f : Position = get_or firsts i d in
      let long : length (take (i + 1) firsts) ≡ i + 1 = length-take-le (i + 1) firsts (omega (arith, lt)) in
      let same : (k : ℕ) (e : Position) → k < i + 1 → get_or (take (i + 1) firsts) k e ≡ get_or firsts k e = λ k e below. get_or-take (i + 1) firsts k e below in
      let here : (e : Position) → get_or firsts i e ≡ f = λ e. get_or_default firsts i e d lt in
      let ordered : AllPairs IsEarlierCell (take (i + 1) firsts) = λ k l e less inside.
      let l_lt : l < i + 1 = omega (arith, inside, long) in
      let k_lt : k < i + 1 = omega (arith, less, l_lt) in
      let l_in : l < length firsts = omega (arith, l_lt, lt) in
      subst (λ (p : Position). IsEarlierCell p (get_or (take (i + 1) firsts) l e)) (sym (same k e k_lt)) (subst (λ (p : Position). IsEarlierCell (get_or firsts k e) p) (sym (same l e l_lt)) (all.in_order k l e less l_in)) in
      let most : length up_to ≤ length (take (i + 1) firsts) = within_le up_to (take (i + 1) firsts) are.in_order ordered (λ p within.
      let is = (are.exactly p).0 within in
      let found = (all.exactly p).1 is.0 in
      ⊎_elim (λ below. (found.0, omega (arith, below, long), same found.0 p below ∙ found.2))
      (λ past. absurd (is.1 (subst (λ (q : Position). IsEarlierCell f q) found.2 (subst (λ (q : Position). IsEarlierCell q (get_or firsts found.0 p)) (here p) (all.in_order i found.0 p (omega (arith, past)) found.1)))))
      (cases_lt found.0 (i + 1))) in
      let least : length (take (i + 1) firsts) ≤ length up_to = within_le (take (i + 1) firsts) up_to ordered are.in_order (λ p within.
      let k_lt : within.0 < i + 1 = omega (arith, within.1, long) in
      let k_in : within.0 < length firsts = omega (arith, k_lt, lt) in
      let is : get_or firsts within.0 p ≡ p = sym (same within.0 p k_lt) ∙ within.2 in
      (are.exactly p).1 (
        (all.exactly p).0 (within.0, k_in, is),
        λ before.
            ⊎_elim (λ below. IsBefore-asym f p before (subst (λ (q : Position). IsEarlierCell q f) is (subst (λ (q : Position). IsEarlierCell (get_or firsts within.0 p) q) (here p) (all.in_order within.0 i p below lt))))
            (λ le. let e : within.0 ≡ i = omega (arith, le, k_lt) in
            let own : p ≡ f = sym is ∙ ap (λ (n : ℕ). get_or firsts n p) e ∙ here p in
            before-itself f (subst (λ (q : Position). IsEarlierCell f q) own before))
            (cases_lt within.0 i),
      )) in
      omega (arith, most, least, long)

  module _ (numbers : Grid) (clumping : IsClumpMapOf j m numbers) where
    -- the place at which the first cell of a cell's clump is listed
    pub record ListedAt (p : Position) : Type 0 where
      pub place : ℕ
      pub inside : place < length firsts
      pub number : cell_at_position numbers p ≡ Some (pos (place + 1))
      pub joined : AreCellsConnected j m (get_or firsts place p) p
      pub early : ¬ IsEarlierCell p (get_or firsts place p)

    pub listed_at-of : (p : Position) → IsSome (cell_at_position m p) → ListedAt p
    listed_at-of p some =
        let t = clumping.numbered p some in
        let h = t.1 in
        let found = (all.exactly h.first).1 h.is_first in
        let is : get_or firsts found.0 p ≡ h.first = get_or_default firsts found.0 p h.first found.1 ∙ found.2 in
        let count : length h.firsts ≡ found.0 + 1 = count-firsts found.0 p h.firsts found.1 (subst (λ (f : Position). AreFirstCellsOfClumpsUpTo j m f h.firsts) (sym is) h.up_to) in
        record {
          place = found.0;
          inside = found.1;
          number = t.2 ∙ ap (λ (n : ℕ). Some (pos n)) (sym h.count ∙ count);
          joined = subst (λ (f : Position). AreCellsConnected j m f p) (sym is) h.joined;
          early = λ before. h.is_first.none_before p (subst (λ (f : Position). IsEarlierCell p f) is before) (AreJoined-sym j m h.first p h.joined);
        }

    -- a first cell is listed in its own place
    pub listed_at-own : (i : ℕ) (d : Position) → i < length firsts → (s : ListedAt (get_or firsts i d)) → s.place ≡ i
    listed_at-own i d lt s =
        let p : Position = get_or firsts i d in
        let f : Position = get_or firsts s.place p in
        let p_first : IsFirstCellOfClump j m p = (all.exactly p).0 (Contains-get_or firsts i d lt) in
        let same_p : (e : Position) → get_or firsts i e ≡ p = λ e. get_or_default firsts i e d lt in
        ⊎_elim
        (λ less. absurd (p_first.none_before f (subst (λ (q : Position). IsEarlierCell f q) (same_p p) (all.in_order s.place i p less lt)) s.joined))
        (λ le. ⊎_elim
        (λ more. absurd (s.early (subst (λ (q : Position). IsEarlierCell q f) (same_p p) (all.in_order i s.place p more s.inside))))
        (λ ge. omega (arith, le, ge)) (cases_lt i s.place))
        (cases_lt s.place i)

    pub first-some : (i : ℕ) (d : Position) → i < length firsts → IsSome (cell_at_position m (get_or firsts i d))
    first-some i d lt = ((all.exactly (get_or firsts i d)).0 (Contains-get_or firsts i d lt)).category
