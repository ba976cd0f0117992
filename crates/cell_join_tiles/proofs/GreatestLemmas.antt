-- The largest number of a clumping is its number of clumps.
use Rattle.std.proofs.Common.{◌≡◌, ℕ, zero, suc, pos, negsuc, ◌<◌, ◌≤◌, [], ◌∷◌, ◌++◌, List, Some, None, IsSome, length, take, get_or, refl, ap, sym, ◌∙◌, arith, subst, inl, inr, ⊎_elim, ◌⊎◌, max}
use Rattle.std.proofs.lemmas.Bool.{cases_lt}
use Rattle.std.specs.List.{AllPairs}
use Rattle.std.proofs.lemmas.List.{get_or-take, length_push}
use Rattle.std.proofs.lemmas.List.Elements.{Contains-push_cases}
use Rattle.std.proofs.lemmas.List.Quantifiers.{all_pairs_push}
use Rattle.std.proofs.lemmas.List.Elements.{Contains-get_or}
use Rattle.cell_core.specs.Grid.{Grid, CellValue}
use Rattle.cell_clumps.specs.declared.clump.Joining.{Joining}
use Rattle.cell_clumps.specs.Clumps.{Position, cell_at_position, IsEarlierCell, IsFirstCellOfClump, HasClumpNumber}
use Rattle.cell_clumps.specs.Clumps.{IsClumpMapOf}
use Rattle.cell_clumps.specs.parts.CellPlaces.{position_at_row_and_column}
use Rattle.cell_clumps.proofs.PathLemmas.{AreJoined-sym}
use Rattle.cell_clumps.proofs.LawLemmas.{IsBefore-asym, cases_before, within_le}
use Rattle.cell_join_numbers.specs.Labelled.{MapHasClumpCount}
use Rattle.cell_join_tiles.specs.parts.Greatest.{greater_of_number_and_cell, greatest_of_number_and_cells}
use Rattle.cell_join_tiles.specs.parts.Greatest.{greatest_of_number_and_rows}
use Rattle.cell_join_numbers.proofs.NumberLemmas.{before-then}

-- ---- the largest number

greater-least : (most : ℕ) (cell : CellValue) → most ≤ greater_of_number_and_cell most cell
greater-least most None = omega arith
greater-least most (Some (pos n)) = omega arith
greater-least most (Some (negsuc n)) = omega arith

pub in-least : (most : ℕ) (cells : List CellValue) → most ≤ greatest_of_number_and_cells most cells
in-least most [] = omega arith
in-least most (cell ∷ cells) = omega (
  arith,
  greater-least most cell,
  in-least
      (greater_of_number_and_cell most cell) cells,
)

of-least : (most : ℕ) (rows : List (List CellValue)) → most ≤ greatest_of_number_and_rows most rows
of-least most [] = omega arith
of-least most (row ∷ rows) = omega (arith, in-least most row, of-least (greatest_of_number_and_cells most row) rows)

greater-bound : (most n : ℕ) (cell : CellValue) → cell ≡ Some (pos n) → n ≤ greater_of_number_and_cell most cell
greater-bound most n cell is = subst (λ (c : CellValue). n ≤ greater_of_number_and_cell most c) (sym is) (omega arith)

in-bound : (most n : ℕ) (cells : List CellValue) (c : ℕ) → get_or cells c None ≡ Some (pos n) → n ≤ greatest_of_number_and_cells most cells
in-bound most n [] c is = cc
in-bound most n (cell ∷ cells) zero is = omega (arith, greater-bound most n cell is, in-least (greater_of_number_and_cell most cell) cells)
in-bound most n (cell ∷ cells) (suc c) is = in-bound (greater_of_number_and_cell most cell) n cells c is

of-bound : (most n : ℕ) (rows : List (List CellValue)) (r c : ℕ) → get_or (get_or rows r []) c None ≡ Some (pos n) → n ≤ greatest_of_number_and_rows most rows
of-bound most n [] r c is = cc
of-bound most n (row ∷ rows) zero c is = omega (
  arith,
  in-bound most n row c is,
  of-least
      (greatest_of_number_and_cells most row) rows,
)
of-bound most n (row ∷ rows) (suc r) c is = of-bound (greatest_of_number_and_cells most row) n rows r c is

-- no number in the first rows is larger than their largest number
pub first-bound : (most n i : ℕ) (rows : List (List CellValue)) (r c : ℕ) → r < i
    → get_or (get_or rows r []) c None ≡ Some (pos n) → n ≤ greatest_of_number_and_rows most (take i rows)
first-bound most n i rows r c lt is =
    of-bound most n (take i rows) r c (ap (λ (row : List CellValue). get_or row c None) (get_or-take i rows r [] lt) ∙ is)

-- the largest number is the initial one, or is a number in the list
greater-reached : (most : ℕ) (cell : CellValue) → (greater_of_number_and_cell most cell ≡ most) ⊎ (cell ≡ Some (pos (greater_of_number_and_cell most cell)))
greater-reached most None = inl refl
greater-reached most (Some (pos n)) = ⊎_elim (λ lt. inr (let e : n ≡ max most n = omega (arith, lt) in ap (λ (k : ℕ). Some (pos k)) e)) (λ le. inl (omega (arith, le))) (cases_lt most n)
greater-reached most (Some (negsuc n)) = inl refl

abbrev ReachedIn : ℕ → List CellValue → Type 0
ReachedIn most cells = (greatest_of_number_and_cells most cells ≡ most) ⊎ ((c : ℕ) × (get_or cells c None ≡ Some (pos (greatest_of_number_and_cells most cells))))

in-reached : (most : ℕ) (cells : List CellValue) → ReachedIn most cells
in-reached most [] = inl refl
in-reached most (cell ∷ cells) =
    ⊎_elim
    (λ same. ⊎_elim (λ stays. inl (same ∙ stays)) (λ here. inr (0, here ∙ ap (λ (k : ℕ). Some (pos k)) (sym same))) (greater-reached most cell))
    (λ later. inr (suc later.0, later.1)) (in-reached (greater_of_number_and_cell most cell) cells)

pub of-reached : (most : ℕ) (rows : List (List CellValue)) → (greatest_of_number_and_rows most rows ≡ most)
    ⊎ ((r : ℕ) × (c : ℕ) × (get_or (get_or rows r []) c None ≡ Some (pos (greatest_of_number_and_rows most rows))))
of-reached most [] = inl refl
of-reached most (row ∷ rows) =
    ⊎_elim
    (λ same. ⊎_elim (λ stays. inl (same ∙ stays)) (λ here. inr (0, here.0, here.1 ∙ ap (λ (k : ℕ). Some (pos k)) (sym same))) (in-reached most row))
    (λ later. inr (suc later.0, later.1, later.2)) (of-reached (greatest_of_number_and_cells most row) rows)

-- ---- the clumps of a clumping

pub some-numbered : (x y : CellValue) → (x ≡ None → y ≡ None) → IsSome y → IsSome x
some-numbered None y nulls some = subst IsSome (nulls refl) some
some-numbered (Some v) y nulls some = refl

module _ (j : Joining) (m numbers : Grid) (clumping : IsClumpMapOf j m numbers) (most : ℕ) (bound : (p : Position) (n : ℕ) → cell_at_position numbers p ≡ Some (pos n) → n ≤ most) where
  before-itself : (p : Position) → ¬ IsEarlierCell p p
  before-itself p before = IsBefore-asym p p before before

  -- a number of a clumping is at least 1
  one-least : (p : Position) (n : ℕ) → HasClumpNumber j m p n → 1 ≤ n
  one-least p n h =
      let t = (h.up_to.exactly h.first).1 (h.is_first, before-itself h.first) in
      omega (arith, t.1, h.count)

  no-clumps : most ≡ 0 → MapHasClumpCount j m most
  no-clumps none = (
    [],
    record {
      in_order = λ i k d less lt. absurd (omega (arith, lt));
      exactly = λ p. (
        λ within. absurd (omega (arith, within.1)),
        λ first.
            let t = clumping.numbered p first.category in
            absurd (omega (arith, one-least p t.0 t.1, bound p t.0 t.2, none)),
      );
    },
    sym none,
  )

  -- no first cell comes after the first cell of the largest number
  last-first : (p q : Position) → IsFirstCellOfClump j m q → (h : HasClumpNumber j m p most) → ¬ IsEarlierCell h.first q
  last-first p q first h before =
      let t = clumping.numbered q first.category in
      let g = t.1 in
      let own : g.first ≡ q = ⊎_elim (λ e. e)
      (λ apart. ⊎_elim (λ less. absurd (first.none_before g.first less g.joined)) (λ more. absurd (g.is_first.none_before q more (AreJoined-sym j m g.first q g.joined))) apart)
      (cases_before g.first q) in
      let longer : AllPairs IsEarlierCell (h.firsts ++ q ∷ []) = all_pairs_push IsEarlierCell h.firsts q h.up_to.in_order (λ k d lt.
      let is = (h.up_to.exactly (get_or h.firsts k d)).0 (Contains-get_or h.firsts k d lt) in
      ⊎_elim (λ e. subst (λ (s : Position). IsEarlierCell s q) (sym e) before)
      (λ apart. ⊎_elim (λ less. before-then (get_or h.firsts k d) h.first q less before) (λ more. absurd (is.1 more)) apart)
      (cases_before (get_or h.firsts k d) h.first)) in
      let most_in : length (h.firsts ++ q ∷ []) ≤ length g.firsts = within_le (h.firsts ++ q ∷ []) g.firsts longer g.up_to.in_order (λ s within.
      ⊎_elim
      (λ inner. let is = (h.up_to.exactly s).0 inner in
      (g.up_to.exactly s).1 (
        is.0,
        λ after.
            let q_s : IsEarlierCell q s = subst (λ (x : Position). IsEarlierCell x s) own after in
            is.1 (before-then h.first q s before q_s),
      ))
      (λ last. (g.up_to.exactly s).1 (
        subst (IsFirstCellOfClump j m) last first,
        λ after.
            before-itself q (subst (λ (x : Position). IsEarlierCell q x) (sym last) (subst (λ (x : Position). IsEarlierCell x s) own after)),
      ))
      (Contains-push_cases h.firsts q s within)) in
      omega (arith, most_in, length_push h.firsts q, h.count, g.count, bound q t.0 t.2)

  some-clumps : (p : Position) → cell_at_position numbers p ≡ Some (pos most) → MapHasClumpCount j m most
  some-clumps p is =
      let t = clumping.numbered p (some-numbered (cell_at_position m p) (cell_at_position numbers p) (clumping.nulls p) (rw is refl)) in
      let same : t.0 ≡ most = (let both : Some (pos t.0) ≡ Some (pos most) = sym t.2 ∙ is in cc) in
      let h = subst (HasClumpNumber j m p) same t.1 in (
        h.firsts,
        record {
          in_order = h.up_to.in_order;
          exactly = λ q. (
            λ within. ((h.up_to.exactly q).0 within).0,
            λ first. (h.up_to.exactly q).1 (first, last-first p q first h),
          );
        },
        h.count,
      )

pub has-clumps : (j : Joining) (m numbers : Grid) → IsClumpMapOf j m numbers
    → MapHasClumpCount j m (greatest_of_number_and_rows 0 numbers.rows)
has-clumps j m numbers clumping =
    let most = greatest_of_number_and_rows 0 numbers.rows in
    let bound : (p : Position) (n : ℕ) → cell_at_position numbers p ≡ Some (pos n) → n ≤ most = λ p n is. of-bound 0 n numbers.rows p.row p.col is in
    ⊎_elim (λ none. no-clumps j m numbers clumping most bound none) (λ here. some-clumps j m numbers clumping most bound (position_at_row_and_column here.0 here.1) here.2) (of-reached 0 numbers.rows)
