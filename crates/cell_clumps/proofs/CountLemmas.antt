-- The numbers of a clumping run from 1 to the number of its clumps.
use Rattle.std.proofs.Common.{◌≡◌, ℕ, pos, ◌+◌, ◌-◌, ◌<◌, ◌≤◌, List, Some, None, IsSome, length, get_or, take, refl, ap, sym, ◌∙◌, arith, subst, inl, inr, ⊎_elim}
use Rattle.std.specs.List.{Contains, AllPairs}
use Rattle.std.proofs.lemmas.Bool.{cases_lt}
use Rattle.std.proofs.lemmas.List.{get_or-take, get_or_default, length-take-le}
use Rattle.std.proofs.lemmas.List.Elements.{Contains-get_or}
use Rattle.cell_core.specs.Grid.{Grid, CellValue}
use Rattle.cell_clumps.specs.declared.clump.Joining.{Joining}
use Rattle.cell_clumps.specs.Clumps.{Position, cell_at_position, IsEarlierCell, IsFirstCellOfClump, HasClumpNumber}
use Rattle.cell_clumps.specs.Clumps.{IsClumpMapOf}
use Rattle.cell_clumps.specs.ClumpLaw.{ClumpNumbersHaveNoGaps, ClumpNumbersEndAtClumpCount, NumberOccursInMap}
use Rattle.cell_clumps.proofs.PathLemmas.{AreJoined-refl}
use Rattle.cell_clumps.proofs.MeetingLemmas.{some_of}
use Rattle.cell_clumps.specs.parts.CellPlaces.{position_at_row_and_column}
use Rattle.cell_clumps.proofs.LawLemmas.{IsBefore-asym, cases_before, within_le, HasClumpNumber-one}

IsBefore-trans : (p q s : Position) → IsEarlierCell p q → IsEarlierCell q s → IsEarlierCell p s
IsBefore-trans p q s (inl a) (inl b) = inl (omega arith)
IsBefore-trans p q s (inl a) (inr b) = inl (let e = b.0 in omega arith)
IsBefore-trans p q s (inr a) (inl b) = inl (let e = a.0 in omega arith)
IsBefore-trans p q s (inr a) (inr b) = inr (a.0 ∙ b.0, let one = a.1 in let other = b.1 in omega arith)

-- a cell that does not come after another precedes each cell that follows the other
before_also : (r f s : Position) → ¬ IsEarlierCell f r → IsEarlierCell f s → IsEarlierCell r s
before_also r f s not_after before =
    ⊎_elim (λ e. subst (λ (q : Position). IsEarlierCell q s) (sym e) before)
    (λ apart. ⊎_elim (λ lt. IsBefore-trans r f s lt before) (λ lt. absurd (not_after lt)) apart)
    (cases_before r f)

-- first cells in row order, with no first cell left out before the last of them
pub record AreLeading (j : Joining) (m : Grid) (firsts : List Position) : Type 0 where
  pub in_order : AllPairs IsEarlierCell firsts
  pub are_first : (p : Position) → Contains firsts p → IsFirstCellOfClump j m p
  pub no_gap : (p q : Position) → IsFirstCellOfClump j m p → Contains firsts q → ¬ IsEarlierCell q p → Contains firsts p

-- each cell of the list has the number of its place, counted from 1
number_at : (j : Joining) (m : Grid) (firsts : List Position) (d : Position) → AreLeading j m firsts → (i : ℕ) → i < length firsts → HasClumpNumber j m (get_or firsts i d) (i + 1)
number_at j m firsts d leading i lt =
    let f : Position = get_or firsts i d in
    let f_in : Contains firsts f = Contains-get_or firsts i d lt in
    let first = leading.are_first f f_in in
    let v = some_of (cell_at_position m f) first.category in
    let long : length (take (i + 1) firsts) ≡ i + 1 = length-take-le (i + 1) firsts (omega arith) in
    let same : (k : ℕ) (e : Position) → k < i + 1 → get_or (take (i + 1) firsts) k e ≡ get_or firsts k e = λ k e below. get_or-take (i + 1) firsts k e below in
    let here : (e : Position) → get_or firsts i e ≡ f = λ e. get_or_default firsts i e d lt in
    record {
      first = f;
      is_first = first;
      joined = AreJoined-refl j m f v.0 v.1;
      firsts = take (i + 1) firsts;
      up_to = record {
        in_order = λ k l e k_lt inside.
            subst (λ (p : Position). IsEarlierCell p (get_or (take (i + 1) firsts) l e)) (sym (same k e (omega arith)))
            (subst (λ (p : Position). IsEarlierCell (get_or firsts k e) p) (sym (same l e (omega arith))) (leading.in_order k l e k_lt (omega arith)));
        exactly = λ p. (
          λ within.
              let k : ℕ = within.0 in let k_lt = within.1 in
              let is : get_or firsts k p ≡ p = sym (same k p (omega arith)) ∙ within.2 in (
                leading.are_first p (k, omega arith, is),
                λ before. ⊎_elim
                    (λ below. IsBefore-asym f p before (subst (λ (q : Position). IsEarlierCell q f) is (subst (λ (q : Position). IsEarlierCell (get_or firsts k p) q) (here p) (leading.in_order k i p below lt))))
                    (λ le. let e : k ≡ i = omega arith in
                    let own : p ≡ f = sym is ∙ ap (λ (n : ℕ). get_or firsts n p) e ∙ here p in
                    let loop : IsEarlierCell f f = subst (λ (q : Position). IsEarlierCell f q) own before in
                    IsBefore-asym f f loop loop)
                    (cases_lt k i),
              ),
          λ both.
              let t = leading.no_gap p f both.0 f_in both.1 in
              let k : ℕ = t.0 in let k_lt = t.1 in
              ⊎_elim (λ below. (k, omega arith, same k p below ∙ t.2))
              (λ le. absurd (both.1 (subst (λ (q : Position). IsEarlierCell f q) t.2 (subst (λ (q : Position). IsEarlierCell q (get_or firsts k p)) (here p) (leading.in_order i k p (omega arith) k_lt)))))
              (cases_lt k (i + 1)),
        );
      };
      count = long;
    }

-- each number up to the length of such a list of first cells occurs in the clumping
occurs_at : (j : Joining) (m numbers : Grid) (firsts : List Position) → IsClumpMapOf j m numbers → AreLeading j m firsts → (n : ℕ) → 1 ≤ n → n ≤ length firsts → NumberOccursInMap numbers n
occurs_at j m numbers firsts clumping leading n least most =
    let q : Position = get_or firsts (n - 1) (position_at_row_and_column 0 0) in
    let inside : n - 1 < length firsts = omega arith in
    let e : (n - 1) + 1 ≡ n = omega arith in
    let h = subst (HasClumpNumber j m q) e (number_at j m firsts (position_at_row_and_column 0 0) leading
    (n - 1) inside) in
    let first = leading.are_first q (Contains-get_or firsts (n - 1) (position_at_row_and_column 0 0) inside) in
    let t = clumping.numbered q first.category in
    (q, t.2 ∙ ap (λ (i : ℕ). Some (pos i)) (HasClumpNumber-one j m q t.0 n t.1 h))

-- a cell that has a number is not null
some_cell : (x y : CellValue) → (x ≡ None → y ≡ None) → IsSome y → IsSome x
some_cell None y nulls some = subst IsSome (nulls refl) some
some_cell (Some v) y nulls some = refl

-- the first cells up to a numbered cell leave no earlier first cell out
leading_up_to : (j : Joining) (m : Grid) (p : Position) (n : ℕ) → (h : HasClumpNumber j m p n) → AreLeading j m h.firsts
leading_up_to j m p n h = record {
  in_order = h.up_to.in_order;
  are_first = λ s within. ((h.up_to.exactly s).0 within).0;
  no_gap = λ s r is_first within not_before. (h.up_to.exactly s).1 (is_first, λ before. not_before (before_also r h.first s (((h.up_to.exactly r).0 within).1) before));
}

-- each cell's number is at least 1
least_number : (j : Joining) (m : Grid) (p : Position) (n : ℕ) → HasClumpNumber j m p n → 1 ≤ n
least_number j m p n h =
    let t = (h.up_to.exactly h.first).1 (h.is_first, λ before. IsBefore-asym h.first h.first before before) in
    let inside = t.1 in
    let count = h.count in
    omega arith

pub clump_numbers_have_no_gaps : ClumpNumbersHaveNoGaps
clump_numbers_have_no_gaps j m numbers clumping p some =
    let t = clumping.numbered p (some_cell (cell_at_position m p) (cell_at_position numbers p) (clumping.nulls p) some) in
    let h = t.1 in
    let count = h.count in
    (t.0, t.2, least_number j m p t.0 h, λ k least most. occurs_at j m numbers h.firsts clumping (leading_up_to j m p t.0 h) k least (omega arith))

pub clump_numbers_end_at_clump_count : ClumpNumbersEndAtClumpCount
clump_numbers_end_at_clump_count j m numbers clumping firsts all n = (
  λ occurs.
      let p : Position = occurs.0 in
      let t = clumping.numbered p (some_cell (cell_at_position m p) (cell_at_position numbers p) (clumping.nulls p) (rw occurs.1 refl)) in
      let h = t.1 in
      let count = h.count in
      let same : t.0 ≡ n = (let both : Some (pos t.0) ≡ Some (pos n) = sym t.2 ∙ occurs.1 in cc) in
      let least = least_number j m p t.0 h in
      let most = within_le h.firsts firsts h.up_to.in_order all.in_order (λ q within. (all.exactly q).1 (((h.up_to.exactly q).0 within).0)) in
      (omega arith, omega arith),
  λ both.
      let leading : AreLeading j m firsts = record {
        in_order = all.in_order;
        are_first = λ s within. (all.exactly s).0 within;
        no_gap = λ s r is_first within not_before. (all.exactly s).1 is_first;
      } in
      occurs_at j m numbers firsts clumping leading n both.0 both.1,
)
