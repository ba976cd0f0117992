-- Cells joined by edges are also joined by edges and corners.
use Rattle.std.proofs.Common.{◌≡◌, ℕ, pos, ◌≤◌, [], ◌∷◌, List, Some, None, sym, ◌∙◌, arith, subst, inl, ⊎_elim}
use Rattle.cell_core.specs.Grid.{Grid, CellValue}
use Rattle.cell_clumps.specs.declared.clump.Joining.TheVariants.{Edges, EdgesAndCorners}
use Rattle.cell_clumps.specs.Clumps.{Position, cell_at_position, IsEarlierCell, IsPathFromTo, AreCellsConnected}
use Rattle.cell_clumps.specs.Clumps.{IsFirstCellOfClump, HasClumpNumber}
use Rattle.cell_clumps.proofs.PathLemmas.{AreJoined-sym, AreJoined-trans}
use Rattle.cell_clumps.proofs.LawLemmas.{cases_before, within_le}
use Rattle.cell_clumps.proofs.CountLemmas.{clump_numbers_have_no_gaps}
use Rattle.cell_clumps.proofs.MeetingLemmas.{some_of}
use Rattle.cell_join_numbers.proofs.ClumpCellLemmas.{before-then, is-some}
use Rattle.cell_cats_law.specs.CornerLaw.{AreClumpMapsByBothConnectivities, CornersOnlyJoinClumps, CornersAddNoClump}
use Rattle.cell_cats_law.proofs.ClumpCellLemmas.{some-below, none-below, stands-at}

widen-leads : (p : Position) (others : List Position) (q : Position) → IsPathFromTo Edges p others q →
    IsPathFromTo EdgesAndCorners p others q
widen-leads p [] q h = h
widen-leads p (next ∷ others) q h = (inl h.0, widen-leads next others q h.1)

widen : (m : Grid) (p q : Position) → AreCellsConnected Edges m p q → AreCellsConnected EdgesAndCorners m p q
widen m p q h = record {
  category = h.category;
  others = h.others;
  leads = widen-leads p h.others q h.leads;
  alike = h.alike;
}

pub corners-only-join : CornersOnlyJoinClumps
corners-only-join m edges corners both p q some same =
    let v = some_of (cell_at_position edges p) some in
    let here = some-below Edges m edges both.by_edges p v.0 v.1 in
    let there = some-below Edges m edges both.by_edges q v.0 (sym same ∙ v.1) in
    (both.by_corners.same p q here there).1 (widen m p q ((both.by_edges.same p q here there).0 same))

-- ---- numbers by edges, and by edges and corners

-- a first cell by edges and corners is also a first cell by edges
first-by-edges : (m : Grid) (p : Position) → IsFirstCellOfClump EdgesAndCorners m p → IsFirstCellOfClump Edges m p
first-by-edges m p first = record {
  category = first.category;
  none_before = λ q before joined. first.none_before q before (widen m q p joined);
}

module _ (m : Grid) (p : Position) (n k : ℕ) (by_edges : HasClumpNumber Edges m p n)
    (by_corners : HasClumpNumber EdgesAndCorners m p k) where
  -- the first cell by edges and corners comes no later than the first cell by edges
  not-later : ¬ IsEarlierCell by_edges.first by_corners.first
  not-later before =
      by_corners.is_first.none_before by_edges.first before
      (AreJoined-trans EdgesAndCorners m by_edges.first p by_corners.first (widen m by_edges.first p by_edges.joined)
      (AreJoined-sym EdgesAndCorners m by_corners.first p by_corners.joined))

  up-to-too : (q : Position) → ¬ IsEarlierCell by_corners.first q → ¬ IsEarlierCell by_edges.first q
  up-to-too q not_behind behind =
      ⊎_elim
      (λ same. not_behind (subst (λ (s : Position). IsEarlierCell s q) (sym same) behind))
      (λ apart.
      ⊎_elim (λ before. not_behind (before-then by_corners.first by_edges.first q before behind)) not-later apart)
      (cases_before by_corners.first by_edges.first)

  no-greater : k ≤ n
  no-greater =
      let fewer = within_le by_corners.firsts by_edges.firsts by_corners.up_to.in_order by_edges.up_to.in_order
      (λ q within. let is = (by_corners.up_to.exactly q).0 within in
      (by_edges.up_to.exactly q).1 (first-by-edges m q is.0, up-to-too q is.1)) in
      omega (arith, fewer, by_corners.count, by_edges.count)

-- no cell has a larger number by edges and corners than by edges
pub numbers-only-fall : (m edges corners : Grid) → AreClumpMapsByBothConnectivities m edges corners
    → (p : Position) (n k : ℕ)
    → cell_at_position edges p ≡ Some (pos n) → cell_at_position corners p ≡ Some (pos k) → k ≤ n
numbers-only-fall m edges corners both p n k is_n is_k =
    let some = some-below Edges m edges both.by_edges p (pos n) is_n in
    let one = both.by_edges.numbered p some in
    let other = both.by_corners.numbered p some in
    let same_n : one.0 ≡ n = let e = sym one.2 ∙ is_n in cc in
    let same_k : other.0 ≡ k = let e = sym other.2 ∙ is_k in cc in
    omega (arith, no-greater m p one.0 other.0 one.1 other.1, same_n, same_k)

pub corners-add-no-clump : CornersAddNoClump
corners-add-no-clump m edges corners both n occurs =
    let p = occurs.0 in
    let some = some-below EdgesAndCorners m corners both.by_corners p (pos n) occurs.1 in
    let number = both.by_edges.numbered p some in
    let fall = numbers-only-fall m edges corners both p number.0 n number.2 occurs.1 in
    let least = clump_numbers_have_no_gaps EdgesAndCorners m corners both.by_corners p
    (is-some (cell_at_position corners p)
    (pos n) occurs.1) in
    let all = clump_numbers_have_no_gaps Edges m edges both.by_edges p (is-some (cell_at_position edges p)
    (pos number.0) number.2) in
    let same_least : least.0 ≡ n = let e = sym least.1 ∙ occurs.1 in cc in
    let same_all : all.0 ≡ number.0 = let e = sym all.1 ∙ number.2 in cc in
    all.3 n (omega (arith, least.2, same_least)) (omega (arith, fall, same_all))
