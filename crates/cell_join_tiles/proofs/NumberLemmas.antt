-- The full map is numbered using the borders of the tiles and the pairs at the seams.
use Rattle.std.proofs.Common.{◌≡◌, ℕ, ℤ, ◌+◌, ◌-◌, ◌<◌, ◌≤◌, List, [], Some, IsSome, take, length, get_or, refl, ap, sym, ◌∙◌, arith, subst, inl, inr, ⊎_elim, ◌⊎◌}
use Rattle.std.specs.Prelude.{sum}
use Rattle.std.proofs.lemmas.Bool.{cases_eq, cases_lt}
use Rattle.cell_core.specs.Grid.{Grid, CellValue}
use Rattle.cell_clumps.specs.declared.clump.Joining.{Joining}
use Rattle.cell_clumps.specs.Clumps.{Position, cell_at_position, AreAdjacent, HasClumpNumber}
use Rattle.cell_clumps.specs.parts.CellPlaces.{position_at_row_and_column}
use Rattle.cell_clumps.proofs.PathLemmas.{AreJoined-adjacent}
use Rattle.cell_join_numbers.specs.ClumpParts.{position_in_full_map}
use Rattle.cell_join_numbers.proofs.ClumpCellLemmas.{adjacent-back, is-some}
use Rattle.cell_join_tiles.proofs.GreatestLemmas.{has-clumps, some-numbered}
use Rattle.cell_join_numbers.specs.Labelled.{MapHasClumpCount}
use Rattle.cell_join_tiles.specs.parts.Greatest.{greatest_of_number_and_rows}
use Rattle.cell_join_tiles.specs.Beginnings.{BegunClumpCountsByRow, place_of_interval_containing, label_of_clump_in_tile_grid, MapIsCutIntoTiles, TileHasClumpBeginnings, TilesHaveClumpBeginnings, AreMeetingLabelsPaired, rectangle_of_tile_in_grid}
use Rattle.cell_join_tiles.specs.Borders.{BegunCountsOfTilesAreMaximumRises, number_of_cell_or_zero, label_of_full_map_cell, CutMapCellsHaveClumpLabels, CellsAreInOneTile, AreLabelsPairedAtSeams, BordersLabelCellsForJoining, BordersGiveClumpNumbers, BordersGiveClumpCount}
use Rattle.cell_join_tiles.proofs.StretchLemmas.{Lies, lies, stretch-is}
use Rattle.cell_join_tiles.proofs.RiseLemmas.{rises-report-begun}
use Rattle.cell_join_tiles.proofs.BorderLemmas.{starts, many-starts, are-labelled}

-- ---- the label of a cell

pub label-moved : (heights widths : List ℕ) (numbers_of : ℕ → ℕ → Grid) (grid : List (List BegunClumpCountsByRow)) (r c : ℕ) → r < length heights → c < length widths → (p : Position) → p.row < get_or heights r 0 → p.col < get_or widths c 0 → label_of_full_map_cell heights widths numbers_of grid (position_in_full_map (rectangle_of_tile_in_grid heights widths r c) p) ≡ label_of_clump_in_tile_grid grid r c (number_of_cell_or_zero (cell_at_position (numbers_of r c) p) - 1)
label-moved heights widths numbers_of grid r c r_in c_in p row col =
    let place = rectangle_of_tile_in_grid heights widths r c in
    let q : Position = position_in_full_map place p in
    let r_is : place_of_interval_containing heights q.row ≡ r = stretch-is heights r q.row (record { inside = r_in; low = omega arith; high = omega (arith, row) }) in
    let c_is : place_of_interval_containing widths q.col ≡ c = stretch-is widths c q.col (record { inside = c_in; low = omega arith; high = omega (arith, col) }) in
    let label = λ (s d : ℕ). label_of_clump_in_tile_grid grid s d (number_of_cell_or_zero (cell_at_position (numbers_of s d) (position_at_row_and_column (q.row - sum (take s heights)) (q.col - sum (take d widths)))) - 1) in
    let row_is : q.row - sum (take r heights) ≡ p.row = omega arith in
    let col_is : q.col - sum (take c widths) ≡ p.col = omega arith in
    let listed_at : position_at_row_and_column (q.row - sum (take r heights)) (q.col - sum (take c widths)) ≡ p = λ i. record { row = row_is i; col = col_is i } in
    ap (λ (s : ℕ). label s (place_of_interval_containing widths q.col)) r_is
    ∙ ap (label r) c_is
    ∙ ap (λ (s : Position). label_of_clump_in_tile_grid grid r c
    (number_of_cell_or_zero (cell_at_position (numbers_of r c) s) - 1))
    listed_at

pub cells-bear-labels : CutMapCellsHaveClumpLabels
cells-bear-labels heights widths numbers_of grid r c r_in c_in p row col n is =
    label-moved heights widths numbers_of grid r c r_in c_in p row col ∙ ap (λ (v : CellValue). label_of_clump_in_tile_grid grid r c (number_of_cell_or_zero v - 1)) is

module _ (j : Joining) (whole : Grid) (heights widths : List ℕ) (map_of numbers_of : ℕ → ℕ → Grid) (grid : List (List BegunClumpCountsByRow)) (cut : MapIsCutIntoTiles whole heights widths map_of) (borders : BegunCountsOfTilesAreMaximumRises j heights widths map_of numbers_of grid) where
  abbrev label_of : Position → ℕ
  label_of = label_of_full_map_cell heights widths numbers_of grid

  -- ---- cells of one tile

  in-one-tile : (p q : Position) (v : ℤ) → AreAdjacent j p q → cell_at_position whole p ≡ Some v → cell_at_position whole q ≡ Some v → CellsAreInOneTile heights widths p q → label_of p ≡ label_of q
  in-one-tile p q v near first second one =
      let r = place_of_interval_containing heights p.row in
      let c = place_of_interval_containing widths p.col in
      let p_in = cut.within p (is-some (cell_at_position whole p) v first) in
      let q_in = cut.within q (is-some (cell_at_position whole q) v second) in
      let pr = lies heights p.row p_in.0 in
      let pc = lies widths p.col p_in.1 in
      let qr = subst (Lies heights q.row) (sym one.0) (lies heights q.row q_in.0) in
      let qc = subst (Lies widths q.col) (sym one.1) (lies widths q.col q_in.1) in
      let place = rectangle_of_tile_in_grid heights widths r c in
      let tile = cut.tiles r c pr.inside pc.inside in
      let a : Position = position_at_row_and_column (p.row - sum (take r heights)) (p.col - sum (take c widths)) in
      let b : Position = position_at_row_and_column (q.row - sum (take r heights)) (q.col - sum (take c widths)) in
      let p_row : p.row ≡ sum (take r heights) + (p.row - sum (take r heights)) = omega (arith, pr.low) in
      let p_col : p.col ≡ sum (take c widths) + (p.col - sum (take c widths)) = omega (arith, pc.low) in
      let q_row : q.row ≡ sum (take r heights) + (q.row - sum (take r heights)) = omega (arith, qr.low) in
      let q_col : q.col ≡ sum (take c widths) + (q.col - sum (take c widths)) = omega (arith, qc.low) in
      let p_is : p ≡ position_in_full_map place a = λ i. record { row = p_row i; col = p_col i } in
      let q_is : q ≡ position_in_full_map place b = λ i. record { row = q_row i; col = q_col i } in
      let near_too : AreAdjacent j (position_in_full_map place a) (position_in_full_map place b) = subst (λ (s : Position). AreAdjacent j s (position_in_full_map place b)) p_is (subst (λ (s : Position). AreAdjacent j p s) q_is near) in
      let a_is : cell_at_position (map_of r c) a ≡ Some v = tile.cells a (omega (arith, pr.low, pr.high)) (omega (arith, pc.low, pc.high)) ∙ ap (cell_at_position whole) (sym p_is) ∙ first in
      let b_is : cell_at_position (map_of r c) b ≡ Some v = tile.cells b (omega (arith, qr.low, qr.high)) (omega (arith, qc.low, qc.high)) ∙ ap (cell_at_position whole) (sym q_is) ∙ second in
      let joined = AreJoined-adjacent j (map_of r c) a b v (adjacent-back place j a b near_too) a_is b_is in
      let clumping = borders.clumpings r c pr.inside pc.inside in
      let numbers = (clumping.same a b (is-some (cell_at_position (map_of r c) a) v a_is) (is-some (cell_at_position (map_of r c) b) v b_is)).1 joined in
      let label = λ (s d : ℕ). label_of_clump_in_tile_grid grid s d (number_of_cell_or_zero (cell_at_position (numbers_of s d) (position_at_row_and_column (q.row - sum (take s heights)) (q.col - sum (take d widths)))) - 1) in
      ap (λ (n : CellValue). label_of_clump_in_tile_grid grid r c (number_of_cell_or_zero n - 1)) numbers
      ∙ ap (λ (s : ℕ). label s c) one.0
      ∙ ap (label (place_of_interval_containing heights q.row)) one.1

  paired : (pairs : List (ℕ × ℕ)) → AreLabelsPairedAtSeams j whole heights widths label_of pairs → AreMeetingLabelsPaired j whole label_of pairs
  paired pairs at_cuts = record {
    meet = λ p q v near first second.
        let apart = λ (no : CellsAreInOneTile heights widths p q → ⊥). at_cuts.meet p q v near first second no in
        ⊎_elim
        (λ rows. ⊎_elim (λ cols. inl (in-one-tile p q v near first second (rows, cols))) (λ no. inr (apart (λ h. no h.1))) (cases_eq (place_of_interval_containing widths p.col) (place_of_interval_containing widths q.col)))
        (λ no. inr (apart (λ h. no h.0))) (cases_eq (place_of_interval_containing heights p.row)
        (place_of_interval_containing heights q.row));
    only = at_cuts.only;
  }

  -- ---- the list of first cells

  firsts_of : (r c : ℕ) → r < length heights → c < length widths → MapHasClumpCount j (map_of r c) (greatest_of_number_and_rows 0 (numbers_of r c).rows)
  firsts_of r c r_in c_in = has-clumps j (map_of r c) (numbers_of r c) (borders.clumpings r c r_in c_in)

  -- the first cells of the tile in a row and a column of tiles; none outside the grid
  pub pick : (r c : ℕ) → (r < length heights) ⊎ (length heights ≤ r) → (c < length widths) ⊎ (length widths ≤ c) → List Position
  pick r c (inl r_in) (inl c_in) = (firsts_of r c r_in c_in).0
  pick r c (inl r_in) (inr c_out) = []
  pick r c (inr r_out) cols = []

  pick-reports : (r c : ℕ) (rows : (r < length heights) ⊎ (length heights ≤ r)) (cols : (c < length widths) ⊎ (length widths ≤ c)) → r < length heights → c < length widths → TileHasClumpBeginnings j (get_or heights r 0) (map_of r c) (numbers_of r c) (pick r c rows cols) (get_or (get_or grid r []) c [])
  unfolding pick
  pick-reports r c (inl r_in) (inl c_in) r_lt c_lt =
      let tile = cut.tiles r c r_in c_in in
      let some = firsts_of r c r_in c_in in
      rises-report-begun j (map_of r c) (numbers_of r c) some.0 (get_or heights r 0) (get_or (get_or grid r []) c []) (borders.clumpings r c r_in c_in) some.1 (λ p is. (tile.outside p is).0) (borders.rises r c r_in c_in)
  pick-reports r c (inl r_in) (inr c_out) r_lt c_lt = absurd (omega (arith, c_out, c_lt))
  pick-reports r c (inr r_out) cols r_lt c_lt = absurd (omega (arith, r_out, r_lt))

  pub firsts_at : ℕ → ℕ → List Position
  firsts_at r c = pick r c (cases_lt r (length heights)) (cases_lt c (length widths))

  pub report : TilesHaveClumpBeginnings j heights widths map_of numbers_of firsts_at grid
  unfolding firsts_at
  report = record {
    high = borders.high;
    wide = borders.wide;
    tiles = λ r c r_in c_in. pick-reports r c (cases_lt r (length heights)) (cases_lt c (length widths)) r_in c_in;
  }

pub borders-are-labelled : BordersLabelCellsForJoining
borders-are-labelled j whole heights widths map_of numbers_of grid cut borders pairs at_cuts =
    let firsts = firsts_at j whole heights widths map_of numbers_of grid cut borders in
    let ids = report j whole heights widths map_of numbers_of grid cut borders in
    let label = label_of_full_map_cell heights widths numbers_of grid in (
      starts j whole heights widths map_of numbers_of firsts grid cut ids,
      many-starts j whole heights widths map_of numbers_of firsts grid cut ids,
      are-labelled j whole heights widths map_of numbers_of firsts grid cut ids label (cells-bear-labels heights widths numbers_of grid) pairs (paired j whole heights widths map_of numbers_of grid cut borders pairs at_cuts),
    )

pub borders-number-the-whole : BordersGiveClumpNumbers
borders-number-the-whole j whole heights widths map_of numbers_of grid cut borders pairs at_cuts number are r c r_in c_in p k is =
    let labelled = borders-are-labelled j whole heights widths map_of numbers_of grid cut borders pairs at_cuts in
    let label = label_of_full_map_cell heights widths numbers_of grid in
    let clumping = borders.clumpings r c r_in c_in in
    let tile = cut.tiles r c r_in c_in in
    let some = some-numbered (cell_at_position (map_of r c) p) (cell_at_position (numbers_of r c) p) (clumping.nulls p) (rw is refl) in
    let inside = tile.outside p some in
    let q : Position = position_in_full_map (rectangle_of_tile_in_grid heights widths r c) p in
    let some_too : IsSome (cell_at_position whole q) = subst (λ (v : CellValue). IsSome v) (tile.cells p inside.0 inside.1) some in
    let own : label q ≡ label_of_clump_in_tile_grid grid r c (k - 1) = cells-bear-labels heights widths numbers_of grid r c r_in c_in p inside.0 inside.1 k is in
    subst (λ (n : ℕ). HasClumpNumber j whole q (number n)) own (are j whole labelled.0 label labelled.2 labelled.1 q some_too)

pub borders-count-the-whole : BordersGiveClumpCount
borders-count-the-whole j whole heights widths map_of numbers_of grid cut borders pairs at_cuts n are =
    let labelled = borders-are-labelled j whole heights widths map_of numbers_of grid cut borders pairs at_cuts in
    are j whole labelled.0 (label_of_full_map_cell heights widths numbers_of grid) labelled.2 labelled.1
