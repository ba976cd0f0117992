-- The borders of the tiles of a grid label the cells of the full map.
use Rattle.std.proofs.Common.{◌≡◌, ℕ, suc, ◌+◌, ◌-◌, ◌<◌, [], List, take, map, length, get_or, refl, ap, sym, ◌∙◌, arith, subst, inl, inr, ⊎_elim, ◌⊎◌}
use Rattle.std.specs.Prelude.{sum, flat_map}
use Rattle.std.specs.List.{Contains, range_with_len}
use Rattle.std.proofs.lemmas.List.{get_or-map, length-map}
use Rattle.std.proofs.lemmas.List.Elements.{Contains-append_left, Contains-append_right, Contains-append_cases}
use Rattle.std.proofs.lemmas.List.FromFn.{length-map-range_with_len, get_or-map-range_with_len}
use Rattle.cell_core.specs.Grid.{Grid}
use Rattle.cell_clumps.specs.declared.clump.Joining.{Joining}
use Rattle.cell_clumps.specs.Clumps.{Position}
use Rattle.cell_clumps.specs.parts.CellPlaces.{position_at_row_and_column}
use Rattle.cell_join_numbers.specs.ClumpParts.{position_in_full_map}
use Rattle.cell_join_tiles.specs.Beginnings.{BegunClumpCountsByRow, MapIsCutIntoTiles, rectangle_of_tile_in_grid}
use Rattle.cell_join_tiles.specs.Borders.{BegunCountsAreMaximumRises, BegunCountsOfTilesAreMaximumRises}
use Rattle.cell_join_tiles.specs.Borders.{label_of_full_map_cell}
use Rattle.cell_join_tiles.specs.Borders.{AreLabelsPairedAtSeams}
use Rattle.cell_join_tiles.specs.SeamLines.{label_pairs_of_adjacent_lines, IsLineOfFullMap, AreSeamLines, IsPairAcrossColumnSeam, IsPairAcrossRowSeam, TileHasSide, labelled_categories_along_side, joined_lines_of_tile_row}
use Rattle.cell_join_tiles.specs.Values.{TileSideValue, TileBorderValue, empty_tile_border}
use Rattle.cell_join_tiles.specs.JoinedBorders.{border_of_tile_at, TilesHaveBorders, begun_clump_counts_of_grid, labelled_first_column_of_tile, labelled_last_column_of_tile, labelled_first_row_of_tile_row, labelled_last_row_of_tile_row, label_pairs_at_seams_in_tile_row, label_pairs_at_seams_of_grid, BordersSufficeToLabelCells}
use Rattle.cell_join_tiles.proofs.MeetingLemmas.{places-have, places-only}
use Rattle.cell_join_tiles.proofs.SeamLemmas.{seam-lines-pair}
use Rattle.cell_join_tiles.proofs.LineLemmas.{sides-are-lines, rows-are-lines}
use Rattle.cell_join_tiles.proofs.NumberLemmas.{borders-are-labelled}

module _ (j : Joining) (whole : Grid) (heights widths : List ℕ) (map_of numbers_of : ℕ → ℕ → Grid) (grid : List (List TileBorderValue)) (cut : MapIsCutIntoTiles whole heights widths map_of) (have : TilesHaveBorders j heights widths map_of numbers_of grid) where
  abbrev row_at : ℕ → List TileBorderValue
  row_at r = get_or grid r []

  pub begun-row : (r : ℕ) → r < length heights → get_or (begun_clump_counts_of_grid grid) r []
      ≡ map (λ border. border.begun) (row_at r)
  begun-row r lt = get_or-map (λ (row : List TileBorderValue). map (λ border. border.begun) row) grid r [] [] (omega (arith, lt, have.high))

  pub begun-tile : (r c : ℕ) → r < length heights → c < length widths → get_or (get_or (begun_clump_counts_of_grid grid) r []) c [] ≡ (border_of_tile_at grid r c).begun
  begun-tile r c r_lt c_lt =
      ap (λ (row : List BegunClumpCountsByRow). get_or row c []) (begun-row r r_lt)
      ∙ get_or-map (λ (border : TileBorderValue). border.begun) (row_at r) c empty_tile_border [] (omega (arith, c_lt, have.wide r r_lt))

  pub borders : BegunCountsOfTilesAreMaximumRises j heights widths map_of numbers_of (begun_clump_counts_of_grid grid)
  borders = record {
    high = length-map grid (λ (row : List TileBorderValue). map (λ border. border.begun) row) ∙ have.high;
    wide = λ r lt. ap (λ (row : List BegunClumpCountsByRow). length row) (begun-row r lt) ∙ length-map (row_at r) (λ (border : TileBorderValue). border.begun) ∙ have.wide r lt;
    clumpings = λ r c r_lt c_lt. (have.tiles r c r_lt c_lt).clumping;
    rises = λ r c r_lt c_lt. subst (BegunCountsAreMaximumRises (get_or heights r 0) (numbers_of r c)) (sym (begun-tile r c r_lt c_lt)) (have.tiles r c r_lt c_lt).rises;
  }

  abbrev label_of : Position → ℕ
  label_of = label_of_full_map_cell heights widths numbers_of (begun_clump_counts_of_grid grid)

  height-some : (r : ℕ) → r < length heights → 0 < get_or heights r 0
  height-some r lt = have.some_rows r 0 lt

  width-some : (c : ℕ) → c < length widths → 0 < get_or widths c 0
  width-some c lt = have.some_cols c 0 lt

  side : (r c : ℕ) → r < length heights → c < length widths → (count : ℕ) (at : ℕ → Position) (s : TileSideValue) → ((k : ℕ) → k < count → ((at k).row < get_or heights r 0) × ((at k).col < get_or widths c 0)) → TileHasSide (map_of r c) (numbers_of r c) count at s.cells s.numbers → IsLineOfFullMap whole label_of count (λ k. position_in_full_map (rectangle_of_tile_in_grid heights widths r c) (at k)) (labelled_categories_along_side (begun_clump_counts_of_grid grid) r c s.cells s.numbers)
  side r c r_lt c_lt count at s inside has = sides-are-lines whole heights widths map_of numbers_of (begun_clump_counts_of_grid grid) cut r c r_lt c_lt count at s.cells s.numbers inside has

  -- the rows of cells of all tiles in a row of tiles make up a row of the full map
  across : (r inner row : ℕ) → r < length heights → inner < get_or heights r 0 → row ≡ sum (take r heights) + inner → (of : TileBorderValue → TileSideValue)
      → ((c : ℕ) → c < length widths → TileHasSide (map_of r c) (numbers_of r c) (get_or widths c 0) (position_at_row_and_column inner) (of (border_of_tile_at grid r c)).cells (of (border_of_tile_at grid r c)).numbers)
      → IsLineOfFullMap whole label_of (sum widths) (position_at_row_and_column row) (joined_lines_of_tile_row (map (λ c. labelled_categories_along_side (begun_clump_counts_of_grid grid) r c (of (border_of_tile_at grid r c)).cells (of (border_of_tile_at grid r c)).numbers) (range_with_len 0 (length (row_at r)))))
  across r inner row r_lt low is of has =
      let one = λ (c : ℕ). labelled_categories_along_side (begun_clump_counts_of_grid grid) r c (of (border_of_tile_at grid r c)).cells (of (border_of_tile_at grid r c)).numbers in
      rows-are-lines whole label_of heights widths r inner row (map one (range_with_len 0 (length (row_at r)))) is
      (length-map-range_with_len one 0 (length (row_at r)) ∙ have.wide r r_lt)
      (λ c lt.
      let own = side r c r_lt lt (get_or widths c 0) (position_at_row_and_column inner) (of (border_of_tile_at grid r c)) (λ k k_lt. (low, k_lt)) (has c lt) in
      let at : get_or (map one (range_with_len 0 (length (row_at r)))) c [] ≡ one c = get_or-map-range_with_len one 0 (length (row_at r)) c c [] (omega (arith, lt, have.wide r r_lt)) (omega arith) in
      subst (IsLineOfFullMap whole label_of (get_or widths c 0) (λ k. position_in_full_map (rectangle_of_tile_in_grid heights widths r c) (position_at_row_and_column inner k))) (sym at) own)

  pub lines : AreSeamLines whole heights widths label_of (labelled_first_column_of_tile grid) (labelled_last_column_of_tile grid) (labelled_first_row_of_tile_row grid) (labelled_last_row_of_tile_row grid)
  lines = record {
    lefts = λ r c r_lt c_lt. side r c r_lt c_lt (get_or heights r 0) (λ k. position_at_row_and_column k 0) (border_of_tile_at grid r c).left (λ k lt. (lt, width-some c c_lt)) (have.tiles r c r_lt c_lt).left;
    rights = λ r c r_lt c_lt. side r c r_lt c_lt (get_or heights r 0) (λ k. position_at_row_and_column k (get_or widths c 0 - 1)) (border_of_tile_at grid r c).right (λ k lt. (lt, omega (arith, width-some c c_lt))) (have.tiles r c r_lt c_lt).right;
    firsts = λ r lt. across r 0 (sum (take r heights)) lt (height-some r lt) (omega arith) (λ b. b.first) (λ c c_lt. (have.tiles r c lt c_lt).first);
    lasts = λ r lt. across r (get_or heights r 0 - 1) (sum (take r heights) + (get_or heights r 0 - 1)) lt (omega (arith, height-some r lt)) refl (λ b. b.last) (λ c c_lt. (have.tiles r c lt c_lt).last);
  }

  abbrev sides : ℕ → ℕ → List (ℕ × ℕ)
  sides r c = label_pairs_of_adjacent_lines j (labelled_last_column_of_tile grid r c)
      (labelled_first_column_of_tile grid r (suc c))

  abbrev rows : ℕ → List (ℕ × ℕ)
  rows r = label_pairs_of_adjacent_lines j (labelled_last_row_of_tile_row grid r) (labelled_first_row_of_tile_row grid
      (suc r))

  abbrev AtSeam : ℕ × ℕ → Type 0
  AtSeam x = IsPairAcrossColumnSeam j heights widths (labelled_first_column_of_tile grid) (labelled_last_column_of_tile grid) x ⊎ IsPairAcrossRowSeam j heights (labelled_first_row_of_tile_row grid) (labelled_last_row_of_tile_row grid) x

  only : (x : ℕ × ℕ) → Contains (label_pairs_at_seams_of_grid j grid) x → AtSeam x
  only x h =
      ⊎_elim
      (λ side.
      let t = places-only (label_pairs_at_seams_in_tile_row j grid) x 0 (length grid) side in
      let r_lt : t.0 < length heights = omega (arith, t.2, have.high) in
      let u = places-only (sides t.0) x 0 (length (row_at t.0) - 1) t.1 in
      inl (t.0, u.0, r_lt, omega (arith, u.2, have.wide t.0 r_lt), u.1))
      (λ row.
      let t = places-only rows x 0 (length grid - 1) row in
      inr (t.0, omega (arith, t.2, have.high), t.1))
      (Contains-append_cases (flat_map (label_pairs_at_seams_in_tile_row j grid) (range_with_len 0 (length grid))) (flat_map rows (range_with_len 0 (length grid - 1))) x h)

  all : (x : ℕ × ℕ) → AtSeam x → Contains (label_pairs_at_seams_of_grid j grid) x
  all x (inl s) =
      let inner : Contains (label_pairs_at_seams_in_tile_row j grid s.0) x = places-have (sides s.0) x 0 (length (row_at s.0) - 1) s.1 (omega arith) (omega (arith, s.3, have.wide s.0 s.2)) s.4 in
      Contains-append_left (flat_map (label_pairs_at_seams_in_tile_row j grid) (range_with_len 0 (length grid))) (flat_map rows (range_with_len 0 (length grid - 1))) x
      (places-have (label_pairs_at_seams_in_tile_row j grid) x 0 (length grid) s.0 (omega arith)
      (omega (arith, s.2, have.high)) inner)
  all x (inr s) =
      Contains-append_right (flat_map (label_pairs_at_seams_in_tile_row j grid) (range_with_len 0 (length grid))) (flat_map rows (range_with_len 0 (length grid - 1))) x
      (places-have rows x 0 (length grid - 1) s.0 (omega arith) (omega (arith, s.1, have.high)) s.2)

  pub at-seams : AreLabelsPairedAtSeams j whole heights widths label_of (label_pairs_at_seams_of_grid j grid)
  at-seams = seam-lines-pair j whole heights widths label_of (labelled_first_column_of_tile grid) (labelled_last_column_of_tile grid) (labelled_first_row_of_tile_row grid) (labelled_last_row_of_tile_row grid) (label_pairs_at_seams_of_grid j grid) have.some_rows have.some_cols cut.within lines (λ x. (only x, all x))

pub grids-are-labelled : BordersSufficeToLabelCells
grids-are-labelled j whole heights widths map_of numbers_of grid cut have =
    borders-are-labelled j whole heights widths map_of numbers_of (begun_clump_counts_of_grid grid) cut (borders j whole heights widths map_of numbers_of grid cut have) (label_pairs_at_seams_of_grid j grid) (at-seams j whole heights widths map_of numbers_of grid cut have)
