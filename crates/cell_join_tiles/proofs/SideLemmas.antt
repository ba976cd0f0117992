-- The lines of a row of tiles are the lines of the borders of the tiles of a map.
use Rattle.std.proofs.Common.{◌≡◌, ℕ, ℤ, zero, suc, pos, ◌+◌, ◌-◌, ◌<◌, [], ◌∷◌, ◌++◌, List, Some, None, IsSome, map, length, get_or, refl, ap, sym, ◌∙◌, arith, subst, inl, inr, ⊎_elim, ◌⊎◌, eqb, ltb}
use Rattle.std.specs.Prelude.{sum, flat_map, Contains}
use Rattle.std.specs.List.{range_with_len}
use Rattle.std.proofs.lemmas.Bool.{cond-true, cond-false, lt-ltb, ne_eqb}
use Rattle.std.proofs.lemmas.List.Concat.{flat_map-cons}
use Rattle.std.proofs.lemmas.List.Elements.{Contains-append_left, Contains-append_right, Contains-append_cases}
use Rattle.cell_core.specs.Grid.{Grid, CellValue}
use Rattle.cell_clumps.specs.declared.clump.Joining.{Joining}
use Rattle.cell_clumps.specs.Clumps.{Position, cell_at_position}
use Rattle.cell_clumps.specs.parts.CellPlaces.{position_at_row_and_column}
use Rattle.cell_join_tiles.proofs.ListedAtLemmas.{listed_at-of}
use Rattle.cell_join_tiles.specs.Beginnings.{BegunClumpCountsByRow, MapIsCutIntoTiles, label_of_clump_in_tile_grid}
use Rattle.cell_join_tiles.specs.Borders.{number_of_cell_or_zero, BegunCountsOfTilesAreMaximumRises}
use Rattle.cell_join_tiles.specs.SeamLines.{UnfinishedConsecutiveClumps, label_pairs_of_adjacent_lines, TileHasSide, labelled_category_in_tile, labelled_categories_along_side, joined_lines_of_tile_row, IsPairAcrossColumnSeam, IsPairAcrossRowSeam}
use Rattle.cell_join_tiles.specs.Values.{TileSideValue, TileBorderValue}
use Rattle.cell_join_tiles.specs.JoinedBorders.{TilesHaveBorders, begun_clump_counts_of_grid, border_of_tile_at, labelled_first_column_of_tile, labelled_last_column_of_tile, labelled_first_row_of_tile_row, labelled_last_row_of_tile_row}
use Rattle.cell_join_tiles.specs.JoinedTiles.{tile_row_at, first_label_of_tile_row, labelled_row_above_tile_row}
use Rattle.cell_join_tiles.specs.JoinedTiles.{label_pairs_of_tile_row_at}
use Rattle.cell_join_tiles.specs.parts.RowLabels.{label_of_clump_in_row_of_tiles}
use Rattle.cell_join_tiles.specs.parts.RowMarks.{clump_from_number, labelled_category_of_clump, labelled_category_of_cell, labelled_categories_of_side, begun_clump_counts_of_tile_row, border_of_tile_in_row, labelled_line_of_tile_side, label_pairs_with_left_tile, label_pairs_within_tile_row, labelled_first_rows_of_tiles, labelled_last_rows_of_tiles}
use Rattle.cell_join_tiles.proofs.BorderLemmas.{at-of}
use Rattle.cell_join_tiles.proofs.MeetingLemmas.{places-have, places-only}
use Rattle.cell_join_tiles.proofs.NumberLemmas.{report, firsts_at}
use Rattle.cell_join_tiles.proofs.GreatestLemmas.{some-numbered}
use Rattle.cell_join_tiles.proofs.JoinedLemmas.{borders, begun-row}
use Rattle.cell_join_tiles.proofs.RowsLemmas.{lists-same}

pub maps-same : {X : Type 0} (f g : ℕ → X) (a n : ℕ) → ((k : ℕ) → k < a + n → f k ≡ g k) → map f (range_with_len a n) ≡ map g (range_with_len a n)
maps-same f g a zero same = refl
maps-same f g a (suc n) same =
    let first : f a ≡ g a = same a (omega arith) in
    let rest = maps-same f g (a + 1) n (λ k lt. same k (omega (arith, lt))) in
    λ i. first i ∷ rest i

lines-flat : (f : ℕ → UnfinishedConsecutiveClumps) (xs : List ℕ) → joined_lines_of_tile_row (map f xs) ≡ flat_map f xs
lines-flat f [] = refl
lines-flat f (x ∷ xs) = ap (λ (l : UnfinishedConsecutiveClumps). f x ++ l) (lines-flat f xs)
    ∙ sym (flat_map-cons f x xs)

-- a cell whose number is the number of a clump of its tile is marked
mark-known : (label : ℕ → ℕ) (clumps k : ℕ) (v : ℤ) → k < clumps → labelled_category_of_cell label clumps (Some v) (Some (pos (k + 1))) ≡ Some (record { category = v; label = label k })
mark-known label clumps k v lt =
    let some : clump_from_number (Some (pos (k + 1))) ≡ Some (k + 1 - 1) = cond-false (eqb (k + 1) 0) None (Some (k + 1 - 1)) (ne_eqb (k + 1) 0 (λ e. absurd (omega (arith, e)))) in
    let same : k + 1 - 1 ≡ k = omega arith in
    ap (labelled_category_of_clump label clumps v) (some ∙ ap (λ (n : ℕ). Some n) same)
    ∙ cond-true (ltb k clumps) (Some (record { category = v; label = label k })) None (lt-ltb k clumps lt)

-- an empty line meets nothing
no-meetings : (j : Joining) (line : UnfinishedConsecutiveClumps) → label_pairs_of_adjacent_lines j [] line ≡ []
no-meetings j line = refl

module _ (j : Joining) (whole : Grid) (heights widths : List ℕ) (map_of numbers_of : ℕ → ℕ → Grid) (grid : List (List TileBorderValue)) (cut : MapIsCutIntoTiles whole heights widths map_of) (have : TilesHaveBorders j heights widths map_of numbers_of grid) where
  abbrev g : List (List BegunClumpCountsByRow)
  g = begun_clump_counts_of_grid grid

  abbrev are : BegunCountsOfTilesAreMaximumRises j heights widths map_of numbers_of g
  are = borders j whole heights widths map_of numbers_of grid cut have

  abbrev firsts : ℕ → ℕ → List Position
  firsts = firsts_at j whole heights widths map_of numbers_of g cut are

  abbrev count_of : (r c : ℕ) → ℕ
  count_of r c = sum (get_or (get_or g r []) c [])

  -- a cell that is not null has the number of a clump of its tile
  pub record AreAllLabelsNumbered (r c : ℕ) (p : Position) : Type 0 where
    pub clump : ℕ
    pub inside : clump < count_of r c
    pub is : cell_at_position (numbers_of r c) p ≡ Some (pos (clump + 1))

  pub numbered : (r c : ℕ) → r < length heights → c < length widths → (p : Position) → IsSome (cell_at_position (map_of r c) p) → AreAllLabelsNumbered r c p
  numbered r c r_in c_in p some =
      let all = report j whole heights widths map_of numbers_of g cut are in
      let t = all.tiles r c r_in c_in in
      let listed_at = listed_at-of j (map_of r c) (firsts r c) t.all (numbers_of r c) t.clumping p some in
      let at = at-of j whole heights widths map_of numbers_of firsts g cut all r c listed_at.place (record { r_in = r_in; c_in = c_in; k_in = listed_at.inside }) in
      let clump = at.clump in
      record { clump = listed_at.place; inside = clump.k_in; is = listed_at.number }

  -- a number of a tile is the number of one of its clumps
  pub number-inside : (r c : ℕ) → r < length heights → c < length widths → (p : Position) (k : ℕ) → cell_at_position (numbers_of r c) p ≡ Some (pos k) → k - 1 < count_of r c
  number-inside r c r_in c_in p k is =
      let clumping = are.clumpings r c r_in c_in in
      let some = some-numbered (cell_at_position (map_of r c) p) (cell_at_position (numbers_of r c) p) (clumping.nulls p) (rw is refl) in
      let t = numbered r c r_in c_in p some in
      let same : k ≡ t.clump + 1 = ap number_of_cell_or_zero (sym is ∙ t.is) in
      omega (arith, same, t.inside)

  row-begun : (r : ℕ) → r < length heights → get_or g r [] ≡ begun_clump_counts_of_tile_row (tile_row_at grid r)
  row-begun r lt = begun-row j whole heights widths map_of numbers_of grid cut have r lt

  -- ---- the marks of a side

  mark-same : (r c : ℕ) → r < length heights → c < length widths → (p : Position) (m n : CellValue) → cell_at_position (map_of r c) p ≡ m → cell_at_position (numbers_of r c) p ≡ n → labelled_category_of_cell (label_of_clump_in_row_of_tiles (first_label_of_tile_row grid r) (get_or g r []) c) (count_of r c) m n ≡ labelled_category_in_tile g r c m n
  mark-same r c r_in c_in p None n m_is n_is = refl
  mark-same r c r_in c_in p (Some v) n m_is n_is =
      let t = numbered r c r_in c_in p (rw m_is refl) in
      let own : n ≡ Some (pos (t.clump + 1)) = sym n_is ∙ t.is in
      let less : t.clump ≡ t.clump + 1 - 1 = omega arith in
      ap (labelled_category_of_cell (label_of_clump_in_row_of_tiles (first_label_of_tile_row grid r)
      (get_or g r []) c) (count_of r c) (Some v)) own
      ∙ mark-known (label_of_clump_in_row_of_tiles (first_label_of_tile_row grid r) (get_or g r []) c)
      (count_of r c) t.clump v t.inside
      ∙ ap (λ (k : ℕ). Some (record { category = v; label = label_of_clump_in_tile_grid g r c k })) less
      ∙ sym (ap (labelled_category_in_tile g r c (Some v)) own)

  side-same : (r c : ℕ) → r < length heights → c < length widths → (count : ℕ) (at : ℕ → Position) (side : TileSideValue) → TileHasSide (map_of r c) (numbers_of r c) count at side.cells side.numbers → labelled_line_of_tile_side (first_label_of_tile_row grid r) (tile_row_at grid r) c side ≡ labelled_categories_along_side g r c side.cells side.numbers
  side-same r c r_in c_in count at side has =
      (λ i. labelled_categories_of_side (label_of_clump_in_row_of_tiles (first_label_of_tile_row grid r) (sym (row-begun r r_in) i) c) (sum (get_or (sym (row-begun r r_in) i) c [])) side)
      ∙ maps-same (λ k. labelled_category_of_cell (label_of_clump_in_row_of_tiles (first_label_of_tile_row grid r) (get_or g r []) c) (count_of r c) (get_or side.cells k None) (get_or side.numbers k None)) (λ k. labelled_category_in_tile g r c (get_or side.cells k None) (get_or side.numbers k None)) 0 (length side.cells)
      (λ k lt.
      let k_in : k < count = omega (arith, lt, has.long) in
      mark-same r c r_in c_in (at k) (get_or side.cells k None) (get_or side.numbers k None) (sym (has.each_cell k k_in)) (sym (has.each_number k k_in)))

  wide : (r : ℕ) → r < length heights → length (tile_row_at grid r) ≡ length widths
  wide r lt = have.wide r lt

  left-same : (r c : ℕ) → r < length heights → c < length widths → labelled_line_of_tile_side (first_label_of_tile_row grid r) (tile_row_at grid r) c (border_of_tile_in_row (tile_row_at grid r) c).left ≡ labelled_first_column_of_tile grid r c
  left-same r c r_in c_in = side-same r c r_in c_in (get_or heights r 0) (λ k. position_at_row_and_column k 0) (border_of_tile_at grid r c).left (have.tiles r c r_in c_in).left

  right-same : (r c : ℕ) → r < length heights → c < length widths → labelled_line_of_tile_side (first_label_of_tile_row grid r) (tile_row_at grid r) c (border_of_tile_in_row (tile_row_at grid r) c).right ≡ labelled_last_column_of_tile grid r c
  right-same r c r_in c_in = side-same r c r_in c_in (get_or heights r 0) (λ k. position_at_row_and_column k (get_or widths c 0 - 1)) (border_of_tile_at grid r c).right (have.tiles r c r_in c_in).right

  first-same : (r : ℕ) → r < length heights → labelled_first_rows_of_tiles (first_label_of_tile_row grid r) (tile_row_at grid r) (length (tile_row_at grid r)) ≡ labelled_first_row_of_tile_row grid r
  first-same r r_in =
      lists-same (λ c. labelled_line_of_tile_side (first_label_of_tile_row grid r) (tile_row_at grid r) c (border_of_tile_in_row (tile_row_at grid r) c).first) (λ c. labelled_categories_along_side g r c (border_of_tile_at grid r c).first.cells (border_of_tile_at grid r c).first.numbers) 0 (length (tile_row_at grid r))
      (λ c lt. let c_in : c < length widths = omega (arith, lt, wide r r_in) in side-same r c r_in c_in (get_or widths c 0) (position_at_row_and_column 0) (border_of_tile_at grid r c).first (have.tiles r c r_in c_in).first)
      ∙ sym (lines-flat (λ c. labelled_categories_along_side g r c (border_of_tile_at grid r c).first.cells (border_of_tile_at grid r c).first.numbers) (range_with_len 0 (length (tile_row_at grid r))))

  last-same : (r : ℕ) → r < length heights → labelled_last_rows_of_tiles (first_label_of_tile_row grid r) (tile_row_at grid r) (length (tile_row_at grid r)) ≡ labelled_last_row_of_tile_row grid r
  last-same r r_in =
      lists-same (λ c. labelled_line_of_tile_side (first_label_of_tile_row grid r) (tile_row_at grid r) c (border_of_tile_in_row (tile_row_at grid r) c).last) (λ c. labelled_categories_along_side g r c (border_of_tile_at grid r c).last.cells (border_of_tile_at grid r c).last.numbers) 0 (length (tile_row_at grid r))
      (λ c lt. let c_in : c < length widths = omega (arith, lt, wide r r_in) in side-same r c r_in c_in (get_or widths c 0) (position_at_row_and_column (get_or heights r 0 - 1)) (border_of_tile_at grid r c).last (have.tiles r c r_in c_in).last)
      ∙ sym (lines-flat (λ c. labelled_categories_along_side g r c (border_of_tile_at grid r c).last.cells (border_of_tile_at grid r c).last.numbers) (range_with_len 0 (length (tile_row_at grid r))))

  -- ---- the pairs of rows of tiles are the pairs at the seams

  abbrev pub AtSeams : ℕ × ℕ → Type 0
  AtSeams x = IsPairAcrossColumnSeam j heights widths (labelled_first_column_of_tile grid) (labelled_last_column_of_tile grid) x ⊎ IsPairAcrossRowSeam j heights (labelled_first_row_of_tile_row grid) (labelled_last_row_of_tile_row grid) x

  abbrev pub AtRows : ℕ × ℕ → Type 0
  AtRows x = (r : ℕ) × (r < length grid) × Contains (label_pairs_of_tile_row_at j grid r) x

  above-row : (x : ℕ × ℕ) (r : ℕ) → r < length heights → Contains (label_pairs_of_adjacent_lines j (labelled_row_above_tile_row grid r) (labelled_first_rows_of_tiles (first_label_of_tile_row grid r) (tile_row_at grid r) (length (tile_row_at grid r)))) x → AtSeams x
  above-row x zero r_in h = absurd (let none = h.1 in omega (arith, none))
  above-row x (suc r) r_in h =
      let one = last-same r (omega (arith, r_in)) in
      let other = first-same (suc r) r_in in
      let both = subst (λ (ps : List (ℕ × ℕ)). Contains ps x) (λ i. label_pairs_of_adjacent_lines j (one i)
      (other i)) h in
      inr (r, r_in, both)

  within-row : (x : ℕ × ℕ) (r c : ℕ) → r < length heights → c < length widths → Contains (label_pairs_with_left_tile j (first_label_of_tile_row grid r) (tile_row_at grid r) c) x → AtSeams x
  within-row x r zero r_in c_in h = absurd (let none = h.1 in omega (arith, none))
  within-row x r (suc c) r_in c_in h =
      let one = right-same r c r_in (omega (arith, c_in)) in
      let other = left-same r (suc c) r_in c_in in
      let both = subst (λ (ps : List (ℕ × ℕ)). Contains ps x) (λ i. label_pairs_of_adjacent_lines j (one i)
      (other i)) h in
      inl (r, c, r_in, c_in, both)

  pub to-seams : (x : ℕ × ℕ) → AtRows x → AtSeams x
  to-seams x t =
      let r = t.0 in
      let r_in : r < length heights = omega (arith, t.1, have.high) in
      ⊎_elim (above-row x r r_in)
      (λ h.
      let u = places-only (label_pairs_with_left_tile j (first_label_of_tile_row grid r) (tile_row_at grid r)) x 0
      (length (tile_row_at grid r)) h in
      within-row x r u.0 r_in (omega (arith, u.2, wide r r_in)) u.1)
      (Contains-append_cases (label_pairs_of_adjacent_lines j (labelled_row_above_tile_row grid r) (labelled_first_rows_of_tiles (first_label_of_tile_row grid r) (tile_row_at grid r) (length (tile_row_at grid r)))) (label_pairs_within_tile_row j (first_label_of_tile_row grid r) (tile_row_at grid r) (length (tile_row_at grid r))) x t.2)

  pub from-seams : (x : ℕ × ℕ) → AtSeams x → AtRows x
  from-seams x (inl s) =
      let r = s.0 in
      let c = s.1 in
      let one = right-same r c s.2 (omega (arith, s.3)) in
      let other = left-same r (suc c) s.2 s.3 in
      let both : Contains (label_pairs_with_left_tile j (first_label_of_tile_row grid r) (tile_row_at grid r) (suc c)) x = subst (λ (ps : List (ℕ × ℕ)). Contains ps x) (sym (λ i. label_pairs_of_adjacent_lines j (one i) (other i))) s.4 in (
        r,
        omega (arith, s.2, have.high),
        Contains-append_right (label_pairs_of_adjacent_lines j (labelled_row_above_tile_row grid r) (labelled_first_rows_of_tiles (first_label_of_tile_row grid r) (tile_row_at grid r) (length (tile_row_at grid r)))) (label_pairs_within_tile_row j (first_label_of_tile_row grid r) (tile_row_at grid r) (length (tile_row_at grid r))) x
            (places-have (label_pairs_with_left_tile j (first_label_of_tile_row grid r) (tile_row_at grid r)) x 0 (length (tile_row_at grid r)) (suc c) (omega arith) (omega (arith, s.3, wide r s.2)) both),
      )
  from-seams x (inr s) =
      let r = s.0 in
      let one = last-same r (omega (arith, s.1)) in
      let other = first-same (suc r) s.1 in
      let both : Contains (label_pairs_of_adjacent_lines j (labelled_row_above_tile_row grid (suc r)) (labelled_first_rows_of_tiles (first_label_of_tile_row grid (suc r)) (tile_row_at grid (suc r)) (length (tile_row_at grid (suc r))))) x = subst (λ (ps : List (ℕ × ℕ)). Contains ps x) (sym (λ i. label_pairs_of_adjacent_lines j (one i) (other i))) s.2 in
      (suc r, omega (arith, s.1, have.high), Contains-append_left (label_pairs_of_adjacent_lines j (labelled_row_above_tile_row grid (suc r)) (labelled_first_rows_of_tiles (first_label_of_tile_row grid (suc r)) (tile_row_at grid (suc r)) (length (tile_row_at grid (suc r))))) (label_pairs_within_tile_row j (first_label_of_tile_row grid (suc r)) (tile_row_at grid (suc r)) (length (tile_row_at grid (suc r)))) x both)
