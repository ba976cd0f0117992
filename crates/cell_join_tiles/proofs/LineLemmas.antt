-- The borders of tiles contain lines of cells of the full map.
use Rattle.std.proofs.Common.{◌≡◌, ℕ, suc, ◌+◌, ◌-◌, ◌<◌, [], ◌∷◌, List, Option, None, take, length, get_or, refl, ap, sym, ◌∙◌, arith, ⊎_elim}
use Rattle.std.specs.Prelude.{sum}
use Rattle.std.specs.Option.{option_map}
use Rattle.std.proofs.lemmas.Bool.{cases_lt}
use Rattle.std.proofs.lemmas.List.{get_or_append_left, get_or-append_right, length-append}
use Rattle.std.proofs.lemmas.List.FromFn.{length-map-range_with_len, get_or-map-range_with_len}
use Rattle.cell_core.specs.Grid.{Grid, CellValue}
use Rattle.cell_clumps.specs.Clumps.{Position, cell_at_position}
use Rattle.cell_clumps.specs.parts.CellPlaces.{position_at_row_and_column}
use Rattle.cell_join_numbers.specs.ClumpParts.{position_in_full_map}
use Rattle.cell_join_tiles.specs.Beginnings.{label_of_clump_in_tile_grid, rectangle_of_tile_in_grid}
use Rattle.cell_join_tiles.specs.Borders.{number_of_cell_or_zero, label_of_full_map_cell}
use Rattle.cell_join_tiles.specs.declared.marks.Mark.{Mark}
use Rattle.cell_join_tiles.specs.SeamLines.{UnfinishedConsecutiveClumps, labelled_category_at_position, IsLineOfFullMap, labelled_category_in_tile, joined_lines_of_tile_row, TileSidesAreFullMapLines, TileRowsJoinToFullMapRow}
use Rattle.cell_join_tiles.proofs.StretchLemmas.{sum-cons}
use Rattle.cell_join_tiles.proofs.NumberLemmas.{label-moved}

-- ---- sides

abbrev marked : ℕ → CellValue → Option Mark
marked label cell = option_map (λ v. record { category = v; label = label }) cell

pub sides-are-lines : TileSidesAreFullMapLines
sides-are-lines whole heights widths map_of numbers_of grid cut r c r_in c_in count at cells ids inside side =
    let mark = λ (k : ℕ). labelled_category_in_tile grid r c (get_or cells k None) (get_or ids k None) in
    record {
      long = length-map-range_with_len mark 0 (length cells) ∙ side.long;
      each = λ k lt.
          let a : Position = at k in
          let q : Position = position_in_full_map (rectangle_of_tile_in_grid heights widths r c) a in
          let within = inside k lt in
          let tile = cut.tiles r c r_in c_in in
          let label : label_of_clump_in_tile_grid grid r c (number_of_cell_or_zero (get_or ids k None) - 1) ≡ label_of_full_map_cell heights widths numbers_of grid q =
          ap (λ (n : CellValue). label_of_clump_in_tile_grid grid r c (number_of_cell_or_zero n - 1)) (side.each_number k lt) ∙ sym (label-moved heights widths numbers_of grid r c r_in c_in a within.0 within.1) in
          let cell : get_or cells k None ≡ cell_at_position whole q = side.each_cell k lt ∙ tile.cells a within.0 within.1 in
          get_or-map-range_with_len mark 0 (length cells) k k None (omega (arith, lt, side.long)) (omega arith)
          ∙ ap (λ (n : ℕ). marked n (get_or cells k None)) label
          ∙ ap (marked (label_of_full_map_cell heights widths numbers_of grid q)) cell;
    }

-- ---- rows of tiles

module _ (whole : Grid) (label_of : Position → ℕ) where
  row-line : (row : ℕ) (ws : List ℕ) (lines : List UnfinishedConsecutiveClumps) (base : ℕ) → length lines ≡ length ws
      → ((c : ℕ) → c < length ws → IsLineOfFullMap whole label_of (get_or ws c 0) (λ k. position_at_row_and_column row (base + sum (take c ws) + k)) (get_or lines c []))
      → IsLineOfFullMap whole label_of (sum ws) (λ k. position_at_row_and_column row (base + k))
      (joined_lines_of_tile_row lines)
  row-line row [] [] base same own = record { long = refl; each = λ k lt. absurd (omega (arith, lt)) }
  row-line row [] (line ∷ lines) base same own = absurd (omega (arith, same))
  row-line row (w ∷ ws) [] base same own = absurd (omega (arith, same))
  row-line row (w ∷ ws) (line ∷ lines) base same own =
      let here = own 0 (omega arith) in
      let total = sum-cons w ws in
      let rest = row-line row ws lines (base + w) (omega (arith, same)) (λ c lt.
      let h = own (suc c) (omega (arith, lt)) in
      record {
        long = h.long;
        each = λ k k_lt.
            let from : base + sum (take (suc c) (w ∷ ws)) + k ≡ base + w + sum (take c ws) + k = omega (arith, sum-cons w (take c ws)) in
            h.each k k_lt ∙ ap (λ (n : ℕ). labelled_category_at_position whole label_of
            (position_at_row_and_column row n)) from;
      }) in
      let long : length line ≡ w = here.long in
      record {
        long = omega (arith, length-append line (joined_lines_of_tile_row lines), long, rest.long, total);
        each = λ k lt.
            ⊎_elim
            (λ less.
            let from : base + sum (take 0 (w ∷ ws)) + k ≡ base + k = omega arith in
            get_or_append_left line (joined_lines_of_tile_row lines) None k (omega (arith, less, long)) ∙ here.each k less ∙ ap (λ (n : ℕ). labelled_category_at_position whole label_of (position_at_row_and_column row n)) from)
            (λ past.
            let from : base + w + (k - w) ≡ base + k = omega (arith, past) in
            get_or-append_right line (joined_lines_of_tile_row lines) w k None long past ∙ rest.each (k - w) (omega (arith, past, lt, total)) ∙ ap (λ (n : ℕ). labelled_category_at_position whole label_of (position_at_row_and_column row n)) from)
            (cases_lt k w);
      }

pub rows-are-lines : TileRowsJoinToFullMapRow
rows-are-lines whole label_of heights widths r inner row lines row_is same own =
    let all = row-line whole label_of row widths lines 0 same (λ c lt.
    let h = own c lt in
    record {
      long = h.long;
      each = λ k k_lt.
          let col : sum (take c widths) + k ≡ 0 + sum (take c widths) + k = omega arith in
          h.each k k_lt ∙ ap (λ (n : ℕ). labelled_category_at_position whole label_of (position_at_row_and_column n (sum (take c widths) + k))) (sym row_is) ∙ ap (λ (n : ℕ). labelled_category_at_position whole label_of (position_at_row_and_column row n)) col;
    }) in
    record {
      long = all.long;
      each = λ k lt. let col : 0 + k ≡ k = omega arith in all.each k lt ∙ ap (λ (n : ℕ). labelled_category_at_position whole label_of (position_at_row_and_column row n)) col;
    }
