-- Adding one more tile to a row of tiles.
use Rattle.std.proofs.Common.{◌≡◌, ℕ, ℤ, ◌<◌, ◌≤◌, [], List, Option, Some, None, map, length, get_or, refl, ap, sym, ◌∙◌, arith, ⊎_elim, ltb}
use Rattle.std.specs.Prelude.{sum}
use Rattle.std.specs.List.{range_with_len}
use Rattle.std.proofs.lemmas.Bool.{cases_lt, cond-true, cond-false, lt-ltb, le-ltb}
use Rattle.std.proofs.lemmas.List.{get_or-map, length-map}
use Rattle.cell_core.specs.Grid.{CellValue}
use Rattle.cell_join_tiles.specs.declared.border.TileBorder.{TileBorder}
use Rattle.cell_join_tiles.specs.Values.{TileSideValue, TileBorderValue, empty_tile_border, value_of_tile_border}
use Rattle.cell_join_tiles.specs.Values.{values_of_tile_borders}
use Rattle.cell_join_tiles.specs.parts.RowLabels.{AreFirstLabelsOfTileInRow, label_of_clump_from_first_labels}
use Rattle.cell_join_tiles.specs.parts.RowLabels.{label_of_clump_in_row_of_tiles, labels_of_clumps_in_tile}
use Rattle.cell_join_tiles.specs.parts.RowMarks.{clump_from_number, labelled_category_of_clump, labelled_category_of_cell, labelled_categories_of_side, begun_clump_counts_of_tile_row, border_of_tile_in_row, labelled_line_of_tile_side}
use Rattle.cell_join_tiles.proofs.RowLabelLemmas.{first-label, tile-labels}

-- ---- the tiles of a row as lists

module _ (row : List TileBorder) where
  pub values-long : length (values_of_tile_borders row) ≡ length row
  values-long = length-map row value_of_tile_border

  pub begun-long : length (begun_clump_counts_of_tile_row (values_of_tile_borders row)) ≡ length row
  begun-long = length-map (values_of_tile_borders row) (λ (border : TileBorderValue). border.begun) ∙ values-long

  pub value-at : (c : ℕ) (d : TileBorder) → c < length row → border_of_tile_in_row (values_of_tile_borders row) c
      ≡ value_of_tile_border (get_or row c d)
  value-at c d lt = get_or-map value_of_tile_border row c d empty_tile_border lt

  pub begun-at : (c : ℕ) (d : TileBorder) → c < length row → get_or (begun_clump_counts_of_tile_row (values_of_tile_borders row)) c [] ≡ (get_or row c d).begun.items
  begun-at c d lt =
      get_or-map (λ (border : TileBorderValue). border.begun) (values_of_tile_borders row) c empty_tile_border [] (omega (arith, lt, values-long)) ∙ ap (λ (border : TileBorderValue). border.begun) (value-at c d lt)

-- ---- marks

marks-at : (f g : ℕ → ℕ) (clumps : ℕ) → ((k : ℕ) → k < clumps → f k ≡ g k) → (v : ℤ) (clump : Option ℕ) → labelled_category_of_clump f clumps v clump ≡ labelled_category_of_clump g clumps v clump
marks-at f g clumps same v None = refl
marks-at f g clumps same v (Some k) =
    ⊎_elim
    (λ lt. cond-true (ltb k clumps) (Some (record { category = v; label = f k })) None (lt-ltb k clumps lt) ∙ ap (λ (n : ℕ). Some (record { category = v; label = n })) (same k lt) ∙ sym (cond-true (ltb k clumps) (Some (record { category = v; label = g k })) None (lt-ltb k clumps lt)))
    (λ le. cond-false (ltb k clumps) (Some (record { category = v; label = f k })) None (le-ltb k clumps le) ∙ sym (cond-false (ltb k clumps) (Some (record { category = v; label = g k })) None (le-ltb k clumps le)))
    (cases_lt k clumps)

marks-in : (f g : ℕ → ℕ) (clumps : ℕ) → ((k : ℕ) → k < clumps → f k ≡ g k) → (cell number : CellValue) → labelled_category_of_cell f clumps cell number ≡ labelled_category_of_cell g clumps cell number
marks-in f g clumps same None number = refl
marks-in f g clumps same (Some v) number = marks-at f g clumps same v (clump_from_number number)

pub marks-same : (f g : ℕ → ℕ) (clumps : ℕ) → ((k : ℕ) → k < clumps → f k ≡ g k) → (side : TileSideValue) → labelled_categories_of_side f clumps side ≡ labelled_categories_of_side g clumps side
marks-same f g clumps same side =
    λ i. map (λ k. marks-in f g clumps same (get_or side.cells k None) (get_or side.numbers k None) i) (range_with_len 0 (length side.cells))

module _ (base : ℕ) (row : List TileBorderValue) (c : ℕ) (firsts : List ℕ) (are : AreFirstLabelsOfTileInRow base (begun_clump_counts_of_tile_row row) c firsts) (c_in : c < length row) (long : length (border_of_tile_in_row row c).begun ≡ length firsts) where
  begun-is : get_or (begun_clump_counts_of_tile_row row) c [] ≡ (border_of_tile_in_row row c).begun
  begun-is = get_or-map (λ (border : TileBorderValue). border.begun) row c empty_tile_border [] c_in

  low : length (get_or (begun_clump_counts_of_tile_row row) c []) ≤ length firsts
  low = let same = ap (λ (b : List ℕ). length b) begun-is in omega (arith, same, long)

  pub side-is : (side : TileSideValue) → labelled_categories_of_side (label_of_clump_from_first_labels firsts (border_of_tile_in_row row c).begun) (sum (border_of_tile_in_row row c).begun) side ≡ labelled_line_of_tile_side base row c side
  side-is side =
      (λ i. labelled_categories_of_side (label_of_clump_from_first_labels firsts (sym begun-is i))
      (sum (sym begun-is i)) side)
      ∙ marks-same (label_of_clump_from_first_labels firsts (get_or (begun_clump_counts_of_tile_row row) c [])) (label_of_clump_in_row_of_tiles base (begun_clump_counts_of_tile_row row) c) (sum (get_or (begun_clump_counts_of_tile_row row) c [])) (first-label base (begun_clump_counts_of_tile_row row) c firsts are low) side

  pub labels-are : map (label_of_clump_from_first_labels firsts (border_of_tile_in_row row c).begun) (range_with_len 0 (sum (border_of_tile_in_row row c).begun)) ≡ labels_of_clumps_in_tile base (begun_clump_counts_of_tile_row row) c
  labels-are =
      (λ i. map (label_of_clump_from_first_labels firsts (sym begun-is i)) (range_with_len 0 (sum (sym begun-is i))))
      ∙ tile-labels base (begun_clump_counts_of_tile_row row) c firsts are low
