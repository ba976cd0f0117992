-- The tiles of a row are joined from left to right.
use Rattle.std.proofs.Common.{◌≡◌, ℕ, suc, ◌+◌, ◌<◌, ◌≤◌, ◌^◌, [], ◌∷◌, ◌++◌, List, map, length, get_or, ap, sym, ◌∙◌, arith, subst, append_assoc}
use Rattle.std.specs.Prelude.{sum}
use Rattle.std.specs.List.{range_with_len}
use Rattle.std.proofs.lemmas.List.{get_or-map}
use Rattle.cell_clumps.specs.declared.clump.Joining.{Joining}
use Rattle.cell_join_tiles.specs.declared.border.TileBorder.{TileBorder}
use Rattle.cell_join_tiles.specs.Beginnings.{BegunClumpCountsByRow, clump_count_of_tile_row}
use Rattle.cell_join_tiles.specs.SeamLines.{UnfinishedConsecutiveClumps, label_pairs_of_adjacent_lines}
use Rattle.cell_join_tiles.specs.Values.{TileSideValue, TileBorderValue, empty_tile_border, value_of_tile_border}
use Rattle.cell_join_tiles.specs.Values.{values_of_tile_borders}
use Rattle.cell_join_tiles.specs.parts.RowLabels.{AreFirstLabelsOfTileInRow, label_of_clump_from_first_labels}
use Rattle.cell_join_tiles.specs.parts.RowLabels.{labels_of_clumps_in_tile}
use Rattle.cell_join_tiles.specs.parts.RowMarks.{AddsLabelPairs, TilesHaveRowCount, labelled_categories_of_side, begun_clump_counts_of_tile_row, border_of_tile_in_row, labelled_line_of_tile_side, labelled_last_column_on_the_left, label_pairs_with_left_tile, label_pairs_within_tile_row, labelled_first_rows_of_tiles, labelled_last_rows_of_tiles}
use Rattle.cell_join_tiles.proofs.AddsLemmas.{adds-then}
use Rattle.cell_join_tiles.proofs.RowLabelLemmas.{few-in-tile, firsts-fit, firsts-pass, list-more, lists-more}
use Rattle.cell_join_tiles.proofs.RowStepLemmas.{begun-at, begun-long, labels-are, side-is, value-at, values-long}

module _ (row : List TileBorder) (base rows : ℕ) (even : TilesHaveRowCount rows (values_of_tile_borders row)) where
  abbrev pub values : List TileBorderValue
  values = values_of_tile_borders row

  abbrev pub tiles : List BegunClumpCountsByRow
  tiles = begun_clump_counts_of_tile_row values

  pub tile-long : (c : ℕ) (tile : TileBorder) → c < length row → tile ≡ get_or row c tile
      → length tile.begun.items ≡ rows
  tile-long c tile lt is =
      let here = value-at row c tile lt ∙ ap value_of_tile_border (sym is) in
      let long = ap (λ (b : TileBorderValue). length b.begun) here in
      omega (arith, long, even c (omega (arith, lt, values-long row)))

  tiles-low : (c : ℕ) → c < length tiles → length (get_or tiles c []) ≤ rows
  tiles-low c lt =
      let c_in : c < length values = omega (arith, lt, begun-long row, values-long row) in
      let is = get_or-map (λ (b : TileBorderValue). b.begun) values c empty_tile_border [] c_in in
      let long = ap (λ (l : List ℕ). length l) is in
      omega (arith, long, even c c_in)

  module _ (c : ℕ) (tile : TileBorder) (lt : c < length row) (is : tile ≡ get_or row c tile) (line : List ℕ) (are : AreFirstLabelsOfTileInRow base tiles c line) (long : length line ≡ rows) where
    begun-is : get_or tiles c [] ≡ tile.begun.items
    begun-is = begun-at row c tile lt ∙ ap (λ (b : TileBorder). b.begun.items) (sym is)

    pub fits : base + clump_count_of_tile_row tiles < 2 ^ 64 → (i : ℕ) → i < length tile.begun.items → get_or line i 0 + get_or tile.begun.items i 0 < 2 ^ 64
    fits few i inside =
        let most = firsts-fit base rows tiles c line are long tiles-low (omega (arith, lt, begun-long row)) i (omega (arith, inside, tile-long c tile lt is)) in
        let same = ap (λ (l : List ℕ). get_or l i 0) begun-is in
        omega (arith, most, same, few)

    pub few-in : base + clump_count_of_tile_row tiles < 2 ^ 64 → sum tile.begun.items < 2 ^ 64
    few-in few =
        let same = ap (λ (l : List ℕ). sum l) begun-is in
        omega (arith, few, same, few-in-tile tiles c (omega (arith, lt, begun-long row)))

    pub passed : (next : List ℕ) → length next ≡ length line → ((i : ℕ) → i < length tile.begun.items → get_or next i 0 ≡ get_or line i 0 + get_or tile.begun.items i 0) → AreFirstLabelsOfTileInRow base tiles (c + 1) next
    passed next same each =
        firsts-pass base tiles c line next are (omega (arith, lt, begun-long row)) same (λ i inside.
        let value = ap (λ (l : List ℕ). get_or l i 0) begun-is in
        omega (arith, each i (omega (arith, inside, long, tile-long c tile lt is)), value))

    here : border_of_tile_in_row values c ≡ value_of_tile_border tile
    here = value-at row c tile lt ∙ ap value_of_tile_border (sym is)

    c_in : c < length values
    c_in = omega (arith, lt, values-long row)

    even-here : length (border_of_tile_in_row values c).begun ≡ length line
    even-here = even c c_in ∙ sym long

    side : (of : TileBorderValue → TileSideValue) → labelled_categories_of_side (label_of_clump_from_first_labels line tile.begun.items) (sum tile.begun.items) (of (value_of_tile_border tile)) ≡ labelled_line_of_tile_side base values c (of (border_of_tile_in_row values c))
    side of =
        (λ i. labelled_categories_of_side (label_of_clump_from_first_labels line (sym here i).begun)
        (sum (sym here i).begun) (of (sym here i)))
        ∙ side-is base values c line are c_in even-here (of (border_of_tile_in_row values c))

    pub pairs-more : (j : Joining) (old mid new : List (ℕ × ℕ)) (right : UnfinishedConsecutiveClumps) → right ≡ labelled_last_column_on_the_left base values c → AddsLabelPairs old mid (label_pairs_within_tile_row j base values c) → AddsLabelPairs mid new (label_pairs_of_adjacent_lines j right (labelled_categories_of_side (label_of_clump_from_first_labels line tile.begun.items) (sum tile.begun.items) (value_of_tile_border tile).left)) → AddsLabelPairs old new (label_pairs_within_tile_row j base values (c + 1))
    pairs-more j old mid new right before was now =
        let left = side (λ b. b.left) in
        let own : AddsLabelPairs mid new (label_pairs_with_left_tile j base values c) = subst (AddsLabelPairs mid new) (λ i. label_pairs_of_adjacent_lines j (before i) (left i)) now in
        subst (AddsLabelPairs old new) (sym (lists-more (label_pairs_with_left_tile j base values) c)) (adds-then old mid new (label_pairs_within_tile_row j base values c) (label_pairs_with_left_tile j base values c) was own)

    pub first-more : (old new : UnfinishedConsecutiveClumps) → old ≡ labelled_first_rows_of_tiles base values c → new ≡ old ++ labelled_categories_of_side (label_of_clump_from_first_labels line tile.begun.items) (sum tile.begun.items) (value_of_tile_border tile).first → new ≡ labelled_first_rows_of_tiles base values (c + 1)
    first-more old new was now =
        now ∙ (let own = side (λ b. b.first) in λ i. was i ++ own i) ∙ sym (lists-more (λ k. labelled_line_of_tile_side base values k (border_of_tile_in_row values k).first) c)

    pub last-more : (old new : UnfinishedConsecutiveClumps) → old ≡ labelled_last_rows_of_tiles base values c → new ≡ old ++ labelled_categories_of_side (label_of_clump_from_first_labels line tile.begun.items) (sum tile.begun.items) (value_of_tile_border tile).last → new ≡ labelled_last_rows_of_tiles base values (c + 1)
    last-more old new was now =
        now ∙ (let own = side (λ b. b.last) in λ i. was i ++ own i) ∙ sym (lists-more (λ k. labelled_line_of_tile_side base values k (border_of_tile_in_row values k).last) c)

    pub right-more : (new : UnfinishedConsecutiveClumps) → new ≡ labelled_categories_of_side (label_of_clump_from_first_labels line tile.begun.items) (sum tile.begun.items) (value_of_tile_border tile).right → new ≡ labelled_last_column_on_the_left base values (c + 1)
    right-more new now = let one : suc c ≡ c + 1 = omega arith in now ∙ side (λ b. b.right) ∙ ap (labelled_last_column_on_the_left base values) one

    pub tiles-more : (from old new : List (List ℕ)) → old ≡ from ++ map (labels_of_clumps_in_tile base tiles) (range_with_len 0 c) → new ≡ old ++ map (label_of_clump_from_first_labels line tile.begun.items) (range_with_len 0 (sum tile.begun.items)) ∷ [] → new ≡ from ++ map (labels_of_clumps_in_tile base tiles) (range_with_len 0 (c + 1))
    tiles-more from old new was now =
        let own : map (label_of_clump_from_first_labels line tile.begun.items) (range_with_len 0 (sum tile.begun.items)) ≡ labels_of_clumps_in_tile base tiles c =
        (λ i. map (label_of_clump_from_first_labels line (sym here i).begun) (range_with_len 0 (sum (sym here i).begun))) ∙ labels-are base values c line are c_in even-here in
        now ∙ (λ i. was i ++ own i ∷ [])
        ∙ append_assoc from (map (labels_of_clumps_in_tile base tiles) (range_with_len 0 c))
        (labels_of_clumps_in_tile base tiles c ∷ [])
        ∙ ap (λ (l : List (List ℕ)). from ++ l) (sym (list-more (labels_of_clumps_in_tile base tiles) c))
