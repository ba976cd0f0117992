-- The sums of tables whose first column is the number of a patch in its tile.
use Rattle.std.proofs.Common.{◌≡◌, ◌∙◌, ℕ, zero, suc, pos, negsuc, ◌+◌, ◌<◌, ◌&&◌, List, [], ◌∷◌, ◌++◌, All}
use Rattle.std.proofs.Common.{Bool, true, false, cond, Option, Some, None, IsSome, refl, ap, sym, subst, count_by, sum}
use Rattle.std.proofs.Common.{arith, flat_map, length, map, get_or, sum_by, unwrap_or, zero-add, if◌then◌else◌, ◌<ℤ◌}
use Rattle.std.specs.Cmp.{int_cmp_is, ranks}
use Rattle.std.specs.List.{AllByRecursion, AllZip, range_with_len}
use Rattle.std.specs.List.Sorted.{IsStrictlySortedBy}
use Rattle.std.specs.Map.{keys_of, lookup}
use Rattle.std.specs.Option.{option_map}
use Rattle.std.specs.Ordering.{MatchOrdering, eq_by_cmp, is_eq, nat_cmp, ordering_then}
use Rattle.std.specs.declared.cmp.Ordering.{Ordering}
use Rattle.std.specs.declared.cmp.Ordering.TheVariants.{Less, Equal, Greater}
use Rattle.std.proofs.Math.Facts.{yes_ltb}
use Rattle.std.proofs.lemmas.List.Elements.{All-cons, All-head, All-nil, All-tail}
use Rattle.std.proofs.lemmas.List.Sums.{sum_by-append, sum_by-cons}
use Rattle.cell_core.specs.Grid.{Grid, CellValue}
use Rattle.cell_core_values.specs.Cell.{cell_eq, compare_cells_null_last}
use Rattle.cell_clumps.specs.declared.clump.Joining.{Joining}
use Rattle.cell_clumps.specs.Clumps.{Position, cell_at_position}
use Rattle.cell_clumps.specs.parts.CellPlaces.{position_at_row_and_column}
use Rattle.cell_stats.proofs.TableLemmas.{count_kept}
use Rattle.cell_stats.specs.CategoryTables.{table_of_cells}
use Rattle.cell_stats_combinations.specs.declared.skip.Skip.{Skip}
use Rattle.cell_stats_combinations.specs.declared.skip.Skip.TheVariants.{Nothing, AnyNull, AllNull}
use Rattle.cell_stats_combinations.specs.Combinations.{Combination, all_combinations, combination_cmp}
use Rattle.cell_stats_combinations.specs.Combinations.{cell_of_map_at_place, combination_at_row_and_column}
use Rattle.cell_stats_combinations.specs.LeftOut.{combination_is_left_out, kept_cells}
use Rattle.cell_stats_counts.specs.Counts.{cell_count_of_combination}
use Rattle.cell_stats_combinations.specs.Listed.{CombinationCounts, ListsHaveSameCounts, entry_count_of_combination}
use Rattle.cell_stats_combinations.specs.Listed.{listed_count_of_combination}
use Rattle.cell_join_numbers.specs.Parts.{RectanglesCoverMap, MapsAreTileOfFullMaps, Rectangle}
use Rattle.cell_join_numbers.specs.ClumpParts.{position_in_full_map}
use Rattle.cell_join_numbers.specs.TableParts.{TileOfMaps, TilesCoverMaps, combinations_of_tile}
use Rattle.cell_join_numbers.proofs.ClumpCellLemmas.{is-some}
use Rattle.cell_join_numbers.proofs.SumLemmas.{parts-add-up}
use Rattle.cell_join_numbers.specs.declared.stretch.ConsecutiveClumps.{ConsecutiveClumps}
use Rattle.cell_join_tiles.proofs.GreatestLemmas.{some-numbered}
use Rattle.cell_join_patches.specs.PatchNumbers.{number_in_full_map}
use Rattle.cell_join_patches.specs.TileGridLaw.{IsNumberedTileGrid, RenumberedTilesAreFullClumpMap}
use Rattle.cell_join_patches.specs.TileGridLaw.{cell_with_full_map_number, tile_number_in_grid}
use Rattle.rcell_pipe_join.specs.PatchSumLaw.{AreTableSumsOfCells, IsTableOfTileInTileGrid, IsTileInTileGrid}
use Rattle.rcell_pipe_join.specs.PatchSumLaw.{PatchTablesAddUp}
use Rattle.rcell_pipe_join.specs.PatchSumLaw.{TileInTileGrid, combinations_with_patch_number}
use Rattle.rcell_pipe_join.specs.PatchSumLaw.{entries_with_patch_number, tile_rectangle_in_grid}
use Rattle.rcell_pipe_join.specs.PatchTables.{AreSumsOfPatchTables, TileTable, entries_of_number}
use Rattle.rcell_pipe_join.specs.PatchTables.{entries_with_number}
use Rattle.rcell_pipe_join.specs.PatchTables.{full_map_number_of_cell, number_cmp, others_of_number}
use Rattle.rcell_pipe_join.specs.SumLaw.{AreEntriesOfTileTable}
use Rattle.rcell_pipe_join.proofs.CountLemmas.{listed-table, listed-with, listed_with}
use Rattle.rcell_pipe_join.proofs.GroupLemmas.{number-exact}
use Rattle.rcell_pipe_join.proofs.TableSumLemmas.{count-all, listed-tables, table_of_part}

-- ---- entries with the numbers of the full map

-- the cell of the full map's clump map, according to the runs
abbrev renumbered_cell : List ConsecutiveClumps → ℕ → CellValue → CellValue
renumbered_cell runs tile cell = option_map pos (full_map_number_of_cell runs tile cell)

abbrev renumbered_combination : List ConsecutiveClumps → ℕ → Combination → Combination
renumbered_combination runs tile [] = []
renumbered_combination runs tile (cell ∷ cells) = renumbered_cell runs tile cell ∷ cells

abbrev renumbered_entries : List ConsecutiveClumps → TileTable → CombinationCounts
renumbered_entries runs table = map (λ entry. (renumbered_combination runs table.0 entry.0, entry.1)) table.1

-- ---- counts of combinations that are replaced

replaced-listed : (f : Combination → Combination) (k : Combination) (entries : CombinationCounts)
    → listed_count_of_combination k (map (λ entry. (f entry.0, entry.1)) entries)
    ≡ listed_with (λ x. eq_by_cmp combination_cmp k (f x)) entries
replaced-listed f k [] = refl
replaced-listed f k (e ∷ es) =
    let rest = replaced-listed f k es in
    sum_by-cons (entry_count_of_combination k) (f e.0, e.1) (map (λ entry. (f entry.0, entry.1)) es)
    ∙ ap (λ (n : ℕ). entry_count_of_combination k (f e.0, e.1) + n) rest
    ∙ sym (sum_by-cons (λ (entry : Combination × ℕ). cond (eq_by_cmp combination_cmp k (f entry.0)) entry.1 0) e es)

replaced-count : (f : Combination → Combination) (k : Combination) (cells : List Combination)
    → count_by (λ x. eq_by_cmp combination_cmp k (f x)) cells ≡ cell_count_of_combination k (map f cells)
replaced-count f k [] = refl
replaced-count f k (c ∷ cells) =
    sum_by-cons (λ (x : Combination). cond (eq_by_cmp combination_cmp k (f x)) 1 0) c cells
    ∙ ap (λ (n : ℕ). cond (eq_by_cmp combination_cmp k (f c)) 1 0 + n) (replaced-count f k cells)
    ∙ sym (sum_by-cons (λ (x : Combination). cond (eq_by_cmp combination_cmp k x) 1 0) (f c) (map f cells))

kept-out : (skip : Skip) (x : Combination) (cells : List Combination) → combination_is_left_out skip x ≡ true
    → kept_cells skip (x ∷ cells) ≡ kept_cells skip cells
kept-out skip x cells out = rw out refl

kept-in : (skip : Skip) (x : Combination) (cells : List Combination) → combination_is_left_out skip x ≡ false
    → kept_cells skip (x ∷ cells) ≡ x ∷ kept_cells skip cells
kept-in skip x cells out = rw out refl

module _ (runs : List ConsecutiveClumps) (tile : ℕ) where
  abbrev f : Combination → Combination
  f = renumbered_combination runs tile

  left-out-stays : (skip : Skip) (k : Combination) → combination_is_left_out skip (f k) ≡ combination_is_left_out skip k
  left-out-stays skip [] = refl
  left-out-stays skip (None ∷ k) = refl
  left-out-stays Nothing (Some (pos n) ∷ k) = refl
  left-out-stays Nothing (Some (negsuc n) ∷ k) = refl
  left-out-stays AnyNull (Some (pos n) ∷ k) = refl
  left-out-stays AnyNull (Some (negsuc n) ∷ k) = refl
  left-out-stays AllNull (Some (pos n) ∷ k) = refl
  left-out-stays AllNull (Some (negsuc n) ∷ k) = refl

  kept-replaced : (skip : Skip) (cells : List Combination)
      → map f (kept_cells skip cells) ≡ kept_cells skip (map f cells)
  kept-replaced skip [] = refl
  kept-replaced skip (c ∷ cells) = by (combination_is_left_out skip c) refl (kept-replaced skip cells)
    where
      by : (b : Bool) → combination_is_left_out skip c ≡ b → map f (kept_cells skip cells)
          ≡ kept_cells skip (map f cells)
          → map f (kept_cells skip (c ∷ cells)) ≡ kept_cells skip (map f (c ∷ cells))
      by true out rest =
          ap (map f) (kept-out skip c cells out) ∙ rest
          ∙ sym (kept-out skip (f c) (map f cells) (left-out-stays skip c ∙ out))
      by false out rest =
          ap (map f) (kept-in skip c cells out) ∙ ap (λ (l : List Combination). f c ∷ l) rest
          ∙ sym (kept-in skip (f c) (map f cells) (left-out-stays skip c ∙ out))

  -- ---- a tile's map of numbers, renumbered

  abbrev pub renumbered_map : Grid → Grid
  renumbered_map m = record m { rows = map (map (renumbered_cell runs tile)) m.rows }

  row-mapped : (row : List CellValue) (c : ℕ)
      → get_or (map (renumbered_cell runs tile) row) c None ≡ renumbered_cell runs tile (get_or row c None)
  row-mapped [] c = refl
  row-mapped (x ∷ row) zero = refl
  row-mapped (x ∷ row) (suc c) = row-mapped row c

  rows-mapped : (rows : List (List CellValue)) (r c : ℕ)
      → get_or (get_or (map (map (renumbered_cell runs tile)) rows) r []) c None
      ≡ renumbered_cell runs tile (get_or (get_or rows r []) c None)
  rows-mapped [] r c = refl
  rows-mapped (row ∷ rows) zero c = row-mapped row c
  rows-mapped (row ∷ rows) (suc r) c = rows-mapped rows r c

  pub cell-mapped : (m : Grid) (p : Position)
      → cell_at_position (renumbered_map m) p ≡ renumbered_cell runs tile (cell_at_position m p)
  cell-mapped m p = rows-mapped m.rows p.row p.col

  module _ (numbers : Grid) (others : List Grid) where
    other-cells : (row col : ℕ) (picks : List ℕ)
        → map (cell_of_map_at_place (numbers ∷ others) row col) (map suc picks)
        ≡ map (cell_of_map_at_place (renumbered_map numbers ∷ others) row col) (map suc picks)
    other-cells row col [] = refl
    other-cells row col (pick ∷ picks) =
        ap (λ (l : Combination). cell_of_map_at_place others row col pick ∷ l) (other-cells row col picks)

    at-cell : (picks : List ℕ) (row col : ℕ)
        → f (combination_at_row_and_column (numbers ∷ others) (0 ∷ map suc picks) row col)
        ≡ combination_at_row_and_column (renumbered_map numbers ∷ others) (0 ∷ map suc picks) row col
    at-cell picks row col =
        ap (λ (l : Combination). renumbered_cell runs tile (cell_at_position numbers
        (position_at_row_and_column row col)) ∷ l)
        (other-cells row col picks)
        ∙ ap (λ (c : CellValue). c ∷ map (cell_of_map_at_place (renumbered_map numbers ∷ others) row col)
        (map suc picks))
        (sym (cell-mapped numbers (position_at_row_and_column row col)))

    in-row : (picks : List ℕ) (row : ℕ) (cols : List ℕ)
        → map f (map (combination_at_row_and_column (numbers ∷ others) (0 ∷ map suc picks) row) cols)
        ≡ map (combination_at_row_and_column (renumbered_map numbers ∷ others) (0 ∷ map suc picks) row) cols
    in-row picks row [] = refl
    in-row picks row (col ∷ cols) =
        ap
        (λ (c : Combination). c ∷ map f (map (combination_at_row_and_column (numbers ∷ others) (0
        ∷ map suc picks) row) cols))
        (at-cell picks row col)
        ∙ ap
        (λ (l : List Combination). combination_at_row_and_column (renumbered_map numbers ∷ others) (0
        ∷ map suc picks) row col ∷ l)
        (in-row picks row cols)

    in-rows : (picks cols rows : List ℕ)
        → map f (flat_map (λ row. map (combination_at_row_and_column (numbers ∷ others) (0
        ∷ map suc picks) row) cols) rows)
        ≡ flat_map (λ row. map (combination_at_row_and_column (renumbered_map numbers ∷ others) (0
        ∷ map suc picks) row) cols) rows
    in-rows picks cols [] = refl
    in-rows picks cols (row ∷ rows) =
        map-both (map (combination_at_row_and_column (numbers ∷ others) (0 ∷ map suc picks) row) cols)
        (flat_map (λ row. map (combination_at_row_and_column (numbers ∷ others) (0 ∷ map suc picks) row) cols) rows)
        ∙ ap
        (λ (l : List Combination).
        l
        ++ map f (flat_map (λ row. map (combination_at_row_and_column (numbers ∷ others) (0
        ∷ map suc picks) row) cols) rows))
        (in-row picks row cols)
        ∙ ap
        (λ (l : List Combination).
        map (combination_at_row_and_column (renumbered_map numbers ∷ others) (0 ∷ map suc picks) row) cols ++ l)
        (in-rows picks cols rows)
      where
        map-both : (xs ys : List Combination) → map f (xs ++ ys) ≡ map f xs ++ map f ys
        map-both [] ys = refl
        map-both (x ∷ xs) ys = ap (λ (l : List Combination). f x ∷ l) (map-both xs ys)

    pub combinations-mapped : (picks : List ℕ) (rows cols : ℕ)
        → map f (combinations_with_patch_number numbers others picks rows cols)
        ≡ combinations_with_patch_number (renumbered_map numbers) others picks rows cols
    combinations-mapped picks rows cols = in-rows picks (range_with_len 0 cols) (range_with_len 0 rows)

-- ---- tables

abbrev columns : List ℕ → List ℕ
columns picks = 0 ∷ map suc picks

-- a renumbered table is the table of the renumbered map
table-renumbered : (skip : Skip) (picks : List ℕ) (runs : List ConsecutiveClumps) (tile : ℕ) (place : Rectangle)
    (numbers : Grid) (others : List Grid) (entries : CombinationCounts)
    → ListsHaveSameCounts (table_of_cells skip
    (combinations_with_patch_number numbers others picks place.rows place.cols)) entries
    → AreEntriesOfTileTable skip (columns picks) (record {
      place = place;
      maps = renumbered_map runs tile numbers
          ∷ others;
    })
    (renumbered_entries runs (tile, entries))
table-renumbered skip picks runs tile place numbers others entries same k =
    let f : Combination → Combination = renumbered_combination runs tile in
    let cells = combinations_with_patch_number numbers others picks place.rows place.cols in
    replaced-listed f k entries
    ∙ listed-with (λ x. eq_by_cmp combination_cmp k (f x)) (kept_cells skip cells) entries
    (λ x. same x ∙ listed-table skip cells x)
    ∙ replaced-count f k (kept_cells skip cells)
    ∙ ap (cell_count_of_combination k) (kept-replaced runs tile skip cells)
    ∙ ap (λ (l : List Combination). cell_count_of_combination k (kept_cells skip l))
    (combinations-mapped runs tile numbers others picks place.rows place.cols)
    ∙ sym (listed-table skip (combinations_with_patch_number (renumbered_map runs tile numbers) others picks place.rows
    place.cols) k)

-- ---- tiles

-- a cell of a tile's clump map, with the number that the runs give to it
cell-renumbered : (runs : List ConsecutiveClumps) (tile : ℕ) (x y : CellValue)
    → y ≡ cell_with_full_map_number runs tile x → (IsSome x → IsSome y)
    → renumbered_cell runs tile x ≡ y
cell-renumbered runs tile None y is some = sym is
cell-renumbered runs tile (Some (negsuc k)) y is some = let no : false ≡ true = subst IsSome is (some refl) in cc
cell-renumbered runs tile (Some (pos k)) y is some = by (number_in_full_map runs tile k) refl
  where
    by : (n : Option ℕ) → number_in_full_map runs tile k ≡ n
        → Some (pos (unwrap_or (number_in_full_map runs tile k) 0)) ≡ y
    by None none = let no : false ≡ true = subst IsSome (is ∙ ap (option_map pos) none) (some refl) in cc
    by (Some n) number =
        ap (λ (x : Option ℕ). Some (pos (unwrap_or x 0))) number ∙ sym (is ∙ ap (option_map pos) number)

module _ (runs : List ConsecutiveClumps) (heights widths : List ℕ) (numbers_of : ℕ → ℕ → Grid) where
  abbrev tile_of : TileInTileGrid → ℕ
  tile_of t = tile_number_in_grid (length widths) t.row t.col

  abbrev part_of : TileInTileGrid → TileOfMaps
  part_of t = record {
    place = tile_rectangle_in_grid heights widths t;
    maps = renumbered_map runs (tile_of t) (numbers_of t.row t.col) ∷ t.others;
  }

  places-same : (tiles : List TileInTileGrid)
      → map (λ (part : TileOfMaps). part.place) (map part_of tiles) ≡ map (tile_rectangle_in_grid heights widths) tiles
  places-same [] = refl
  places-same (t ∷ tiles) = ap (λ (l : List Rectangle). tile_rectangle_in_grid heights widths t ∷ l) (places-same tiles)

  one-renumbered : (skip : Skip) (picks : List ℕ) (t : TileInTileGrid) (table : TileTable)
      → IsTableOfTileInTileGrid heights widths numbers_of picks skip t table
      → AreEntriesOfTileTable skip (columns picks) (part_of t) (renumbered_entries runs table)
  one-renumbered skip picks t table is =
      subst (λ (tile : ℕ). AreEntriesOfTileTable skip (columns picks) (part_of t)
      (renumbered_entries runs (tile, table.1)))
      (sym is.tile)
      (table-renumbered skip picks runs (tile_of t) (tile_rectangle_in_grid heights widths t)
      (numbers_of t.row t.col) t.others table.1 is.counts)

  tables-renumbered : (skip : Skip) (picks : List ℕ) (tiles : List TileInTileGrid) (tables : List TileTable)
      → AllZip (IsTableOfTileInTileGrid heights widths numbers_of picks skip) tiles tables
      → AllZip (AreEntriesOfTileTable skip (columns picks)) (map part_of tiles) (map (renumbered_entries runs) tables)
  tables-renumbered skip picks [] [] all = tt
  tables-renumbered skip picks [] (table ∷ tables) all = absurd all
  tables-renumbered skip picks (t ∷ tiles) [] all = absurd all
  tables-renumbered skip picks (t ∷ tiles) (table ∷ tables) all = (
    one-renumbered skip picks t table all.0,
    tables-renumbered skip picks tiles tables all.1,
  )

  module _ (j : Joining) (m numbers : Grid) (map_of : ℕ → ℕ → Grid) (others : List Grid)
      (grid : IsNumberedTileGrid j m numbers heights widths map_of numbers_of runs)
      (renumber : RenumberedTilesAreFullClumpMap) where
    abbrev IsPartHere : TileOfMaps → Type 0
    IsPartHere part = MapsAreTileOfFullMaps part.place (numbers ∷ others) part.maps

    -- a cell with a number in its tile has a number in the full map
    numbered : (t : TileInTileGrid) → IsTileInTileGrid heights widths others t → (p : Position)
        → p.row < (tile_rectangle_in_grid heights widths t).rows
        → p.col < (tile_rectangle_in_grid heights widths t).cols
        → IsSome (cell_at_position (numbers_of t.row t.col) p)
        → IsSome (cell_at_position numbers (position_in_full_map (tile_rectangle_in_grid heights widths t) p))
    numbered t is p high wide some =
        let q = position_in_full_map (tile_rectangle_in_grid heights widths t) p in
        let nulls = (grid.tiles.tiles t.row t.col is.in_rows is.in_cols).clumping.nulls p in
        let cell = some-numbered (cell_at_position (map_of t.row t.col) p) (cell_at_position (numbers_of t.row t.col) p)
        nulls some in
        let here = (grid.cut.tiles t.row t.col is.in_rows is.in_cols).cells p high wide in
        let number = grid.clumping.numbered q (subst IsSome here cell) in
        is-some (cell_at_position numbers q) (pos number.0) number.2

    tile-part : (t : TileInTileGrid) → IsTileInTileGrid heights widths others t → IsPartHere (part_of t)
    tile-part t is row col zero high wide =
        let p : Position = position_at_row_and_column row col in
        cell-mapped runs (tile_of t) (numbers_of t.row t.col) p
        ∙ cell-renumbered runs (tile_of t)
        (cell_at_position (numbers_of t.row t.col) p)
        (cell_at_position numbers (position_in_full_map (tile_rectangle_in_grid heights widths t) p))
        (renumber j m numbers heights widths map_of numbers_of runs grid t.row t.col is.in_rows is.in_cols p high wide)
        (numbered t is p high wide)
    tile-part t is row col (suc place) high wide = is.part row col place high wide

    tile-parts : (tiles : List TileInTileGrid) → All (IsTileInTileGrid heights widths others) tiles
        → All IsPartHere (map part_of tiles)
    tile-parts [] are = All-nil IsPartHere
    tile-parts (t ∷ tiles) are =
        All-cons IsPartHere (part_of t) (map part_of tiles)
        (tile-part t (All-head (IsTileInTileGrid heights widths others) t tiles are))
        (tile-parts tiles (All-tail (IsTileInTileGrid heights widths others) t tiles are))

-- ---- the counts of the full maps' table

abbrev count_of_part : Combination → List ℕ → TileOfMaps → ℕ
count_of_part k picks part = cell_count_of_combination k (combinations_of_tile picks part)

-- the count of a combination in the table of full maps is the sum of its counts in the tables of tiles
full-count : (rows cols : ℕ) (whole : List Grid) (parts : List TileOfMaps) → TilesCoverMaps rows cols whole parts
    → (picks : List ℕ) (skip : Skip) (tables : List CombinationCounts)
    → AllZip (AreEntriesOfTileTable skip picks) parts tables → (k : Combination)
    → listed_count_of_combination k (table_of_cells skip (all_combinations whole picks rows cols))
    ≡ sum_by (listed_count_of_combination k) tables
full-count rows cols whole parts are picks skip tables each k =
    listed-table skip (all_combinations whole picks rows cols) k
    ∙ count_kept skip k (all_combinations whole picks rows cols)
    ∙ ap (cond (combination_is_left_out skip k) 0) (parts-add-up rows cols whole parts are picks k)
    ∙ kept-parts parts
    ∙ sym (listed-tables skip picks k parts tables each)
  where
    none : (b : Bool) → ◌≡◌ {A = ℕ} (cond b 0 0) 0
    none true = refl
    none false = refl

    split : (b : Bool) (n more : ℕ) → ◌≡◌ {A = ℕ} (cond b 0 (n + more)) (cond b 0 n + cond b 0 more)
    split true n more = refl
    split false n more = refl

    one-kept : (part : TileOfMaps) → listed_count_of_combination k (table_of_part skip picks part)
        ≡ cond (combination_is_left_out skip k) 0 (count_of_part k picks part)
    one-kept part =
        listed-table skip (combinations_of_tile picks part) k ∙ count_kept skip k (combinations_of_tile picks part)

    kept-parts : (parts : List TileOfMaps)
        → cond (combination_is_left_out skip k) 0 (sum_by (count_of_part k picks) parts)
        ≡ sum_by (listed_count_of_combination k) (map (table_of_part skip picks) parts)
    kept-parts [] = none (combination_is_left_out skip k)
    kept-parts (part ∷ parts) =
        let more = sum_by (count_of_part k picks) parts in
        let listed = sum_by-cons (listed_count_of_combination k) (table_of_part skip picks part)
        (map (table_of_part skip picks) parts) in
        ap (cond (combination_is_left_out skip k) 0) (sum_by-cons (count_of_part k picks) part parts)
        ∙ split (combination_is_left_out skip k) (count_of_part k picks part) more
        ∙ (λ i. sym (one-kept part) i + kept-parts parts i)
        ∙ sym listed

-- ---- combinations with a number

abbrev with_number : Option ℕ → Combination → Combination
with_number number k = option_map pos number ∷ k

-- lists of cells are equal if their first cells and the others are
equal-cons : (a b : CellValue) (k l : Combination) → eq_by_cmp combination_cmp (a ∷ k) (b ∷ l)
    ≡ (cell_eq a b && eq_by_cmp combination_cmp k l)
equal-cons a b k l = by (compare_cells_null_last a b)
  where
    by : (o : Ordering) → is_eq (ordering_then o (combination_cmp k l)) ≡ (is_eq o && eq_by_cmp combination_cmp k l)
    by Less = refl
    by Equal = refl
    by Greater = refl

-- numbers are equal if their cells are
same-number : (n m : Option ℕ) → cell_eq (option_map pos n) (option_map pos m) ≡ eq_by_cmp number_cmp n m
same-number None None = refl
same-number None (Some m) = refl
same-number (Some n) None = refl
same-number (Some n) (Some m) =
    ap is_eq (sym (int_cmp_is (pos n) (pos m) (nat_cmp n m) (signed (nat_cmp n m) (ranks n m))))
  where
    signed : (o : Ordering) → MatchOrdering o (n < m) (n ≡ m) (m < n)
        → MatchOrdering o (pos n <ℤ pos m) (pos n ≡ pos m) (pos m <ℤ pos n)
    signed Less less = record { lt = yes_ltb less }
    signed Equal same = ap pos same
    signed Greater less = record { lt = yes_ltb less }

equal-with-number : (n m : Option ℕ) (k l : Combination)
    → eq_by_cmp combination_cmp (with_number n k) (with_number m l)
    ≡ (eq_by_cmp number_cmp n m && eq_by_cmp combination_cmp k l)
equal-with-number n m k l =
    equal-cons (option_map pos n) (option_map pos m) k l
    ∙ ap (λ b. b && eq_by_cmp combination_cmp k l) (same-number n m)

-- the count of a combination with a number, in an entry with a number
entry-with-number : (n m : Option ℕ) (k l : Combination) (count : ℕ)
    → entry_count_of_combination (with_number n k) (with_number m l, count)
    ≡ cond (eq_by_cmp number_cmp n m) (entry_count_of_combination k (l, count)) 0
entry-with-number n m k l count =
    ap (λ (b : Bool). cond b count 0) (equal-with-number n m k l)
    ∙ by (eq_by_cmp number_cmp n m) (eq_by_cmp combination_cmp k l)
  where
    by : (p q : Bool) → ◌≡◌ {A = ℕ} (cond (p && q) count 0) (cond p (cond q count 0) 0)
    by true q = refl
    by false q = refl

-- the count of a combination with a number in a renumbered table is its count among the entries of the number
entry-of-number : (runs : List ConsecutiveClumps) (tile : ℕ) (n : Option ℕ) (k l : Combination) (count : ℕ)
    → entry_count_of_combination (with_number n k) (renumbered_combination runs tile l, count)
    ≡ listed_count_of_combination k (others_of_number runs tile n l count)
entry-of-number runs tile n k [] count = refl
entry-of-number runs tile n k (cell ∷ others) count =
    entry-with-number n (full_map_number_of_cell runs tile cell) k others count
    ∙ by (eq_by_cmp number_cmp n (full_map_number_of_cell runs tile cell))
  where
    by : (b : Bool) → cond b (entry_count_of_combination k (others, count)) 0
        ≡ listed_count_of_combination k (if b then (others, count) ∷ [] else [])
    by true = omega (arith, sum_by-cons (entry_count_of_combination k) (others, count) [])
    by false = refl

entries-of-number : (runs : List ConsecutiveClumps) (tile : ℕ) (n : Option ℕ) (k : Combination)
    (entries : CombinationCounts)
    → listed_count_of_combination (with_number n k) (renumbered_entries runs (tile, entries))
    ≡ listed_count_of_combination k (entries_of_number runs n (tile, entries))
entries-of-number runs tile n k [] = refl
entries-of-number runs tile n k (e ∷ es) =
    omega (
      arith,
      sum_by-cons (entry_count_of_combination (with_number n k)) (renumbered_combination runs tile e.0, e.1)
          (renumbered_entries runs (tile, es)),
      entry-of-number runs tile n k e.0 e.1,
      entries-of-number runs tile n k es,
      sum_by-append (entry_count_of_combination k) (others_of_number runs tile n e.0 e.1)
          (entries_of_number runs n (tile, es)),
    )

tables-of-number : (runs : List ConsecutiveClumps) (n : Option ℕ) (k : Combination) (tables : List TileTable)
    → sum_by (listed_count_of_combination (with_number n k)) (map (renumbered_entries runs) tables)
    ≡ sum_by (listed_count_of_combination k) (map (entries_of_number runs n) tables)
tables-of-number runs n k [] = refl
tables-of-number runs n k (table ∷ tables) =
    omega (
      arith,
      sum_by-cons (listed_count_of_combination (with_number n k)) (renumbered_entries runs table)
          (map (renumbered_entries runs) tables),
      sum_by-cons (listed_count_of_combination k) (entries_of_number runs n table)
          (map (entries_of_number runs n) tables),
      entries-of-number runs table.0 n k table.1,
      tables-of-number runs n k tables,
    )

-- ---- sums by number

abbrev of_number : Option ℕ × CombinationCounts → CombinationCounts
of_number s = map (λ entry. (with_number s.0 entry.0, entry.1)) s.1

one-listed : (n m : Option ℕ) (k : Combination) (entries : CombinationCounts)
    → listed_count_of_combination (with_number n k) (of_number (m, entries))
    ≡ cond (eq_by_cmp number_cmp n m) (listed_count_of_combination k entries) 0
one-listed n m k [] = none (eq_by_cmp number_cmp n m)
  where
    none : (b : Bool) → ◌≡◌ {A = ℕ} 0 (cond b 0 0)
    none true = refl
    none false = refl
one-listed n m k (e ∷ es) =
    sum_by-cons (entry_count_of_combination (with_number n k)) (with_number m e.0, e.1) (of_number (m, es))
    ∙ (λ i. entry-with-number n m k e.0 e.1 i + one-listed n m k es i)
    ∙ split (eq_by_cmp number_cmp n m) (entry_count_of_combination k e) (listed_count_of_combination k es)
    ∙ ap (λ (count : ℕ). cond (eq_by_cmp number_cmp n m) count 0)
    (sym (sum_by-cons (entry_count_of_combination k) e es))
  where
    split : (b : Bool) (x y : ℕ) → ◌≡◌ {A = ℕ} (cond b x 0 + cond b y 0) (cond b (x + y) 0)
    split true x y = refl
    split false x y = refl

none-listed : (n : Option ℕ) (k : Combination) (sums : List (Option ℕ × CombinationCounts))
    → AllByRecursion (λ m. number_cmp n m ≡ Less) (keys_of sums)
    → listed_count_of_combination (with_number n k) (entries_with_patch_number sums) ≡ 0
none-listed n k [] above = refl
none-listed n k (s ∷ sums) above =
    let here : listed_count_of_combination (with_number n k) (of_number s) ≡ 0 =
    one-listed n s.0 k s.1
    ∙ ap (λ (o : Ordering). cond (is_eq o) (listed_count_of_combination k s.1) 0) above.0 in
    omega (
      arith,
      sum_by-append (entry_count_of_combination (with_number n k)) (of_number s) (entries_with_patch_number sums),
      here,
      none-listed n k sums above.1,
    )

number-listed : (n : Option ℕ) (k : Combination) (sums : List (Option ℕ × CombinationCounts))
    → IsStrictlySortedBy number_cmp (keys_of sums)
    → listed_count_of_combination (with_number n k) (entries_with_patch_number sums)
    ≡ listed_count_of_combination k (entries_with_number n sums)
unfolding IsStrictlySortedBy
number-listed n k [] up = refl
number-listed n k (s ∷ sums) up =
    sum_by-append (entry_count_of_combination (with_number n k)) (of_number s) (entries_with_patch_number sums)
    ∙ ap (λ (x : ℕ). x + listed_count_of_combination (with_number n k) (entries_with_patch_number sums))
    (one-listed n s.0 k s.1)
    ∙ by (eq_by_cmp number_cmp n s.0) refl (number-listed n k sums up.1)
  where
    by : (b : Bool) → eq_by_cmp number_cmp n s.0 ≡ b
        → listed_count_of_combination (with_number n k) (entries_with_patch_number sums)
        ≡ listed_count_of_combination k (entries_with_number n sums)
        → cond b (listed_count_of_combination k s.1) 0
        + listed_count_of_combination (with_number n k) (entries_with_patch_number sums)
        ≡ listed_count_of_combination k (unwrap_or (cond b (Some s.1) (lookup (eq_by_cmp number_cmp n) sums)) [])
    by true is rest =
        let none : listed_count_of_combination (with_number n k) (entries_with_patch_number sums) ≡ 0 =
        ap (λ (m : Option ℕ). listed_count_of_combination (with_number m k) (entries_with_patch_number sums))
        (number-exact n s.0 is)
        ∙ none-listed s.0 k sums up.0 in
        omega (arith, none)
    by false is rest =
        zero-add (listed_count_of_combination (with_number n k) (entries_with_patch_number sums)) ∙ rest

-- ---- other combinations do not occur

abbrev no_number : Combination → Bool
no_number [] = true
no_number (None ∷ k) = false
no_number (Some (pos n) ∷ k) = false
no_number (Some (negsuc n) ∷ k) = true

unlike : (x : Combination) (number : Option ℕ) (l : Combination) → no_number x ≡ true
    → eq_by_cmp combination_cmp x (with_number number l) ≡ false
unlike [] number l is = refl
unlike (None ∷ k) number l is = cc
unlike (Some (pos n) ∷ k) number l is = cc
unlike (Some (negsuc n) ∷ k) None l is = refl
unlike (Some (negsuc n) ∷ k) (Some m) l is = refl

module _ (x : Combination) (is : no_number x ≡ true) where
  none-of : (m : Option ℕ) (entries : CombinationCounts)
      → listed_count_of_combination x (of_number (m, entries)) ≡ 0
  none-of m [] = refl
  none-of m (e ∷ es) =
      sum_by-cons (entry_count_of_combination x) (with_number m e.0, e.1) (of_number (m, es))
      ∙ (λ i. cond (unlike x m e.0 is i) e.1 0 + none-of m es i)

  none-in-sums : (sums : List (Option ℕ × CombinationCounts))
      → listed_count_of_combination x (entries_with_patch_number sums) ≡ 0
  none-in-sums [] = refl
  none-in-sums (s ∷ sums) =
      sum_by-append (entry_count_of_combination x) (of_number s) (entries_with_patch_number sums)
      ∙ (λ i. none-of s.0 s.1 i + none-in-sums sums i)

-- no patch has a negative number
none-negative : (runs : List ConsecutiveClumps) (n : ℕ) (k : Combination) (tile : ℕ) (entries : CombinationCounts)
    → listed_count_of_combination (Some (negsuc n) ∷ k) (renumbered_entries runs (tile, entries)) ≡ 0
none-negative runs n k tile [] = refl
none-negative runs n k tile (e ∷ es) =
    sum_by-cons (entry_count_of_combination (Some (negsuc n) ∷ k)) (renumbered_combination runs tile e.0, e.1)
    (renumbered_entries runs (tile, es))
    ∙ (λ i. here e.0 e.1 i + none-negative runs n k tile es i)
  where
    here : (l : Combination) (count : ℕ)
        → entry_count_of_combination (Some (negsuc n) ∷ k) (renumbered_combination runs tile l, count) ≡ 0
    here [] count = refl
    here (cell ∷ others) count =
        ap (λ (b : Bool). cond b count 0)
        (unlike (Some (negsuc n) ∷ k) (full_map_number_of_cell runs tile cell) others refl)

none-negative-in-tables : (runs : List ConsecutiveClumps) (n : ℕ) (k : Combination) (tables : List TileTable)
    → sum_by (listed_count_of_combination (Some (negsuc n) ∷ k)) (map (renumbered_entries runs) tables) ≡ 0
none-negative-in-tables runs n k [] = refl
none-negative-in-tables runs n k (table ∷ tables) =
    sum_by-cons (listed_count_of_combination (Some (negsuc n) ∷ k)) (renumbered_entries runs table)
    (map (renumbered_entries runs) tables)
    ∙ (λ i. none-negative runs n k table.0 table.1 i + none-negative-in-tables runs n k tables i)

-- each cell has a combination with at least one cell
module _ (maps : List Grid) (picks : List ℕ) where
  abbrev at_cell : ℕ → ℕ → Combination
  at_cell = combination_at_row_and_column maps (0 ∷ picks)

  none-empty-in-row : (row : ℕ) (cols : List ℕ) → cell_count_of_combination [] (map (at_cell row) cols) ≡ 0
  none-empty-in-row row [] = refl
  none-empty-in-row row (col ∷ cols) =
      sum_by-cons (λ (x : Combination). cond (eq_by_cmp combination_cmp [] x) 1 0) (at_cell row col)
      (map (at_cell row) cols)
      ∙ zero-add (cell_count_of_combination [] (map (at_cell row) cols))
      ∙ none-empty-in-row row cols

  none-empty-in-rows : (cols rows : List ℕ)
      → cell_count_of_combination [] (flat_map (λ row. map (at_cell row) cols) rows) ≡ 0
  none-empty-in-rows cols [] = refl
  none-empty-in-rows cols (row ∷ rows) =
      sum_by-append (λ (x : Combination). cond (eq_by_cmp combination_cmp [] x) 1 0) (map (at_cell row) cols)
      (flat_map (λ row. map (at_cell row) cols) rows)
      ∙ (λ i. none-empty-in-row row cols i + none-empty-in-rows cols rows i)

  none-empty : (skip : Skip) (rows cols : ℕ)
      → listed_count_of_combination [] (table_of_cells skip (all_combinations maps (0 ∷ picks) rows cols)) ≡ 0
  none-empty skip rows cols =
      listed-table skip (all_combinations maps (0 ∷ picks) rows cols) []
      ∙ count_kept skip [] (all_combinations maps (0 ∷ picks) rows cols)
      ∙ ap (cond (combination_is_left_out skip []) 0)
      (none-empty-in-rows (range_with_len 0 cols) (range_with_len 0 rows))
      ∙ none (combination_is_left_out skip [])
    where
      none : (b : Bool) → ◌≡◌ {A = ℕ} (cond b 0 0) 0
      none true = refl
      none false = refl

-- ---- the law

-- the sums have the count of each combination in the table of the full maps
module _ (runs : List ConsecutiveClumps) (heights widths : List ℕ) (numbers : Grid) (others : List Grid)
    (picks : List ℕ) (skip : Skip) (tables : List TileTable) (sums : List (Option ℕ × CombinationCounts))
    (are : AreSumsOfPatchTables runs tables sums) where
  abbrev full_cells : List Combination
  full_cells = combinations_with_patch_number numbers others picks (sum heights) (sum widths)

  module _ (full : (k : Combination) → listed_count_of_combination k (table_of_cells skip full_cells)
      ≡ sum_by (listed_count_of_combination k) (map (renumbered_entries runs) tables)) where
    with : (n : Option ℕ) (k : Combination)
        → listed_count_of_combination (with_number n k) (entries_with_patch_number sums)
        ≡ listed_count_of_combination (with_number n k) (table_of_cells skip full_cells)
    with n k =
        number-listed n k sums are.ascending ∙ (are.each n).counts k ∙ sym (tables-of-number runs n k tables)
        ∙ sym (full (with_number n k))

    same : ListsHaveSameCounts (table_of_cells skip full_cells) (entries_with_patch_number sums)
    same [] =
        none-in-sums [] refl sums
        ∙ sym (none-empty (numbers ∷ others) (map suc picks) skip (sum heights) (sum widths))
    same (None ∷ k) = with None k
    same (Some (pos n) ∷ k) = with (Some n) k
    same (Some (negsuc n) ∷ k) =
        none-in-sums (Some (negsuc n) ∷ k) refl sums
        ∙ sym (full (Some (negsuc n) ∷ k) ∙ none-negative-in-tables runs n k tables)

    sums-of-cells : AreTableSumsOfCells skip full_cells sums
    sums-of-cells = record {
      counts = same;
      total = listed-with (λ k. true) (kept_cells skip full_cells) (entries_with_patch_number sums)
          (λ k. same k ∙ listed-table skip full_cells k) ∙ count-all (kept_cells skip full_cells);
    }

pub patch-tables-add-up : RenumberedTilesAreFullClumpMap → PatchTablesAddUp
patch-tables-add-up renumber j borders joined numbering m heights widths map_of numbers_of cut are_borders numbers
    clumping others tiles are picks skip tables each width response frame =
    let runs : List ConsecutiveClumps = numbering.runs in
    let grid : IsNumberedTileGrid j m numbers heights widths map_of numbers_of runs = record {
      cut = cut;
      clumping = clumping;
      borders = borders;
      tiles = are_borders;
      numbering = numbering.numbers;
    } in
    sums-of-cells runs heights widths numbers others picks skip tables frame.sums frame.are
    (full-count (sum heights) (sum widths) (numbers ∷ others) (map (part_of runs heights widths numbers_of) tiles)
    (record {
      tiling = subst (RectanglesCoverMap (sum heights) (sum widths))
          (sym (places-same runs heights widths numbers_of tiles)) are.tiling;
      cells = tile-parts runs heights widths numbers_of j m numbers map_of others grid renumber tiles are.each;
    }) (columns picks) skip (map (renumbered_entries runs) tables)
    (tables-renumbered runs heights widths numbers_of skip picks tiles tables each))
