-- The sizes in the tables of tiles add up to the sizes of the full map.
use Rattle.std.proofs.Common.{◌≡◌, ℕ, zero, suc, pos, ◌+◌, ◌<◌, ◌≤◌, map, [], ◌∷◌, ◌++◌, List, length, Some, None}
use Rattle.std.proofs.Common.{false}
use Rattle.std.proofs.Common.{flat_map, refl, ap, sym, ◌∙◌, subst, arith, zero-add}
use Rattle.std.specs.Prelude.{All, sum_by}
use Rattle.std.specs.List.{AllZip}
use Rattle.std.proofs.lemmas.List.{ext_get_or}
use Rattle.std.proofs.lemmas.List.Elements.{All-nil, All-cons, All-head, All-tail}
use Rattle.std.proofs.lemmas.List.FromFn.{length-map-range_with_len, get_or-map-range_with_len}
use Rattle.std.proofs.lemmas.List.Sums.{sum_by-cons}
use Rattle.cell_core.specs.Grid.{Grid}
use Rattle.cell_clumps.specs.declared.clump.Joining.{Joining}
use Rattle.cell_clumps.specs.Clumps.{Position, IsClumpMapOf}
use Rattle.cell_clumps.specs.parts.CellPlaces.{position_at_row_and_column}
use Rattle.cell_stats_combinations.specs.declared.skip.Skip.{Skip}
use Rattle.cell_stats_combinations.specs.Combinations.{Combination}
use Rattle.cell_stats_combinations.specs.LeftOut.{combination_is_left_out}
use Rattle.cell_stats_counts.specs.Counts.{cell_count_of_combination}
use Rattle.cell_stats.specs.CategoryTables.{CombinationsWithCounts}
use Rattle.cell_cats_law.specs.ClumpSizeLaw.{one_cell_combinations}
use Rattle.cell_join_numbers.specs.Parts.{Rectangle, MapsAreTileOfFullMaps, RectanglesCoverMap}
use Rattle.cell_join_numbers.specs.ClumpParts.{position_in_full_map}
use Rattle.cell_join_numbers.specs.TableParts.{TileOfMaps, combinations_of_tile, combination_count_in_table}
use Rattle.cell_join_numbers.proofs.SumLemmas.{parts-add-up}
use Rattle.cell_cats_law.specs.SummedSizes.{ClumpSizesAddUp, total_size_of_clump}
use Rattle.cell_cats_law.specs.SizeLaw.{cell_count_of_clump_number, sizes_of_numbered_clumps}
use Rattle.cell_cats_law.specs.NumberTables.{entries_of_clumps_from_number, table_of_clump_sizes, clump_sizes_in_table}
use Rattle.cell_cats_law.specs.TileSizes.{TileWithFullMapNumbers, IsTileWithFullMapNumbers, TilesCoverMapOnce}
use Rattle.cell_cats_law.specs.TileSizes.{rectangle_of_tile}
use Rattle.cell_cats_law.specs.TileSizes.{full_map_numbers_of_tile_clumps, clump_sizes_of_tile, IsTableOfTileClumps}
use Rattle.cell_cats_law.specs.TileSizes.{TileClumpSizesAddUp, TileTablesAddUpToFullTable}
use Rattle.cell_cats_law.proofs.NumberedTiles.{renumbered, cell-renumbered, number-here}
use Rattle.cell_cats_law.proofs.SizeLemmas.{tile-count}
use Rattle.cell_cats_law.proofs.NumberTableLemmas.{one-number-table, numbers-are-listed}
use Rattle.cell_cats_law.proofs.ListedSizeLemmas.{table-lists, table-counts, same-null, tile-nulls}

-- ---- tiles numbered with the numbers of the full map are parts of the full map's numbers

abbrev part_of : TileWithFullMapNumbers → TileOfMaps
part_of t = record { place = rectangle_of_tile t; maps = renumbered t.there t.numbered.numbers ∷ [] }

places-same : (tiles : List TileWithFullMapNumbers) →
    map (λ (part : TileOfMaps). part.place) (map part_of tiles) ≡ map rectangle_of_tile tiles
places-same [] = refl
places-same (t ∷ tiles) = ap (λ (l : List Rectangle). rectangle_of_tile t ∷ l) (places-same tiles)

module _ (j : Joining) (whole numbered : Grid) (clumping : IsClumpMapOf j whole numbered) where
  abbrev IsNumbersPart : TileOfMaps → Type 0
  IsNumbersPart part = MapsAreTileOfFullMaps part.place (numbered ∷ []) part.maps

  tile-part : (t : TileWithFullMapNumbers) → IsTileWithFullMapNumbers j whole t → IsNumbersPart (part_of t)
  tile-part t is row col zero high wide =
      let p : Position = position_at_row_and_column row col in
      cell-renumbered t.there t.numbered.numbers p
      ∙ number-here j whole numbered clumping t.numbered.tile.map t.numbered.numbers is.clumping t.there p
      (position_in_full_map (rectangle_of_tile t) p) (sym (is.cells.cells p high wide)) (λ k here. is.reports p k here)
  tile-part t is row col (suc place) high wide = refl

  tile-parts : (tiles : List TileWithFullMapNumbers) → All (IsTileWithFullMapNumbers j whole) tiles
      → All IsNumbersPart (map part_of tiles)
  tile-parts [] are = All-nil IsNumbersPart
  tile-parts (t ∷ tiles) are =
      All-cons IsNumbersPart (part_of t) (map part_of tiles) (tile-part t
      (All-head (IsTileWithFullMapNumbers j whole) t tiles are))
      (tile-parts tiles (All-tail (IsTileWithFullMapNumbers j whole) t tiles are))

  pub counts-in-tiles : (rows cols : ℕ) (tiles : List TileWithFullMapNumbers)
      → TilesCoverMapOnce j whole rows cols tiles →
      (k : Combination) →
      cell_count_of_combination k (one_cell_combinations numbered rows cols)
      ≡ sum_by (λ (part : TileOfMaps). cell_count_of_combination k (combinations_of_tile (0 ∷ []) part))
      (map part_of tiles)
  counts-in-tiles rows cols tiles are k =
      parts-add-up rows cols (numbered ∷ []) (map part_of tiles) (record {
        tiling = subst (RectanglesCoverMap rows cols) (sym (places-same tiles)) are.tiling;
        cells = tile-parts tiles are.joined;
      }) (0 ∷ []) k

-- ---- adding up the sizes of tiles

size-both : (n : ℕ) (numbers others sizes more : List ℕ) → length numbers ≡ length sizes →
    total_size_of_clump n (numbers ++ others) (sizes ++ more)
    ≡ total_size_of_clump n numbers sizes + total_size_of_clump n others more
size-both n [] others [] more long = sym (zero-add (total_size_of_clump n others more))
size-both n [] others (size ∷ sizes) more long = absurd (omega (arith, long))
size-both n (number ∷ numbers) others [] more long = absurd (omega (arith, long))
size-both n (number ∷ numbers) others (size ∷ sizes) more long =
    omega (arith, size-both n numbers others sizes more (omega (arith, long)))

module _ (j : Joining) (whole : Grid) where
  abbrev counted : ℕ → TileOfMaps → ℕ
  counted n part = cell_count_of_combination (Some (pos n) ∷ []) (combinations_of_tile (0 ∷ []) part)

  pub tile-sizes : (n : ℕ) → 1 ≤ n → (tiles : List TileWithFullMapNumbers)
      → All (IsTileWithFullMapNumbers j whole) tiles →
      sum_by (counted n) (map part_of tiles)
      ≡ total_size_of_clump n (full_map_numbers_of_tile_clumps tiles) (flat_map clump_sizes_of_tile tiles)
  tile-sizes n some [] are = refl
  tile-sizes n some (t ∷ tiles) are =
      let is = All-head (IsTileWithFullMapNumbers j whole) t tiles are in
      let rest = tile-sizes n some tiles (All-tail (IsTileWithFullMapNumbers j whole) t tiles are) in
      let r = rectangle_of_tile t in
      let long : length (clump_sizes_of_tile t) ≡ length t.there =
      length-map-range_with_len (cell_count_of_clump_number t.numbered.numbers r.rows r.cols) 1 (length t.there) in
      omega (
        arith,
        sum_by-cons (counted n) (part_of t) (map part_of tiles),
        tile-count j t.numbered.tile.map t.numbered.numbers is.clumping (length t.there) is.clumps t.there n some r.rows
            r.cols,
        rest,
        size-both n t.there (full_map_numbers_of_tile_clumps tiles) (clump_sizes_of_tile t)
            (flat_map clump_sizes_of_tile tiles) (sym long),
      )

pub tile-sizes-count-cells : TileClumpSizesAddUp
tile-sizes-count-cells j whole rows cols tiles are numbered clumping clumps sizes adds =
    let size = cell_count_of_clump_number numbered rows cols in
    ext_get_or 0 sizes (sizes_of_numbered_clumps clumps numbered rows cols)
    (adds.count ∙ sym (length-map-range_with_len size 1 clumps))
    (λ i within.
    let low : i < clumps = omega (arith, within, adds.count) in
    let next : 1 + i ≡ i + 1 = omega arith in
    let some : 1 ≤ i + 1 = omega arith in
    adds.each i low
    ∙ sym (counts-in-tiles j whole numbered clumping rows cols tiles are (Some (pos (i + 1)) ∷ [])
    ∙ tile-sizes j whole (i + 1) some tiles are.joined)
    ∙ sym (get_or-map-range_with_len size 1 clumps i (i + 1) 0 low next))

-- ---- adding up the tables of tiles

module _ (j : Joining) (whole : Grid) (skip : Skip) where
  abbrev nulls_of_tile : TileWithFullMapNumbers → ℕ
  nulls_of_tile t = cell_count_of_combination (None ∷ []) (one_cell_combinations t.numbered.numbers
      (rectangle_of_tile t).rows (rectangle_of_tile t).cols)

  tile-table : (t : TileWithFullMapNumbers) → IsTileWithFullMapNumbers j whole t → (table : CombinationsWithCounts)
      → IsTableOfTileClumps skip t table →
      table ≡ table_of_clump_sizes skip (clump_sizes_of_tile t) (nulls_of_tile t)
  tile-table t is table lists =
      (one-number-table j t.numbered.tile.map t.numbered.numbers is.clumping (length t.there) is.clumps
      (rectangle_of_tile t).rows (rectangle_of_tile t).cols (λ p some. is.cells.outside p some) skip table).0 lists

  pub tile-tables-list : (tiles : List TileWithFullMapNumbers) (tables : List CombinationsWithCounts)
      → All (IsTileWithFullMapNumbers j whole) tiles →
      AllZip (IsTableOfTileClumps skip) tiles tables → flat_map clump_sizes_in_table tables
      ≡ flat_map clump_sizes_of_tile tiles
  tile-tables-list [] [] are lists = refl
  tile-tables-list [] (table ∷ tables) are lists = absurd lists
  tile-tables-list (t ∷ tiles) [] are lists = absurd lists
  tile-tables-list (t ∷ tiles) (table ∷ tables) are lists =
      let is = All-head (IsTileWithFullMapNumbers j whole) t tiles are in
      let here : clump_sizes_in_table table ≡ clump_sizes_of_tile t =
      ap clump_sizes_in_table (tile-table t is table lists.0)
      ∙ table-lists 1 (clump_sizes_of_tile t) skip (nulls_of_tile t) in
      ap (λ (l : List ℕ). l ++ flat_map clump_sizes_in_table tables) here
      ∙ ap (λ (l : List ℕ). clump_sizes_of_tile t ++ l)
      (tile-tables-list tiles tables (All-tail (IsTileWithFullMapNumbers j whole) t tiles are) lists.1)

  abbrev counted_null : TileOfMaps → ℕ
  counted_null part = cell_count_of_combination (None ∷ []) (combinations_of_tile (0 ∷ []) part)

  tile-tables-count : combination_is_left_out skip (None ∷ []) ≡ false
      → (tiles : List TileWithFullMapNumbers) (tables : List CombinationsWithCounts) →
      All (IsTileWithFullMapNumbers j whole) tiles → AllZip (IsTableOfTileClumps skip) tiles tables →
      sum_by counted_null (map part_of tiles) ≡ sum_by (combination_count_in_table (None ∷ [])) tables
  tile-tables-count kept_in [] [] are lists = refl
  tile-tables-count kept_in [] (table ∷ tables) are lists = absurd lists
  tile-tables-count kept_in (t ∷ tiles) [] are lists = absurd lists
  tile-tables-count kept_in (t ∷ tiles) (table ∷ tables) are lists =
      let is = All-head (IsTileWithFullMapNumbers j whole) t tiles are in
      let r = rectangle_of_tile t in
      let here : combination_count_in_table (None ∷ []) table ≡ nulls_of_tile t =
      ap (combination_count_in_table (None ∷ [])) (tile-table t is table lists.0)
      ∙ table-counts 1 (clump_sizes_of_tile t) skip (nulls_of_tile t) kept_in in
      omega (
        arith,
        sum_by-cons counted_null (part_of t) (map part_of tiles),
        sum_by-cons (combination_count_in_table (None ∷ [])) table tables,
        tile-nulls j t.numbered.tile.map t.numbered.numbers is.clumping t.there r.rows r.cols,
        here,
        tile-tables-count kept_in tiles tables (All-tail (IsTileWithFullMapNumbers j whole) t tiles are) lists.1,
      )

pub tile-tables-give-the-whole : TileTablesAddUpToFullTable
tile-tables-give-the-whole j whole tiles are filled skip tables lists clumps has sizes adds =
    λ numbered clumping table.
    let rows = whole.region.rows in
    let cols = whole.region.cols in
    let same_sizes : sizes_of_numbered_clumps clumps numbered rows cols ≡ sizes =
    sym (tile-sizes-count-cells j whole rows cols tiles are numbered clumping clumps sizes
    (subst (λ (l : List ℕ). ClumpSizesAddUp (full_map_numbers_of_tile_clumps tiles) l clumps sizes)
    (tile-tables-list j whole skip tiles tables are.joined lists) adds)) in
    let same_nulls : combination_is_left_out skip (None ∷ []) ≡ false →
    cell_count_of_combination (None ∷ []) (one_cell_combinations numbered rows cols)
    ≡ sum_by (combination_count_in_table (None ∷ [])) tables =
    λ kept_in.
    counts-in-tiles j whole numbered clumping rows cols tiles are (None ∷ [])
    ∙ tile-tables-count j whole skip kept_in tiles tables are.joined lists in
    let listed = numbers-are-listed j whole numbered clumping filled clumps has skip table in
    let same : table_of_clump_sizes skip (sizes_of_numbered_clumps clumps numbered rows cols)
    (cell_count_of_combination (None ∷ []) (one_cell_combinations numbered rows cols))
    ≡ table_of_clump_sizes skip sizes (sum_by (combination_count_in_table (None ∷ [])) tables) =
    ap (λ (l : List ℕ). table_of_clump_sizes skip l (cell_count_of_combination (None
    ∷ []) (one_cell_combinations numbered rows cols))) same_sizes
    ∙ ap (λ (l : CombinationsWithCounts). entries_of_clumps_from_number 1 sizes ++ l)
    (same-null skip (cell_count_of_combination (None ∷ []) (one_cell_combinations numbered rows cols))
    (sum_by (combination_count_in_table (None ∷ [])) tables)
    same_nulls) in
    (λ e. listed.0 e ∙ same, λ e. listed.1 (e ∙ sym same))
