-- The numbering of joined tiles is the numbering of each map that is cut into them.
use Rattle.std.proofs.Common.{◌≡◌, ℕ, zero, suc, pos, ◌+◌, ◌-◌, ◌<◌, [], ◌∷◌, ◌++◌, List, Some, map, take, drop, length, get_or, refl, ap, sym, ◌∙◌, arith, subst}
use Rattle.std.specs.Prelude.{sum, flat_map}
use Rattle.std.specs.List.{range_with_len}
use Rattle.std.proofs.Math.Seq.{take-append_seam}
use Rattle.std.proofs.lemmas.List.{get_or-map, map-append, length-map, length-append}
use Rattle.std.proofs.lemmas.List.FromFn.{length-map-range_with_len}
use Rattle.std.proofs.lemmas.List.Concat.{flat_map-cons}
use Rattle.std.proofs.lemmas.List.Sums.{sum_by-cons}
use Rattle.std.proofs.lemmas.List.Elements.{Contains-get_or}
use Rattle.std.proofs.lemmas.Grind.{flat_map-append}
use Rattle.cell_core.specs.Grid.{Grid}
use Rattle.cell_clumps.specs.declared.clump.Joining.{Joining}
use Rattle.cell_clumps.specs.Clumps.{Position, cell_at_position, HasClumpNumber}
use Rattle.cell_join_numbers.specs.ClumpParts.{position_in_full_map}
use Rattle.cell_join_numbers.specs.Stretches.{consecutive_clumps_from_tile, consecutive_clumps_of_tile}
use Rattle.cell_join_numbers.specs.Stretches.{consecutive_clumps_of_all_tiles}
use Rattle.cell_join_numbers.specs.declared.stretch.ConsecutiveClumps.{ConsecutiveClumps}
use Rattle.cell_join_numbers.specs.Labelled.{MapHasClumpCount}
use Rattle.cell_join_numbers.proofs.NumberLemmas.{is-some}
use Rattle.cell_join_numbers.specs.SparseNumbers.{ArePairLabelsBelowLabelCount, AreNumbersOfPairedLabels}
use Rattle.cell_join_tiles.specs.Beginnings.{BegunClumpCountsByRow, MapIsCutIntoTiles, clump_count_of_tile_grid}
use Rattle.cell_join_tiles.specs.Beginnings.{label_of_clump_in_tile_grid}
use Rattle.cell_join_tiles.specs.Beginnings.{rectangle_of_tile_in_grid}
use Rattle.cell_join_tiles.specs.Borders.{label_of_full_map_cell, AreLabelsPairedAtSeams}
use Rattle.cell_join_tiles.specs.Values.{TileBorderValue, empty_tile_border}
use Rattle.cell_join_tiles.specs.JoinedBorders.{TilesHaveBorders, begun_clump_counts_of_grid, labelled_first_column_of_tile, labelled_last_column_of_tile, labelled_first_row_of_tile_row, labelled_last_row_of_tile_row}
use Rattle.cell_join_tiles.specs.JoinedTiles.{TileJoinerValue, JoinerHasJoinedTileRows, tile_row_at, first_label_of_tile_row, clump_labels_of_tiles_in_row, clump_labels_of_tiles_in_row_at, clump_counts_by_tile, IsClumpCountOfTileGrid, AreConsecutiveClumpsOfTiles}
use Rattle.cell_join_tiles.specs.TileNumbers.{clump_numbers_of_tile, clump_numbers_of_tile_row}
use Rattle.cell_join_tiles.specs.TileNumbers.{clump_numbers_of_all_tiles, clump_count_before_tile}
use Rattle.cell_join_tiles.specs.parts.RowLabels.{labels_of_clumps_in_tile, label_of_clump_in_row_of_tiles}
use Rattle.cell_join_tiles.specs.parts.RowMarks.{begun_clump_counts_of_tile_row, border_of_tile_in_row}
use Rattle.cell_join_tiles.specs.parts.LabelRuns.{consecutive_clumps_by_labels}
use Rattle.cell_join_tiles.proofs.SeamLemmas.{seam-lines-pair}
use Rattle.cell_join_tiles.proofs.NumberLemmas.{borders-are-labelled, borders-number-the-whole, borders-count-the-whole}
use Rattle.cell_join_tiles.proofs.TileNumberLemmas.{tile-numbers-are-listed}
use Rattle.cell_join_tiles.proofs.JoinedLemmas.{borders, lines}
use Rattle.cell_join_tiles.proofs.RowsLemmas.{lists-same}
use Rattle.cell_join_tiles.proofs.SideLemmas.{maps-same, number-inside, to-seams, from-seams}

-- ---- elements of lists

shift-lists : {X : Type 0} (f : ℕ → List X) (a n : ℕ) → flat_map f (range_with_len (a + 1) n) ≡ flat_map (λ k. f (k + 1)) (range_with_len a n)
shift-lists f a zero = refl
shift-lists f a (suc n) =
    flat_map-cons f (a + 1) (range_with_len (a + 1 + 1) n)
    ∙ ap (λ l. f (a + 1) ++ l) (shift-lists f (a + 1) n)
    ∙ sym (flat_map-cons (λ k. f (k + 1)) a (range_with_len (a + 1) n))

pub by-place : {X Y : Type 0} (f : X → List Y) (xs : List X) (d : X) → flat_map (λ k. f (get_or xs k d)) (range_with_len 0 (length xs)) ≡ flat_map f xs
by-place f [] d = refl
by-place f (x ∷ xs) d =
    flat_map-cons (λ k. f (get_or (x ∷ xs) k d)) 0 (range_with_len 1 (length xs))
    ∙ ap (λ l. f x ++ l) (shift-lists (λ k. f (get_or (x ∷ xs) k d)) 0 (length xs)
    ∙ lists-same (λ k. f (get_or (x ∷ xs) (k + 1) d)) (λ k. f (get_or xs k d)) 0 (length xs) (λ k lt. let one : k + 1 ≡ suc k = omega arith in ap (λ (n : ℕ). f (get_or (x ∷ xs) n d)) one)
    ∙ by-place f xs d)
    ∙ sym (flat_map-cons f x xs)

map-lists : {X Y : Type 0} (h : X → Y) (f : ℕ → List X) (xs : List ℕ) → map h (flat_map f xs) ≡ flat_map (λ k. map h (f k)) xs
map-lists h f [] = refl
map-lists h f (x ∷ xs) =
    ap (map h) (flat_map-cons f x xs) ∙ map-append h (f x) (flat_map f xs) ∙ ap (λ l. map h (f x) ++ l) (map-lists h f xs) ∙ sym (flat_map-cons (λ k. map h (f k)) x xs)

map-twice : {X Y : Type 0} (h : X → Y) (f : ℕ → X) (xs : List ℕ) → map h (map f xs) ≡ map (λ k. h (f k)) xs
map-twice h f [] = refl
map-twice h f (x ∷ xs) = ap (λ l. h (f x) ∷ l) (map-twice h f xs)

singles : {X : Type 0} (f : ℕ → X) (xs : List ℕ) → map f xs ≡ flat_map (λ k. f k ∷ []) xs
singles f [] = refl
singles f (x ∷ xs) = ap (λ l. f x ∷ l) (singles f xs) ∙ sym (flat_map-cons (λ k. f k ∷ []) x xs)

-- ---- runs of numbers

pub runs-are : (number : ℕ → ℕ) (part : ℕ) (tiles : List (List ℕ)) → consecutive_clumps_by_labels number part tiles ≡ consecutive_clumps_from_tile part (map (λ t. length t) tiles) (flat_map (map number) tiles)
runs-are number part [] = refl
runs-are number part (t ∷ tiles) =
    let own : List ℕ = map number t in
    let rest : List ℕ = flat_map (map number) tiles in
    let all : flat_map (map number) (t ∷ tiles) ≡ own ++ rest = flat_map-cons (map number) t tiles in
    let long : length own ≡ length t = length-map t number in
    let first : take (length t) (own ++ rest) ≡ own = ap (λ (n : ℕ). take n (own ++ rest)) (sym long) ∙ take-append_seam own rest in
    let later : drop (length t) (own ++ rest) ≡ rest = ap (λ (n : ℕ). drop n (own ++ rest)) (sym long) ∙ drop-seam own rest in
    ap (λ (l : List ConsecutiveClumps). consecutive_clumps_of_tile part own ++ l) (runs-are number (part + 1) tiles)
    ∙ sym (ap (λ (ns : List ℕ). consecutive_clumps_from_tile part (length t ∷ map (λ s. length s) tiles) ns) all
    ∙ (λ i. consecutive_clumps_of_tile part (first i) ++ consecutive_clumps_from_tile (part + 1)
    (map (λ s. length s) tiles) (later i)))
  where
    drop-seam : (xs ys : List ℕ) → drop (length xs) (xs ++ ys) ≡ ys
    drop-seam [] ys = refl
    drop-seam (x ∷ xs) ys = drop-seam xs ys

sum-lengths : (number : ℕ → ℕ) (tiles : List (List ℕ)) → length (flat_map (map number) tiles) ≡ sum (map (λ t. length t) tiles)
sum-lengths number [] = refl
sum-lengths number (t ∷ tiles) =
    let all = ap (λ (l : List ℕ). length l) (flat_map-cons (map number) t tiles) in
    omega (arith, all, length-append (map number t) (flat_map (map number) tiles), length-map t number, sum-lengths number tiles, sum_by-cons (λ (n : ℕ). n) (length t) (map (λ s. length s) tiles))

module _ (grid : List (List TileBorderValue)) (joiner : TileJoinerValue)
    (are : JoinerHasJoinedTileRows grid joiner) where
  abbrev g : List (List BegunClumpCountsByRow)
  g = begun_clump_counts_of_grid grid

  -- a tile has as many labels as clumps
  tile-length : (base : ℕ) (row : List TileBorderValue) (c : ℕ) → c < length row → length (labels_of_clumps_in_tile base (begun_clump_counts_of_tile_row row) c) ≡ sum (border_of_tile_in_row row c).begun
  tile-length base row c lt =
      length-map-range_with_len (label_of_clump_in_row_of_tiles base (begun_clump_counts_of_tile_row row) c) 0
      (sum (get_or (begun_clump_counts_of_tile_row row) c []))
      ∙ ap (λ (begun : List ℕ). sum begun) (get_or-map (λ (border : TileBorderValue). border.begun) row c
      empty_tile_border []
      lt)

  row-lengths : (base : ℕ) (row : List TileBorderValue) → map (λ t. length t) (clump_labels_of_tiles_in_row base row) ≡ map (λ border. sum border.begun) row
  row-lengths base row =
      map-twice (λ t. length t) (labels_of_clumps_in_tile base (begun_clump_counts_of_tile_row row))
      (range_with_len 0 (length row))
      ∙ maps-same (λ c. length (labels_of_clumps_in_tile base (begun_clump_counts_of_tile_row row) c)) (λ c. sum (border_of_tile_in_row row c).begun) 0 (length row) (λ c lt. tile-length base row c (omega (arith, lt)))
      ∙ singles (λ c. sum (border_of_tile_in_row row c).begun) (range_with_len 0 (length row))
      ∙ by-place (λ (border : TileBorderValue). sum border.begun ∷ []) row empty_tile_border
      ∙ sym (singles-of (λ (border : TileBorderValue). sum border.begun) row)
    where
      singles-of : (f : TileBorderValue → ℕ) (xs : List TileBorderValue) → map f xs ≡ flat_map (λ x. f x ∷ []) xs
      singles-of f [] = refl
      singles-of f (x ∷ xs) = ap (λ l. f x ∷ l) (singles-of f xs) ∙ sym (flat_map-cons (λ x. f x ∷ []) x xs)

  counts : map (λ t. length t) joiner.tiles ≡ clump_counts_by_tile grid
  counts =
      ap (map (λ (t : List ℕ). length t)) are.tiles
      ∙ map-lists (λ (t : List ℕ). length t) (clump_labels_of_tiles_in_row_at grid) (range_with_len 0 (length grid))
      ∙ lists-same (λ r. map (λ (t : List ℕ). length t) (clump_labels_of_tiles_in_row_at grid r)) (λ r. map (λ border. sum border.begun) (tile_row_at grid r)) 0 (length grid) (λ r lt. row-lengths (first_label_of_tile_row grid r) (tile_row_at grid r))
      ∙ by-place (λ (row : List TileBorderValue). map (λ border. sum border.begun) row) grid []

  module _ (number : ℕ → ℕ) where
    abbrev pub numbers : List ℕ
    numbers = flat_map (map number) joiner.tiles

    pub many : length numbers ≡ sum (clump_counts_by_tile grid)
    many = sum-lengths number joiner.tiles ∙ ap (λ (l : List ℕ). sum l) counts

    pub runs : consecutive_clumps_by_labels number 1 joiner.tiles
        ≡ consecutive_clumps_of_all_tiles (clump_counts_by_tile grid) numbers
    runs = runs-are number 1 joiner.tiles ∙ ap (λ (l : List ℕ). consecutive_clumps_from_tile 1 l numbers) counts

    -- the numbers of the labels of a tile are the tile's numbers
    tile-numbers : (r c : ℕ) → r < length grid → map number (labels_of_clumps_in_tile (first_label_of_tile_row grid r) (begun_clump_counts_of_tile_row (tile_row_at grid r)) c) ≡ clump_numbers_of_tile number g r c
    tile-numbers r c r_in =
        let row : get_or g r [] ≡ begun_clump_counts_of_tile_row
        (tile_row_at grid r) = get_or-map begun_clump_counts_of_tile_row
        grid r [] [] r_in in
        (λ i. map number (labels_of_clumps_in_tile (first_label_of_tile_row grid r) (sym row i) c))
        ∙ map-twice number (label_of_clump_in_row_of_tiles (first_label_of_tile_row grid r) (get_or g r []) c) (range_with_len 0 (sum (get_or (get_or g r []) c [])))

    row-numbers : (r : ℕ) → r < length grid → flat_map (map number) (clump_labels_of_tiles_in_row_at grid r)
        ≡ clump_numbers_of_tile_row number g r
    row-numbers r r_in =
        let row : get_or g r [] ≡ begun_clump_counts_of_tile_row
        (tile_row_at grid r) = get_or-map begun_clump_counts_of_tile_row
        grid r [] [] r_in in
        let long : length (get_or g r []) ≡ length (tile_row_at grid r) = ap (λ (l : List BegunClumpCountsByRow). length l) row ∙ length-map (tile_row_at grid r) (λ (border : TileBorderValue). border.begun) in
        flat-of-map (map number) (labels_of_clumps_in_tile (first_label_of_tile_row grid r) (begun_clump_counts_of_tile_row (tile_row_at grid r))) (range_with_len 0 (length (tile_row_at grid r)))
        ∙ lists-same (λ c. map number (labels_of_clumps_in_tile (first_label_of_tile_row grid r) (begun_clump_counts_of_tile_row (tile_row_at grid r)) c)) (clump_numbers_of_tile number g r) 0 (length (tile_row_at grid r)) (λ c lt. tile-numbers r c r_in)
        ∙ ap (λ (n : ℕ). flat_map (clump_numbers_of_tile number g r) (range_with_len 0 n)) (sym long)
      where
        flat-of-map : (h : List ℕ → List ℕ) (f : ℕ → List ℕ) (xs : List ℕ) → flat_map h (map f xs) ≡ flat_map (λ k. h (f k)) xs
        flat-of-map h f [] = refl
        flat-of-map h f (x ∷ xs) = flat_map-cons h (f x) (map f xs) ∙ ap (λ (l : List ℕ). h (f x) ++ l) (flat-of-map h f xs) ∙ sym (flat_map-cons (λ k. h (f k)) x xs)

    pub numbers-are : numbers ≡ clump_numbers_of_all_tiles number g
    numbers-are =
        ap (flat_map (map number)) are.tiles
        ∙ flat-twice (map number) (clump_labels_of_tiles_in_row_at grid) (range_with_len 0 (length grid))
        ∙ lists-same (λ r. flat_map (map number) (clump_labels_of_tiles_in_row_at grid r)) (clump_numbers_of_tile_row number g) 0 (length grid) (λ r lt. row-numbers r (omega (arith, lt)))
        ∙ ap (λ (n : ℕ). flat_map (clump_numbers_of_tile_row number g) (range_with_len 0 n))
        (sym (length-map grid begun_clump_counts_of_tile_row))
      where
        flat-twice : (h : List ℕ → List ℕ) (f : ℕ → List (List ℕ)) (xs : List ℕ) → flat_map h (flat_map f xs) ≡ flat_map (λ k. flat_map h (f k)) xs
        flat-twice h f [] = refl
        flat-twice h f (x ∷ xs) =
            ap (flat_map h) (flat_map-cons f x xs) ∙ flat_map-append h (f x) (flat_map f xs)
            ∙ ap (λ (l : List ℕ). flat_map h (f x) ++ l) (flat-twice h f xs) ∙ sym (flat_map-cons (λ k. flat_map h (f k)) x xs)

-- ---- a map that is cut into these tiles

module _ (grid : List (List TileBorderValue)) (joiner : TileJoinerValue) (are : JoinerHasJoinedTileRows grid joiner) (whole : Grid) (heights widths : List ℕ) (map_of numbers_of : ℕ → ℕ → Grid) (cut : MapIsCutIntoTiles whole heights widths map_of) (have : TilesHaveBorders joiner.joining heights widths map_of numbers_of grid) where
  abbrev j : Joining
  j = joiner.joining

  abbrev counts_in : List (List BegunClumpCountsByRow)
  counts_in = begun_clump_counts_of_grid grid

  at-seams : AreLabelsPairedAtSeams j whole heights widths (label_of_full_map_cell heights widths numbers_of
      counts_in) joiner.pairs
  at-seams =
      seam-lines-pair j whole heights widths (label_of_full_map_cell heights widths numbers_of counts_in) (labelled_first_column_of_tile grid) (labelled_last_column_of_tile grid) (labelled_first_row_of_tile_row grid) (labelled_last_row_of_tile_row grid) joiner.pairs have.some_rows have.some_cols cut.within
      (lines j whole heights widths map_of numbers_of grid cut have)
      (λ x. (
        λ h. to-seams j whole heights widths map_of numbers_of grid cut have x ((are.pairs x).0 h),
        λ h. (are.pairs x).1 (from-seams j whole heights widths map_of numbers_of grid cut have x h),
      ))

  below : ArePairLabelsBelowLabelCount (clump_count_of_tile_grid counts_in) joiner.pairs
  below i d lt =
      let labelled = borders-are-labelled j whole heights widths map_of numbers_of counts_in cut (borders j whole heights widths map_of numbers_of grid cut have) joiner.pairs at-seams in
      let l = labelled.2 in
      let pair : ℕ × ℕ = get_or joiner.pairs i d in
      let meets = l.only pair.0 pair.1 (Contains-get_or joiner.pairs i d lt) in
      let one = l.few meets.one (is-some whole meets.one meets.category meets.first) in
      let other = l.few meets.other (is-some whole meets.other meets.category meets.second) in
      (omega (arith, one, labelled.1, meets.first_label), omega (arith, other, labelled.1, meets.second_label))

  module _ (paired list roots : List ℕ) (h : AreNumbersOfPairedLabels joiner.pairs paired list roots) where
    pub reports : (r c : ℕ) → r < length heights → c < length widths → (p : Position) (k : ℕ) → cell_at_position (numbers_of r c) p ≡ Some (pos k) → HasClumpNumber j whole (position_in_full_map (rectangle_of_tile_in_grid heights widths r c) p) (get_or (numbers grid joiner are h.number) (clump_count_before_tile counts_in r c + (k - 1)) 0)
    reports r c r_in c_in p k is =
        let b = borders j whole heights widths map_of numbers_of grid cut have in
        let number = borders-number-the-whole j whole heights widths map_of numbers_of counts_in cut b joiner.pairs at-seams h.number (h.right (clump_count_of_tile_grid counts_in) below) r c r_in c_in p k is in
        let inside = number-inside j whole heights widths map_of numbers_of grid cut have r c r_in c_in p k is in
        let listed = tile-numbers-are-listed h.number counts_in r c (k - 1) (omega (arith, r_in, b.high)) (omega (arith, c_in, b.wide r r_in)) inside in
        let value : h.number (label_of_clump_in_tile_grid counts_in r c (k - 1)) ≡ get_or (numbers grid joiner are h.number) (clump_count_before_tile counts_in r c + (k - 1)) 0 =
        sym listed ∙ ap (λ (l : List ℕ). get_or l (clump_count_before_tile counts_in r c + (k - 1)) 0) (sym (numbers-are grid joiner are h.number)) in
        subst (HasClumpNumber j whole (position_in_full_map (rectangle_of_tile_in_grid heights widths r c) p)) value
        number

    pub counts-clumps : MapHasClumpCount j whole ((joiner.clumps - length paired) + get_or roots (length paired) 0)
    counts-clumps =
        let b = borders j whole heights widths map_of numbers_of grid cut have in
        let all = borders-count-the-whole j whole heights widths map_of numbers_of counts_in cut b joiner.pairs at-seams ((clump_count_of_tile_grid counts_in - length paired) + get_or roots (length paired) 0) (h.count (clump_count_of_tile_grid counts_in) below) in
        subst (λ (n : ℕ). MapHasClumpCount j whole ((n - length paired) + get_or roots (length paired) 0))
        (sym are.clumps) all

-- ---- the result of a joiner

pub grid-runs : (grid : List (List TileBorderValue)) (joiner : TileJoinerValue) → JoinerHasJoinedTileRows grid joiner → (paired list roots : List ℕ) (h : AreNumbersOfPairedLabels joiner.pairs paired list roots) (all : List ConsecutiveClumps) → all ≡ consecutive_clumps_by_labels h.number 1 joiner.tiles → AreConsecutiveClumpsOfTiles joiner.joining grid all
grid-runs grid joiner are paired list roots h all is = record {
  numbers = numbers grid joiner are h.number;
  many = many grid joiner are h.number;
  join = λ whole heights widths map_of numbers_of cut have. reports grid joiner are whole heights widths map_of numbers_of cut have paired list roots h;
  are = is ∙ runs grid joiner are h.number;
}

pub grid-clumps : (grid : List (List TileBorderValue)) (joiner : TileJoinerValue) → JoinerHasJoinedTileRows grid joiner → (paired list roots : List ℕ) (h : AreNumbersOfPairedLabels joiner.pairs paired list roots) (n : ℕ) → n ≡ (joiner.clumps - length paired) + get_or roots (length paired) 0 → IsClumpCountOfTileGrid joiner.joining grid n
grid-clumps grid joiner are paired list roots h n is whole heights widths map_of numbers_of cut have =
    subst (MapHasClumpCount joiner.joining whole) (sym is) (counts-clumps grid joiner are whole heights widths map_of numbers_of cut have paired list roots h)
