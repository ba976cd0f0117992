-- The clumps of the tiles of a grid, counted in the order of the tiles' numbers.
use Rattle.std.proofs.Common.{◌≡◌, ◌∙◌, ℕ, zero, suc, ◌+◌, ◌*◌, ◌<◌, List, [], ◌∷◌, ◌++◌, length, map, take, get_or}
use Rattle.std.proofs.Common.{sum, sum_by, refl, ap, arith, length-append}
use Rattle.std.proofs.lemmas.List.{get_or_append_left, get_or-append-add, get_or-map, length-map, take-append-le}
use Rattle.std.proofs.lemmas.List.Concat.{flat_map-cons}
use Rattle.std.proofs.lemmas.List.Sums.{sum_by-append, sum_by-cons}
use Rattle.std.proofs.Math.Nat.{suc-mul}
use Rattle.std.proofs.Math.Seq.{take-append-add}
use Rattle.cell_join_tiles.specs.Beginnings.{BegunClumpCountsByRow, clump_count_of_tile, clump_count_of_tile_row}
use Rattle.cell_join_tiles.specs.JoinedBorders.{begun_clump_counts_of_grid, border_of_tile_at}
use Rattle.cell_join_tiles.specs.JoinedTiles.{clump_counts_by_tile}
use Rattle.cell_join_tiles.specs.TileNumbers.{clump_count_before_tile}
use Rattle.cell_join_tiles.specs.Values.{TileBorderValue, empty_tile_border}

abbrev begun_of : TileBorderValue → BegunClumpCountsByRow
begun_of border = border.begun

abbrev count_of : TileBorderValue → ℕ
count_of border = sum border.begun

-- each row of a grid has this number of tiles
abbrev pub IsGridOfWidth : List (List TileBorderValue) → ℕ → Type 0
IsGridOfWidth grid width = (r : ℕ) → r < length grid → length (get_or grid r []) ≡ width

rest-wide : (row : List TileBorderValue) (grid : List (List TileBorderValue)) (width : ℕ)
    → IsGridOfWidth (row ∷ grid) width → IsGridOfWidth grid width
rest-wide row grid width wide r lt = wide (suc r) (omega (arith, lt))

row-wide : (row : List TileBorderValue) (grid : List (List TileBorderValue)) (width : ℕ)
    → IsGridOfWidth (row ∷ grid) width → length (map count_of row) ≡ width
row-wide row grid width wide = length-map row count_of ∙ wide 0 (omega arith)

counts-cons : (row : List TileBorderValue) (grid : List (List TileBorderValue))
    → clump_counts_by_tile (row ∷ grid) ≡ map count_of row ++ clump_counts_by_tile grid
counts-cons row grid = flat_map-cons (map count_of) row grid

-- the place of the next row's tile, after the tiles of the first row
next-place : (r width c long : ℕ) → long ≡ width → suc r * width + c ≡ long + (r * width + c)
next-place r width c long is = omega (arith, is, suc-mul r width)

-- the tile at a row and column is among all tiles
pub tile-counted : (grid : List (List TileBorderValue)) (width r c : ℕ) → IsGridOfWidth grid width → r < length grid
    → c < width → r * width + c < length (clump_counts_by_tile grid)
tile-counted [] width r c wide r_in c_in = absurd (omega (arith, r_in))
tile-counted (row ∷ grid) width zero c wide r_in c_in =
    let long = ap (λ (l : List ℕ). length l) (counts-cons row grid)
    ∙ length-append (map count_of row) (clump_counts_by_tile grid) in
    let own = row-wide row grid width wide in
    omega (arith, long, own, c_in)
tile-counted (row ∷ grid) width (suc r) c wide r_in c_in =
    let long = ap (λ (l : List ℕ). length l) (counts-cons row grid)
    ∙ length-append (map count_of row) (clump_counts_by_tile grid) in
    let own = row-wide row grid width wide in
    let at = next-place r width c (length (map count_of row)) own in
    let rest = tile-counted grid width r c (rest-wide row grid width wide) (omega (arith, r_in)) c_in in
    omega (arith, long, at, rest)

-- the count at its place is the number of its clumps
pub tile-count : (grid : List (List TileBorderValue)) (width r c : ℕ) → IsGridOfWidth grid width → r < length grid
    → c < width → get_or (clump_counts_by_tile grid) (r * width + c) 0 ≡ sum (border_of_tile_at grid r c).begun
tile-count [] width r c wide r_in c_in = absurd (omega (arith, r_in))
tile-count (row ∷ grid) width zero c wide r_in c_in =
    let own = row-wide row grid width wide in
    let at : 0 * width + c ≡ c = omega arith in
    let inside : c < length row = omega (arith, own, c_in, length-map row count_of) in
    ap (λ (l : List ℕ). get_or l (0 * width + c) 0) (counts-cons row grid)
    ∙ ap (λ (i : ℕ). get_or (map count_of row ++ clump_counts_by_tile grid) i 0) at
    ∙ get_or_append_left (map count_of row) (clump_counts_by_tile grid) 0 c (omega (arith, own, c_in))
    ∙ get_or-map count_of row c empty_tile_border 0 inside
tile-count (row ∷ grid) width (suc r) c wide r_in c_in =
    let own = row-wide row grid width wide in
    let at = next-place r width c (length (map count_of row)) own in
    ap (λ (l : List ℕ). get_or l (suc r * width + c) 0) (counts-cons row grid)
    ∙ ap (λ (i : ℕ). get_or (map count_of row ++ clump_counts_by_tile grid) i 0) at
    ∙ get_or-append-add (map count_of row) (clump_counts_by_tile grid) (r * width + c) 0
    ∙ tile-count grid width r c (rest-wide row grid width wide) (omega (arith, r_in)) c_in

-- the counts before its place add up to the number of clumps in the tiles before it
counts-before : (row : List TileBorderValue) (c : ℕ)
    → sum (take c (map count_of row)) ≡ sum_by clump_count_of_tile (take c (map begun_of row))
counts-before row zero = refl
counts-before [] (suc c) = refl
counts-before (border ∷ row) (suc c) =
    let rest = counts-before row c in
    let one = sum_by-cons (λ (x : ℕ). x) (count_of border) (take c (map count_of row)) in
    let other = sum_by-cons clump_count_of_tile border.begun (take c (map begun_of row)) in
    omega (arith, rest, one, other)

counts-of-row : (row : List TileBorderValue) → sum (map count_of row) ≡ clump_count_of_tile_row (map begun_of row)
counts-of-row [] = refl
counts-of-row (border ∷ row) =
    let rest = counts-of-row row in
    let one = sum_by-cons (λ (x : ℕ). x) (count_of border) (map count_of row) in
    let other = sum_by-cons clump_count_of_tile border.begun (map begun_of row) in
    omega (arith, rest, one, other)

pub count-before-tile : (grid : List (List TileBorderValue)) (width r c : ℕ) → IsGridOfWidth grid width
    → r < length grid → c < width
    → sum (take (r * width + c) (clump_counts_by_tile grid))
    ≡ clump_count_before_tile (begun_clump_counts_of_grid grid) r c
count-before-tile [] width r c wide r_in c_in = absurd (omega (arith, r_in))
count-before-tile (row ∷ grid) width zero c wide r_in c_in =
    let own = row-wide row grid width wide in
    let at : 0 * width + c ≡ c = omega arith in
    let none : sum_by clump_count_of_tile (take c (map begun_of row))
    ≡ 0 + sum_by clump_count_of_tile (take c (map begun_of row)) = omega arith in
    ap (λ (l : List ℕ). sum (take (0 * width + c) l)) (counts-cons row grid)
    ∙ ap (λ (i : ℕ). sum (take i (map count_of row ++ clump_counts_by_tile grid))) at
    ∙ ap (λ (l : List ℕ). sum l) (take-append-le c (map count_of row) (clump_counts_by_tile grid)
    (omega (arith, own, c_in)))
    ∙ counts-before row c
    ∙ none
count-before-tile (row ∷ grid) width (suc r) c wide r_in c_in =
    let own = row-wide row grid width wide in
    let at = next-place r width c (length (map count_of row)) own in
    let rest = count-before-tile grid width r c (rest-wide row grid width wide) (omega (arith, r_in)) c_in in
    let split = ap (λ (l : List ℕ). sum (take (suc r * width + c) l)) (counts-cons row grid)
    ∙ ap (λ (i : ℕ). sum (take i (map count_of row ++ clump_counts_by_tile grid))) at
    ∙ ap (λ (l : List ℕ). sum l) (take-append-add (map count_of row) (clump_counts_by_tile grid) (r * width + c))
    ∙ sum_by-append (λ (x : ℕ). x) (map count_of row) (take (r * width + c) (clump_counts_by_tile grid)) in
    let rows = sum_by-cons clump_count_of_tile_row (map begun_of row) (take r (begun_clump_counts_of_grid grid)) in
    omega (arith, split, rest, rows, counts-of-row row)
