-- The patches of the tiles of a grid make up the patches of the full map.
use Rattle.std.proofs.Common.{◌≡◌, ◌∙◌, ℕ, ℤ, pos, negsuc, ◌+◌, ◌*◌, ◌/◌, ◌-◌, ◌<◌, ◌≤◌, ◌==◌, Bool, true, false}
use Rattle.std.proofs.Common.{cond, List, [], ◌∷◌, All, Contains, Option, Some, None, IsSome, length, map, take, sum}
use Rattle.std.proofs.Common.{count_by, refl, ap, sym, subst, arith, ◌⊎◌, inl, inr, ⊎_elim}
use Rattle.std.specs.List.{AllZip, filter}
use Rattle.std.specs.Option.{option_map}
use Rattle.std.proofs.lemmas.Bool.{and_parts, cases_lt, le-leb}
use Rattle.std.proofs.lemmas.Bool.Decides.{Decides-eqb, same_from_decides}
use Rattle.std.proofs.lemmas.List.Elements.{All-cons, All-contains, All-head, All-nil, All-tail}
use Rattle.std.proofs.lemmas.List.Sums.{sum_by-cons}
use Rattle.std.proofs.lemmas.Nat.{div-mul-add}
use Rattle.cell_core_values.specs.Cell.{cell_eq-Decides}
use Rattle.cell_core_values.specs.Region.{RegionValue}
use Rattle.cell_core.specs.Grid.{Grid, CellValue, cell_at}
use Rattle.cell_clumps.specs.declared.clump.Joining.{Joining}
use Rattle.cell_clumps.specs.declared.clump.Joining.TheVariants.{Edges, EdgesAndCorners}
use Rattle.cell_clumps.specs.Clumps.{AreAdjacent, CellsShareEdge, DifferByOne, Position, cell_at_position}
use Rattle.cell_clumps.specs.ClumpLaw.{NumberOccursInMap}
use Rattle.cell_clumps.specs.parts.CellPlaces.{position_at_row_and_column}
use Rattle.cell_clumps.proofs.PathLemmas.{AreAdjacent-sym, AreJoined-adjacent, AreJoined-along}
use Rattle.cell_join_numbers.specs.ClumpParts.{position_in_full_map}
use Rattle.cell_join_numbers.specs.Parts.{Rectangle}
use Rattle.cell_join_numbers.specs.declared.stretch.ConsecutiveClumps.{ConsecutiveClumps}
use Rattle.cell_join_numbers.proofs.ClumpCellLemmas.{adjacent-back, is-some}
use Rattle.cell_join_tiles.specs.Beginnings.{place_of_interval_containing, rectangle_of_tile_in_grid}
use Rattle.cell_join_tiles.proofs.GreatestLemmas.{some-numbered}
use Rattle.cell_join_tiles.proofs.LabelSums.{all-of}
use Rattle.cell_join_tiles.proofs.StretchLemmas.{Lies, ends-before, lies, stretch-is}
use Rattle.cell_patches.specs.Patches.{is_in_patch}
use Rattle.cell_join_patches.specs.declared.part.PatchOfTile.{PatchOfTile}
use Rattle.cell_join_patches.specs.JoinedPatches.{parts_of_patch}
use Rattle.cell_join_patches.specs.PatchNumbers.{number_in_full_map}
use Rattle.cell_join_patches.specs.PatchPartLaw.{HasMeasuresInFullMap, IsTileInsideFullMap, PatchPlace}
use Rattle.cell_join_patches.specs.PatchPartLaw.{PlacesMakeUpPatch, place_has_cell}
use Rattle.cell_join_patches.specs.TileGridLaw.{AreJoinableParts, HaveSizesOfTileGrid, IsNumberedTileGrid, IsOpenPatch}
use Rattle.cell_join_patches.specs.TileGridLaw.{IsPatchOfTileGrid, cell_with_full_map_number, is_patch_of_tile}
use Rattle.cell_join_patches.specs.TileGridLaw.{position_of_tile_in_grid, tile_number_in_grid}
use Rattle.cell_join_patches.proofs.PatchPartLemmas.{count-some, has-inside, has-parts, one_if}
use Rattle.cell_join_patches.proofs.RenumberedTileLemmas.{cell-renumbered}

-- ---- cells with numbers

pub patch-cell : (numbers : Grid) (n r c : ℕ) → is_in_patch numbers n r c ≡ true
    → cell_at_position numbers (position_at_row_and_column r c) ≡ Some (pos n)
patch-cell numbers n r c is = (cell_eq-Decides (cell_at numbers r c) (Some (pos n))).0 is

pub cell-patch : (numbers : Grid) (n r c : ℕ)
    → cell_at_position numbers (position_at_row_and_column r c) ≡ Some (pos n) → is_in_patch numbers n r c ≡ true
cell-patch numbers n r c is = (cell_eq-Decides (cell_at numbers r c) (Some (pos n))).1 is

-- a number in the full map comes from a number in the tile
record NumberInTile (runs : List ConsecutiveClumps) (tile n : ℕ) (cell : CellValue) : Type 0 where
  pub number : ℕ
  pub is : cell ≡ Some (pos number)
  pub looked_up : number_in_full_map runs tile number ≡ Some n

number-in-tile : (runs : List ConsecutiveClumps) (tile n : ℕ) (cell : CellValue)
    → cell_with_full_map_number runs tile cell ≡ Some (pos n) → NumberInTile runs tile n cell
number-in-tile runs tile n None is = cc
number-in-tile runs tile n (Some (negsuc k)) is = cc
number-in-tile runs tile n (Some (pos k)) is = by (number_in_full_map runs tile k) refl
  where
    by : (x : Option ℕ) → number_in_full_map runs tile k ≡ x → NumberInTile runs tile n (Some (pos k))
    by None none = let no : None ≡ Some (pos n) = sym (ap (option_map pos) none) ∙ is in cc
    by (Some m) some =
        let both : Some (pos m) ≡ Some (pos n) = sym (ap (option_map pos) some) ∙ is in
        let same : m ≡ n = cc in
        record { number = k; is = refl; looked_up = some ∙ ap (λ (x : ℕ). Some x) same }

-- tiles with one number are in one row and column
same-tile : (width a b r c : ℕ) → b < width → c < width
    → tile_number_in_grid width a b ≡ tile_number_in_grid width r c → (a ≡ r) × (b ≡ c)
same-tile width a b r c b_in c_in same =
    let flat : a * width + b ≡ r * width + c = omega (arith, same) in
    let row : a ≡ r = sym (div-mul-add a width b b_in) ∙ ap (λ (x : ℕ). x / width) flat ∙ div-mul-add r width c c_in in
    let times : a * width ≡ r * width = ap (λ (x : ℕ). x * width) row in
    (row, omega (arith, flat, times))

both-true : (a b : Bool) → (a ≡ true → b ≡ true) → (b ≡ true → a ≡ true) → a ≡ b
both-true a b to from = same_from_decides a b (to, from) ((λ is. is), (λ is. is))

-- ---- adjacent cells

by-one : (i k : ℕ) → DifferByOne i k → (i ≤ k + 1) × (k ≤ i + 1)
by-one i k (inl e) = (omega (arith, e), omega (arith, e))
by-one i k (inr e) = (omega (arith, e), omega (arith, e))

-- at most one row and one column is between two cells
abbrev AreNear : Position → Position → Type 0
AreNear p q = (p.row ≤ q.row + 1) × (q.row ≤ p.row + 1) × (p.col ≤ q.col + 1) × (q.col ≤ p.col + 1)

edge-near : (p q : Position) → CellsShareEdge p q → AreNear p q
edge-near p q (inl e) =
    let same = e.0 in
    let cols = by-one p.col q.col e.1 in
    (omega (arith, same), omega (arith, same), cols.0, cols.1)
edge-near p q (inr e) =
    let same = e.1 in
    let rows = by-one p.row q.row e.0 in
    (rows.0, rows.1, omega (arith, same), omega (arith, same))

lines-near : (j : Joining) (p q : Position) → AreAdjacent j p q → AreNear p q
lines-near Edges p q e = edge-near p q e
lines-near EdgesAndCorners p q (inl e) = edge-near p q e
lines-near EdgesAndCorners p q (inr e) =
    let rows = by-one p.row q.row e.0 in
    let cols = by-one p.col q.col e.1 in
    (rows.0, rows.1, cols.0, cols.1)

-- a cell of the full map from its position in a rectangle
from-tile : (r : Rectangle) (p : Position) → r.top ≤ p.row → r.left ≤ p.col
    → p ≡ position_in_full_map r (position_at_row_and_column (p.row - r.top) (p.col - r.left))
from-tile r p top left =
    let row : p.row ≡ r.top + (p.row - r.top) = omega (arith, top) in
    let col : p.col ≡ r.left + (p.col - r.left) = omega (arith, left) in
    λ i. record { row = row i; col = col i }

one-true : (b : Bool) → one_if b ≡ 1 → b ≡ true
one-true true is = refl
one-true false is = absurd (omega (arith, is))

module _ (j : Joining) (whole numbers : Grid) (heights widths : List ℕ) (map_of numbers_of : ℕ → ℕ → Grid)
    (runs : List ConsecutiveClumps)
    (grid : IsNumberedTileGrid j whole numbers heights widths map_of numbers_of runs)
    (sizes : HaveSizesOfTileGrid whole heights widths numbers_of) (depth n : ℕ) where
  abbrev IsPart : PatchOfTile → Type 0
  IsPart = IsPatchOfTileGrid whole heights widths numbers_of runs depth

  abbrev place_in : (r c k : ℕ) → PatchPlace
  place_in r c k = record {
    position = position_of_tile_in_grid heights widths r c;
    numbers = numbers_of r c;
    number = k;
  }

  abbrev place_of : (part : PatchOfTile) → IsPart part → PatchPlace
  place_of part is = place_in is.row is.col part.number

  -- ---- the parts with number n in the full map

  abbrev is_of_patch : PatchOfTile → Bool
  is_of_patch part = part.full_map_number == n

  abbrev pub places : (parts : List PatchOfTile) → All IsPart parts → List PatchPlace
  places [] all = []
  places (part ∷ parts) all =
      cond (is_of_patch part)
      (place_of part (All-head IsPart part parts all) ∷ places parts (All-tail IsPart part parts all))
      (places parts (All-tail IsPart part parts all))

  pub places-measured : (parts : List PatchOfTile) (all : All IsPart parts)
      → AllZip (HasMeasuresInFullMap whole depth) (places parts all) (parts_of_patch n parts)
  places-measured [] all = tt
  places-measured (part ∷ parts) all =
      by (is_of_patch part) (places-measured parts (All-tail IsPart part parts all))
    where
      by : (b : Bool)
          → AllZip (HasMeasuresInFullMap whole depth) (places parts (All-tail IsPart part parts all))
          (parts_of_patch n parts)
          → AllZip (HasMeasuresInFullMap whole depth)
          (cond b
          (place_of part (All-head IsPart part parts all) ∷ places parts (All-tail IsPart part parts all))
          (places parts (All-tail IsPart part parts all)))
          (map (λ (x : PatchOfTile). x.patch) (cond b (part ∷ filter is_of_patch parts) (filter is_of_patch parts)))
      by true rest = ((All-head IsPart part parts all).measures, rest)
      by false rest = rest

  -- ---- tiles inside the full map

  place-inside : (part : PatchOfTile) (is : IsPart part) → IsTileInsideFullMap numbers (place_of part is)
  place-inside part is =
      let r = is.row in
      let c = is.col in
      let high = sizes.tile_rows r c is.in_rows is.in_cols in
      let wide = sizes.tile_cols r c is.in_rows is.in_cols in
      let rows = ap (λ (x : RegionValue). x.rows) grid.clumping.region ∙ sizes.rows in
      let cols = ap (λ (x : RegionValue). x.cols) grid.clumping.region ∙ sizes.cols in
      let last_row = ends-before heights r (length heights) is.in_rows (omega arith) in
      let last_col = ends-before widths c (length widths) is.in_cols (omega arith) in
      let all_rows = all-of (λ (x : ℕ). x) heights (length heights) (omega arith) in
      let all_cols = all-of (λ (x : ℕ). x) widths (length widths) (omega arith) in
      record {
        filled = sizes.filled r c is.in_rows is.in_cols;
        rows = omega (arith, high, rows, last_row, all_rows);
        cols = omega (arith, wide, cols, last_col, all_cols);
      }

  places-inside : (parts : List PatchOfTile) (all : All IsPart parts)
      → All (IsTileInsideFullMap numbers) (places parts all)
  places-inside [] all = All-nil (IsTileInsideFullMap numbers)
  places-inside (part ∷ parts) all =
      by (is_of_patch part) (places-inside parts (All-tail IsPart part parts all))
    where
      by : (b : Bool) → All (IsTileInsideFullMap numbers) (places parts (All-tail IsPart part parts all))
          → All (IsTileInsideFullMap numbers)
          (cond b
          (place_of part (All-head IsPart part parts all) ∷ places parts (All-tail IsPart part parts all))
          (places parts (All-tail IsPart part parts all)))
      by true rest =
          All-cons (IsTileInsideFullMap numbers) (place_of part (All-head IsPart part parts all))
          (places parts (All-tail IsPart part parts all))
          (place-inside part (All-head IsPart part parts all))
          rest
      by false rest = rest

  -- the runs give a part its number in the full map
  part-looked-up : (part : PatchOfTile) (is : IsPart part)
      → number_in_full_map runs (tile_number_in_grid (length widths) is.row is.col) part.number
      ≡ Some part.full_map_number
  part-looked-up part is =
      ap (λ (t : ℕ). number_in_full_map runs t part.number) (sym is.tile) ∙ is.number

  -- ---- the parts that have a cell

  module _ (row col : ℕ) where
    abbrev place_in_tile : (r c : ℕ) → Position
    place_in_tile r c = position_at_row_and_column (row - sum (take r heights)) (col - sum (take c widths))

    -- the runs turn the cell's number in its tile into its number in the full map
    number-here : (r c : ℕ) → Lies heights row r → Lies widths col c
        → cell_at_position numbers (position_at_row_and_column row col)
        ≡ cell_with_full_map_number runs (tile_number_in_grid (length widths) r c)
        (cell_at_position (numbers_of r c) (place_in_tile r c))
    number-here r c rows cols =
        let low = rows.low in
        let left = cols.low in
        let high = rows.high in
        let right = cols.high in
        let same_row : row ≡ sum (take r heights) + (row - sum (take r heights)) = omega (arith, low) in
        let same_col : col ≡ sum (take c widths) + (col - sum (take c widths)) = omega (arith, left) in
        (λ i. cell_at_position numbers (position_at_row_and_column (same_row i) (same_col i)))
        ∙ cell-renumbered j whole numbers heights widths map_of numbers_of runs grid r c rows.inside cols.inside
        (place_in_tile r c) (omega (arith, low, high)) (omega (arith, left, right))

    -- a tile contains the cell, which has this number there
    record HasCellOfTile (r c k : ℕ) : Type 0 where
      pub rows : Lies heights row r
      pub cols : Lies widths col c
      pub number : cell_at_position (numbers_of r c) (place_in_tile r c) ≡ Some (pos k)

    tile-cell : (r c k : ℕ) → r < length heights → c < length widths
        → place_has_cell row col (place_in r c k) ≡ true → HasCellOfTile r c k
    tile-cell r c k r_in c_in has =
        let at = has-parts (place_in r c k) row col has in
        let low = at.0 in
        let left = at.1 in
        let number = patch-cell (numbers_of r c) k (row - sum (take r heights)) (col - sum (take c widths)) at.2 in
        let p = place_in_tile r c in
        let some = some-numbered (cell_at_position (map_of r c) p) (cell_at_position (numbers_of r c) p)
        ((grid.tiles.tiles r c r_in c_in).clumping.nulls p) (rw number refl) in
        let inside = (grid.cut.tiles r c r_in c_in).outside p some in
        let high = inside.0 in
        let right = inside.1 in
        record {
          rows = record { inside = r_in; low = low; high = omega (arith, low, high) };
          cols = record { inside = c_in; low = left; high = omega (arith, left, right) };
          number = number;
        }

    cell-of-tile : (r c k : ℕ) → HasCellOfTile r c k → place_has_cell row col (place_in r c k) ≡ true
    cell-of-tile r c k has =
        let top = has.rows.low in
        let left = has.cols.low in
        rw (
          le-leb (sum (take r heights)) row top,
          le-leb (sum (take c widths)) col left,
        ) (cell-patch (numbers_of r c) k (row - sum (take r heights)) (col - sum (take c widths)) has.number)

    -- it has the number that the runs give to this number
    full-map-cell : (r c k : ℕ) → HasCellOfTile r c k → (m : ℕ)
        → number_in_full_map runs (tile_number_in_grid (length widths) r c) k ≡ Some m
        → cell_at_position numbers (position_at_row_and_column row col) ≡ Some (pos m)
    full-map-cell r c k has m looked_up =
        number-here r c has.rows has.cols
        ∙ ap (cell_with_full_map_number runs (tile_number_in_grid (length widths) r c)) has.number
        ∙ ap (option_map pos) looked_up

    -- no part of patch n has a cell outside patch n
    none-has : is_in_patch numbers n row col ≡ false → (parts : List PatchOfTile) (all : All IsPart parts)
        → count_by (place_has_cell row col) (places parts all) ≡ 0
    none-has out [] all = refl
    none-has out (part ∷ parts) all =
        by (is_of_patch part) refl (place_has_cell row col (place_of part here)) refl
        (none-has out parts (All-tail IsPart part parts all))
      where
        here : IsPart part
        here = All-head IsPart part parts all

        rest : List PatchPlace
        rest = places parts (All-tail IsPart part parts all)

        by : (b : Bool) → is_of_patch part ≡ b → (h : Bool) → place_has_cell row col (place_of part here) ≡ h
            → count_by (place_has_cell row col) rest ≡ 0
            → count_by (place_has_cell row col) (cond b (place_of part here ∷ rest) rest) ≡ 0
        by true of true has none =
            let same = (Decides-eqb part.full_map_number n).0 of in
            let cell = full-map-cell here.row here.col part.number
            (tile-cell here.row here.col part.number here.in_rows here.in_cols has)
            part.full_map_number (part-looked-up part here)
            ∙ ap (λ (x : ℕ). Some (pos x)) same in
            let yes : true ≡ false = sym (cell-patch numbers n row col cell) ∙ out in
            cc
        by true of false has none =
            let more = sum_by-cons (λ (x : PatchPlace). one_if (place_has_cell row col x)) (place_of part here) rest in
            let no = ap one_if has in
            omega (arith, more, no, none)
        by false of h has none = none

    -- in a tile that contains the cell, exactly the parts with its number in the tile have it
    module _ (r c k : ℕ) (cell : HasCellOfTile r c k) where
      abbrev tile : ℕ
      tile = tile_number_in_grid (length widths) r c

      part-has : (part : PatchOfTile) (is : IsPart part) → place_has_cell row col (place_of part is) ≡ true
          → is_patch_of_tile tile k part ≡ true
      part-has part is has =
          let at = tile-cell is.row is.col part.number is.in_rows is.in_cols has in
          let r_is : is.row ≡ r = sym (stretch-is heights is.row row at.rows) ∙ stretch-is heights r row cell.rows in
          let c_is : is.col ≡ c = sym (stretch-is widths is.col col at.cols) ∙ stretch-is widths c col cell.cols in
          let tile_is : part.tile ≡ tile = is.tile ∙ (λ i. tile_number_in_grid (length widths) (r_is i) (c_is i)) in
          let moved_cell : cell_at_position (numbers_of is.row is.col) (place_in_tile is.row is.col)
          ≡ cell_at_position (numbers_of r c) (place_in_tile r c) =
          λ i. cell_at_position (numbers_of (r_is i) (c_is i)) (place_in_tile (r_is i) (c_is i)) in
          let both : Some (pos part.number) ≡ Some (pos k) = sym at.number ∙ moved_cell ∙ cell.number in
          let number_is : part.number ≡ k = cc in
          rw ((Decides-eqb part.tile tile).1 tile_is, (Decides-eqb part.number k).1 number_is) refl

      has-part : number_in_full_map runs tile k ≡ Some n → (part : PatchOfTile) (is : IsPart part)
          → is_patch_of_tile tile k part ≡ true
          → (is_of_patch part ≡ true) × (place_has_cell row col (place_of part is) ≡ true)
      has-part looked_up part is of =
          let parts = and_parts (part.tile == tile) (part.number == k) of in
          let tile_is = (Decides-eqb part.tile tile).0 parts.0 in
          let number_is = (Decides-eqb part.number k).0 parts.1 in
          let at = same-tile (length widths) is.row is.col r c is.in_cols cell.cols.inside (sym is.tile ∙ tile_is) in
          let found : number_in_full_map runs part.tile part.number ≡ Some n =
          (λ i. number_in_full_map runs (tile_is i) (number_is i)) ∙ looked_up in
          let both : Some part.full_map_number ≡ Some n = sym is.number ∙ found in
          let full : part.full_map_number ≡ n = cc in (
            (Decides-eqb part.full_map_number n).1 full,
            (λ i. place_has_cell row col (place_in (at.0 i) (at.1 i) (number_is i))) ∙ cell-of-tile r c k cell,
          )

      as-many : number_in_full_map runs tile k ≡ Some n → (parts : List PatchOfTile) (all : All IsPart parts)
          → count_by (place_has_cell row col) (places parts all) ≡ count_by (is_patch_of_tile tile k) parts
      as-many looked_up [] all = refl
      as-many looked_up (part ∷ parts) all =
          by (is_of_patch part) refl (as-many looked_up parts (All-tail IsPart part parts all))
          ∙ sym (sum_by-cons (λ (x : PatchOfTile). one_if (is_patch_of_tile tile k x)) part parts)
        where
          here : IsPart part
          here = All-head IsPart part parts all

          rest : List PatchPlace
          rest = places parts (All-tail IsPart part parts all)

          by : (b : Bool) → is_of_patch part ≡ b
              → count_by (place_has_cell row col) rest ≡ count_by (is_patch_of_tile tile k) parts
              → count_by (place_has_cell row col) (cond b (place_of part here ∷ rest) rest)
              ≡ one_if (is_patch_of_tile tile k part) + count_by (is_patch_of_tile tile k) parts
          by true of same =
              let test = both-true (place_has_cell row col (place_of part here)) (is_patch_of_tile tile k part)
              (part-has part here) (λ is. (has-part looked_up part here is).1) in
              sum_by-cons (λ (x : PatchPlace). one_if (place_has_cell row col x)) (place_of part here) rest
              ∙ (λ i. one_if (test i) + same i)
          by false of same =
              let none : is_patch_of_tile tile k part ≡ false =
              both-true (is_patch_of_tile tile k part) false
              (λ is. sym of ∙ (has-part looked_up part here is).0) (λ no. cc) in
              let no = ap one_if none in
              omega (arith, same, no)

  -- ---- closed patches

  -- a cell of a tile's patch, in the full map
  record HasCell (r c k : ℕ) : Type 0 where
    pub at : Position
    pub has : place_has_cell at.row at.col (place_in r c k) ≡ true

  cell-of-patch : (r c k : ℕ) → NumberOccursInMap (numbers_of r c) k → HasCell r c k
  cell-of-patch r c k (p, is) = record {
    at = position_in_full_map (rectangle_of_tile_in_grid heights widths r c) p;
    has = has-inside (place_in r c k) p.row p.col ∙ cell-patch (numbers_of r c) k p.row p.col is;
  }

  pub part-occurs : (part : PatchOfTile) (is : IsPart part) → NumberOccursInMap (numbers_of is.row is.col) part.number
  part-occurs part is =
      let row = is.measures.first_row.some in
      let cell = row.2 in (
        position_at_row_and_column row.0 cell.0,
        patch-cell (numbers_of is.row is.col) part.number row.0 cell.0 cell.1,
      )

  module _ (r c k : ℕ) (r_in : r < length heights) (c_in : c < length widths)
      (closed : ¬ IsOpenPatch (numbers_of r c) k) where
    abbrev has_cell : Position → Bool
    has_cell p = place_has_cell p.row p.col (place_in r c k)

    -- a closed patch has each cell of its category that is adjacent to one of its cells
    step : (p q : Position) (v : ℤ) → AreAdjacent j p q → cell_at_position whole p ≡ Some v
        → cell_at_position whole q ≡ Some v → has_cell p ≡ true → has_cell q ≡ true
    step p q v near p_is q_is has =
        let rectangle = rectangle_of_tile_in_grid heights widths r c in
        let a : Position = place_in_tile p.row p.col r c in
        let b : Position = place_in_tile q.row q.col r c in
        let at = tile-cell p.row p.col r c k r_in c_in has in
        let top = at.rows.low in
        let left = at.cols.low in
        let bottom = at.rows.high in
        let right = at.cols.high in
        let tall = sizes.tile_rows r c r_in c_in in
        let wide = sizes.tile_cols r c r_in c_in in
        let off : ((a.row ≡ 0) ⊎ (a.row + 1 ≡ (numbers_of r c).region.rows))
        ⊎ ((a.col ≡ 0) ⊎ (a.col + 1 ≡ (numbers_of r c).region.cols)) → ⊥ =
        λ at_border. closed (record {
          row = a.row;
          col = a.col;
          in_patch = cell-patch (numbers_of r c) k a.row a.col at.number;
          at_border = at_border;
        }) in
        let off_top : a.row ≡ 0 → ⊥ = λ e. off (inl (inl e)) in
        let off_bottom : a.row + 1 ≡ (numbers_of r c).region.rows → ⊥ = λ e. off (inl (inr e)) in
        let off_left : a.col ≡ 0 → ⊥ = λ e. off (inr (inl e)) in
        let off_right : a.col + 1 ≡ (numbers_of r c).region.cols → ⊥ = λ e. off (inr (inr e)) in
        let beside = lines-near j p q near in
        let up = beside.0 in
        let down = beside.1 in
        let west = beside.2 in
        let east = beside.3 in
        let q_top : rectangle.top ≤ q.row = omega (arith, top, off_top, up) in
        let q_bottom : q.row < rectangle.top + rectangle.rows = omega (arith, top, bottom, off_bottom, tall, down) in
        let q_left : rectangle.left ≤ q.col = omega (arith, left, off_left, west) in
        let q_right : q.col < rectangle.left + rectangle.cols = omega (arith, left, right, off_right, wide, east) in
        let p_same : p ≡ position_in_full_map rectangle a = from-tile rectangle p top left in
        let q_same : q ≡ position_in_full_map rectangle b = from-tile rectangle q q_top q_left in
        let tile = grid.cut.tiles r c r_in c_in in
        let a_is : cell_at_position (map_of r c) a ≡ Some v =
        tile.cells a (omega (arith, top, bottom)) (omega (arith, left, right))
        ∙ ap (cell_at_position whole) (sym p_same) ∙ p_is in
        let b_is : cell_at_position (map_of r c) b ≡ Some v =
        tile.cells b (omega (arith, q_top, q_bottom)) (omega (arith, q_left, q_right))
        ∙ ap (cell_at_position whole) (sym q_same) ∙ q_is in
        let near_in_tile : AreAdjacent j a b =
        adjacent-back rectangle j a b
        (subst (λ (s : Position). AreAdjacent j s (position_in_full_map rectangle b)) p_same
        (subst (λ (s : Position). AreAdjacent j p s) q_same near)) in
        let same = ((grid.tiles.tiles r c r_in c_in).clumping.same a b
        (is-some (cell_at_position (map_of r c) a) v a_is) (is-some (cell_at_position (map_of r c) b) v b_is)).1
        (AreJoined-adjacent j (map_of r c) a b v near_in_tile a_is b_is) in
        cell-of-tile q.row q.col r c k (record {
          rows = record { inside = r_in; low = q_top; high = q_bottom };
          cols = record { inside = c_in; low = q_left; high = q_right };
          number = sym same ∙ at.number;
        })

    -- so it has each cell with its number in the full map
    all-cells : number_in_full_map runs (tile_number_in_grid (length widths) r c) k ≡ Some n
        → NumberOccursInMap (numbers_of r c) k → (q : Position) → cell_at_position numbers q ≡ Some (pos n)
        → has_cell q ≡ true
    all-cells looked_up occurs q q_is =
        let own = cell-of-patch r c k occurs in
        let p : Position = own.at in
        let p_is = full-map-cell p.row p.col r c k (tile-cell p.row p.col r c k r_in c_in own.has) n looked_up in
        let some : (s : Position) → cell_at_position numbers s ≡ Some (pos n) → IsSome (cell_at_position whole s) =
        λ s is. some-numbered (cell_at_position whole s) (cell_at_position numbers s) (grid.clumping.nulls s)
        (rw is refl) in
        let joined = (grid.clumping.same p q (some p p_is) (some q q_is)).0 (p_is ∙ sym q_is) in
        let along = AreJoined-along j whole (λ s. one_if (has_cell s)) (λ x y v near x_is y_is.
        ap one_if (both-true (has_cell x) (has_cell y) (step x y v near x_is y_is)
        (step y x v (AreAdjacent-sym j x y near) y_is x_is))) p q joined in
        one-true (has_cell q) (sym along ∙ ap one_if own.has)

  -- no other patch of a tile has the number in the full map of a closed part
  pub only-part : (part : PatchOfTile) (is : IsPart part) → ¬ IsOpenPatch (numbers_of is.row is.col) part.number
      → part.full_map_number ≡ n → (r c k : ℕ) → r < length heights → c < length widths
      → NumberOccursInMap (numbers_of r c) k
      → number_in_full_map runs (tile_number_in_grid (length widths) r c) k ≡ Some n
      → is_patch_of_tile (tile_number_in_grid (length widths) r c) k part ≡ true
  only-part part is closed full r c k r_in c_in occurs looked_up =
      let cell = cell-of-patch r c k occurs in
      let row : ℕ = cell.at.row in
      let col : ℕ = cell.at.col in
      let at = tile-cell row col r c k r_in c_in cell.has in
      part-has row col r c k at part is
      (all-cells is.row is.col part.number is.in_rows is.in_cols closed
      (part-looked-up part is ∙ ap (λ (x : ℕ). Some x) full) (part-occurs part is) cell.at
      (full-map-cell row col r c k at n looked_up))

  -- ---- the parts that make up a patch

  -- the parts have each tile's patch with number n in the full map once
  abbrev pub HaveEachPatchOnce : List PatchOfTile → Type 0
  HaveEachPatchOnce parts = (r c k : ℕ) → r < length heights → c < length widths → NumberOccursInMap (numbers_of r c) k
      → number_in_full_map runs (tile_number_in_grid (length widths) r c) k ≡ Some n
      → count_by (is_patch_of_tile (tile_number_in_grid (length widths) r c) k) parts ≡ 1

  -- a closed part does
  pub closed-once : (part : PatchOfTile) (is : IsPart part) → ¬ IsOpenPatch (numbers_of is.row is.col) part.number
      → part.full_map_number ≡ n → HaveEachPatchOnce (part ∷ [])
  closed-once part is closed full r c k r_in c_in occurs looked_up =
      let only = ap one_if (only-part part is closed full r c k r_in c_in occurs looked_up) in
      let tile : ℕ = tile_number_in_grid (length widths) r c in
      let count = sum_by-cons (λ (x : PatchOfTile). one_if (is_patch_of_tile tile k x)) part [] in
      omega (arith, only, count)

  -- joinable parts do, if one of them has the number
  pub joinable-once : (parts : List PatchOfTile) → AreJoinableParts whole heights widths numbers_of runs depth parts
      → (part : PatchOfTile) → Contains parts part → part.full_map_number ≡ n → HaveEachPatchOnce parts
  joinable-once parts are part listed full r c k r_in c_in occurs looked_up =
      let tile : ℕ = tile_number_in_grid (length widths) r c in
      let most = are.once tile k in
      ⊎_elim
      (λ (some : 0 < count_by (is_patch_of_tile tile k) parts). omega (arith, some, most))
      (λ (none : count_by (is_patch_of_tile tile k) parts ≤ 0).
      let closed : ¬ IsOpenPatch (numbers_of r c) k = λ is_open.
      let some = are.all_open part listed r c k r_in c_in is_open (looked_up ∙ ap (λ (x : ℕ). Some x) (sym full)) in
      omega (arith, some, none) in
      let is = All-contains IsPart parts part are.each listed in
      let cell = cell-of-patch is.row is.col part.number (part-occurs part is) in
      let row : ℕ = cell.at.row in
      let col : ℕ = cell.at.col in
      let at = tile-cell row col is.row is.col part.number is.in_rows is.in_cols cell.has in
      let number = full-map-cell row col is.row is.col part.number at n
      (part-looked-up part is ∙ ap (λ (x : ℕ). Some x) full) in
      let has = all-cells r c k r_in c_in closed looked_up occurs cell.at number in
      let here = part-has row col r c k (tile-cell row col r c k r_in c_in has) part is cell.has in
      let some = count-some (is_patch_of_tile tile k) parts part listed here in
      absurd (omega (arith, some, none)))
      (cases_lt 0 (count_by (is_patch_of_tile tile k) parts))

  module _ (parts : List PatchOfTile) (each : All IsPart parts) (once : HaveEachPatchOnce parts) where
    one-has : (row col : ℕ) → is_in_patch numbers n row col ≡ true
        → count_by (place_has_cell row col) (places parts each) ≡ 1
    one-has row col has =
        let p : Position = position_at_row_and_column row col in
        let number = patch-cell numbers n row col has in
        let some = some-numbered (cell_at_position whole p) (cell_at_position numbers p) (grid.clumping.nulls p)
        (rw number refl) in
        let within = grid.cut.within p some in
        let rows = lies heights row within.0 in
        let cols = lies widths col within.1 in
        let r = place_of_interval_containing heights row in
        let c = place_of_interval_containing widths col in
        let at = place_in_tile row col r c in
        let own = number-in-tile runs (tile_number_in_grid (length widths) r c) n (cell_at_position (numbers_of r c) at)
        (sym (number-here row col r c rows cols) ∙ number) in
        as-many row col r c own.number (record { rows = rows; cols = cols; number = own.is }) own.looked_up parts each
        ∙ once r c own.number rows.inside cols.inside (at, own.is) own.looked_up

    -- the parts with number n make up patch n
    pub make-up : PlacesMakeUpPatch numbers n (places parts each)
    make-up = record {
      inside = places-inside parts each;
      once = λ row col. by row col (is_in_patch numbers n row col) refl;
    }
      where
        by : (row col : ℕ) (b : Bool) → is_in_patch numbers n row col ≡ b
            → count_by (place_has_cell row col) (places parts each) ≡ one_if (is_in_patch numbers n row col)
        by row col true is = one-has row col is ∙ sym (ap one_if is)
        by row col false is = none-has row col is parts each ∙ sym (ap one_if is)
