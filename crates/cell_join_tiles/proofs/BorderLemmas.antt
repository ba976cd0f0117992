-- The labels of clumps have the order of their first cells in the full map.
use Rattle.std.proofs.Common.{◌≡◌, ℕ, suc, pos, ◌+◌, ◌-◌, ◌<◌, ◌≤◌, List, [], Some, IsSome, map, take, length, get_or, ap, sym, ◌∙◌, arith, subst, inl, inr}
use Rattle.std.specs.Prelude.{sum}
use Rattle.std.specs.List.{AllPairs}
use Rattle.std.proofs.lemmas.List.{get_or_default, get_or-map, length-map}
use Rattle.cell_core.specs.Grid.{Grid, CellValue}
use Rattle.cell_clumps.specs.declared.clump.Joining.{Joining}
use Rattle.cell_clumps.specs.Clumps.{Position, cell_at_position, IsEarlierCell, AreCellsConnected}
use Rattle.cell_clumps.specs.parts.CellPlaces.{position_at_row_and_column}
use Rattle.cell_join_numbers.specs.Parts.{Rectangle}
use Rattle.cell_join_numbers.specs.ClumpParts.{position_in_full_map}
use Rattle.cell_join_numbers.specs.Labelled.{AreCellsLabelledInOrder}
use Rattle.cell_join_tiles.proofs.ListedAtLemmas.{ListedAt, listed_at-of, listed_at-own, first-some}
use Rattle.cell_join_tiles.proofs.MovedLemmas.{before-moved, joined-moved}
use Rattle.cell_join_tiles.specs.Beginnings.{BegunClumpCountsByRow, place_of_interval_containing, clump_count_of_tile_grid, label_of_clump_in_tile_grid, MapIsCutIntoTiles, TileHasClumpBeginnings, TilesHaveClumpBeginnings, CellsHaveClumpLabels, AreMeetingLabelsPaired, LabelsFollowFirstCells, ClumpLabelsFitJoiningByPairs, rectangle_of_tile_in_grid}
use Rattle.cell_join_tiles.proofs.StretchLemmas.{Lies, lies, stretch-is, ends-before}
use Rattle.cell_join_tiles.proofs.LabelSums.{begun-next}
use Rattle.cell_join_tiles.proofs.LabelLemmas.{IsBefore, IsClump, line_of, label-within, one-clump, before-of, labels}
use Rattle.cell_join_tiles.proofs.BegunLemmas.{begun-at, sum-begun}
use Rattle.cell_join_tiles.proofs.ListLemmas.{Found, found}
use Rattle.std.proofs.lemmas.List.Sums.{sum_by-take-le}

moved-before : (r : Rectangle) (p q : Position) → IsEarlierCell p q → IsEarlierCell (position_in_full_map r p) (position_in_full_map r q)
moved-before r p q (inl h) = inl (omega (arith, h))
moved-before r p q (inr h) = inr (ap (λ i. r.top + i) h.0, omega (arith, h.1))

module _ (j : Joining) (whole : Grid) (heights widths : List ℕ) (map_of numbers_of : ℕ → ℕ → Grid) (firsts_of : ℕ → ℕ → List Position) (grid : List (List BegunClumpCountsByRow)) (cut : MapIsCutIntoTiles whole heights widths map_of) (report : TilesHaveClumpBeginnings j heights widths map_of numbers_of firsts_of grid) where
  abbrev high_of : ℕ → ℕ
  high_of r = get_or heights r 0

  abbrev begun_clump_counts_of_tile_row : (r c : ℕ) → BegunClumpCountsByRow
  begun_clump_counts_of_tile_row r c = get_or (get_or grid r []) c []

  abbrev place : (r c : ℕ) → Rectangle
  place r c = rectangle_of_tile_in_grid heights widths r c

  short : (r c : ℕ) → r < length grid → c < length (get_or grid r [])
      → length (begun_clump_counts_of_tile_row r c) ≤ high_of r
  short r c r_lt c_lt =
      let r_in : r < length heights = omega (arith, r_lt, report.high) in
      let c_in : c < length widths = omega (arith, c_lt, report.wide r r_in) in
      let t = report.tiles r c r_in c_in in
      omega (arith, t.long)

  -- ---- a clump of a tile, and its first cell

  pub record Clump (r c k : ℕ) : Type 0 where
    pub r_in : r < length heights
    pub c_in : c < length widths
    pub k_in : k < length (firsts_of r c)

  abbrev first_in : (r c k : ℕ) → Position
  first_in r c k = get_or (firsts_of r c) k (position_at_row_and_column 0 0)

  abbrev first_of : (r c k : ℕ) → Position
  first_of r c k = position_in_full_map (place r c) (first_in r c k)

  pub record At (r c k : ℕ) : Type 0 where
    pub reports : TileHasClumpBeginnings j (get_or heights r 0) (map_of r c) (numbers_of r c) (firsts_of r c)
        (begun_clump_counts_of_tile_row r c)
    pub some : IsSome (cell_at_position (map_of r c) (first_in r c k))
    pub row : (first_in r c k).row < high_of r
    pub col : (first_in r c k).col < get_or widths c 0
    pub begins : Lies (begun_clump_counts_of_tile_row r c) k (first_in r c k).row
    pub line : line_of grid r c k ≡ (first_in r c k).row
    pub clump : IsClump grid r c k

  pub at-of : (r c k : ℕ) → Clump r c k → At r c k
  at-of r c k x =
      let t = report.tiles r c x.r_in x.c_in in
      let tile = cut.tiles r c x.r_in x.c_in in
      let some = first-some j (map_of r c) (firsts_of r c) t.all (numbers_of r c) t.clumping k
      (position_at_row_and_column 0 0) x.k_in in
      let inside = tile.outside (first_in r c k) some in
      let all = t.all in
      let b = begun-at (firsts_of r c) all.in_order (begun_clump_counts_of_tile_row r c) (high_of r) t.long t.counts k (position_at_row_and_column 0 0) x.k_in inside.0 in
      record {
        reports = t;
        some = some;
        row = inside.0;
        col = inside.1;
        begins = b;
        line = stretch-is (begun_clump_counts_of_tile_row r c) (first_in r c k).row k b;
        clump = record {
          r_in = omega (arith, x.r_in, report.high);
          c_in = omega (arith, x.c_in, report.wide r x.r_in);
          k_in = omega (arith, b.high, begun-next (begun_clump_counts_of_tile_row r c) (first_in r c k).row, sum_by-take-le (λ (n : ℕ). n) (begun_clump_counts_of_tile_row r c) (suc (first_in r c k).row));
        };
      }

  -- labels in row order have first cells in row order
  in-order : (r c k s d l : ℕ) → Clump r c k → Clump s d l → At r c k → At s d l → IsBefore r (line_of grid r c k) c k s (line_of grid s d l) d l → IsEarlierCell (first_of r c k) (first_of s d l)
  in-order r c k s d l x y a b (inl h) = inl (omega (arith, a.row, ends-before heights r s h (let t = y.r_in in omega (arith, t))))
  in-order r c k s d l x y a b (inr (e, inl h)) = inl (let top : sum (take r heights) ≡ sum (take s heights) = ap (λ (n : ℕ). sum (take n heights)) e in omega (arith, top, h, a.line, b.line))
  in-order r c k s d l x y a b (inr (e, inr (f, inl h))) =
      inr (
        (let top : sum (take r heights) ≡ sum (take s heights) = ap (λ (n : ℕ). sum (take n heights)) e in omega (arith, top, f, a.line, b.line)),
        omega (arith, a.col, ends-before widths c d h (let t = y.c_in in omega (arith, t))),
      )
  in-order r c k s d l x y a b (inr (e, inr (f, inr (g, h)))) =
      let all = (a.reports).all in
      let same : get_or (firsts_of r c) l (position_at_row_and_column 0 0) ≡ get_or (firsts_of s d) l (position_at_row_and_column 0 0) = ap (λ (n : ℕ). get_or (firsts_of n c) l (position_at_row_and_column 0 0)) e ∙ ap (λ (n : ℕ). get_or (firsts_of s n) l (position_at_row_and_column 0 0)) g in
      let places : place r c ≡ place s d = ap (λ (n : ℕ). place n c) e ∙ ap (place s) g in
      let l_in : l < length (firsts_of r c) = subst (λ (n : ℕ). l < length (firsts_of n c)) (sym e) (subst (λ (n : ℕ). l < length (firsts_of s n)) (sym g) y.k_in) in
      let less = moved-before (place r c) (first_in r c k) (first_in r c l)
      (all.in_order k l (position_at_row_and_column 0 0) h l_in) in
      subst (λ (q : Rectangle). IsEarlierCell (first_of r c k) (position_in_full_map q (first_in s d l))) places
      (subst (λ (q : Position). IsEarlierCell (first_of r c k) (position_in_full_map (place r c) q)) same less)

  pub follow : (r c k s d l : ℕ) → Clump r c k → Clump s d l → label_of_clump_in_tile_grid grid r c k < label_of_clump_in_tile_grid grid s d l → IsEarlierCell (first_of r c k) (first_of s d l)
  follow r c k s d l x y less =
      let a = at-of r c k x in
      let b = at-of s d l y in
      in-order r c k s d l x y a b (before-of grid high_of short r c k s d l a.clump b.clump less)

  -- ---- cells that bear labels

  first-inside : (r c k : ℕ) (d : Position) (r_in : r < length heights) (c_in : c < length widths) → k < length (firsts_of r c) → (get_or (firsts_of r c) k d).row < high_of r
  first-inside r c k d r_in c_in k_in =
      let t = report.tiles r c r_in c_in in
      let tile = cut.tiles r c r_in c_in in
      let inside = tile.outside (get_or (firsts_of r c) k d) (first-some j (map_of r c) (firsts_of r c) t.all (numbers_of r c) t.clumping k d k_in) in
      inside.0

  clump-of : (r c k : ℕ) → IsClump grid r c k → Clump r c k
  clump-of r c k x =
      let r_in : r < length heights = omega (arith, x.r_in, report.high) in
      let c_in : c < length widths = omega (arith, x.c_in, report.wide r r_in) in
      let t = report.tiles r c r_in c_in in
      let many = sum-begun (firsts_of r c) (begun_clump_counts_of_tile_row r c) (high_of r) t.long t.counts (λ i d lt. first-inside r c i d r_in c_in lt) in
      record { r_in = r_in; c_in = c_in; k_in = omega (arith, x.k_in, many) }

  -- a clump, named by its tile and its number
  pub record Name : Type 0 where
    pub r : ℕ
    pub c : ℕ
    pub k : ℕ

  abbrev pub cell_of : Name → Position
  cell_of x = first_of x.r x.c x.k

  pub record IsNamed (l : ℕ) (x : Name) : Type 0 where
    pub clump : Clump x.r x.c x.k
    pub is : label_of_clump_in_tile_grid grid x.r x.c x.k ≡ l

  named : (l : ℕ) → l < clump_count_of_tile_grid grid → (x : Name) × IsNamed l x
  named l lt =
      let t = labels grid high_of short l lt in
      (record { r = t.r; c = t.c; k = t.k }, record { clump = clump-of t.r t.c t.k t.clump; is = t.is })

  -- the clumps in the order of their labels, with their first cells
  pub chosen : Found IsNamed (clump_count_of_tile_grid grid)
  chosen = found IsNamed (clump_count_of_tile_grid grid) named

  pub no_name : Name
  no_name = record { r = 0; c = 0; k = 0 }

  abbrev pub starts : List Position
  starts = map cell_of chosen.all

  pub many-starts : length starts ≡ clump_count_of_tile_grid grid
  many-starts = length-map chosen.all cell_of ∙ chosen.many

  pub record Start (l : ℕ) : Type 0 where
    pub name : Name
    pub clump : Clump name.r name.c name.k
    pub label : label_of_clump_in_tile_grid grid name.r name.c name.k ≡ l
    pub is : (d : Position) → get_or starts l d ≡ cell_of name

  start : (l : ℕ) → l < clump_count_of_tile_grid grid → Start l
  start l lt =
      let n = chosen.each l no_name lt in
      record {
        name = get_or chosen.all l no_name;
        clump = n.clump;
        label = n.is;
        is = λ d. get_or-map cell_of chosen.all l no_name d (omega (arith, lt, chosen.many));
      }

  starts-order : AllPairs IsEarlierCell starts
  starts-order i k d lt inside =
      let k_in : k < clump_count_of_tile_grid grid = omega (arith, inside, many-starts) in
      let a = start i (omega (arith, lt, k_in)) in
      let b = start k k_in in
      subst (λ (p : Position). IsEarlierCell p (get_or starts k d)) (sym (a.is d))
      (subst (λ (p : Position). IsEarlierCell (cell_of a.name) p) (sym (b.is d))
      (follow (a.name).r (a.name).c (a.name).k (b.name).r (b.name).c (b.name).k a.clump b.clump (omega (arith, a.label, b.label, lt))))

  starts-cells : (k : ℕ) (d : Position) → k < length starts → IsSome (cell_at_position whole (get_or starts k d))
  starts-cells k d lt =
      let s = start k (omega (arith, lt, many-starts)) in
      let x = s.name in
      let clump = s.clump in
      let a = at-of x.r x.c x.k clump in
      let tile = cut.tiles x.r x.c clump.r_in clump.c_in in
      subst (λ (p : Position). IsSome (cell_at_position whole p)) (sym (s.is d))
      (subst (λ (v : CellValue). IsSome v) (tile.cells (first_in x.r x.c x.k) a.row a.col) a.some)

  module _ (label_of : Position → ℕ) (bear : CellsHaveClumpLabels heights widths numbers_of grid label_of) where
    -- the tile and the place in it of a cell of the full map, and the cell's clump in that tile
    pub record InTile (p : Position) : Type 0 where
      pub r : ℕ
      pub c : ℕ
      pub a : Position
      pub r_in : r < length heights
      pub c_in : c < length widths
      pub is : p ≡ position_in_full_map (rectangle_of_tile_in_grid heights widths r c) a
      pub reports : TileHasClumpBeginnings j (get_or heights r 0) (map_of r c) (numbers_of r c) (firsts_of r c) (get_or (get_or grid r []) c [])
      pub listed_at : ListedAt j (map_of r c) (firsts_of r c) reports.all (numbers_of r c) reports.clumping a
      pub label : label_of p ≡ label_of_clump_in_tile_grid grid r c listed_at.place

    listed_at-label : (r c : ℕ) (r_in : r < length heights) (c_in : c < length widths) (a : Position) → a.row < high_of r → a.col < get_or widths c 0 → (k : ℕ) → cell_at_position (numbers_of r c) a ≡ Some (pos (k + 1)) → label_of (position_in_full_map (rectangle_of_tile_in_grid heights widths r c) a) ≡ label_of_clump_in_tile_grid grid r c k
    listed_at-label r c r_in c_in a row col k number =
        let same : k + 1 - 1 ≡ k = omega arith in
        bear r c r_in c_in a row col (k + 1) number ∙ ap (label_of_clump_in_tile_grid grid r c) same

    in-tile : (p : Position) → IsSome (cell_at_position whole p) → InTile p
    in-tile p some =
        let inside = cut.within p some in
        let r = place_of_interval_containing heights p.row in
        let c = place_of_interval_containing widths p.col in
        let lr = lies heights p.row inside.0 in
        let lc = lies widths p.col inside.1 in
        let a : Position = position_at_row_and_column (p.row - sum (take r heights)) (p.col - sum (take c widths)) in
        let row_is : p.row ≡ sum (take r heights) + (p.row - sum (take r heights)) = omega (arith, lr.low) in
        let col_is : p.col ≡ sum (take c widths) + (p.col - sum (take c widths)) = omega (arith, lc.low) in
        let is : p ≡ position_in_full_map (rectangle_of_tile_in_grid heights widths r c) a = λ i. record { row = row_is i; col = col_is i } in
        let row : a.row < high_of r = omega (arith, lr.low, lr.high) in
        let col : a.col < get_or widths c 0 = omega (arith, lc.low, lc.high) in
        let reports = report.tiles r c lr.inside lc.inside in
        let tile = cut.tiles r c lr.inside lc.inside in
        let own : IsSome (cell_at_position (map_of r c) a) = subst (λ (v : CellValue). IsSome v) (sym (tile.cells a row col)) (subst (λ (q : Position). IsSome (cell_at_position whole q)) is some) in
        let listed_at = listed_at-of j (map_of r c) (firsts_of r c) reports.all (numbers_of r c) reports.clumping a own in
        record {
          r = r;
          c = c;
          a = a;
          r_in = lr.inside;
          c_in = lc.inside;
          is = is;
          reports = reports;
          listed_at = listed_at;
          label = ap label_of is ∙ listed_at-label r c lr.inside lc.inside a row col listed_at.place listed_at.number;
        }

    clump-at : (p : Position) (t : InTile p) → Clump t.r t.c (t.listed_at).place
    clump-at p t = let s = t.listed_at in record { r_in = t.r_in; c_in = t.c_in; k_in = s.inside }

    starts-few : (p : Position) → IsSome (cell_at_position whole p) → label_of p < length starts
    starts-few p some =
        let t = in-tile p some in
        let s = t.listed_at in
        let a = at-of t.r t.c s.place (clump-at p t) in
        omega (arith, t.label, label-within grid high_of short t.r t.c s.place a.clump, many-starts)

    -- the listed first cell of a cell's label is the first cell of its clump in its tile
    first-at : (p : Position) (some : IsSome (cell_at_position whole p)) (t : InTile p) → get_or starts (label_of p) p ≡ position_in_full_map (rectangle_of_tile_in_grid heights widths t.r t.c) (get_or (firsts_of t.r t.c) (t.listed_at).place t.a)
    first-at p some t =
        let s = t.listed_at in
        let a = at-of t.r t.c s.place (clump-at p t) in
        let b = start (label_of p) (omega (arith, starts-few p some, many-starts)) in
        let x = b.name in
        let y = at-of x.r x.c x.k b.clump in
        let same = one-clump grid high_of short x.r x.c x.k t.r t.c s.place y.clump a.clump (b.label ∙ t.label) in
        b.is p
        ∙ ap (λ (n : ℕ). first_of n x.c x.k) same.rows
        ∙ ap (λ (n : ℕ). first_of t.r n x.k) same.cols
        ∙ ap (λ (n : ℕ). first_of t.r t.c n) same.numbers
        ∙ ap (position_in_full_map (rectangle_of_tile_in_grid heights widths t.r t.c)) (get_or_default (firsts_of t.r t.c) s.place (position_at_row_and_column 0 0) t.a s.inside)

    starts-joined : (p : Position) → IsSome (cell_at_position whole p)
        → AreCellsConnected j whole (get_or starts (label_of p) p) p
    starts-joined p some =
        let t = in-tile p some in
        let s = t.listed_at in
        let first : Position = position_in_full_map (rectangle_of_tile_in_grid heights widths t.r t.c) (get_or (firsts_of t.r t.c) s.place t.a) in
        let inner = joined-moved j whole (record { place = rectangle_of_tile_in_grid heights widths t.r t.c; map = map_of t.r t.c }) (cut.tiles t.r t.c t.r_in t.c_in) (get_or (firsts_of t.r t.c) s.place t.a) t.a s.joined in
        subst (λ (q : Position). AreCellsConnected j whole q p) (sym (first-at p some t)) (subst (λ (q : Position). AreCellsConnected j whole first q) (sym t.is) inner)

    starts-early : (p : Position) → IsSome (cell_at_position whole p) → ¬ IsEarlierCell p (get_or starts (label_of p) p)
    starts-early p some behind =
        let t = in-tile p some in
        let s = t.listed_at in
        let place = rectangle_of_tile_in_grid heights widths t.r t.c in
        let first : Position = get_or (firsts_of t.r t.c) s.place t.a in
        s.early (before-moved place t.a first
        (subst (λ (q : Position). IsEarlierCell q (position_in_full_map place first)) t.is (subst (λ (q : Position). IsEarlierCell p q) (first-at p some t) behind)))

    -- a first cell bears its own label
    own-label : (r c k : ℕ) → Clump r c k → label_of (first_of r c k) ≡ label_of_clump_in_tile_grid grid r c k
    own-label r c k x =
        let a = at-of r c k x in
        let t = a.reports in
        let listed_at = listed_at-of j (map_of r c) (firsts_of r c) t.all (numbers_of r c) t.clumping (first_in r c k) a.some in
        let place = listed_at-own j (map_of r c) (firsts_of r c) t.all (numbers_of r c) t.clumping k (position_at_row_and_column 0 0) x.k_in listed_at in
        listed_at-label r c x.r_in x.c_in (first_in r c k) a.row a.col listed_at.place listed_at.number ∙ ap (label_of_clump_in_tile_grid grid r c) place

    starts-own : (k : ℕ) (d : Position) → k < length starts → label_of (get_or starts k d) ≡ k
    starts-own k d lt =
        let s = start k (omega (arith, lt, many-starts)) in
        let x = s.name in
        ap label_of (s.is d) ∙ own-label x.r x.c x.k s.clump ∙ s.label

    pub are-labelled : (pairs : List (ℕ × ℕ)) → AreMeetingLabelsPaired j whole label_of pairs → AreCellsLabelledInOrder j whole starts label_of pairs
    are-labelled pairs paired = record {
      in_order = starts-order;
      cells = starts-cells;
      own = starts-own;
      few = starts-few;
      joined = starts-joined;
      early = starts-early;
      meet = paired.meet;
      only = paired.only;
    }

pub labels-follow-first-cells : LabelsFollowFirstCells
labels-follow-first-cells j whole heights widths map_of numbers_of firsts_of grid cut report r c k s d l one other r_in c_in k_in s_in d_in l_in one_is other_is less =
    let h = follow j whole heights widths map_of numbers_of firsts_of grid cut report r c k s d l (record { r_in = r_in; c_in = c_in; k_in = k_in }) (record { r_in = s_in; c_in = d_in; k_in = l_in }) less in
    subst (λ (p : Position). IsEarlierCell p other) (sym one_is) (subst (λ (p : Position). IsEarlierCell (position_in_full_map (rectangle_of_tile_in_grid heights widths r c) (get_or (firsts_of r c) k (position_at_row_and_column 0 0))) p) (sym other_is) h)

pub clump-labels-are-labels : ClumpLabelsFitJoiningByPairs
clump-labels-are-labels j whole heights widths map_of numbers_of firsts_of grid cut report label_of bear = (
  starts j whole heights widths map_of numbers_of firsts_of grid cut report,
  many-starts j whole heights widths map_of numbers_of firsts_of grid cut report,
  are-labelled j whole heights widths map_of numbers_of firsts_of grid cut report label_of bear,
)
