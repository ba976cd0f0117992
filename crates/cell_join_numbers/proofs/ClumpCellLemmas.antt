-- Paths within tiles, and chains of these paths.
use Rattle.std.proofs.Common.{◌≡◌, ℕ, zero, suc, ℤ, ◌+◌, ◌-◌, ◌<◌, ◌≤◌, ◌↔◌, List, [], ◌∷◌, map, length, get_or, Bool, true, false, Some, None, IsSome, refl, ap, sym, ◌∙◌, arith, subst, inl, inr, ⊎_elim, ◌⊎◌}
use Rattle.std.specs.Prelude.{All, Contains}
use Rattle.std.proofs.lemmas.Bool.{leb-true, ltb-true}
use Rattle.std.proofs.lemmas.List.Elements.{All-nil, All-cons, All-head, All-tail}
use Rattle.cell_core.specs.Grid.{Grid, CellValue}
use Rattle.cell_clumps.specs.declared.clump.Joining.{Joining}
use Rattle.cell_clumps.specs.declared.clump.Joining.TheVariants.{Edges, EdgesAndCorners}
use Rattle.cell_clumps.specs.Clumps.{Position, cell_at_position, IsEarlierCell, DifferByOne, CellsShareEdge, AreAdjacent, IsPathFromTo, AreCellsConnected, IsFirstCellOfClump, IsClumpMapOf}
use Rattle.cell_clumps.proofs.PathLemmas.{AreJoined-refl, AreJoined-sym, AreJoined-first, AreJoined-last, AreJoined-adjacent, AreJoined-trans}
use Rattle.cell_clumps.proofs.LawLemmas.{cases_before}
use Rattle.cell_clumps.proofs.MeetingLemmas.{some_of}
use Rattle.cell_stats.proofs.SortedLemmas.{both_true}
use Rattle.cell_join_numbers.specs.Parts.{Rectangle, cell_is_in_rectangle}
use Rattle.cell_join_numbers.specs.ClumpParts.{Tile, position_in_full_map, IsInRectangle, IsTileOfFullMap, AreConnectedInTile, AreLinkedByTileOrSeam, IsChainOfLinks, PathsAreChainsOfTileLinks, NumberedTile, AreLinkedByNumberOrSeam, PathsAreChainsOfNumberLinks, ClumpStartsAreTileClumpStarts, FullMapClumpStartsFromTiles}

-- ---- adjacency, moved and back

pub neighbours-moved : (n i j : ℕ) → DifferByOne i j → DifferByOne (n + i) (n + j)
neighbours-moved n i j (inl e) = inl (omega (arith, e))
neighbours-moved n i j (inr e) = inr (omega (arith, e))

pub neighbours-back : (n i j : ℕ) → DifferByOne (n + i) (n + j) → DifferByOne i j
neighbours-back n i j (inl e) = inl (omega (arith, e))
neighbours-back n i j (inr e) = inr (omega (arith, e))

pub same-back : (n i j : ℕ) → n + i ≡ n + j → i ≡ j
same-back n i j e = omega (arith, e)

-- adjacent cells lie in one row, or in neighbouring ones
pub rows-near : (j : Joining) (p q : Position) → AreAdjacent j p q → (p.row ≡ q.row) ⊎ DifferByOne p.row q.row
rows-near Edges p q (inl e) = inl e.0
rows-near Edges p q (inr e) = inr e.0
rows-near EdgesAndCorners p q (inl (inl e)) = inl e.0
rows-near EdgesAndCorners p q (inl (inr e)) = inr e.0
rows-near EdgesAndCorners p q (inr h) = inr h.0

module _ (r : Rectangle) (p q : Position) where
  edge-moved : CellsShareEdge p q → CellsShareEdge (position_in_full_map r p) (position_in_full_map r q)
  edge-moved (inl e) = inl (ap (λ n. r.top + n) e.0, neighbours-moved r.left _ _ e.1)
  edge-moved (inr e) = inr (neighbours-moved r.top _ _ e.0, ap (λ n. r.left + n) e.1)

  edge-back : CellsShareEdge (position_in_full_map r p) (position_in_full_map r q) → CellsShareEdge p q
  edge-back (inl e) = inl (same-back r.top _ _ e.0, neighbours-back r.left _ _ e.1)
  edge-back (inr e) = inr (neighbours-back r.top _ _ e.0, same-back r.left _ _ e.1)

pub adjacent-moved : (r : Rectangle) (j : Joining) (p q : Position) → AreAdjacent j p q → AreAdjacent j (position_in_full_map r p) (position_in_full_map r q)
adjacent-moved r Edges p q h = edge-moved r p q h
adjacent-moved r EdgesAndCorners p q (inl h) = inl (edge-moved r p q h)
adjacent-moved r EdgesAndCorners p q (inr h) = inr (neighbours-moved r.top _ _ h.0, neighbours-moved r.left _ _ h.1)

pub adjacent-back : (r : Rectangle) (j : Joining) (p q : Position) → AreAdjacent j (position_in_full_map r p) (position_in_full_map r q) → AreAdjacent j p q
adjacent-back r Edges p q h = edge-back r p q h
adjacent-back r EdgesAndCorners p q (inl h) = inl (edge-back r p q h)
adjacent-back r EdgesAndCorners p q (inr h) = inr (neighbours-back r.top _ _ h.0, neighbours-back r.left _ _ h.1)

-- ---- paths of a tile, in the full map

pub is-some : (c : CellValue) (v : ℤ) → c ≡ Some v → IsSome c
is-some None v e = cc
is-some (Some w) v e = search

-- a path is kept by a move that keeps cells and adjacency
module _ (j : Joining) (m whole : Grid) (to : Position → Position) (near : (p q : Position) → AreAdjacent j p q → AreAdjacent j (to p) (to q)) (cell : (v : ℤ) (p : Position) → cell_at_position m p ≡ Some v → cell_at_position whole (to p) ≡ Some v) where
  leads-by : (p : Position) (others : List Position) (q : Position) → IsPathFromTo j p others q → IsPathFromTo j (to p) (map to others) (to q)
  leads-by p [] q h = ap to h
  leads-by p (x ∷ others) q h = (near p x h.0, leads-by x others q h.1)

  alike-by : (v : ℤ) (ps : List Position) → All (λ s. cell_at_position m s ≡ Some v) ps → All (λ s. cell_at_position whole s ≡ Some v) (map to ps)
  alike-by v [] all = All-nil (λ s. cell_at_position whole s ≡ Some v)
  alike-by v (p ∷ ps) all =
      All-cons (λ s. cell_at_position whole s ≡ Some v) (to p) (map to ps)
      (cell v p (All-head (λ s. cell_at_position m s ≡ Some v) p ps all))
      (alike-by v ps (All-tail (λ s. cell_at_position m s ≡ Some v) p ps all))

  pub joined-by : (p q : Position) → AreCellsConnected j m p q → AreCellsConnected j whole (to p) (to q)
  joined-by p q h = record {
    category = h.category;
    others = map to h.others;
    leads = leads-by p h.others q h.leads;
    alike = alike-by h.category (p ∷ h.others) h.alike;
  }

-- the position within a rectangle of a cell of the full map
abbrev inside-of : Rectangle → Position → Position
inside-of r s = record { row = s.row - r.top; col = s.col - r.left }

record InBounds (r : Rectangle) (row col : ℕ) : Type 0 where
  from_top : r.top ≤ row
  from_left : r.left ≤ col
  above_end : row < r.top + r.rows
  before_end : col < r.left + r.cols

in-bounds : (r : Rectangle) (row col : ℕ) → cell_is_in_rectangle r row col ≡ true → InBounds r row col
in-bounds r row col is =
    let halves = both_true _ _ is in
    let rows = both_true _ _ halves.0 in
    let cols = both_true _ _ halves.1 in
    record {
      from_top = leb-true r.top row rows.0;
      from_left = leb-true r.left col cols.0;
      above_end = ltb-true row (r.top + r.rows) rows.1;
      before_end = ltb-true col (r.left + r.cols) cols.1;
    }

moved-inside : (r : Rectangle) (s : Position) → IsInRectangle r s → s ≡ position_in_full_map r (inside-of r s)
moved-inside r s place_is_up_to_last_cell =
    let within = in-bounds r s.row s.col place_is_up_to_last_cell in
    let rows : s.row ≡ r.top + (s.row - r.top) = omega (arith, within.from_top) in
    let cols : s.col ≡ r.left + (s.col - r.left) = omega (arith, within.from_left) in
    λ i. record { row = rows i; col = cols i }

module _ (whole : Grid) (t : Tile) (tile : IsTileOfFullMap whole t) where
  cell-moved : (v : ℤ) (p : Position) → cell_at_position t.map p ≡ Some v
      → cell_at_position whole (position_in_full_map t.place p) ≡ Some v
  cell-moved v p is =
      let inside = tile.outside p (is-some _ v is) in
      sym (tile.cells p inside.0 inside.1) ∙ is

  joined-moved : (j : Joining) (p q : Position) → AreCellsConnected j t.map p q → AreCellsConnected j whole (position_in_full_map t.place p) (position_in_full_map t.place q)
  joined-moved j p q h = joined-by j t.map whole (position_in_full_map t.place)
      (adjacent-moved t.place j) cell-moved p q h

  joined-in : (j : Joining) (p q : Position) → AreConnectedInTile j t p q → AreCellsConnected j whole p q
  joined-in j p q h =
      let inner = joined-moved j h.0 h.1 h.4 in
      subst (λ (s : Position). AreCellsConnected j whole s q) (sym h.2) (subst (λ (s : Position). AreCellsConnected j whole (position_in_full_map t.place h.0) s) (sym h.3) inner)

  -- a cell of the full map in the tile's rectangle is a cell of the tile
  cell-inside : (s : Position) (v : ℤ) → IsInRectangle t.place s → cell_at_position whole s ≡ Some v → cell_at_position t.map (inside-of t.place s) ≡ Some v
  cell-inside s v place_is_up_to_last_cell is =
      let within = in-bounds t.place s.row s.col place_is_up_to_last_cell in
      let row : s.row - t.place.top < t.place.rows = omega (arith, within.from_top, within.above_end) in
      let col : s.col - t.place.left < t.place.cols = omega (arith, within.from_left, within.before_end) in
      tile.cells (inside-of t.place s) row col ∙ ap (cell_at_position whole) (sym (moved-inside t.place s place_is_up_to_last_cell)) ∙ is

  -- adjacent cells of the same category that both lie in the tile are joined in the tile
  step-in : (j : Joining) (p q : Position) (v : ℤ) → AreAdjacent j p q → cell_at_position whole p ≡ Some v → cell_at_position whole q ≡ Some v → IsInRectangle t.place p → IsInRectangle t.place q → AreConnectedInTile j t p q
  step-in j p q v near first second in_p in_q =
      let a = inside-of t.place p in
      let b = inside-of t.place q in
      let is_a : p ≡ position_in_full_map t.place a = moved-inside t.place p in_p in
      let is_b : q ≡ position_in_full_map t.place b = moved-inside t.place q in_q in
      let near_too : AreAdjacent j (position_in_full_map t.place a) (position_in_full_map t.place b) = subst (λ (s : Position). AreAdjacent j s (position_in_full_map t.place b)) is_a (subst (λ (s : Position). AreAdjacent j p s) is_b near) in
      (a, b, is_a, is_b, AreJoined-adjacent j t.map a b v (adjacent-back t.place j a b near_too) (cell-inside p v in_p first) (cell-inside q v in_q second))

-- ---- the tile that contains both of two cells

decide-in : (r : Rectangle) (p : Position) → IsInRectangle r p ⊎ (¬ IsInRectangle r p)
decide-in r p = by (cell_is_in_rectangle r p.row p.col) refl
  where
    by : (b : Bool) → cell_is_in_rectangle r p.row p.col ≡ b → IsInRectangle r p ⊎ (¬ IsInRectangle r p)
    by true e = inl e
    by false e = inr (λ h. let both : true ≡ false = sym h ∙ e in cc)

abbrev Both : List Tile → Position → Position → Type 0
Both tiles p q = (t : Tile) × Contains tiles t × IsInRectangle t.place p × IsInRectangle t.place q

abbrev Apart : List Tile → Position → Position → Type 0
Apart tiles p q = All (λ t. IsInRectangle t.place p → ¬ IsInRectangle t.place q) tiles

which : (tiles : List Tile) (p q : Position) → Both tiles p q ⊎ Apart tiles p q
which [] p q = inr (All-nil (λ t. IsInRectangle t.place p → ¬ IsInRectangle t.place q))
which (t ∷ tiles) p q = by (decide-in t.place p) (decide-in t.place q) (which tiles p q)
  where
    more : Both tiles p q ⊎ Apart tiles p q → (IsInRectangle t.place p → ¬ IsInRectangle t.place q) → Both (t ∷ tiles) p q ⊎ Apart (t ∷ tiles) p q
    more (inl h) none = inl (h.0, (suc h.1.0, omega (arith, h.1.1), h.1.2), h.2, h.3)
    more (inr h) none = inr (All-cons (λ t. IsInRectangle t.place p → ¬ IsInRectangle t.place q) t tiles none h)

    by : IsInRectangle t.place p ⊎ (¬ IsInRectangle t.place p) → IsInRectangle t.place q ⊎ (¬ IsInRectangle t.place q) → Both tiles p q ⊎ Apart tiles p q → Both (t ∷ tiles) p q ⊎ Apart (t ∷ tiles) p q
    by (inl a) (inl b) rest = inl (t, (0, omega arith, refl), a, b)
    by (inl a) (inr b) rest = more rest (λ _. b)
    by (inr a) b rest = more rest (λ x. absurd (a x))

-- ---- chains

tile-of : (whole : Grid) (tiles : List Tile) (all : All (IsTileOfFullMap whole) tiles) (t : Tile) → Contains tiles t → IsTileOfFullMap whole t
tile-of whole tiles all t c = subst (IsTileOfFullMap whole) c.2 (all c.0 t c.1)

-- if links join, chains do
chain-joins : (j : Joining) (whole : Grid) (Link : Position → Position → Type 0) → ((p q : Position) → Link p q → AreCellsConnected j whole p q) → (v : ℤ) (p : Position) (others : List Position) (q : Position) → cell_at_position whole p ≡ Some v → IsChainOfLinks Link p others q → AreCellsConnected j whole p q
chain-joins j whole Link joins v p [] q is h = subst (λ (s : Position). AreCellsConnected j whole p s) h (AreJoined-refl j whole p v is)
chain-joins j whole Link joins v p (x ∷ others) q is h =
    let here = joins p x h.0 in
    AreJoined-trans j whole p x q here (chain-joins j whole Link joins here.category x others q (AreJoined-last j whole p x here) h.1)

-- if each step of a path is a link, the path is a chain
path-chains : (j : Joining) (whole : Grid) (Link : Position → Position → Type 0) → ((p q : Position) (v : ℤ) → AreAdjacent j p q → cell_at_position whole p ≡ Some v → cell_at_position whole q ≡ Some v → Link p q) → (v : ℤ) (p : Position) (others : List Position) (q : Position) → IsPathFromTo j p others q → All (λ s. cell_at_position whole s ≡ Some v) (p ∷ others) → IsChainOfLinks Link p others q
path-chains j whole Link links v p [] q h alike = h
path-chains j whole Link links v p (x ∷ others) q h alike =
    let first = All-head (λ s. cell_at_position whole s ≡ Some v) p (x ∷ others) alike in
    let rest = All-tail (λ s. cell_at_position whole s ≡ Some v) p (x ∷ others) alike in
    let second = All-head (λ s. cell_at_position whole s ≡ Some v) x others rest in
    (links p x v h.0 first second, path-chains j whole Link links v x others q h.1 rest)

pub joined-chained : (j : Joining) (whole : Grid) (Link : Position → Position → Type 0) → ((p q : Position) → Link p q → AreCellsConnected j whole p q) → ((p q : Position) (v : ℤ) → AreAdjacent j p q → cell_at_position whole p ≡ Some v → cell_at_position whole q ≡ Some v → Link p q) → (p q : Position) → IsSome (cell_at_position whole p) → AreCellsConnected j whole p q ↔ ((others : List Position) × IsChainOfLinks Link p others q)
joined-chained j whole Link joins links p q some = (
  λ h. (h.others, path-chains j whole Link links h.category p h.others q h.leads h.alike),
  λ h. let is = some_of (cell_at_position whole p) some in chain-joins j whole Link joins is.0 p h.0 q is.1 h.1,
)

module _ (j : Joining) (whole : Grid) (tiles : List Tile) (all : All (IsTileOfFullMap whole) tiles) where
  link-joins : (p q : Position) → AreLinkedByTileOrSeam j whole tiles p q → AreCellsConnected j whole p q
  link-joins p q (inl h) = joined-in whole h.0 (tile-of whole tiles all h.0 h.1) j p q h.2
  link-joins p q (inr h) = AreJoined-adjacent j whole p q h.category h.adjacent h.first h.second

  step-links : (p q : Position) (v : ℤ) → AreAdjacent j p q → cell_at_position whole p ≡ Some v → cell_at_position whole q ≡ Some v → AreLinkedByTileOrSeam j whole tiles p q
  step-links p q v near first second = by (which tiles p q)
    where
      by : Both tiles p q ⊎ Apart tiles p q → AreLinkedByTileOrSeam j whole tiles p q
      by (inl h) = inl (h.0, h.1, step-in whole h.0 (tile-of whole tiles all h.0 h.1) j p q v near first second h.2 h.3)
      by (inr h) = inr (record { category = v; adjacent = near; first = first; second = second; apart = h })

pub clumps-join : PathsAreChainsOfTileLinks
clumps-join j whole tiles all p q some = joined-chained j whole (AreLinkedByTileOrSeam j whole tiles) (link-joins j whole tiles all) (step-links j whole tiles all) p q some

-- ---- clump numbers in tiles

tiles-of : (whole : Grid) (j : Joining) (numbered : List NumberedTile) → All (λ n. IsTileOfFullMap whole n.tile × IsClumpMapOf j n.tile.map n.numbers) numbered → All (IsTileOfFullMap whole) (map (λ n. n.tile) numbered)
tiles-of whole j [] all = All-nil (IsTileOfFullMap whole)
tiles-of whole j (n ∷ numbered) all =
    All-cons (IsTileOfFullMap whole) n.tile (map (λ n. n.tile) numbered)
    (All-head (λ n. IsTileOfFullMap whole n.tile × IsClumpMapOf j n.tile.map n.numbers) n numbered all).0
    (tiles-of whole j numbered (All-tail (λ n. IsTileOfFullMap whole n.tile
    × IsClumpMapOf j n.tile.map n.numbers) n numbered all))

numbered-at : (numbered : List NumberedTile) (t : Tile) (k : ℕ) → k < length (map (λ n. n.tile) numbered) → get_or (map (λ n. n.tile) numbered) k t ≡ t → (n : NumberedTile) × Contains numbered n × (n.tile ≡ t)
numbered-at [] t k lt e = absurd (omega (arith, lt))
numbered-at (n ∷ numbered) t zero lt e = (n, (0, omega arith, refl), e)
numbered-at (n ∷ numbered) t (suc k) lt e =
    let rest = numbered-at numbered t k (omega (arith, lt)) e in
    (rest.0, (suc rest.1.0, omega (arith, rest.1.1), rest.1.2), rest.2)

module _ (j : Joining) (whole : Grid) (numbered : List NumberedTile) (all : All (λ n. IsTileOfFullMap whole n.tile × IsClumpMapOf j n.tile.map n.numbers) numbered) where
  both-of : (n : NumberedTile) → Contains numbered n → IsTileOfFullMap whole n.tile
      × IsClumpMapOf j n.tile.map n.numbers
  both-of n c = subst (λ (x : NumberedTile). IsTileOfFullMap whole x.tile
      × IsClumpMapOf j x.tile.map x.numbers) c.2 (all c.0 n c.1)

  number-joins : (p q : Position) → AreLinkedByNumberOrSeam j whole numbered p q → AreCellsConnected j whole p q
  number-joins p q (inl h) =
      let n = h.0 in
      let both = both-of n h.1 in
      let same = h.2 in
      joined-in whole n.tile both.0 j p q (same.0, same.1, same.2, same.3, (both.1.same same.0 same.1 same.4 same.5).0 same.6)
  number-joins p q (inr h) = AreJoined-adjacent j whole p q h.category h.adjacent h.first h.second

  step-numbers : (p q : Position) (v : ℤ) → AreAdjacent j p q → cell_at_position whole p ≡ Some v → cell_at_position whole q ≡ Some v → AreLinkedByNumberOrSeam j whole numbered p q
  step-numbers p q v near first second = by (step-links j whole (map (λ n. n.tile) numbered) (tiles-of whole j numbered all) p q v near first second)
    where
      by : AreLinkedByTileOrSeam j whole (map (λ n. n.tile) numbered) p q → AreLinkedByNumberOrSeam j whole numbered p q
      by (inl h) =
          let from = numbered-at numbered h.0 h.1.0 h.1.1 h.1.2 in
          let n = from.0 in
          let both = both-of n from.1 in
          let joined : AreConnectedInTile j n.tile p q = subst (λ (t : Tile). AreConnectedInTile j t p q)
          (sym from.2) h.2 in
          let first_some = is-some (cell_at_position n.tile.map joined.0) joined.4.category (AreJoined-first j n.tile.map joined.0 joined.1 joined.4) in
          let last_some = is-some (cell_at_position n.tile.map joined.1) joined.4.category (AreJoined-last j n.tile.map joined.0 joined.1 joined.4) in
          inl (n, from.1, (joined.0, joined.1, joined.2, joined.3, first_some, last_some, (both.1.same joined.0 joined.1 first_some last_some).1 joined.4))
      by (inr h) = inr h

pub numbers-join : PathsAreChainsOfNumberLinks
numbers-join j whole numbered all p q some = joined-chained j whole (AreLinkedByNumberOrSeam j whole numbered) (number-joins j whole numbered all) (step-numbers j whole numbered all) p q some

-- ---- first cells

before-moved : (r : Rectangle) (p q : Position) → IsEarlierCell p q
    → IsEarlierCell (position_in_full_map r p) (position_in_full_map r q)
before-moved r p q (inl h) = inl (omega (arith, h))
before-moved r p q (inr h) = inr (ap (λ n. r.top + n) h.0, omega (arith, h.1))

pub firsts-are-firsts : ClumpStartsAreTileClumpStarts
firsts-are-firsts j whole t tile p row col h = record {
  category = subst (λ (c : CellValue). IsSome c) (sym (tile.cells p row col)) h.category;
  none_before = λ q before joined. h.none_before (position_in_full_map t.place q) (before-moved t.place q p before) (joined-moved whole t tile j q p joined);
}

pub before-then : (p q s : Position) → IsEarlierCell p q → IsEarlierCell q s → IsEarlierCell p s
before-then p q s (inl a) (inl b) = inl (omega (arith, a, b))
before-then p q s (inl a) (inr b) = inl (let e = b.0 in omega (arith, a, e))
before-then p q s (inr a) (inl b) = inl (let e = a.0 in omega (arith, e, b))
before-then p q s (inr a) (inr b) = inr (a.0 ∙ b.0, omega (arith, a.1, b.1))

-- a first cell that is joined to a cell, and is not later than that cell
record HasFirst (j : Joining) (m : Grid) (p : Position) : Type 0 where
  first : Position
  is_first : IsFirstCellOfClump j m first
  joined : AreCellsConnected j m first p
  at_or_before : (first ≡ p) ⊎ IsEarlierCell first p

has-first : (j : Joining) (m numbers : Grid) → IsClumpMapOf j m numbers → (p : Position) → IsSome (cell_at_position m p) → HasFirst j m p
has-first j m numbers clumping p some =
    let number = (clumping.numbered p some).1 in
    let f = number.first in
    let not_behind : ¬ IsEarlierCell p f = λ behind. number.is_first.none_before p behind (AreJoined-sym j m f p number.joined) in
    record {
      first = f;
      is_first = number.is_first;
      joined = number.joined;
      at_or_before = ⊎_elim (λ same. inl same) (λ other. ⊎_elim (λ before. inr before) (λ behind. absurd (not_behind behind)) other) (cases_before f p);
    }

pub firsts-of-the-whole : FullMapClumpStartsFromTiles
firsts-of-the-whole j whole numbered all cover n has p row col = (
  λ h. (firsts-are-firsts j whole n.tile tile p row col h, λ m has_m q first before joined. h.none_before (position_in_full_map m.tile.place q) before joined),
  λ h. record {
    category = subst (λ (c : CellValue). IsSome c) (tile.cells p row col) h.0.category;
    none_before = λ q before joined.
        let v = joined.category in
        let is = AreJoined-first j whole q here joined in
        let covered = cover q (is-some (cell_at_position whole q) v is) in
        let m = covered.0 in
        let both = both-of j whole numbered all m covered.1 in
        let a = inside-of m.tile.place q in
        let is_a : q ≡ position_in_full_map m.tile.place a = moved-inside m.tile.place q covered.2 in
        let inner = cell-inside whole m.tile both.0 q v covered.2 is in
        let first = has-first j m.tile.map m.numbers both.1 a (is-some (cell_at_position m.tile.map a) v inner) in
        let outer = joined-moved whole m.tile both.0 j first.first a first.joined in
        let to_q : AreCellsConnected j whole (position_in_full_map m.tile.place first.first) q = subst (λ (s : Position). AreCellsConnected j whole (position_in_full_map m.tile.place first.first) s) (sym is_a) outer in
        let early : IsEarlierCell (position_in_full_map m.tile.place first.first) here =
        ⊎_elim (λ same. subst (λ (s : Position). IsEarlierCell s here) (is_a ∙ ap (position_in_full_map m.tile.place) (sym same)) before)
        (λ less. before-then (position_in_full_map m.tile.place first.first) q here (subst (λ (s : Position). IsEarlierCell (position_in_full_map m.tile.place first.first) s) (sym is_a) (before-moved m.tile.place first.first a less)) before)
        first.at_or_before in
        h.1 m covered.1 first.first first.is_first early (AreJoined-trans j whole (position_in_full_map m.tile.place first.first) q here to_q joined);
  },
)
  where
    tile : IsTileOfFullMap whole n.tile
    tile = (both-of j whole numbered all n has).0

    here : Position
    here = position_in_full_map n.tile.place p
