-- Clumps over tiles: paths within tiles, and adjacent cells at their seams, determine the clumps of the full map.
use Rattle.std.specs.Prelude.{ℤ, ◌+◌, ◌<◌, ◌≡◌, ◌⊎◌, ◌↔◌, List, [], ◌∷◌, map, Some, IsSome, IsTrue, All, Contains}
use Rattle.cell_core.specs.Grid.{Grid}
use Rattle.cell_clumps.specs.declared.clump.Joining.{Joining}
use Rattle.cell_clumps.specs.Clumps.{Position, cell_at_position, AreAdjacent, AreCellsConnected, IsEarlierCell}
use Rattle.cell_clumps.specs.Clumps.{IsFirstCellOfClump, IsClumpMapOf}
use Rattle.cell_join_numbers.specs.Parts.{Rectangle, cell_is_in_rectangle, cells_of_rectangle}

-- the list is a chain of links from p to q
abbrev pub IsChainOfLinks : (Position → Position → Type 0) → Position → List Position → Position → Type 0
IsChainOfLinks Link p [] q = p ≡ q
IsChainOfLinks Link p (next ∷ others) q = Link p next × IsChainOfLinks Link next others q

-- a tile: a rectangle of the full map, and the map of its cells
pub record Tile : Type 0 where
  pub place : Rectangle
  pub map : Grid

-- the position in the full map of a cell of a tile
abbrev pub position_in_full_map : Rectangle → Position → Position
position_in_full_map r p = record { row = r.top + p.row; col = r.left + p.col }

-- the position is inside the rectangle
abbrev pub IsInRectangle : Rectangle → Position → Type 0
IsInRectangle r p = IsTrue (cell_is_in_rectangle r p.row p.col)

-- the tile has the cells of its rectangle, and is null outside it
pub record IsTileOfFullMap (whole : Grid) (t : Tile) : Type 0 where
  pub cells : (p : Position) → p.row < t.place.rows → p.col < t.place.cols
      → cell_at_position t.map p ≡ cell_at_position whole (position_in_full_map t.place p)
  pub outside : (p : Position) → IsSome (cell_at_position t.map p) → (p.row < t.place.rows) × (p.col < t.place.cols)

-- a path within the tile connects two cells of the full map
abbrev pub AreConnectedInTile : Joining → Tile → Position → Position → Type 0
AreConnectedInTile j t p q = (a b : Position) × (p ≡ position_in_full_map t.place a)
    × (q ≡ position_in_full_map t.place b) × AreCellsConnected j t.map a b

-- two adjacent cells of the same category meet at a seam: no tile contains both
pub record CellsMeetAtSeam (j : Joining) (whole : Grid) (tiles : List Tile) (p q : Position) : Type 0 where
  pub category : ℤ
  pub adjacent : AreAdjacent j p q
  pub first : cell_at_position whole p ≡ Some category
  pub second : cell_at_position whole q ≡ Some category
  pub apart : All (λ t. IsInRectangle t.place p → ¬ IsInRectangle t.place q) tiles

-- two cells are linked: by a path within a tile, or by a step across a seam
abbrev pub AreLinkedByTileOrSeam : Joining → Grid → List Tile → Position → Position → Type 0
AreLinkedByTileOrSeam j whole tiles p q = ((t : Tile) × Contains tiles t
    × AreConnectedInTile j t p q) ⊎ CellsMeetAtSeam j whole tiles p q

-- for any tiles of a map, a path connects two cells if and only if a chain of links does
abbrev pub PathsAreChainsOfTileLinks : Type 0
PathsAreChainsOfTileLinks = (j : Joining) (whole : Grid) (tiles : List Tile) → All (IsTileOfFullMap whole) tiles
    → (p q : Position) → IsSome (cell_at_position whole p) → AreCellsConnected j whole p q
    ↔ ((others : List Position) × IsChainOfLinks (AreLinkedByTileOrSeam j whole tiles) p others q)

-- a tile and its clump map
pub record NumberedTile : Type 0 where
  pub tile : Tile
  pub numbers : Grid

-- two cells of the full map have the same number in a tile
abbrev pub CellsHaveSameNumberInTile : NumberedTile → Position → Position → Type 0
CellsHaveSameNumberInTile n p q = (a b : Position) × (p ≡ position_in_full_map n.tile.place a)
    × (q ≡ position_in_full_map n.tile.place b) × IsSome (cell_at_position n.tile.map a)
    × IsSome (cell_at_position n.tile.map b) × (cell_at_position n.numbers a ≡ cell_at_position n.numbers b)

-- two cells are linked: by the same number in a tile, or by a step across a seam
abbrev pub AreLinkedByNumberOrSeam : Joining → Grid → List NumberedTile → Position → Position → Type 0
AreLinkedByNumberOrSeam j whole numbered p q = ((n : NumberedTile) × Contains numbered n
    × CellsHaveSameNumberInTile n p q) ⊎ CellsMeetAtSeam j whole (map (λ n. n.tile) numbered) p q

-- the clump numbers of the tiles and the steps across their seams determine which cells of the full map are connected
abbrev pub PathsAreChainsOfNumberLinks : Type 0
PathsAreChainsOfNumberLinks = (j : Joining) (whole : Grid) (numbered : List NumberedTile)
    → All (λ n. IsTileOfFullMap whole n.tile × IsClumpMapOf j n.tile.map n.numbers) numbered → (p q : Position)
    → IsSome (cell_at_position whole p) → AreCellsConnected j whole p q
    ↔ ((others : List Position) × IsChainOfLinks (AreLinkedByNumberOrSeam j whole numbered) p others q)

-- the first cell of a clump of the full map is also the first cell of a clump of its tile
abbrev pub ClumpStartsAreTileClumpStarts : Type 0
ClumpStartsAreTileClumpStarts = (j : Joining) (whole : Grid) (t : Tile) → IsTileOfFullMap whole t → (p : Position)
    → p.row < t.place.rows → p.col < t.place.cols → IsFirstCellOfClump j whole (position_in_full_map t.place p)
    → IsFirstCellOfClump j t.map p

-- if every non-null cell is in a tile, the first cells of clumps of the full map are the first cells of clumps of tiles
-- that are not connected to an earlier first cell
abbrev pub FullMapClumpStartsFromTiles : Type 0
FullMapClumpStartsFromTiles = (j : Joining) (whole : Grid) (numbered : List NumberedTile)
    → All (λ n. IsTileOfFullMap whole n.tile × IsClumpMapOf j n.tile.map n.numbers) numbered
    → ((p : Position) → IsSome (cell_at_position whole p) → (n : NumberedTile) × Contains numbered n
    × IsInRectangle n.tile.place p) → (n : NumberedTile) → Contains numbered n → (p : Position)
    → p.row < n.tile.place.rows → p.col < n.tile.place.cols → IsFirstCellOfClump j whole
    (position_in_full_map n.tile.place p) ↔ (IsFirstCellOfClump j n.tile.map p
    × ((m : NumberedTile) → Contains numbered m → (q : Position) → IsFirstCellOfClump j m.tile.map q
    → IsEarlierCell (position_in_full_map m.tile.place q) (position_in_full_map n.tile.place p)
    → ¬ AreCellsConnected j whole (position_in_full_map m.tile.place q) (position_in_full_map n.tile.place p)))

-- cutting a rectangle out of a map produces a tile
abbrev pub CutOutsAreTiles : Type 0
CutOutsAreTiles = (r : Rectangle) (whole part : Grid) → part.rows ≡ cells_of_rectangle r whole.rows
    → IsTileOfFullMap whole (record { place = r; map = part })
