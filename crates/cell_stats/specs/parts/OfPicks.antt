-- Combinations of picked maps.
use Rattle.std.specs.Prelude.{◌≡◌, ◌<◌, ℕ, List, length}
use Rattle.cell_core.specs.Shelf.{ShelfValue}
use Rattle.cell_stats_combinations.specs.Combinations.{ArePicksOnShelf, Combination}

-- the combination has a cell for each picked map, and at least one map is picked
pub record HasCellPerPickedMap (shelf : ShelfValue) (picks : List ℕ) (cells : Combination) : Type 0 where
  pub picked : ArePicksOnShelf shelf picks
  pub some : 0 < length picks
  pub width : length cells ≡ length picks
