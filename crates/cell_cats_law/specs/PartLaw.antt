-- Tiles of reclassified maps, and their labels.
use Rattle.std.specs.Prelude.{ℕ, ◌≡◌, List, map}
use Rattle.cell_core.specs.Grid.{Grid}
use Rattle.cell_cats.specs.Rule.{RuleValue}
use Rattle.cell_cats.specs.Reclass.{reclassed_map}
use Rattle.cell_stats.specs.CategoryTables.{CombinationsWithCounts}
use Rattle.cell_stats.specs.TableText.{TableFormatValue, table_text}
use Rattle.cell_join_numbers.specs.Parts.{Rectangle, RowsAreCutOutOfMaps}

-- two lists of maps have the same labels
abbrev pub MapsHaveSameLabels : (whole part : List Grid) → Type 0
MapsHaveSameLabels whole part = map (λ m. m.labels) part ≡ map (λ m. m.labels) whole

-- reclassifying maps commutes with cutting a rectangle out of them
abbrev pub ReclassCommutesWithCutting : Type 0
ReclassCommutesWithCutting = (rules : List RuleValue) (r : Rectangle) (whole part : List Grid)
    → RowsAreCutOutOfMaps r whole part → RowsAreCutOutOfMaps r (map (reclassed_map rules) whole)
    (map (reclassed_map rules) part)

-- a reclassified rectangle has the labels of the full reclassified maps
abbrev pub ReclassedTilesKeepMapLabels : Type 0
ReclassedTilesKeepMapLabels = (rules : List RuleValue) (r : Rectangle) (whole part : List Grid)
    → RowsAreCutOutOfMaps r whole part → MapsHaveSameLabels (map (reclassed_map rules) whole)
    (map (reclassed_map rules) part)

-- if tiles have the labels of the full maps, a table is printed identically for both
abbrev pub TilesPrintLikeFullMap : Type 0
TilesPrintLikeFullMap = (whole part : List Grid) → MapsHaveSameLabels whole part
    → (format : TableFormatValue) (picks : List ℕ) (table : CombinationsWithCounts)
    → table_text format part picks table ≡ table_text format whole picks table
