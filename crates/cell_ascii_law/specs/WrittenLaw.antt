-- A written map is read back as the same region and rows.
use Rattle.std.specs.Prelude.{ℕ, ◌≢◌, false, List, All, IfSome, IsTrue}
use Rattle.std.specs.Fmt.{signed_decimal}
use Rattle.cell_core_values.specs.Region.{IsValidRegion}
use Rattle.cell_core.specs.Grid.{Grid, RowsFillRegion, empty_category_labels}
use Rattle.cell_ascii_meaning.specs.EdgeNumbers.{is_in_category_range}
use Rattle.cell_ascii_meaning.specs.GridText.{SourceDenotesMap}
use Rattle.cell_ascii_meaning.specs.Writing.{IsValidNullText, grid_text}

-- the map that a grid text denotes, which has no labels
abbrev pub map_without_labels : Grid → Grid
map_without_labels m = record { region = m.region; rows = m.rows; labels = empty_category_labels }

-- the map has a valid region and only nulls and categories in range, none of them written like the null text
pub record IsWritableMap (null_text : List ℕ) (m : Grid) : Type 0 where
  pub region : IsValidRegion m.region
  pub filled : RowsFillRegion m.region m.rows
  pub range : All (λ row. All (λ cell. IfSome cell (λ category. IsTrue (is_in_category_range category))) row) m.rows
  pub apart : All (λ row. All (λ cell. IfSome cell (λ category. signed_decimal category ≢ null_text)) row) m.rows

-- a written map is read back as the same region and rows
abbrev pub WrittenMapIsReadBack : Type 0
WrittenMapIsReadBack = (null_text : List ℕ) (m : Grid) → IsValidNullText null_text → IsWritableMap null_text m
    → SourceDenotesMap (record { bytes = grid_text null_text m; fails = false }) (map_without_labels m)
