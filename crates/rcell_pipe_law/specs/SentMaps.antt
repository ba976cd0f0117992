-- The maps that a caller of rcell-pipe sends, and the cells that their numbers or texts denote (profile).
use Rattle.std.specs.Prelude.{ℕ, ℤ, ◌≡◌, ◌<◌, ◌^◌, Bool, true, false, ◌&&◌, ◌||◌, List, length, map, All}
use Rattle.std.specs.Prelude.{IfSome, Some, None, if◌then◌else◌}
use Rattle.std.specs.Int.{w32, w64}
use Rattle.std.specs.Int.RustNames.{FitsSigned}
use Rattle.cell_core_values.specs.Cell.{is_category}
use Rattle.cell_core_values.specs.Name.{is_name}
use Rattle.cell_core_values.specs.Region.{RegionValue, IsValidRegion}
use Rattle.cell_core.specs.Grid.{CellValue, Grid, empty_category_labels}
use Rattle.cell_core.specs.Shelf.{ShelfValue}
use Rattle.cell_ascii_meaning.specs.EdgeNumbers.{coordinate_of_text}
use Rattle.cell_ascii_meaning.specs.GridText.{SourceDenotesMap}
use Rattle.rcell_pipe_request.specs.Heads.{LabelValue, is_bad_label}
use Rattle.rcell_pipe_rows.specs.Numbers.{can_represent_number}
use Rattle.rcell_pipe_rows.specs.RawRows.{is_nodata}
use Rattle.rcell_pipe_request.specs.Requests.{label_map_with_added_labels}
use Rattle.rcell_pipe_request.specs.declared.head.RawFormat.{RawFormat}
use Rattle.rcell_pipe_rows.specs.declared.kind.CellType.{CellType}

-- a number, and whether the mask hides it
pub record SentCell : Type 0 where
  pub number : ℤ
  pub hidden : Bool

-- a region, and its edges as the texts that are sent
pub record SentRegion : Type 0 where
  pub region : RegionValue
  pub north : List ℕ
  pub south : List ℕ
  pub east : List ℕ
  pub west : List ℕ

-- rows of numbers: the type of the numbers, the number that denotes null, if any, and whether the map has a mask; and
-- the rows from north to south
pub record SentRows : Type 0 where
  pub format : RawFormat
  pub rows : List (List SentCell)

-- the text of a grid, and the map that it denotes
pub record SentText : Type 0 where
  pub text : List ℕ
  pub map : Grid

-- the cells of a map: rows of numbers, or the text of a grid
pub data SentCells : Type 0 where
  Numbers : SentRows → SentCells
  Text : SentText → SentCells

-- a map: its name, its labels, and its cells
pub record SentMap : Type 0 where
  pub name : List ℕ
  pub labels : List LabelValue
  pub cells : SentCells

-- a cell is null if the mask hides it or its number denotes null
abbrev pub sent_cell_means_null : RawFormat → SentCell → Bool
sent_cell_means_null format cell = (format.is_masked && cell.hidden) || is_nodata format.nodata cell.number

-- the cell that a number denotes: null, or the number as a category
abbrev pub cell_of_sent_cell : RawFormat → SentCell → CellValue
cell_of_sent_cell format cell = if sent_cell_means_null format cell then None else Some cell.number

-- the rows of the map that numbers or a text denote
abbrev pub rows_of_sent_cells : SentCells → List (List CellValue)
rows_of_sent_cells (Numbers sent) = map (map (cell_of_sent_cell sent.format)) sent.rows
rows_of_sent_cells (Text sent) = sent.map.rows

-- the map of this region that is sent
abbrev pub grid_of_sent_map : RegionValue → SentMap → Grid
grid_of_sent_map region m = record {
  region = region;
  rows = rows_of_sent_cells m.cells;
  labels = label_map_with_added_labels empty_category_labels m.labels;
}

-- the maps of this region that are sent, with their names
abbrev pub shelf_of_sent_maps : RegionValue → List SentMap → ShelfValue
shelf_of_sent_maps region sent = record {
  region = region;
  names = map (λ m. m.name) sent;
  maps = map (grid_of_sent_map region) sent;
}

-- a number that the type can represent
pub record IsNumberOfCellType (kind : CellType) (number : ℤ) : Type 0 where
  pub has : can_represent_number kind number ≡ true
  pub fits : FitsSigned w64 number

-- a number of the type that is either null or a category
pub record IsSendableCell (format : RawFormat) (cell : SentCell) : Type 0 where
  pub number : IsNumberOfCellType format.kind cell.number
  pub means : (sent_cell_means_null format cell || is_category cell.number) ≡ true

-- a category and a text without line feeds, short enough for its length field
pub record IsSendableLabel (label : LabelValue) : Type 0 where
  pub good : is_bad_label label.category label.text ≡ false
  pub category : FitsSigned w32 label.category
  pub text : length label.text < 2 ^ 16

-- a short text that spells the coordinate `edge`
pub record IsSendableCoordinateText (edge : ℤ) (text : List ℕ) : Type 0 where
  pub short : length text < 2 ^ 8
  pub spelt : coordinate_of_text text ≡ Some edge

-- a region that can be sent
pub record IsSendableRegion (sent : SentRegion) : Type 0 where
  pub valid : IsValidRegion sent.region
  pub north : IsSendableCoordinateText sent.region.north sent.north
  pub south : IsSendableCoordinateText sent.region.south sent.south
  pub east : IsSendableCoordinateText sent.region.east sent.east
  pub west : IsSendableCoordinateText sent.region.west sent.west

-- the rows of a map of this region that can be sent
pub record AreSendableRows (region : RegionValue) (sent : SentRows) : Type 0 where
  pub nodata : IfSome sent.format.nodata (IsNumberOfCellType sent.format.kind)
  pub height : length sent.rows ≡ region.rows
  pub width : All (λ row. length row ≡ region.cols) sent.rows
  pub cells : All (All (IsSendableCell sent.format)) sent.rows

-- a text that denotes a map of this region, short enough for its length field
pub record IsSendableText (region : RegionValue) (sent : SentText) : Type 0 where
  pub denotes : SourceDenotesMap (record { bytes = sent.text; fails = false }) sent.map
  pub covers : sent.map.region ≡ region
  pub short : length sent.text < 2 ^ 64

abbrev pub AreSendableCells : RegionValue → SentCells → Type 0
AreSendableCells region (Numbers sent) = AreSendableRows region sent
AreSendableCells region (Text sent) = IsSendableText region sent

-- a map that can be sent in a request for this region
pub record IsSendableMap (region : RegionValue) (m : SentMap) : Type 0 where
  pub name : is_name m.name ≡ true
  pub count : length m.labels < 2 ^ 32
  pub labels : All IsSendableLabel m.labels
  pub cells : AreSendableCells region m.cells
