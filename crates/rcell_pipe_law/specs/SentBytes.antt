-- The bytes that a caller writes for a region, maps and a script: each length or count precedes what it counts, and
-- numbers have their lowest byte first (profile).
use Rattle.std.specs.Prelude.{ℕ, ℤ, pos, ◌+◌, ◌*◌, Bool, true, false, List, [], ◌++◌, length, map, flat_map}
use Rattle.std.specs.Prelude.{Option, is_some, unwrap_or, if◌then◌else◌}
use Rattle.std.specs.Int.{Width, w8, w16, w32, w64, to_le_bytes, cast_unsigned}
use Rattle.rcell_pipe_request.specs.Heads.{LabelValue}
use Rattle.rcell_pipe_rows.specs.Numbers.{bit_width_of_cell_type}
use Rattle.rcell_pipe_request.specs.declared.head.RawFormat.{RawFormat}
use Rattle.rcell_pipe_rows.specs.declared.kind.CellType.{CellType}
use Rattle.rcell_pipe_rows.specs.declared.kind.CellType.TheVariants.{U8, I8, U16, I16, U32, I32, I64}
use Rattle.rcell_pipe_law.specs.SentMaps.{SentCell, SentCells, Numbers, Text, SentMap, SentRegion}

-- a number in two's complement
abbrev pub twos_complement_bytes : Width → ℤ → List ℕ
twos_complement_bytes w number = to_le_bytes w (cast_unsigned w number)

-- a text, preceded by its length
abbrev pub text_with_length_bytes : Width → List ℕ → List ℕ
text_with_length_bytes w text = to_le_bytes w (length text) ++ text

abbrev pub code_of_cell_type : CellType → ℕ
code_of_cell_type U8 = 1
code_of_cell_type I8 = 2
code_of_cell_type U16 = 3
code_of_cell_type I16 = 4
code_of_cell_type U32 = 5
code_of_cell_type I32 = 6
code_of_cell_type I64 = 7

abbrev pub one_if_true : Bool → ℕ
one_if_true true = 1
one_if_true false = 0

-- flag 1: a number denotes null; flag 2: the map has a mask
abbrev pub null_and_mask_flags : Option ℤ → Bool → ℕ
null_and_mask_flags nodata is_masked = one_if_true (is_some nodata) + 2 * one_if_true is_masked

-- the type, the flags, and the number that denotes null, or 0 if none does
abbrev pub raw_format_bytes : RawFormat → List ℕ
raw_format_bytes format =
    to_le_bytes w8 (code_of_cell_type format.kind)
    ++ (to_le_bytes w8 (null_and_mask_flags format.nodata format.is_masked)
    ++ twos_complement_bytes w64 (unwrap_or format.nodata (pos 0)))

-- the type of a text grid, no flags, and the nodata value 0
abbrev pub text_format_bytes : List ℕ
text_format_bytes = to_le_bytes w8 8 ++ (to_le_bytes w8 0 ++ twos_complement_bytes w64 (pos 0))

abbrev pub sent_format_bytes : SentCells → List ℕ
sent_format_bytes (Numbers sent) = raw_format_bytes sent.format
sent_format_bytes (Text sent) = text_format_bytes

abbrev pub label_bytes : LabelValue → List ℕ
label_bytes label = twos_complement_bytes w32 label.category ++ text_with_length_bytes w16 label.text

abbrev pub sent_labels_bytes : List LabelValue → List ℕ
sent_labels_bytes labels = to_le_bytes w32 (length labels) ++ flat_map label_bytes labels

-- the edges, then the numbers of rows and columns
abbrev pub region_bytes : SentRegion → List ℕ
region_bytes sent = text_with_length_bytes w8 sent.north ++ (text_with_length_bytes w8 sent.south
    ++ (text_with_length_bytes w8 sent.east ++ (text_with_length_bytes w8 sent.west
    ++ (to_le_bytes w32 sent.region.rows ++ to_le_bytes w32 sent.region.cols))))

abbrev pub sent_map_head_bytes : SentMap → List ℕ
sent_map_head_bytes m = text_with_length_bytes w8 m.name ++ (sent_format_bytes m.cells ++ sent_labels_bytes m.labels)

-- the numbers in a row
abbrev pub bytes_of_row_numbers : CellType → List SentCell → List ℕ
bytes_of_row_numbers kind row = flat_map (λ cell. twos_complement_bytes (bit_width_of_cell_type kind) cell.number) row

-- one byte for each number, 1 if the cell is hidden; empty if the map has no mask
abbrev pub bytes_of_row_mask : Bool → List SentCell → List ℕ
bytes_of_row_mask is_masked row = if is_masked then map (λ cell. one_if_true cell.hidden) row else []

abbrev pub bytes_of_sent_row : RawFormat → List SentCell → List ℕ
bytes_of_sent_row format row = bytes_of_row_numbers format.kind row ++ bytes_of_row_mask format.is_masked row

-- the rows, or the text after its length
abbrev pub bytes_of_sent_cells : SentCells → List ℕ
bytes_of_sent_cells (Numbers sent) = flat_map (bytes_of_sent_row sent.format) sent.rows
bytes_of_sent_cells (Text sent) = text_with_length_bytes w64 sent.text

abbrev pub bytes_of_sent_map : SentMap → List ℕ
bytes_of_sent_map m = sent_map_head_bytes m ++ bytes_of_sent_cells m.cells

-- the number of maps, followed by the maps
abbrev pub bytes_of_sent_maps : List SentMap → List ℕ
bytes_of_sent_maps sent = to_le_bytes w32 (length sent) ++ flat_map bytes_of_sent_map sent
