-- Maps are read back from their bytes.
use Rattle.std.proofs.Common.{◌≡◌, ℕ, suc, ◌<◌, ◌^◌, true, false, List, [], ◌∷◌, ◌++◌}
use Rattle.std.proofs.Common.{length, Some, Ok, refl, ap, sym, ◌∙◌, subst, arith, append_assoc}
use Rattle.std.proofs.Common.{append-nil}
use Rattle.std.specs.Prelude.{flat_map, map, All, Result, slice_get}
use Rattle.std.specs.Int.{w8, w32, w64, to_le_bytes}
use Rattle.std.specs.Option.{is_none}
use Rattle.std.proofs.lemmas.Option.{slice_get_within, get_or_from_slice_get}
use Rattle.cell_core_devices.specs.Device.{ComingBytes}
use Rattle.cell_core_values.specs.Name.{place_of_name}
use Rattle.cell_core_values.specs.Region.{RegionValue}
use Rattle.cell_core_values.specs.SameRegion.{is_same_region-Decides}
use Rattle.cell_core.specs.Grid.{CellValue, Grid, empty_category_labels}
use Rattle.cell_core.specs.Shelf.{ShelfValue}
use Rattle.cell_ascii_law.specs.GridLaw.{ReadingReturnsDenotedMap}
use Rattle.rcell_pipe_request.specs.Feeds.{after}
use Rattle.rcell_pipe_request.specs.Heads.{LabelValue, new_map_name_reading, next_label_reading, labels_reading}
use Rattle.rcell_pipe_request.specs.Heads.{map_format_reading, map_head_reading}
use Rattle.rcell_pipe_request.specs.RequestFields.{reading_repeated_n_times}
use Rattle.rcell_pipe_request.specs.RequestRegions.{edges_reading, region_reading}
use Rattle.rcell_pipe_request.specs.Requests.{next_row_reading, number_map_reading, map_cells_reading, map_reading}
use Rattle.rcell_pipe_request.specs.TextMaps.{text_map_reading}
use Rattle.rcell_pipe_request.specs.declared.head.MapFormat.{MapFormat}
use Rattle.rcell_pipe_request.specs.declared.head.MapFormat.TheVariants as formats
use Rattle.rcell_pipe_request.specs.declared.head.RawFormat.{RawFormat}
use Rattle.rcell_pipe_law.specs.SentBytes.{text_with_length_bytes, sent_format_bytes, label_bytes, sent_labels_bytes}
use Rattle.rcell_pipe_law.specs.SentBytes.{bytes_of_sent_cells}
use Rattle.rcell_pipe_law.specs.SentBytes.{region_bytes, sent_map_head_bytes, bytes_of_sent_row, bytes_of_sent_map}
use Rattle.rcell_pipe_law.specs.SentMaps.{SentCell, SentCells, Numbers, Text, SentMap, SentRegion, SentRows}
use Rattle.rcell_pipe_law.specs.SentMaps.{SentText, IsSendableLabel, IsSendableMap, AreSendableCells, AreSendableRows}
use Rattle.rcell_pipe_law.specs.SentMaps.{IsSendableText, rows_of_sent_cells}
use Rattle.rcell_pipe_law.specs.SentMaps.{IsSendableCell, IsSendableRegion, cell_of_sent_cell, grid_of_sent_map}
use Rattle.rcell_pipe_law.proofs.SentFieldLemmas.{after-append, coordinate_reads, name_reads, format_reads}
use Rattle.rcell_pipe_law.proofs.SentFieldLemmas.{text_format_reads, text_64}
use Rattle.rcell_pipe_law.proofs.SentFieldLemmas.{label_reads}
use Rattle.rcell_pipe_law.proofs.SentNumberLemmas.{reads_32}
use Rattle.rcell_pipe_law.proofs.SentRowLemmas.{row_reads}

-- a property of all items holds for each item
pub of_each : {X : Type 0} (P : X → Type 0) (xs : List X) → All P xs → (i : ℕ) (x : X) → slice_get xs i ≡ Some x
    → P x
of_each P xs all i x is = subst P (get_or_from_slice_get xs i x x is) (all i x (slice_get_within xs i x is))

pub head_of : {X : Type 0} (P : X → Type 0) (x : X) (xs : List X) → All P (x ∷ xs) → P x
head_of P x xs all = all 0 x (omega arith)

pub tail_of : {X : Type 0} (P : X → Type 0) (x : X) (xs : List X) → All P (x ∷ xs) → All P xs
tail_of P x xs all = λ k d within. all (suc k) d (omega arith)

-- items are read one after another
pub steps_all : {X Y E : Type 0} (P : X → Type 0) (step : List Y → ComingBytes
    → Result (List Y × ComingBytes) E) (enc : X
    → List ℕ) (val : X → Y) (xs : List X)
    → All P xs → ((so_far : List Y) (x : X) (rest : ComingBytes) → P x → step so_far (after (enc x) rest) ≡ Ok (
      so_far
          ++ val x ∷ [],
      rest,
    ))
    → (so_far : List Y) (rest : ComingBytes) → reading_repeated_n_times step so_far (length xs)
    (after (flat_map enc xs) rest)
    ≡ Ok (
      so_far
          ++ map val xs,
      rest,
    )
unfolding reading_repeated_n_times
steps_all P step enc val [] all one so_far rest = ap (λ ys. Ok (ys, rest)) (sym (append-nil so_far))
steps_all P step enc val (x ∷ xs) all one so_far rest =
    rw (
      after-append (enc x) (flat_map enc xs) rest,
      one so_far x (after (flat_map enc xs) rest) (head_of P x xs
          all),
    )
    (steps_all P step enc val xs (tail_of P x xs all) one (so_far ++ val x ∷ []) rest
    ∙ ap (λ ys. Ok (ys, rest)) (append_assoc so_far (val x ∷ []) (map val xs)))

one_label : (so_far : List LabelValue) (label : LabelValue) (rest : ComingBytes) → IsSendableLabel label
    → next_label_reading so_far (after (label_bytes label) rest) ≡ Ok (so_far ++ label ∷ [], rest)
unfolding next_label_reading
one_label so_far label rest is = rw (label_reads label rest is) refl

same_map : {X : Type 0} (xs : List X) → map (λ x. x) xs ≡ xs
same_map [] = refl
same_map (x ∷ xs) = ap (λ ys. x ∷ ys) (same_map xs)

labels_read : (labels : List LabelValue) (rest : ComingBytes) → length labels < 2 ^ 32 → All IsSendableLabel labels
    → labels_reading (after (sent_labels_bytes labels) rest) ≡ Ok (labels, rest)
unfolding labels_reading
labels_read labels rest few good =
    rw (
      after-append (to_le_bytes w32 (length labels)) (flat_map label_bytes labels) rest,
      reads_32 (length labels) (after (flat_map label_bytes labels) rest) few,
    )
    (steps_all IsSendableLabel next_label_reading label_bytes (λ label. label) labels good one_label [] rest
    ∙ ap (λ ls. Ok (ls, rest)) (same_map labels))

pub region_reads : (sent : SentRegion) (rest : ComingBytes) → IsSendableRegion sent
    → region_reading (after (region_bytes sent) rest) ≡ Ok (sent.region, rest)
unfolding region_reading edges_reading
region_reads sent rest is =
    let sizes = to_le_bytes w32 sent.region.rows ++ to_le_bytes w32 sent.region.cols in
    rw (
      after-append (text_with_length_bytes w8 sent.north) (text_with_length_bytes w8 sent.south
          ++ (text_with_length_bytes w8 sent.east ++ (text_with_length_bytes w8 sent.west ++ sizes))) rest,
      coordinate_reads sent.region.north sent.north (after (text_with_length_bytes w8 sent.south
          ++ (text_with_length_bytes w8 sent.east ++ (text_with_length_bytes w8 sent.west ++
          sizes))) rest) is.north,
      after-append (text_with_length_bytes w8 sent.south) (text_with_length_bytes w8 sent.east
          ++ (text_with_length_bytes w8 sent.west ++ sizes)) rest,
      coordinate_reads sent.region.south sent.south (after (text_with_length_bytes w8 sent.east
          ++ (text_with_length_bytes w8 sent.west ++ sizes)) rest) is.south,
      after-append (text_with_length_bytes w8 sent.east) (text_with_length_bytes w8 sent.west ++ sizes) rest,
      coordinate_reads sent.region.east sent.east (after (text_with_length_bytes w8 sent.west ++ sizes) rest) is.east,
      after-append (text_with_length_bytes w8 sent.west) sizes rest,
      coordinate_reads sent.region.west sent.west (after sizes rest) is.west,
      after-append (to_le_bytes w32 sent.region.rows) (to_le_bytes w32 sent.region.cols) rest,
      reads_32 sent.region.rows (after (to_le_bytes w32 sent.region.cols) rest) (omega (arith, is.valid.rows_most)),
      reads_32 sent.region.cols rest (omega (arith, is.valid.cols_most)),
      is.valid.accepted,
    ) refl

abbrev pub format_of_sent_cells : SentCells → MapFormat
format_of_sent_cells (Numbers sent) = formats.Numbers sent.format
format_of_sent_cells (Text sent) = formats.Text

sent_format_reads : (region : RegionValue) (cells : SentCells) (rest : ComingBytes) → AreSendableCells region cells
    → map_format_reading (after (sent_format_bytes cells) rest) ≡ Ok (format_of_sent_cells cells, rest)
sent_format_reads region (Numbers sent) rest is = format_reads sent.format rest is.nodata
sent_format_reads region (Text sent) rest is = text_format_reads rest

-- the head of a map is read back if its name is new
pub head_reads : (region : RegionValue) (names : List (List ℕ)) (m : SentMap) (rest : ComingBytes)
    → IsSendableMap region m → is_none (place_of_name m.name names) ≡ true
    → map_head_reading names (after (sent_map_head_bytes m) rest)
    ≡ Ok (record { name = m.name; format = format_of_sent_cells m.cells; labels = m.labels }, rest)
unfolding map_head_reading new_map_name_reading
head_reads region names m rest is new =
    let format = sent_format_bytes m.cells ++ sent_labels_bytes m.labels in
    rw (
      after-append (text_with_length_bytes w8 m.name) format rest,
      name_reads m.name (after format rest) is.name,
      new,
      after-append (sent_format_bytes m.cells) (sent_labels_bytes m.labels) rest,
      sent_format_reads region m.cells (after (sent_labels_bytes m.labels) rest) is.cells,
      labels_read m.labels rest is.count is.labels,
    ) refl

-- the map without its labels
abbrev map_of_sent_cells : RegionValue → SentCells → Grid
map_of_sent_cells region cells = record {
  region = region;
  rows = rows_of_sent_cells cells;
  labels = empty_category_labels;
}

-- a row that can be sent
abbrev IsSentRow : RegionValue → RawFormat → List SentCell → Type 0
IsSentRow region format row = (length row ≡ region.cols) × All (IsSendableCell format) row

one_row : (maps : ℕ) (region : RegionValue) (format : RawFormat) (so_far : List (List CellValue)) (row : List SentCell)
    (rest : ComingBytes) → IsSentRow region format row
    → next_row_reading maps format region.cols so_far (after (bytes_of_sent_row format row) rest)
    ≡ Ok (so_far ++ map (cell_of_sent_cell format) row ∷ [], rest)
unfolding next_row_reading
one_row maps region format so_far row rest is =
    rw (sym is.0, row_reads format row (of_each (IsSendableCell format) row is.1) rest) refl

rows_read : (region : RegionValue) (maps : ℕ) (sent : SentRows) (rest : ComingBytes) → AreSendableRows region sent
    → number_map_reading region maps sent.format (after (flat_map (bytes_of_sent_row sent.format) sent.rows) rest)
    ≡ Ok (map_of_sent_cells region (Numbers sent), rest)
unfolding number_map_reading
rows_read region maps sent rest is =
    let all : All (IsSentRow region sent.format) sent.rows = λ k d within. (is.width k d within, is.cells k d within) in
    rw (
      sym is.height,
      steps_all (IsSentRow region sent.format) (next_row_reading maps sent.format region.cols)
          (bytes_of_sent_row sent.format) (map (cell_of_sent_cell sent.format)) sent.rows all
          (one_row maps region sent.format) [] rest,
    ) refl

text_reads : (region : RegionValue) (maps : ℕ) (sent : SentText) (rest : ComingBytes) → ReadingReturnsDenotedMap
    → IsSendableText region sent
    → text_map_reading region maps (after (text_with_length_bytes w64 sent.text) rest)
    ≡ Ok (map_of_sent_cells region (Text sent), rest)
unfolding text_map_reading
text_reads region maps sent rest law is =
    rw (
      text_64 sent.text rest is.short,
      (law (record { bytes = sent.text; fails = false }) sent.map).1 is.denotes,
      (is_same_region-Decides sent.map.region region).1 is.covers,
    )
    (λ i. Ok (record { region = is.covers i; rows = sent.map.rows; labels = is.denotes.labels i }, rest))

cells_read : (region : RegionValue) (maps : ℕ) (cells : SentCells) (rest : ComingBytes) → ReadingReturnsDenotedMap
    → AreSendableCells region cells
    → map_cells_reading region maps (format_of_sent_cells cells) (after (bytes_of_sent_cells cells) rest)
    ≡ Ok (map_of_sent_cells region cells, rest)
cells_read region maps (Numbers sent) rest law is = rows_read region maps sent rest is
cells_read region maps (Text sent) rest law is = text_reads region maps sent rest law is

-- a map is read back
pub map_reads : (shelf : ShelfValue) (m : SentMap) (rest : ComingBytes) → ReadingReturnsDenotedMap
    → IsSendableMap shelf.region m → is_none (place_of_name m.name shelf.names) ≡ true
    → map_reading shelf (after (bytes_of_sent_map m) rest)
    ≡ Ok (record { name = m.name; grid = grid_of_sent_map shelf.region m }, rest)
unfolding map_reading
map_reads shelf m rest law is new =
    rw (
      after-append (sent_map_head_bytes m) (bytes_of_sent_cells m.cells) rest,
      head_reads shelf.region shelf.names m (after (bytes_of_sent_cells m.cells) rest) is new,
      cells_read shelf.region (length shelf.names) m.cells rest law is.cells,
    ) refl
