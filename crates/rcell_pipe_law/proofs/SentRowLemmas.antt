-- The rows of a map are read back from their bytes.
use Rattle.std.proofs.Common.{◌≡◌, ℕ, zero, suc, ℤ, ◌+◌, ◌*◌, Bool, true, false, List, [], ◌∷◌, ◌++◌}
use Rattle.std.proofs.Common.{length, take, drop, Some, None, Ok, refl, ap, ◌∙◌, arith, if◌then◌else◌}
use Rattle.std.specs.Prelude.{◌&&◌, ◌||◌, not, nat_lt, flat_map, map, slice_get}
use Rattle.std.specs.List.{list_any, range_with_len}
use Rattle.std.specs.Option.{option_map}
use Rattle.std.proofs.lemmas.List.{take_at, length-append}
use Rattle.std.proofs.lemmas.Option.{slice_get-map}
use Rattle.std.proofs.Math.Seq.{drop-append-add}
use Rattle.cell_core_devices.specs.Device.{ComingBytes}
use Rattle.cell_core_values.specs.Cell.{is_category}
use Rattle.rcell_pipe_request.specs.Feeds.{after}
use Rattle.rcell_pipe_rows.specs.Numbers.{byte_size_of_cell_type, raw_number_at_place, bit_width_of_cell_type}
use Rattle.rcell_pipe_rows.specs.Numbers.{number_from_bytes}
use Rattle.rcell_pipe_rows.specs.RawRows.{is_hiding_mask_byte, is_nodata, raw_cell_at_place}
use Rattle.rcell_pipe_rows.specs.RawRows.{is_invalid_raw_number_at_place, raw_cells}
use Rattle.rcell_pipe_rows.specs.RawRows.{has_invalid_raw_number}
use Rattle.rcell_pipe_rows.specs.RawRows.{is_bad_mask, first_error_of_raw_row}
use Rattle.rcell_pipe_request.specs.Rows.{row_cells_reading, mask_size_of_row}
use Rattle.rcell_pipe_request.specs.declared.head.RawFormat.{RawFormat}
use Rattle.rcell_pipe_request.proofs.FeedLemmas.{bytes_reading-all}
use Rattle.rcell_pipe_law.specs.SentBytes.{twos_complement_bytes, one_if_true, bytes_of_row_numbers, bytes_of_row_mask}
use Rattle.rcell_pipe_law.specs.SentBytes.{bytes_of_sent_row}
use Rattle.rcell_pipe_law.specs.SentMaps.{SentCell, cell_of_sent_cell, IsSendableCell}
use Rattle.rcell_pipe_law.proofs.SentFieldLemmas.{after-append}
use Rattle.rcell_pipe_law.proofs.SentNumberLemmas.{spelt, spelt_len}

-- items of the same size have a total of that size times their number
pub length_all : {X : Type 0} (size : ℕ) (enc : X → List ℕ) (xs : List X) → ((x : X) → length (enc x) ≡ size)
    → length (flat_map enc xs) ≡ length xs * size
length_all size enc [] each = omega arith
length_all size enc (x ∷ xs) each = omega (
  arith,
  length-append (enc x) (flat_map enc xs),
  each x,
  length_all size enc xs each,
)

-- the bytes of the item at place i begin at i times the size
at_place : {X : Type 0} (size : ℕ) (enc : X → List ℕ) (xs : List X) (i : ℕ) (x : X) → ((x : X)
    → length (enc x) ≡ size)
    → slice_get xs i ≡ Some x → take size (drop (i * size) (flat_map enc xs)) ≡ enc x
at_place size enc [] i x each is = cc
at_place size enc (y ∷ ys) zero x each is =
    let same : y ≡ x = cc in
    let first : 0 * size ≡ 0 = omega arith in
    ap (λ n. take size (drop n (enc y ++ flat_map enc ys))) first
    ∙ take_at (enc y) (flat_map enc ys) size (each y) ∙ ap enc same
at_place size enc (y ∷ ys) (suc i) x each is =
    let far : suc i * size ≡ length (enc y) + i * size = omega (arith, each y) in
    ap (λ n. take size (drop n (enc y ++ flat_map enc ys))) far
    ∙ ap (take size) (drop-append-add (enc y) (flat_map enc ys) (i * size))
    ∙ at_place size enc ys i x each is

-- a function of each place gives the same list as a function of each item
known_places_of_map_names : {X Y : Type 0} (f : ℕ → Y) (g : X → Y) (k : ℕ) (xs : List X) → ((i : ℕ) (x : X)
    → slice_get xs i ≡ Some x → f (k + i) ≡ g x)
    → map f (range_with_len k (length xs)) ≡ map g xs
known_places_of_map_names f g k [] same = refl
known_places_of_map_names f g k (x ∷ xs) same =
    let here : f k ≡ g x = ap f (omega arith) ∙ same 0 x refl in
    let others = known_places_of_map_names f g (k + 1) xs (λ i y is. ap f (omega arith) ∙ same (suc i) y is) in
    ap (λ y. y ∷ map f (range_with_len (k + 1) (length xs))) here ∙ ap (λ ys. g x ∷ ys) others

none_at : {X : Type 0} (f : ℕ → Bool) (k : ℕ) (xs : List X) → ((i : ℕ) (x : X) → slice_get xs i ≡ Some x
    → f (k + i) ≡ false)
    → list_any f (range_with_len k (length xs)) ≡ false
none_at f k [] same = refl
none_at f k (x ∷ xs) same =
    let here : f k ≡ false = ap f (omega arith) ∙ same 0 x refl in
    rw here (none_at f (k + 1) xs (λ i y is. ap f (omega arith) ∙ same (suc i) y is))

-- a mask hides a cell if the row is masked and the cell is hidden
hides : (masked : Bool) (row : List SentCell) (i : ℕ) (cell : SentCell) → slice_get row i ≡ Some cell
    → is_hiding_mask_byte (slice_get (bytes_of_row_mask masked row) i) ≡ (masked && cell.hidden)
hides false row i cell is = refl
hides true row i cell is = ap is_hiding_mask_byte (slice_get-map (λ c. one_if_true c.hidden) row i
    ∙ ap (option_map (λ c. one_if_true c.hidden)) is) ∙ one cell.hidden
  where
    one : (hidden : Bool) → is_hiding_mask_byte (Some (one_if_true hidden)) ≡ hidden
    one true = refl
    one false = refl

good_mask : (masked : Bool) (row : List SentCell) → is_bad_mask (bytes_of_row_mask masked row) ≡ false
good_mask false row = refl
good_mask true [] = refl
good_mask true (cell ∷ row) = rw (one cell.hidden) (good_mask true row)
  where
    one : (hidden : Bool) → nat_lt 1 (one_if_true hidden) ≡ false
    one true = refl
    one false = refl

mask_len : (masked : Bool) (row : List SentCell) → length (bytes_of_row_mask masked row)
    ≡ (if masked then length row else
    0)
mask_len false row = refl
mask_len true [] = refl
mask_len true (cell ∷ row) = ap (λ n. suc n) (mask_len true row)

-- a cell that is hidden, null or a category has the value that it was sent with
cell_means : (masked hidden : Bool) (null category : Bool) (n : ℤ)
    → (((masked && hidden) || null) || category) ≡ true
    → (if (masked && hidden) then None else (if null then None else (if category then Some n else None)))
    ≡ (if (masked && hidden) || null then None else Some n)
cell_means true true null category n means = refl
cell_means true false true category n means = refl
cell_means true false false true n means = refl
cell_means true false false false n means = cc
cell_means false hidden true category n means = refl
cell_means false hidden false true n means = refl
cell_means false hidden false false n means = cc

inside : (masked hidden : Bool) (null category : Bool) → (((masked && hidden) || null) || category) ≡ true
    → (not (masked && hidden) && (not null && not category)) ≡ false
inside true true null category means = refl
inside true false true category means = refl
inside true false false true means = refl
inside true false false false means = cc
inside false hidden true category means = refl
inside false hidden false true means = refl
inside false hidden false false means = cc

module _ (format : RawFormat) (row : List SentCell) (good : (i : ℕ) (cell : SentCell)
    → slice_get row i ≡ Some cell → IsSendableCell format cell) where
  number_at_place : (i : ℕ) (cell : SentCell) → slice_get row i ≡ Some cell
      → raw_number_at_place format.kind (bytes_of_row_numbers format.kind row) i ≡ cell.number
  number_at_place i cell is =
      ap (number_from_bytes format.kind) (at_place (byte_size_of_cell_type format.kind)
      (λ c. twos_complement_bytes (bit_width_of_cell_type format.kind)
      c.number) row i cell
      (λ c. spelt_len format.kind c.number) is)
      ∙ spelt format.kind cell.number (good i cell is).number

  cell_at_place : (i : ℕ) (cell : SentCell) → slice_get row i ≡ Some cell
      → raw_cell_at_place format.kind format.nodata (bytes_of_row_mask format.is_masked row)
      (bytes_of_row_numbers format.kind row) i ≡
      cell_of_sent_cell format cell
  cell_at_place i cell is =
      rw (hides format.is_masked row i cell is, number_at_place i cell is)
      (cell_means format.is_masked cell.hidden (is_nodata format.nodata cell.number) (is_category cell.number)
      cell.number (good i cell is).means)

  inside_at_place : (i : ℕ) (cell : SentCell) → slice_get row i ≡ Some cell
      → is_invalid_raw_number_at_place format.kind format.nodata (bytes_of_row_mask format.is_masked row)
      (bytes_of_row_numbers format.kind row)
      i ≡ false
  inside_at_place i cell is =
      rw (hides format.is_masked row i cell is, number_at_place i cell is)
      (inside format.is_masked cell.hidden (is_nodata format.nodata cell.number) (is_category cell.number) (good i
      cell is).means)

  all_cells : raw_cells format.kind format.nodata (bytes_of_row_mask format.is_masked row)
      (bytes_of_row_numbers format.kind row)
      (length row) ≡ map (cell_of_sent_cell format) row
  all_cells = known_places_of_map_names (raw_cell_at_place format.kind format.nodata
      (bytes_of_row_mask format.is_masked row) (bytes_of_row_numbers
      format.kind row)) (cell_of_sent_cell format) 0 row
      (λ i cell is. ap (raw_cell_at_place format.kind format.nodata (bytes_of_row_mask format.is_masked row)
      (bytes_of_row_numbers
      format.kind row)) (omega arith) ∙ cell_at_place i cell is)

  none_outside : has_invalid_raw_number format.kind format.nodata (bytes_of_row_mask format.is_masked row)
      (bytes_of_row_numbers format.kind
      row) (length row) ≡ false
  none_outside = none_at (is_invalid_raw_number_at_place format.kind format.nodata
      (bytes_of_row_mask format.is_masked row)
      (bytes_of_row_numbers
      format.kind row)) 0 row
      (λ i cell is. ap (is_invalid_raw_number_at_place format.kind format.nodata
      (bytes_of_row_mask format.is_masked row) (bytes_of_row_numbers
      format.kind row)) (omega arith) ∙ inside_at_place i cell is)

  no_error : first_error_of_raw_row format.kind format.nodata (bytes_of_row_mask format.is_masked row)
      (bytes_of_row_numbers format.kind row)
      (length row) ≡ None
  no_error = rw (good_mask format.is_masked row, none_outside) refl

  -- a row is read back
  pub row_reads : (rest : ComingBytes) → row_cells_reading format (length row)
      (after (bytes_of_sent_row format row) rest)
      ≡ Ok (
        map
            (cell_of_sent_cell format) row,
        rest,
      )
  unfolding row_cells_reading
  row_reads rest =
      let numbers = bytes_of_row_numbers format.kind row in
      let mask = bytes_of_row_mask format.is_masked row in
      rw (
        after-append numbers mask rest,
        bytes_reading-all (length row * byte_size_of_cell_type format.kind) numbers (after numbers (after mask rest))
            (after mask
            rest) refl
            (length_all (byte_size_of_cell_type format.kind) (λ c. twos_complement_bytes
            (bit_width_of_cell_type format.kind) c.number) row
            (λ c.
            spelt_len format.kind c.number)),
        bytes_reading-all (mask_size_of_row format (length row)) mask (after mask rest) rest refl
            (mask_len format.is_masked
            row),
        no_error,
        all_cells,
      ) refl
