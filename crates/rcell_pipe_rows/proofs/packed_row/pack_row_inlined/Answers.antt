use Rattle.std.proofs.Common.{◌≡◌, ◌≢◌, ◌<◌, ◌*◌, ℕ, ℤ, pos, Bool, true, false, not, ◌&&◌, eqb, List, Option, None}
use Rattle.std.proofs.Common.{Some, Fits, w8, length, map, take, drop, get_or, refl, sym, ap, ◌∙◌, arith, rules}
use Rattle.std.specs.Prelude.{slice_get, if◌then◌else◌}
use Rattle.std.specs.Int.{from_le_bytes}
use Rattle.std.proofs.Math.Facts.{Fits-lt-pow}
use Rattle.std.proofs.Math.Bool.{and-false}
use Rattle.std.proofs.Math.Seq.{drop-cons}
use Rattle.std.proofs.lemmas.Bool.{eqb-true, eq-eqb}
use Rattle.std.proofs.lemmas.List.{length-map, get_or-map}
use Rattle.std.proofs.lemmas.List.Folds.{list_any_none}
use Rattle.std.proofs.lemmas.List.FromFn.{get_or-range_with_len, length-range_with_len, fill_by_all}
use Rattle.std.proofs.lemmas.List.FromFn.{length-map-range_with_len, get_or-map-range_with_len}
use Rattle.cell_core_values.specs.Cell.{is_category}
use Rattle.cell_core_values.specs.SmallCells.{cell_of_stored_byte, cells_of_bytes}
use Rattle.rcell_pipe_rows.specs.declared.kind.CellType.TheVariants.{U8}
use Rattle.rcell_pipe_rows.specs.Numbers.{raw_number_at_place}
use Rattle.rcell_pipe_rows.specs.RawRows.{is_hiding_mask_byte, is_nodata, cell_of_raw_number, raw_cell_at_place}
use Rattle.rcell_pipe_rows.specs.RawRows.{raw_cells}
use Rattle.rcell_pipe_rows.specs.RawRows.{places_in_row, is_unmapped_number}
use Rattle.rcell_pipe_rows.specs.RawRows.{is_invalid_raw_number_at_place, has_invalid_raw_number}
use Rattle.rcell_pipe_rows.specs.parts.PackedBytes.{packed_byte_at_place}
use Rattle.rcell_pipe_rows.proofs.packed_row.pack_row_inlined.Goals as goal
use Rattle.rcell_pipe_rows.proofs.packed_row.pack_row_inlined.Goals.{else-not-is_nodata-via-then-not-is_nodata+else-has_unmasked_number_255}
use Rattle.rcell_pipe_rows.proofs.packed_row.pack_row_inlined.Goals.{else-not-is_nodata-via-else-not-is_nodata}

number : (bytes : List ℕ) (k : ℕ) → k < length bytes → raw_number_at_place U8 bytes k ≡ pos (get_or bytes k 0)
number bytes k within =
    let one : k * 1 ≡ k = omega arith in
    let y = get_or bytes k 0 in
    ap (λ (j : ℕ). pos (from_le_bytes w8 (take 1 (drop j bytes)))) one
    ∙ ap (λ (l : List ℕ). pos (from_le_bytes w8 (take 1 l))) (drop-cons bytes k 0 within)
    ∙ search rules

is_byte : (b : ℕ) → b < 256 → is_category (pos b) ≡ true
is_byte b few = search (rules, few)

-- a byte denotes the cell of its number, and 255 stands for nodata
visible : (nodata : Option ℤ) (null b : ℕ) → b < 256 → ((n : ℕ) → n < 255 → eqb n null ≡ is_nodata nodata (pos n))
    → (b ≡ 255 → is_nodata nodata (pos 255) ≡ true)
    → cell_of_stored_byte (if eqb b null then 255 else b) ≡ cell_of_raw_number nodata (pos b)
visible nodata null b few nulls free = by (eqb b 255) (eqb b null) refl refl
  where
    below : eqb b 255 ≡ false → b < 255
    below e = let other : b ≢ 255 = λ same. let t = eq-eqb b 255 same in cc in omega (arith, few, other)

    if_null : is_nodata nodata (pos b) ≡ true → cell_of_raw_number nodata (pos b) ≡ None
    if_null e = ap (λ (h : Bool). if h then None else (if is_category (pos b) then Some (pos b) else None)) e

    is_null : b ≡ 255 → is_nodata nodata (pos b) ≡ true
    is_null e = ap (λ (k : ℕ). is_nodata nodata (pos k)) e ∙ free e

    by : (n m : Bool) → eqb b 255 ≡ n → eqb b null ≡ m → cell_of_stored_byte (if m then 255 else b)
        ≡ cell_of_raw_number nodata (pos b)
    by true true e f = sym (if_null (is_null (eqb-true b 255 e)))
    by true false e f = ap cell_of_stored_byte (eqb-true b 255 e) ∙ sym (if_null (is_null (eqb-true b 255 e)))
    by false true e f = sym (if_null (sym (nulls b (below e)) ∙ f))
    by false false e f =
        ap (λ (h : Bool). if h then None else Some (pos b)) e
        ∙ sym (ap (λ (h : Bool). if h then None else (if is_category (pos b) then Some (pos b) else None)) (sym
        (nulls b (below e)) ∙ f) ∙ ap (λ (h : Bool). if h then Some (pos b) else None) (is_byte b few))

is_inside : (nodata : Option ℤ) (b : ℕ) → b < 256 → is_unmapped_number nodata (pos b) ≡ false
is_inside nodata b few = ap (λ (h : Bool). not (is_nodata nodata (pos b)) && not h) (is_byte b few)
    ∙ and-false (not (is_nodata nodata (pos b)))

module _ (nodata : Option ℤ) (mask bytes new : List ℕ) (null : ℕ) (small : null < 256) (fits : (i : ℕ)
    → Fits w8 (get_or new i 0))
    (packed : new ≡ map (packed_byte_at_place mask null bytes) (places_in_row (length bytes)))
    (nulls : (n : ℕ) → n < 255 → eqb n null ≡ is_nodata nodata (pos n))
    (free : (k : ℕ) → k < length bytes → is_hiding_mask_byte (slice_get mask k) ≡ false → get_or bytes k 0 ≡ 255
    → is_nodata nodata (pos 255) ≡ true) where
  abbrev number_of : ℕ → ℕ
  number_of k = get_or bytes k 0

  long : length new ≡ length bytes
  long = ap length packed ∙ length-map-range_with_len (packed_byte_at_place mask null bytes) 0 (length bytes)

  at : (k : ℕ) → k < length bytes → get_or new k 0 ≡ packed_byte_at_place mask null bytes k
  at k within = ap (λ (l : List ℕ). get_or l k 0) packed
      ∙ get_or-map-range_with_len (packed_byte_at_place mask null bytes) 0 (length bytes) k k 0 within (omega arith)

  -- each number that is not hidden fits in a byte
  few : (k : ℕ) → k < length bytes → is_hiding_mask_byte (slice_get mask k) ≡ false → number_of k < 256
  few k within seen = by (eqb (number_of k) null) refl
    where
      by : (m : Bool) → eqb (number_of k) null ≡ m → number_of k < 256
      by true e = omega (arith, eqb-true (number_of k) null e, small)
      by false e =
          let kept : get_or new k 0 ≡ number_of k =
          at k within ∙ ap (λ (h : Bool). if h then 255 else (if eqb (number_of k) null then 255 else number_of k)) seen
          ∙ ap (λ (m : Bool). if m then 255 else number_of k) e in
          omega (arith, kept, Fits-lt-pow (fits k))

  each : (k : ℕ) → k < length bytes → cell_of_stored_byte (packed_byte_at_place mask null bytes k)
      ≡ raw_cell_at_place U8 nodata mask bytes k
  each k within = by (is_hiding_mask_byte (slice_get mask k)) refl
    where
      by : (h : Bool) → is_hiding_mask_byte (slice_get mask k) ≡ h
          → cell_of_stored_byte (if h then 255 else (if eqb (number_of k) null then 255 else number_of k))
          ≡ (if h then None else cell_of_raw_number nodata (raw_number_at_place U8 bytes k))
      by true hidden = refl
      by false seen = visible nodata null (number_of k) (few k within seen) nulls (free k within seen)
          ∙ ap (cell_of_raw_number nodata) (sym (number bytes k within))

  all : cells_of_bytes new ≡ raw_cells U8 nodata mask bytes (length bytes)
  all = fill_by_all (raw_cell_at_place U8 nodata mask bytes) (cells_of_bytes new) (length bytes) None
      (length-map new cell_of_stored_byte ∙ long)
      (λ k within. get_or-map cell_of_stored_byte new k 0 None (omega (arith, within, long))
      ∙ ap cell_of_stored_byte (at k within)
      ∙ each k within)

  inside : (k : ℕ) → k < length bytes → is_invalid_raw_number_at_place U8 nodata mask bytes k ≡ false
  inside k within = by (is_hiding_mask_byte (slice_get mask k)) refl
    where
      by : (h : Bool) → is_hiding_mask_byte (slice_get mask k) ≡ h
          → (not h && is_unmapped_number nodata (raw_number_at_place U8 bytes k)) ≡ false
      by true hidden = refl
      by false seen = ap (is_unmapped_number nodata) (number bytes k within)
          ∙ is_inside nodata (number_of k) (few k within seen)

  -- no number is out of range
  none : has_invalid_raw_number U8 nodata mask bytes (length bytes) ≡ false
  none = list_any_none (is_invalid_raw_number_at_place U8 nodata mask bytes) (places_in_row (length bytes))
      (λ k d within.
      let below : k < length bytes = omega (arith, within, length-range_with_len 0 (length bytes)) in
      let place : get_or (places_in_row (length bytes)) k d ≡ k = get_or-range_with_len 0 (length bytes) k d below
      ∙ omega arith in
      ap (is_invalid_raw_number_at_place U8 nodata mask bytes) place ∙ inside k below)

pub returns-clause-packed : goal.returns-clause-packed
returns-clause-packed c =
    let bytes = c.args.bytes.now in
    let mask = c.args.mask.now in
    let free : (k : ℕ) → k < length bytes → is_hiding_mask_byte (slice_get mask k) ≡ false → get_or bytes k 0 ≡ 255
    → is_nodata c.args.nodata (pos 255) ≡ true =
    elim c.else-not-is_nodata.branch [
      | else-not-is_nodata-via-then-not-is_nodata+else-has_unmasked_number_255 w ↦ λ k within seen e. absurd
          (w.has_unmasked_number_255.ensures
          (search (rules, w.if-has_unmasked_number_255)) k within seen e)
      | else-not-is_nodata-via-else-not-is_nodata w ↦ λ k within seen e. search
          (rules, w.if-not-is_nodata, c.is_nodata.ensures)
    ] in
    λ _. all c.args.nodata mask bytes c.pack_all_numbers.new.bytes c.packed_nodata_byte.result
    c.packed_nodata_byte.type_inv
    c.type_inv.bytes c.pack_all_numbers.ensures c.packed_nodata_byte.ensures free

pub returns-clause-inside : goal.returns-clause-inside
returns-clause-inside c =
    let bytes = c.args.bytes.now in
    let mask = c.args.mask.now in
    let free : (k : ℕ) → k < length bytes → is_hiding_mask_byte (slice_get mask k) ≡ false → get_or bytes k 0 ≡ 255
    → is_nodata c.args.nodata (pos 255) ≡ true =
    elim c.else-not-is_nodata.branch [
      | else-not-is_nodata-via-then-not-is_nodata+else-has_unmasked_number_255 w ↦ λ k within seen e. absurd
          (w.has_unmasked_number_255.ensures
          (search (rules, w.if-has_unmasked_number_255)) k within seen e)
      | else-not-is_nodata-via-else-not-is_nodata w ↦ λ k within seen e. search
          (rules, w.if-not-is_nodata, c.is_nodata.ensures)
    ] in
    λ _. none c.args.nodata mask bytes c.pack_all_numbers.new.bytes c.packed_nodata_byte.result
    c.packed_nodata_byte.type_inv
    c.type_inv.bytes c.pack_all_numbers.ensures c.packed_nodata_byte.ensures free
