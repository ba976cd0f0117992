-- The errors of keys are errors of the text.
use Rattle.std.proofs.Common.{◌≡◌, ℕ, List, Option, Some, None, Ok, Err, Bool, true, false, if◌then◌else◌, refl, subst}
use Rattle.cell_ascii_meaning.specs.EdgeNumbers.{coordinate_of_text, row_or_column_count_of_text}
use Rattle.cell_ascii_meaning.specs.EdgeNumbers.{whole_number_in_category_range}
use Rattle.cell_ascii_meaning.specs.Header.{HeaderKeyValues, key_values_with_new_valid_value, is_int_type, has_colon}
use Rattle.cell_ascii_meaning.specs.Header.{key_values_with_header_key}
use Rattle.cell_ascii_meaning.specs.Kinds.{IsFaultOfText, is_failed_read}
use Rattle.cell_ascii_meaning.specs.declared.header_key.HeaderKey.{HeaderKey}
use Rattle.cell_ascii_meaning.specs.declared.header_key.HeaderKey.TheVariants.{North, South, East, West, Rows, Cols, Null, CellType, Multiplier}
use Rattle.cell_ascii_meaning.specs.declared.grid_fault.GridKind.{GridKind}
use Rattle.cell_ascii_meaning.specs.declared.grid_fault.GridKind.TheVariants.{BadHeader, TwiceKey, BadNumber, BadType}

-- a property of the four kinds of key errors holds of each error of a key
module _ (P : GridKind → Type 0) (header : P BadHeader) (twice : P TwiceKey) (number : P BadNumber) (other : P BadType) where
  given_kind : {X : Type 0} (old value : Option X) (keep : X → HeaderKeyValues) (kind : GridKind) → key_values_with_new_valid_value old value keep ≡ Err kind → P kind
  given_kind (Some old) value keep kind e = let p : TwiceKey ≡ kind = cc in subst P p twice
  given_kind None None keep kind e = let p : BadNumber ≡ kind = cc in subst P p number
  given_kind None (Some x) keep kind e = cc

  null_kind : (colon : Bool) (keys : HeaderKeyValues) (value : List ℕ) (kind : GridKind) → (if colon then Err BadHeader else key_values_with_new_valid_value keys.null (Some value) (λ x. record keys { null = Some x })) ≡ Err kind → P kind
  null_kind true keys value kind e = let p : BadHeader ≡ kind = cc in subst P p header
  null_kind false keys value kind e = given_kind keys.null (Some value) (λ x. record keys { null = Some x }) kind e

  type_kind : (old int : Bool) (keys : HeaderKeyValues) (kind : GridKind) → (if old then Err TwiceKey else (if int then Ok (record keys { kind = true }) else Err BadType)) ≡ Err kind → P kind
  type_kind true int keys kind e = let p : TwiceKey ≡ kind = cc in subst P p twice
  type_kind false true keys kind e = cc
  type_kind false false keys kind e = let p : BadType ≡ kind = cc in subst P p other

  key_has : (keys : HeaderKeyValues) (key : Option HeaderKey) (value : List ℕ) (kind : GridKind) → key_values_with_header_key keys key value ≡ Err kind → P kind
  key_has keys None value kind e = let p : BadHeader ≡ kind = cc in subst P p header
  key_has keys (Some North) value kind e = given_kind keys.north (coordinate_of_text value) (λ x. record keys { north = Some x }) kind e
  key_has keys (Some South) value kind e = given_kind keys.south (coordinate_of_text value) (λ x. record keys { south = Some x }) kind e
  key_has keys (Some East) value kind e = given_kind keys.east (coordinate_of_text value) (λ x. record keys { east = Some x }) kind e
  key_has keys (Some West) value kind e = given_kind keys.west (coordinate_of_text value) (λ x. record keys { west = Some x }) kind e
  key_has keys (Some Rows) value kind e = given_kind keys.rows (row_or_column_count_of_text value)
      (λ x. record keys { rows = Some x }) kind e
  key_has keys (Some Cols) value kind e = given_kind keys.cols (row_or_column_count_of_text value)
      (λ x. record keys { cols = Some x }) kind e
  key_has keys (Some Null) value kind e = null_kind (has_colon value) keys value kind e
  key_has keys (Some CellType) value kind e = type_kind keys.kind (is_int_type value) keys kind e
  key_has keys (Some Multiplier) value kind e = given_kind keys.multiplier (whole_number_in_category_range value) (λ x. record keys { multiplier = Some x }) kind e

-- the error of a rejected key is an error of the text, not of its source
pub key_kind : (keys : HeaderKeyValues) (key : Option HeaderKey) (value : List ℕ) (kind : GridKind) → key_values_with_header_key keys key value ≡ Err kind → IsFaultOfText kind
key_kind = key_has IsFaultOfText tt tt tt tt

pub key_reported : (keys : HeaderKeyValues) (key : Option HeaderKey) (value : List ℕ) (kind : GridKind) → key_values_with_header_key keys key value ≡ Err kind → is_failed_read kind ≡ false
key_reported = key_has (λ kind. is_failed_read kind ≡ false) refl refl refl refl
