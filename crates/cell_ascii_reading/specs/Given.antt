-- The values of header keys, or the errors in them.
use Rattle.std.specs.Prelude.{ℕ, ℤ, Bool, unwrap_or, true, List, Option, Some, None, Result, Ok, Err, if◌then◌else◌}
use Rattle.cell_core_values.specs.Region.{RegionValue}
use Rattle.cell_core_values.specs.declared.region.RegionFault.{RegionFault}
use Rattle.cell_ascii_meaning.specs.Header.{GridHeaderContents, has_colon, is_int_type, usual_null_text}
use Rattle.cell_ascii_meaning.specs.Header.{usual_multiplier}
use Rattle.cell_ascii_meaning.specs.declared.grid_fault.GridKind.{GridKind}
use Rattle.cell_ascii_meaning.specs.declared.grid_fault.GridKind.TheVariants.{BadHeader, TwiceKey, BadNumber, BadType, Region}

-- the value, if it is a number and its key is new
abbrev pub new_value_or_fault : {X : Type 0} → Option X → Option X → Result X GridKind
new_value_or_fault (Some old) value = Err TwiceKey
new_value_or_fault None None = Err BadNumber
new_value_or_fault None (Some x) = Ok x

-- the null text, if it is given for the first time and does not contain a colon
abbrev pub null_text_if_new_without_colon : Option (List ℕ) → List ℕ → Result (List ℕ) GridKind
null_text_if_new_without_colon old text = if has_colon text then Err BadHeader else new_value_or_fault old (Some text)

-- true, if the type is given for the first time and is `int`
abbrev pub checked_int_type : Bool → List ℕ → Result Bool GridKind
checked_int_type old text = if old then Err TwiceKey else (if is_int_type text then Ok true else Err BadType)

-- the header over a region, or an error if there is no region
abbrev pub header_of_region_or_fault : Result RegionValue RegionFault → Option (List ℕ) → Option ℤ
    → Result GridHeaderContents GridKind
header_of_region_or_fault (Ok region) null multiplier = Ok (record { region = region; null_text = unwrap_or null usual_null_text; multiplier = unwrap_or multiplier usual_multiplier })
header_of_region_or_fault (Err f) null multiplier = Err (Region f)
