-- The cells of numbers in range.
use Rattle.std.specs.Prelude.{ℤ, ◌≡◌, false, Some, Result, Ok, Err, if◌then◌else◌}
use Rattle.std.specs.List.{list_all}
use Rattle.cell_core.specs.Grid.{CellValue}
use Rattle.cell_core_values.specs.Digits.{is_digit}
use Rattle.cell_core_values.specs.WholeNumbers.{is_in_category_range}
use Rattle.cell_ascii_meaning.specs.GridWords.{GridHeaderContents, usual_multiplier}
use Rattle.cell_ascii_meaning.specs.declared.grid_fault.GridKind.{GridKind}
use Rattle.cell_ascii_meaning.specs.declared.grid_fault.GridKind.TheVariants.{CellRange}

-- the cell of a number, or an error if it is out of range
abbrev pub cell_or_range_fault : ℤ → Result CellValue GridKind
cell_or_range_fault n = if is_in_category_range n then Ok (Some n) else Err CellRange

-- under this header, each word of digits denotes its own number, if this is in range
pub record DigitWordsDenoteTheirNumber (h : GridHeaderContents) : Type 0 where
  pub null : list_all is_digit h.null_text ≡ false
  pub multiplier : h.multiplier ≡ usual_multiplier
