use Rattle.std.proofs.Common.{◌≡◌, take}
use Rattle.cell_core_values.specs.Digits.{value_of_digits}
use Rattle.cell_core_values.specs.Capped.{capped_at_10_to_18}
use Rattle.cell_core_values.proofs.whole_numbers.value_of_digits.Given as goal

abbrev pub invariant-loop-b : goal.invariant-loop-b
invariant-loop-b l = l.value ≡ capped_at_10_to_18 (value_of_digits (take l.b-index l.text))
