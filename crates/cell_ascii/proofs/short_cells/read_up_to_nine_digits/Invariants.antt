use Rattle.std.proofs.Common.{◌≡◌, ◌≤◌, take, true}
use Rattle.std.specs.List.{list_all}
use Rattle.cell_ascii_meaning.specs.EdgeNumbers.{is_digit, value_of_digits}
use Rattle.cell_ascii.proofs.short_cells.read_up_to_nine_digits.Given as goal

abbrev pub invariant-loop-i : goal.invariant-loop-i
invariant-loop-i l = record {
  few : l.i ≤ 9;
  digits : list_all is_digit (take l.i l.bytes) ≡ true;
  value : l.value ≡ value_of_digits (take l.i l.bytes);
}
