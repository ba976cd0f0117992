use Rattle.std.proofs.Common.{◌≡◌, ℕ, ◌+◌, ◌*◌, ◌<◌, length, get_or}
use Rattle.cell_ascii_writer.specs.Fields.{last_digits_one_per_byte}
use Rattle.cell_ascii_writer.proofs.fields.ThreeDigitTable.new.Given as goal

abbrev pub invariant-loop-upper : goal.invariant-loop-upper
invariant-loop-upper l = record {
  room : length l.digits ≡ 1000;
  made : (k : ℕ) → k < l.upper * 10 → get_or l.digits k 0 ≡ last_digits_one_per_byte 3 k;
}

abbrev pub invariant-loop-last : goal.invariant-loop-last
invariant-loop-last l = record {
  room : length l.digits ≡ 1000;
  made : (k : ℕ) → k < l.upper * 10 + l.last → get_or l.digits k 0 ≡ last_digits_one_per_byte 3 k;
}
