use Rattle.std.proofs.Common.{◌≡◌, ◌+◌, ◌==◌, ℕ, drop}
use Rattle.std.specs.List.{position_or_len}
use Rattle.cell_ascii_reading.proofs.number.first_byte_place_or_length.Given as goal

abbrev pub invariant-loop-i : goal.invariant-loop-i
invariant-loop-i l =
    let p = λ (b : ℕ). b == l.byte in
    position_or_len p l.text ≡ l.i + position_or_len p (drop l.i l.text)
