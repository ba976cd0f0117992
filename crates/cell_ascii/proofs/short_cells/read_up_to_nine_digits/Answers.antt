use Rattle.std.proofs.Common.{◌≤◌, arith, length, length-take, take, sym, ◌∙◌}
use Rattle.std.specs.Prelude.{slice_index_or}
use Rattle.cell_ascii.proofs.BufferedLemmas.{few_below, digit_last}
use Rattle.cell_ascii.proofs.short_cells.read_up_to_nine_digits.Goals as goal

pub overflow_mul-value : goal.overflow_mul-value
overflow_mul-value c =
    let bytes = c.args.bytes.now in
    let few : length (take c.loop-i.i bytes) ≤ 8 = omega (arith, length-take c.loop-i.i bytes) in
    omega (arith, few_below (take c.loop-i.i bytes) c.loop-i.invariant.digits few, c.loop-i.invariant.value)

pub overflow_add-value : goal.overflow_add-value
overflow_add-value c =
    let bytes = c.args.bytes.now in
    let few : length (take c.loop-i.i bytes) ≤ 8 = omega (arith, length-take c.loop-i.i bytes) in
    let digit = digit_last (slice_index_or bytes c.loop-i.i 0) (sym c.is_digit.ensures ∙ c.if-is_digit.true) in
    omega (arith, few_below (take c.loop-i.i bytes) c.loop-i.invariant.digits few, c.loop-i.invariant.value, digit)
