use Rattle.std.proofs.Common.{ap, arith, take, drop, w32}
use Rattle.std.proofs.lemmas.Int.{to_z-of_z}
use Rattle.cell_calc.proofs.Strips.{beside}
use Rattle.cell_calc.proofs.rows.apply_operator_to_shifted_row.Goals as goal

pub returns : goal.returns
returns c =
    let lies = c.overlap_of_row_and_strip-overlap in
    let halves = c.split_at_mut-left in
    let parts = c.split_at_mut-middle in
    let source = c.args.source.now in
    let first = lies.result.first in
    let left_out = rw (to_z-of_z w32 c.args.right c.ranges.right) at lies.ensures.before in
    let place = rw (to_z-of_z w32 c.args.right c.ranges.right) at lies.ensures.first in
    let right_out = rw (to_z-of_z w32 c.args.right c.ranges.right) at lies.ensures.after in
    beside c.args.operator c.args.row.now halves.result.1.now source halves.result.0.now parts.result.0.now parts.result.1.now
    c.apply_operator_with_cell.new.row c.apply_operator_to_rows.new.row c.apply_operator_with_cell-2.new.row _ c.args.from lies.result.before first lies.result.count c.args.right
    c.null.result c.null-2.result c.null.ensures c.null-2.ensures halves.ensures.front halves.ensures.back parts.ensures.front parts.ensures.back
    halves.ensures.front_len halves.ensures.back_len parts.ensures.front_len parts.ensures.back_len
    c.apply_operator_with_cell.auto.row c.apply_operator_to_rows.auto.row c.apply_operator_with_cell-2.auto.row (ap (λ n. take n (drop first source)) (omega arith))
    c.apply_operator_with_cell.ensures c.apply_operator_to_rows.ensures c.apply_operator_with_cell-2.ensures left_out
    place
    right_out
