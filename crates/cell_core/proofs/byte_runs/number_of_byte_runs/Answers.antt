use Rattle.std.proofs.Common.{◌≡◌, ◌<◌, List, ℕ, length, drop, get_or, ap, arith, length-drop}
use Rattle.std.proofs.lemmas.List.{take_rest, drop-drop}
use Rattle.cell_core_values.specs.SmallCells.{cell_of_stored_byte, cells_of_bytes}
use Rattle.cell_core.specs.parts.RowForms.{run_start_mark_bits, cells_after_first_byte, runs_of_cells}
use Rattle.cell_core.proofs.ByteLemmas.{number-next, runs-few}
use Rattle.cell_core.proofs.byte_runs.number_of_byte_runs.Goals as goal

pub blocks-2-preserved : goal.blocks-2-preserved
blocks-2-preserved c =
    let bytes = c.args.bytes.now in
    let at = c.blocks-2.at in
    let rest = drop at bytes in
    let here = take_rest bytes at in
    let bits : c.run_start_bits_in_bytes.result ≡ run_start_mark_bits (cell_of_stored_byte (get_or rest 0 0))
    (cells_after_first_byte rest) =
    rw here at c.run_start_bits_in_bytes.ensures in
    let size : 64 < length rest = omega (arith, length-drop at bytes, c.blocks-2-test.true) in
    let next = number-next rest c.run_start_bits_in_bytes.result size bits in
    let after = ap (λ (l : List ℕ). length (runs_of_cells (cells_of_bytes l))) (drop-drop 64 at bytes) in
    record {
      within = omega (arith, c.blocks-2-test.true);
      few = omega (arith, next, after, c.blocks-2.invariant.count, runs-few bytes);
      count = omega (arith, next, after, c.blocks-2.invariant.count);
    }

pub overflow_add-result : goal.overflow_add-result
overflow_add-result c =
    let last : c.number_of_runs_in_last_bytes.result ≡ length
    (runs_of_cells (cells_of_bytes (drop c.blocks-2.at c.args.bytes.now))) =
    rw (take_rest c.args.bytes.now c.blocks-2.at) at c.number_of_runs_in_last_bytes.ensures in
    record { fits = omega (arith, last, c.blocks-2.invariant.count, runs-few c.args.bytes.now, c.requires) }
