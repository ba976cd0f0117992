use Rattle.std.proofs.Common.{◌<◌, length, get_or, arith, rules}
use Rattle.std.proofs.lemmas.List.{length-map, get_or_default}
use Rattle.cell_core_values.specs.SmallCells.{cell_of_stored_byte, cells_of_bytes}
use Rattle.cell_core.proofs.ByteLemmas.{cells-same, cells-apart, byte_at}
use Rattle.cell_core.proofs.RowLemmas.{breaks-none, breaks-one, breaks-whole}
use Rattle.cell_core.proofs.byte_runs.number_of_runs_in_last_bytes.Goals as goal
use Rattle.cell_core.proofs.byte_runs.number_of_runs_in_last_bytes.Goals.{then-byte-last, else-byte-last}

pub loop-byte-init : goal.loop-byte-init
loop-byte-init c =
    let bytes = c.args.bytes.now in
    let some : 0 < length bytes = search (rules, c.if-is_empty.false) in
    let last = get_or bytes 0 0 in
    let read = byte_at bytes 0 last some (get_or_default bytes 0 0 last some) in
    let inside : 0 < length (cells_of_bytes bytes) = omega (arith, some, length-map bytes cell_of_stored_byte) in
    record {
      count = omega (arith, breaks-whole (cells_of_bytes bytes) (cell_of_stored_byte last) inside read);
      few = omega arith;
    }

pub loop-byte-preserved : goal.loop-byte-preserved
loop-byte-preserved c =
    let bytes = c.args.bytes.now in
    let cells = cells_of_bytes bytes in
    let i = c.loop-byte.byte-index in
    let byte = get_or bytes i 0 in
    let last = c.loop-byte.last in
    let within : i < length bytes = c.loop-byte-test.true in
    let inside : i < length cells = omega (arith, within, length-map bytes cell_of_stored_byte) in
    let read = byte_at bytes i byte within (get_or_default bytes i 0 byte within) in
    elim c.if-byte-last.branch [
      | then-byte-last w ↦
          let same = cells-same byte last (search (rules, w.if-byte-last)) in
          let none = breaks-none (cell_of_stored_byte last) (cell_of_stored_byte byte) cells i inside read same in
          record {
            count = rw w.last-is (omega (arith, w.alike-is, none, c.loop-byte.invariant.count));
            few = omega (arith, w.alike-is, c.loop-byte.invariant.few);
          }
      | else-byte-last w ↦
          let other = cells-apart byte last (search (rules, w.if-byte-last)) in
          let one = breaks-one (cell_of_stored_byte last) (cell_of_stored_byte byte) cells i inside read other in
          record {
            count = rw w.last-is (omega (arith, w.alike-is, one, c.loop-byte.invariant.count));
            few = omega (arith, w.alike-is, c.loop-byte.invariant.few);
          }
    ]
