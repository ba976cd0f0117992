use Rattle.std.proofs.Common.{◌≡◌, ◌+◌, ◌-◌, ◌*◌, ◌≤◌, false, Ok, length, take}
use Rattle.cell_core_devices.specs.Asking.{source_knowledge_after_calls}
use Rattle.cell_core_devices.specs.Supposed.{EqualBeforeAndAfterReads}
use Rattle.cell_core_values.specs.SmallCells.{cells_of_bytes}
use Rattle.cell_ascii_reading.specs.Ahead.{bytes_to_come_for_content}
use Rattle.cell_ascii_meaning.specs.CellTexts.{next_cell_after_position, items_read_one_after_another}
use Rattle.cell_ascii.specs.Reader.{position_of_cell_reader}
use Rattle.cell_ascii.proofs.grid_reader.read_row_front_as_bytes.Given as goal

abbrev pub invariant-cells : goal.invariant-cells
invariant-cells g l =
    let s = l.fn.cells in
    record {
      within : l.count ≤ length l.row;
      bytes : length l.row + 72 ≤ length l.bytes;
      row : EqualBeforeAndAfterReads (λ c. items_read_one_after_another (next_cell_after_position s.header) l.count
          (position_of_cell_reader s c))
          (bytes_to_come_for_content s.ahead) (λ d. Ok (
            cells_of_bytes
                (take l.count l.bytes),
            position_of_cell_reader l.cells d,
          ))
          (bytes_to_come_for_content l.cells.ahead);
      header : l.cells.header ≡ s.header;
      lines : l.cells.line ≤ s.line + l.count * 1048577;
      heard : l.cells.ahead.heard ≡ source_knowledge_after_calls false s.ahead.heard;
    }

abbrev pub decreases-cells : goal.decreases-cells
decreases-cells g l = length l.row - l.count
