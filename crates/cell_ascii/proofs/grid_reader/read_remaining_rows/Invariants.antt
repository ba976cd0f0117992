use Rattle.std.proofs.Common.{◌≡◌, ◌+◌, ◌-◌, ◌*◌, false, length}
use Rattle.cell_core_devices.specs.Asking.{source_knowledge_after_calls}
use Rattle.cell_core_devices.specs.Supposed.{EqualBeforeAndAfterReads}
use Rattle.cell_ascii_reading.specs.Ahead.{bytes_to_come_for_content}
use Rattle.cell_ascii_meaning.specs.CellTexts.{next_cell_after_position, items_read_one_after_another}
use Rattle.cell_ascii.specs.Reader.{rows_read_from_position}
use Rattle.cell_ascii.specs.GridReaders.{position_of_grid_reader}
use Rattle.cell_ascii.proofs.CellLemmas.{with_front}
use Rattle.cell_ascii.proofs.grid_reader.read_remaining_rows.Given as goal

abbrev pub invariant-rows : goal.invariant-rows
invariant-rows g l =
    let s = l.fn.reader in
    let h = s.header in
    record {
      rows : EqualBeforeAndAfterReads (λ c. rows_read_from_position h (position_of_grid_reader s c))
          (bytes_to_come_for_content s.ahead)
          (λ d. with_front l.builder.rows (items_read_one_after_another
          (items_read_one_after_another (next_cell_after_position h) h.region.cols)
          (h.region.rows - length l.builder.rows) (position_of_grid_reader l.reader d)))
          (bytes_to_come_for_content l.reader.ahead);
      header : l.reader.header ≡ h;
      region : l.builder.region ≡ h.region;
      count : length l.builder.rows + l.reader.rows_left ≡ h.region.rows;
      cells : length l.cells ≡ l.band * h.region.cols;
      bytes : length l.bytes ≡ l.band * h.region.cols + 72;
      live : l.reader.failed ≡ false;
      heard : l.reader.ahead.heard ≡ source_knowledge_after_calls false s.ahead.heard;
    }

abbrev pub decreases-rows : goal.decreases-rows
decreases-rows g l = l.reader.rows_left
