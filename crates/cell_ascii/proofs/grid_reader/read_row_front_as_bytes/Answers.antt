use Rattle.std.proofs.lemmas.Result.{err_from_is_err_and}
use Rattle.std.proofs.Common.{◌≡◌, ◌+◌, ◌-◌, ◌<◌, ◌≤◌, ◌∙◌, false, refl, ap, sym, arith, length, take, drop, set, ◌++◌, ◌∷◌, [], length-drop, length-set, length-take, length-append}
use Rattle.std.proofs.lemmas.List.{take_more_set, take_at}
use Rattle.cell_core_devices.specs.Asking.{source_knowledge_after_calls}
use Rattle.cell_core_values.specs.SmallCells.{cells_of_bytes}
use Rattle.cell_ascii_reading.specs.Ahead.{bytes_to_come_for_content}
use Rattle.cell_ascii_meaning.specs.CellTexts.{next_cell_after_position}
use Rattle.cell_ascii.specs.Reader.{position_of_cell_reader}
use Rattle.cell_ascii_lanes.proofs.ByteLaneLemmas.{more_byte_cells, byte_set}
use Rattle.cell_ascii.proofs.ManyLemmas.{row_more, row_some}
use Rattle.cell_ascii.proofs.RowReadLemmas.{row_fails}
use Rattle.cell_ascii.proofs.grid_reader.read_row_front_as_bytes.Goals as goal

pub returns-then-count-row-clause-cells : goal.returns-then-count-row-clause-cells
returns-then-count-row-clause-cells g c =
    let s = c.args.cells.now in
    let t = c.cells.cells in
    let u = c.buffered_bytes-count.new.self in
    let i = c.cells.count in
    let k = c.buffered_bytes-count.result in
    let bytes = c.cells.bytes in
    let part = c.buffered_bytes-count.new.row in
    let inv = c.cells.invariant in
    let after = drop (length bytes - i) (drop i bytes) in
    let within : i ≤ length bytes = omega (arith, inv.within, inv.bytes) in
    let size : length part ≡ length bytes - i = omega (arith, c.buffered_bytes-count.auto.row, length-drop i bytes, length-take (length bytes - i) (drop i bytes)) in
    let few : k ≤ length part = omega (arith, size, c.buffered_bytes-count.ensures.count, inv.within, inv.bytes) in
    let front = more_byte_cells i k bytes part after within few in
    let more = row_some (next_cell_after_position s.header) (position_of_cell_reader s) (position_of_cell_reader t) (position_of_cell_reader u) (bytes_to_come_for_content s.ahead) (bytes_to_come_for_content t.ahead) (bytes_to_come_for_content u.ahead)
    i k (cells_of_bytes (take i bytes)) (cells_of_bytes (take k part)) inv.row (rw inv.header at c.buffered_bytes-count.ensures.cells) in
    rw (← front) at more

pub returns-in_err-cell-clause-fault : goal.returns-in_err-cell-clause-fault
returns-in_err-cell-clause-fault g c =
    let s = c.args.cells.now in
    let t = c.cells.cells in
    let u = c.buffered_bytes-count.new.self in
    let i = c.cells.count in
    let k = c.buffered_bytes-count.result in
    let bytes = c.cells.bytes in
    let part = c.buffered_bytes-count.new.row in
    let inv = c.cells.invariant in
    let after = drop (length bytes - i) (drop i bytes) in
    let within : i ≤ length bytes = omega (arith, inv.within, inv.bytes) in
    let size : length part ≡ length bytes - i = omega (arith, c.buffered_bytes-count.auto.row, length-drop i bytes, length-take (length bytes - i) (drop i bytes)) in
    let few : k ≤ length part = omega (arith, size, c.buffered_bytes-count.ensures.count, inv.within, inv.bytes) in
    let front = more_byte_cells i k bytes part after within few in
    let more = row_some (next_cell_after_position s.header) (position_of_cell_reader s) (position_of_cell_reader t) (position_of_cell_reader u) (bytes_to_come_for_content s.ahead) (bytes_to_come_for_content t.ahead) (bytes_to_come_for_content u.ahead)
    i k (cells_of_bytes (take i bytes)) (cells_of_bytes (take k part)) inv.row (rw inv.header at c.buffered_bytes-count.ensures.cells) in
    let p = err_from_is_err_and c.from_residual.result c.from_residual.ensures.1 in
    let lower : i + k < length c.args.row.now = omega (arith, c.buffered_bytes-count.ensures.count, inv.within, c.if-count-row.false, c.cells.auto.row) in
    let header = c.buffered_bytes-count.ensures.header ∙ inv.header in
    rw (p.1, p.2)
    (row_fails s.header (position_of_cell_reader s) (position_of_cell_reader u) (bytes_to_come_for_content s.ahead) (bytes_to_come_for_content u.ahead) (bytes_to_come_for_content c.next_cell.new.self.ahead) (i + k) (length c.args.row.now) c.in_err-cell.field-0.0
    (cells_of_bytes (take i bytes) ++ cells_of_bytes (take k part)) lower more (rw header at c.in_err-cell.ensures.cell))

pub cells-preserved : goal.cells-preserved
cells-preserved g c =
    let s = c.args.cells.now in
    let t = c.cells.cells in
    let u = c.buffered_bytes-count.new.self in
    let i = c.cells.count in
    let k = c.buffered_bytes-count.result in
    let bytes = c.cells.bytes in
    let part = c.buffered_bytes-count.new.row in
    let inv = c.cells.invariant in
    let after = drop (length bytes - i) (drop i bytes) in
    let within : i ≤ length bytes = omega (arith, inv.within, inv.bytes) in
    let size : length part ≡ length bytes - i = omega (arith, c.buffered_bytes-count.auto.row, length-drop i bytes, length-take (length bytes - i) (drop i bytes)) in
    let few : k ≤ length part = omega (arith, size, c.buffered_bytes-count.ensures.count, inv.within, inv.bytes) in
    let front = more_byte_cells i k bytes part after within few in
    let more = row_some (next_cell_after_position s.header) (position_of_cell_reader s) (position_of_cell_reader t) (position_of_cell_reader u) (bytes_to_come_for_content s.ahead) (bytes_to_come_for_content t.ahead) (bytes_to_come_for_content u.ahead)
    i k (cells_of_bytes (take i bytes)) (cells_of_bytes (take k part)) inv.row (rw inv.header at c.buffered_bytes-count.ensures.cells) in
    let v = c.next_cell.new.self in
    let byte = c.in-Some.byte in
    let now = take i bytes ++ (part ++ after) in
    let whole : length now ≡ length bytes = omega (arith, length-append (take i bytes) (part ++ after), length-append part after, length-take i bytes, size, length-drop (length bytes - i) (drop i bytes), length-drop i bytes) in
    let lower : i + k < length c.cells.row = omega (arith, c.buffered_bytes-count.ensures.count, inv.within, c.if-count-row.false) in
    let inside : i + k < length now = omega (arith, lower, whole, inv.bytes) in
    let header = c.buffered_bytes-count.ensures.header ∙ inv.header in
    let cell = c.in_ok-cell.cell in
    let longer : cells_of_bytes (take (i + k + 1) (set now (i + k) byte)) ≡ cells_of_bytes (take (i + k) now) ++ cell ∷ [] =
    byte_set (i + k) now byte inside ∙ ap (λ x. cells_of_bytes (take (i + k) now) ++ x ∷ []) c.in-Some.ensures in
    record {
      within = omega (arith, lower);
      bytes = omega (arith, length-set now (i + k) byte, whole, inv.bytes);
      row = rw longer (row_more (next_cell_after_position s.header) (position_of_cell_reader s) (position_of_cell_reader u) (position_of_cell_reader v) (bytes_to_come_for_content s.ahead) (bytes_to_come_for_content u.ahead) (bytes_to_come_for_content v.ahead)
          (i + k) (cells_of_bytes (take (i + k) now)) cell (rw (← front) at more) (rw header at c.in_ok-cell.ensures.cell));
      header = c.next_cell.ensures.header ∙ header;
      lines = omega (arith, inv.lines, c.buffered_bytes-count.ensures.lines, c.next_cell.ensures.lines);
      heard = c.in_ok-cell.ensures.heard ∙ ap (source_knowledge_after_calls false)
          (c.buffered_bytes-count.ensures.heard ∙ inv.heard);
    }

pub returns-then-not-has_no_block_to_read-clause-cells : goal.returns-then-not-has_no_block_to_read-clause-cells
returns-then-not-has_no_block_to_read-clause-cells g c =
    let s = c.args.cells.now in
    let t = c.cells.cells in
    let u = c.buffered_bytes-count.new.self in
    let i = c.cells.count in
    let k = c.buffered_bytes-count.result in
    let bytes = c.cells.bytes in
    let part = c.buffered_bytes-count.new.row in
    let inv = c.cells.invariant in
    let after = drop (length bytes - i) (drop i bytes) in
    let within : i ≤ length bytes = omega (arith, inv.within, inv.bytes) in
    let size : length part ≡ length bytes - i = omega (arith, c.buffered_bytes-count.auto.row, length-drop i bytes, length-take (length bytes - i) (drop i bytes)) in
    let few : k ≤ length part = omega (arith, size, c.buffered_bytes-count.ensures.count, inv.within, inv.bytes) in
    let front = more_byte_cells i k bytes part after within few in
    let more = row_some (next_cell_after_position s.header) (position_of_cell_reader s) (position_of_cell_reader t) (position_of_cell_reader u) (bytes_to_come_for_content s.ahead) (bytes_to_come_for_content t.ahead) (bytes_to_come_for_content u.ahead)
    i k (cells_of_bytes (take i bytes)) (cells_of_bytes (take k part)) inv.row (rw inv.header at c.buffered_bytes-count.ensures.cells) in
    let now = take i bytes ++ (part ++ after) in
    let written = c.write_bytes_as_cells.new.cells in
    let row = c.cells.row in
    let lower : i + k ≤ length row = omega (arith, c.buffered_bytes-count.ensures.count, inv.within) in
    let wide : length written ≡ i + k = omega (
      arith,
      c.write_bytes_as_cells.auto.cells,
      length-take
          (i + k) row,
      lower,
    ) in
    let these : take (i + k) (written ++ drop (i + k) row) ≡ cells_of_bytes (take (i + k) now) =
    ap (λ n. take n (written ++ drop (i + k) row)) (sym wide) ∙ take_at written (drop (i + k) row) (length written) refl ∙ c.write_bytes_as_cells.ensures in
    rw (these, front) more

pub returns-in_default-clause-cells : goal.returns-in_default-clause-cells
returns-in_default-clause-cells g c =
    let s = c.args.cells.now in
    let t = c.cells.cells in
    let u = c.buffered_bytes-count.new.self in
    let i = c.cells.count in
    let k = c.buffered_bytes-count.result in
    let bytes = c.cells.bytes in
    let part = c.buffered_bytes-count.new.row in
    let inv = c.cells.invariant in
    let after = drop (length bytes - i) (drop i bytes) in
    let within : i ≤ length bytes = omega (arith, inv.within, inv.bytes) in
    let size : length part ≡ length bytes - i = omega (arith, c.buffered_bytes-count.auto.row, length-drop i bytes, length-take (length bytes - i) (drop i bytes)) in
    let few : k ≤ length part = omega (arith, size, c.buffered_bytes-count.ensures.count, inv.within, inv.bytes) in
    let front = more_byte_cells i k bytes part after within few in
    let more = row_some (next_cell_after_position s.header) (position_of_cell_reader s) (position_of_cell_reader t) (position_of_cell_reader u) (bytes_to_come_for_content s.ahead) (bytes_to_come_for_content t.ahead) (bytes_to_come_for_content u.ahead)
    i k (cells_of_bytes (take i bytes)) (cells_of_bytes (take k part)) inv.row (rw inv.header at c.buffered_bytes-count.ensures.cells) in
    let v = c.next_cell.new.self in
    let now = take i bytes ++ (part ++ after) in
    let written = c.write_bytes_as_cells-in_default.new.cells in
    let row = c.cells.row in
    let cell = c.in_ok-cell.cell in
    let header = c.buffered_bytes-count.ensures.header ∙ inv.header in
    let lower : i + k < length row = omega (arith, c.buffered_bytes-count.ensures.count, inv.within, c.if-count-row.false) in
    let wide : length written ≡ i + k = omega (arith, c.write_bytes_as_cells-in_default.auto.cells, length-take (i + k) row, lower) in
    let filled = written ++ drop (i + k) row in
    let these : take (i + k) filled ≡ cells_of_bytes (take i bytes) ++ cells_of_bytes (take k part) =
    ap (λ n. take n filled) (sym wide) ∙ take_at written (drop (i + k) row) (length written) refl ∙ c.write_bytes_as_cells-in_default.ensures ∙ front in
    let inside : i + k < length filled = omega (arith, length-append written (drop (i + k) row), length-drop (i + k) row, wide, lower) in
    let longer = take_more_set filled (i + k) cell inside ∙ ap (λ l. l ++ cell ∷ []) these in
    rw longer
    (row_more (next_cell_after_position s.header) (position_of_cell_reader s) (position_of_cell_reader u) (position_of_cell_reader v) (bytes_to_come_for_content s.ahead) (bytes_to_come_for_content u.ahead) (bytes_to_come_for_content v.ahead)
    (i + k) (cells_of_bytes (take i bytes) ++ cells_of_bytes (take k part)) cell more (rw header at c.in_ok-cell.ensures.cell))
