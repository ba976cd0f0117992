use Rattle.std.proofs.lemmas.Result.{err_from_is_err_and}
use Rattle.std.proofs.Common.{◌≡◌, ◌+◌, ◌-◌, ◌<◌, ◌≤◌, ◌∙◌, false, ap, sym, arith, length, take, drop, set, ◌++◌, ◌∷◌, [], length-drop, length-set, length-take, take_all}
use Rattle.std.proofs.lemmas.List.{take_more_set, drop-set-lt}
use Rattle.std.proofs.lemmas.Grind.{drop_more_same}
use Rattle.cell_core_devices.specs.Asking.{source_knowledge_after_calls}
use Rattle.cell_ascii_reading.specs.Ahead.{bytes_to_come_for_content}
use Rattle.cell_ascii_meaning.specs.CellTexts.{next_cell_after_position}
use Rattle.cell_ascii.specs.Reader.{position_of_cell_reader}
use Rattle.cell_ascii.proofs.BufferedRowLemmas.{filled, filled-length, part-front, part-rest}
use Rattle.cell_ascii.proofs.ManyLemmas.{row_more, row_some}
use Rattle.cell_ascii.proofs.RowReadLemmas.{row_cut}
use Rattle.cell_ascii.proofs.grid_reader.read_row.Goals as goal

pub returns-then-i-row-clause-row : goal.returns-then-i-row-clause-row
returns-then-i-row-clause-row g c =
    let s = c.args.cells.now in
    let t = c.cells.cells in
    let u = c.read_buffered_cells_into_row-i.new.self in
    let i = c.cells.i in
    let k = c.read_buffered_cells_into_row-i.result in
    let row = c.cells.row in
    let part = c.read_buffered_cells_into_row-i.new.row in
    let within : i ≤ length row = c.cells.invariant.within in
    let size : length part ≡ length row - i = omega (arith, c.read_buffered_cells_into_row-i.auto.row, length-drop i row, length-take (length row - i) (drop i row)) in
    let few : k ≤ length row - i = omega (arith, c.read_buffered_cells_into_row-i.ensures.count, length-drop i row, length-take (length row - i) (drop i row)) in
    let front = part-front i k row part c.args.row.now within size few in
    let more = row_some (next_cell_after_position s.header) (position_of_cell_reader s) (position_of_cell_reader t) (position_of_cell_reader u) (bytes_to_come_for_content s.ahead) (bytes_to_come_for_content t.ahead) (bytes_to_come_for_content u.ahead)
    i k (take i row) (take k part) c.cells.invariant.row (rw c.cells.invariant.header at c.read_buffered_cells_into_row-i.ensures.cells) in
    let whole : length (filled i row part) ≡ length row = filled-length i k row part c.args.row.now within size few in
    let count : i + k ≡ length c.args.row.now = c.if-i-row.true ∙ whole ∙ c.cells.auto.row in
    let all : filled i row part ≡ take i row ++ take k part = sym (take_all (i + k) (filled i row part) (omega (arith, c.if-i-row.true))) ∙ front in
    rw (← count, all) more

pub returns-in_err-cell-clause-cut : goal.returns-in_err-cell-clause-cut
returns-in_err-cell-clause-cut g c =
    let s = c.args.cells.now in
    let t = c.cells.cells in
    let u = c.read_buffered_cells_into_row-i.new.self in
    let i = c.cells.i in
    let k = c.read_buffered_cells_into_row-i.result in
    let row = c.cells.row in
    let part = c.read_buffered_cells_into_row-i.new.row in
    let within : i ≤ length row = c.cells.invariant.within in
    let size : length part ≡ length row - i = omega (arith, c.read_buffered_cells_into_row-i.auto.row, length-drop i row, length-take (length row - i) (drop i row)) in
    let few : k ≤ length row - i = omega (arith, c.read_buffered_cells_into_row-i.ensures.count, length-drop i row, length-take (length row - i) (drop i row)) in
    let front = part-front i k row part c.args.row.now within size few in
    let more = row_some (next_cell_after_position s.header) (position_of_cell_reader s) (position_of_cell_reader t) (position_of_cell_reader u) (bytes_to_come_for_content s.ahead) (bytes_to_come_for_content t.ahead) (bytes_to_come_for_content u.ahead)
    i k (take i row) (take k part) c.cells.invariant.row (rw c.cells.invariant.header at c.read_buffered_cells_into_row-i.ensures.cells) in
    let whole : length (filled i row part) ≡ length row = filled-length i k row part c.args.row.now within size few in
    let p = err_from_is_err_and c.from_residual.result c.from_residual.ensures.1 in
    let lower : i + k < length c.args.row.now = omega (arith, few, within, c.if-i-row.false, whole, c.cells.auto.row) in
    let header = c.read_buffered_cells_into_row-i.ensures.header ∙ c.cells.invariant.header in
    rw (p.1, p.2)
    (row_cut s.header (position_of_cell_reader s) (position_of_cell_reader u) (bytes_to_come_for_content s.ahead) (bytes_to_come_for_content u.ahead) (bytes_to_come_for_content c.next_cell.new.self.ahead) (i + k) c.in_err-cell.field-0.0 c.args.row.now (filled i row part)
    lower (part-rest i k row part c.args.row.now within size few c.read_buffered_cells_into_row-i.ensures.rest c.cells.invariant.rest) (rw (← front) at more) (rw header at c.in_err-cell.ensures.cell))

pub returns-in_err-cell-clause-kept : goal.returns-in_err-cell-clause-kept
returns-in_err-cell-clause-kept g c =
    let i = c.cells.i in
    let k = c.read_buffered_cells_into_row-i.result in
    let row = c.cells.row in
    let part = c.read_buffered_cells_into_row-i.new.row in
    let within : i ≤ length row = c.cells.invariant.within in
    let size : length part ≡ length row - i = omega (arith, c.read_buffered_cells_into_row-i.auto.row, length-drop i row, length-take (length row - i) (drop i row)) in
    let few : k ≤ length row - i = omega (arith, c.read_buffered_cells_into_row-i.ensures.count, length-drop i row, length-take (length row - i) (drop i row)) in
    let whole : length (filled i row part) ≡ length row = filled-length i k row part c.args.row.now within size few in
    let p = err_from_is_err_and c.from_residual.result c.from_residual.ensures.1 in
    let lower : i + k < length c.args.row.now = omega (arith, few, within, c.if-i-row.false, whole, c.cells.auto.row) in
    rw p.1 (record { count = i + k; fewer = lower; kept = part-rest i k row part c.args.row.now within size few c.read_buffered_cells_into_row-i.ensures.rest c.cells.invariant.rest })

pub cells-preserved : goal.cells-preserved
cells-preserved g c =
    let s = c.args.cells.now in
    let t = c.cells.cells in
    let u = c.read_buffered_cells_into_row-i.new.self in
    let v = c.next_cell.new.self in
    let i = c.cells.i in
    let k = c.read_buffered_cells_into_row-i.result in
    let row = c.cells.row in
    let part = c.read_buffered_cells_into_row-i.new.row in
    let within : i ≤ length row = c.cells.invariant.within in
    let size : length part ≡ length row - i = omega (arith, c.read_buffered_cells_into_row-i.auto.row, length-drop i row, length-take (length row - i) (drop i row)) in
    let few : k ≤ length row - i = omega (arith, c.read_buffered_cells_into_row-i.ensures.count, length-drop i row, length-take (length row - i) (drop i row)) in
    let front = part-front i k row part c.args.row.now within size few in
    let more = row_some (next_cell_after_position s.header) (position_of_cell_reader s) (position_of_cell_reader t) (position_of_cell_reader u) (bytes_to_come_for_content s.ahead) (bytes_to_come_for_content t.ahead) (bytes_to_come_for_content u.ahead)
    i k (take i row) (take k part) c.cells.invariant.row (rw c.cells.invariant.header at c.read_buffered_cells_into_row-i.ensures.cells) in
    let whole : length (filled i row part) ≡ length row = filled-length i k row part c.args.row.now within size few in
    let cell = c.in_ok-cell.cell in
    let now = filled i row part in
    let lower : i + k < length now = omega (arith, few, within, c.if-i-row.false, whole) in
    let rest = part-rest i k row part c.args.row.now within size few c.read_buffered_cells_into_row-i.ensures.rest c.cells.invariant.rest in
    let header = c.read_buffered_cells_into_row-i.ensures.header ∙ c.cells.invariant.header in
    let longer : take (i + k + 1) (set now (i + k) cell) ≡ take (i + k) now ++ cell ∷ [] = take_more_set now (i + k) cell lower in
    let here : i + k < i + k + 1 = omega arith in
    record {
      within = omega (arith, lower, length-set now (i + k) cell);
      row = rw longer (row_more (next_cell_after_position s.header) (position_of_cell_reader s) (position_of_cell_reader u) (position_of_cell_reader v) (bytes_to_come_for_content s.ahead) (bytes_to_come_for_content u.ahead) (bytes_to_come_for_content v.ahead)
          (i + k) (take (i + k) now) cell (rw (← front) at more) (rw header at c.in_ok-cell.ensures.cell));
      rest = drop-set-lt (i + k + 1) now (i + k) cell here ∙ drop_more_same now c.args.row.now (i + k) rest;
      header = c.next_cell.ensures.header ∙ header;
      lines = omega (
        arith,
        c.cells.invariant.lines,
        c.read_buffered_cells_into_row-i.ensures.lines,
        c.next_cell.ensures.lines,
      );
      heard = c.in_ok-cell.ensures.heard ∙ ap (source_knowledge_after_calls false)
          (c.read_buffered_cells_into_row-i.ensures.heard
          ∙ c.cells.invariant.heard);
    }
