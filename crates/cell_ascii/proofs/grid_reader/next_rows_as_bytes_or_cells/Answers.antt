use Rattle.std.proofs.Common.{◌≡◌, ℕ, ◌-◌, ◌+◌, ◌*◌, ◌<◌, ◌∙◌, None, length, ap, sym, arith}
use Rattle.std.proofs.Math.Nat.{one-le-mul}
use Rattle.cell_core_devices.specs.Asking.{SourceKnowledge}
use Rattle.cell_core_devices.specs.Device.{ComingBytes}
use Rattle.cell_ascii_reading.specs.Ahead.{bytes_to_come_for_content}
use Rattle.cell_ascii.specs.Reader.{position_of_cell_reader}
use Rattle.cell_ascii.specs.GridReaders.{GridReaderValue}
use Rattle.cell_ascii.proofs.RowReadLemmas.{row_placed, rows_fit}
use Rattle.cell_ascii.proofs.grid_reader.next_rows_as_bytes_or_cells.Goals as goal

pub invariant_of-reader : goal.invariant_of-reader
invariant_of-reader g c =
    let i = c.reader.inside in
    let p = i.cells in
    let u = c.read_row_as_bytes_or_cells.new.cells in
    let cols = p.header.region.cols in
    let left = ap (λ (r : GridReaderValue). r.rows_left) c.reader.view_is in
    let some_rows = c.requires.some in
    let same : p.header.region.cols ≡ c.args.reader.now.header.region.cols = ap
    (λ (r : GridReaderValue). r.header.region.cols) c.reader.view_is in
    let width : length c.args.row.now ≡ c.args.rows * cols = c.requires.width ∙ ap (λ (n : ℕ). c.args.rows * n)
    (sym same) in
    let some : 0 < length c.args.row.now = rw width (one-le-mul some_rows c.reader.invariant.wide) in
    let rest : i.rows_left - c.args.rows + c.args.rows ≡ i.rows_left = omega (arith, left, c.requires.left) in
    record {
      wide = rw c.read_row_as_bytes_or_cells.ensures.header c.reader.invariant.wide;
      lines = λ live. rw c.read_row_as_bytes_or_cells.ensures.header
          (rows_fit p.line u.line i.rows_left (i.rows_left - c.args.rows) c.args.rows cols
          (length c.args.row.now) rest width c.in-Ok.ensures.lines (c.reader.invariant.lines live));
      placed = λ live. row_placed p.header (position_of_cell_reader p) (λ (x : ComingBytes). i.rows_left ≡ 0 → p.pending ≡ None) (bytes_to_come_for_content p.ahead) (c.reader.invariant.placed live)
          (length c.args.row.now) (i.rows_left - c.args.rows) (position_of_cell_reader u)
          (bytes_to_come_for_content u.ahead) _ some c.in-Ok.ensures.row;
      heard = λ _. ap (λ (h : SourceKnowledge). h.failed) c.in-Ok.ensures.heard;
    }
