use Rattle.std.proofs.Common.{◌≡◌, ◌≤◌, ◌-◌, ◌∙◌, arith, length, take, drop, length-drop, length-take}
use Rattle.std.proofs.lemmas.List.{take_rest}
use Rattle.cell_ascii.proofs.BufferedRowLemmas.{filled, filled-length, part-front, part-rest}
use Rattle.cell_ascii.proofs.WordLemmas.{BytesHoldNextCellsAndLineFeeds-append}
use Rattle.cell_ascii.proofs.short_cells.cells_in.Goals as goal

pub ways-preserved : goal.ways-preserved
ways-preserved c =
    let buffered = c.args.buffered.now in
    let old = c.args.row.now in
    let row = c.ways.row in
    let i = c.ways.i in
    let passed = c.ways.passed in
    let k = c.read_cells_in_way-found.result.0 in
    let n = c.read_cells_in_way-found.result.1 in
    let part = c.read_cells_in_way-found.new.row in
    let within : i ≤ length row = c.ways.invariant.low in
    let size : length part ≡ length row - i = omega (arith, c.read_cells_in_way-found.auto.row, length-drop i row, length-take (length row - i) (drop i row)) in
    let few : k ≤ length row - i = omega (arith, c.read_cells_in_way-found.ensures.cells.count, length-drop i row, length-take (length row - i) (drop i row)) in
    let front = part-front i k row part old within size few in
    let whole : length (filled i row part) ≡ length row = filled-length i k row part old within size few in
    let here = take_rest buffered passed in
    let inside = rw here at c.read_cells_in_way-found.ensures.cells.within in
    let next = rw (here, c.ways.invariant.same) at c.read_cells_in_way-found.ensures.cells.cells in
    let m = c.read_cells_in_way-found.result.2 in
    record {
      low = omega (arith, few, within, whole);
      within = omega (arith, inside, length-drop passed buffered, c.ways.invariant.within);
      cells = rw front (BytesHoldNextCellsAndLineFeeds-append c.args.words.now buffered (take i row) (take k part) i k passed n c.ways.lines m c.ways.invariant.cells next);
      same = c.read_cells_in_way-found.ensures.same ∙ c.ways.invariant.same;
      among = omega (arith, c.read_cells_in_way-found.ensures.cells.among, c.ways.invariant.among);
      lines = omega (arith, c.read_cells_in_way-found.ensures.cells.lines, c.ways.invariant.lines);
      rest = part-rest i k row part old within size few c.read_cells_in_way-found.ensures.cells.rest
          c.ways.invariant.rest;
    }
