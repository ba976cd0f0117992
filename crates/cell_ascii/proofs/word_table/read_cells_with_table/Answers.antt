use Rattle.std.proofs.Common.{◌≡◌, ◌≤◌, ◌+◌, ◌-◌, ◌∙◌, ap, sym, arith, length, take, drop, length-drop, length-take}
use Rattle.std.proofs.lemmas.List.{take_rest}
use Rattle.cell_ascii_meaning.specs.GridTokens.{line_feed_count}
use Rattle.cell_ascii.proofs.BufferedRowLemmas.{filled, filled-length, part-front, part-none, part-rest}
use Rattle.cell_ascii.proofs.WordLemmas.{BytesHoldNextCellsAndLineFeeds-append, line_feed_count-few}
use Rattle.cell_ascii.proofs.word_table.read_cells_with_table.Goals as goal

pub line_count_after_first_bytes-lines-requires-clause-room :
    goal.line_count_after_first_bytes-lines-requires-clause-room
line_count_after_first_bytes-lines-requires-clause-room g c = omega (arith, c.blocks-2.invariant.fewer, c.blocks-2.invariant.within, c.if-buffered-passed-ge-LEAST_BUFFERED_BYTES_FOR_BLOCK.true, c.well_formed)

pub blocks-2-preserved : goal.blocks-2-preserved
blocks-2-preserved g c =
    let buffered = c.args.buffered.now in
    let old = c.args.row.now in
    let row = c.blocks-2.row in
    let i = c.blocks-2.i in
    let passed = c.blocks-2.passed in
    let found = c.read_block_as_numbers_or_cells-found in
    let k = found.result.0 in
    let n = found.result.1 in
    let part = found.new.row in
    let within : i ≤ length row = c.blocks-2.invariant.low in
    let size : length part ≡ length row - i = omega (arith, found.auto.row, length-drop i row, length-take (length row - i) (drop i row)) in
    let few : k ≤ length row - i = omega (arith, found.ensures.count, length-drop i row, length-take (length row - i) (drop i row)) in
    let front = part-front i k row part old within size few in
    let whole : length (filled i row part) ≡ length row = filled-length i k row part old within size few in
    let here = take_rest buffered passed in
    let rest = drop passed buffered in
    let next = rw here at found.ensures.cells in
    let below : n ≤ 64 = omega (arith, found.ensures.within) in
    let lines : c.line_count_after_first_bytes-lines.result ≡ c.blocks-2.lines + line_feed_count (take n rest) = rw here at c.line_count_after_first_bytes-lines.ensures in
    let fits : 80 ≤ length buffered - passed = omega (arith, c.if-buffered-passed-ge-LEAST_BUFFERED_BYTES_FOR_BLOCK.true) in
    record {
      low = omega (arith, few, within, whole);
      within = omega (arith, fits, below);
      cells = rw (front, lines) (BytesHoldNextCellsAndLineFeeds-append c.args.header.now buffered (take i row) (take k part) i k passed n c.blocks-2.lines (line_feed_count (take n rest)) c.blocks-2.invariant.cells next);
      fewer = omega (arith, lines, line_feed_count-few rest n, c.blocks-2.invariant.fewer);
      few = omega (arith, lines, line_feed_count-few rest n, c.blocks-2.invariant.few, c.if-found-eq0.false);
      rest = part-rest i k row part old within size few found.ensures.rest c.blocks-2.invariant.rest;
      room = found.auto.entries ∙ c.blocks-2.invariant.room;
      known = found.ensures.known;
      plain = found.ensures.plain;
    }

pub returns-then-found-eq0-clause-cells : goal.returns-then-found-eq0-clause-cells
returns-then-found-eq0-clause-cells g c =
    let old = c.args.row.now in
    let row = c.blocks-2.row in
    let i = c.blocks-2.i in
    let inv = c.blocks-2.invariant in
    let found = c.read_block_as_numbers_or_cells-found in
    let k = found.result.0 in
    let part = found.new.row in
    let is = found.ensures in
    let within : i ≤ length row = inv.low in
    let size : length part ≡ length row - i = omega (arith, found.auto.row, length-drop i row, length-take (length row - i) (drop i row)) in
    let few : k ≤ length row - i = omega (arith, is.count, length-drop i row, length-take (length row - i) (drop i row)) in
    let none : i + k ≡ i = omega (arith, c.if-found-eq0.true) in
    record {
      cells = rw (part-none i k row part old within size few) inv.cells;
      count = omega (arith, within, c.blocks-2.auto.row);
      within = inv.within;
      among = inv.fewer;
      lines = inv.few;
      rest = ap (λ n. drop n (filled i row part)) (sym none)
          ∙ part-rest i k row part old within size few is.rest inv.rest ∙ ap (λ n. drop n old) none;
    }
