use Rattle.std.proofs.Common.{◌≡◌, ◌≤◌, ◌+◌, ◌-◌, ◌∙◌, ap, arith, length, take, drop, length-drop, length-take}
use Rattle.std.proofs.lemmas.List.{take_rest, map-append}
use Rattle.cell_core_values.specs.SmallCells.{cell_of_stored_byte, cells_of_bytes}
use Rattle.cell_ascii_meaning.specs.GridTokens.{line_feed_count}
use Rattle.cell_ascii.proofs.WordLemmas.{BytesHoldNextCellsAndLineFeeds-append, line_feed_count-few}
use Rattle.cell_ascii_lanes.proofs.ByteLaneLemmas.{more_bytes}
use Rattle.cell_ascii.proofs.byte_words.words_in.Goals as goal

pub line_count_after_first_bytes-lines-requires-clause-room :
    goal.line_count_after_first_bytes-lines-requires-clause-room
line_count_after_first_bytes-lines-requires-clause-room c = omega (
  arith,
  c.blocks-2.invariant.fewer,
  c.blocks-2.invariant.within,
  c.if-buffered-passed-ge-LEAST_BUFFERED_BYTES_FOR_BLOCK.true,
  c.well_formed,
)

pub blocks-2-preserved : goal.blocks-2-preserved
blocks-2-preserved c =
    let buffered = c.args.buffered.now in
    let row = c.blocks-2.row in
    let i = c.blocks-2.i in
    let passed = c.blocks-2.passed in
    let found = c.block_words_in-next in
    let k = found.result.0 in
    let n = found.result.1 in
    let part = found.new.row in
    let inv = c.blocks-2.invariant in
    let after = drop (length row - i) (drop i row) in
    let size : length part ≡ length row - i = omega
    (arith, found.auto.row, length-drop i row, length-take (length row - i) (drop i row)) in
    let room : c.args.most + 72 ≤ length row = omega (arith, c.requires.room, c.blocks-2.auto.row) in
    let within : i ≤ length row = omega (arith, inv.count, room) in
    let few : k ≤ length part = omega (arith, size, found.ensures.count, inv.count, room) in
    let front = more_bytes i k row part after within few in
    let here = take_rest buffered passed in
    let rest = drop passed buffered in
    let below : n ≤ 64 = omega (arith, found.ensures.within) in
    let lines : c.line_count_after_first_bytes-lines.result ≡ c.blocks-2.lines + line_feed_count
    (take n rest) = rw here at
    c.line_count_after_first_bytes-lines.ensures in
    let cells = ap cells_of_bytes front ∙ map-append cell_of_stored_byte (take i row) (take k part) in
    record {
      count = omega (arith, found.ensures.count, inv.count);
      within = omega (
        arith,
        c.if-buffered-passed-ge-LEAST_BUFFERED_BYTES_FOR_BLOCK.true,
        inv.within,
        found.ensures.within,
      );
      cells = λ h plain star.
          let next = rw here at (found.ensures.cells h plain star) in
          rw (cells, lines) (BytesHoldNextCellsAndLineFeeds-append h buffered (cells_of_bytes (take i row))
          (cells_of_bytes (take k part)) i k passed n c.blocks-2.lines (line_feed_count (take n rest))
          (inv.cells h plain star) next);
      fewer = omega (arith, lines, line_feed_count-few rest n, inv.fewer);
      few = omega (arith, lines, line_feed_count-few rest n, inv.few, c.if-next-eq0.false);
    }
