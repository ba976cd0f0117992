use Rattle.std.proofs.Common.{◌≤◌, ◌+◌, ◌*◌, ◌∙◌, ap, arith, length, take, drop, length-drop}
use Rattle.std.proofs.Math.Nat.{mul-le-mul_right}
use Rattle.std.proofs.lemmas.List.{take_rest}
use Rattle.cell_ascii.proofs.AgainLemmas.{BytesHoldNextCells-again, fewer_again, written-front, written-rest}
use Rattle.cell_ascii.proofs.short_cells.read_cells_by_repetition.Goals as goal

pub words-preserved : goal.words-preserved
words-preserved c =
    let buffered = c.args.buffered.now in
    let header = c.args.header.now in
    let row = c.words.row in
    let i = c.words.i in
    let passed = c.words.passed in
    let cell = c.in-Some.found.0 in
    let n = c.in-Some.found.1 in
    let more = c.min-more.result in
    let times = c.repetition_count_of_first_word.result in
    let here = take_rest buffered passed in
    let size = length-drop passed buffered in
    let front = rw here at c.in-Some.ensures.cell in
    let again = rw here at c.repetition_count_of_first_word.ensures.again in
    let inside = rw here at c.repetition_count_of_first_word.ensures.within in
    let fewer : more ≤ times = omega (arith, c.min-more.ensures) in
    let bytes : more * n ≤ times * n = mul-le-mul_right n fewer in
    let within : n + more * n ≤ length (drop passed buffered) = omega (arith, bytes, inside) in
    let room : i + (1 + more) ≤ length row = omega (arith, c.min-more.ensures, c.words-test.true) in
    record {
      low = omega (arith, room, c.fill_cells.auto.row);
      within = omega (arith, within, size, c.words.invariant.within);
      cells = rw (c.fill_cells.ensures, written-front i (1 + more) row c.args.row.now cell room)
          (BytesHoldNextCells-again header buffered (take i row) i passed cell n more within c.words.invariant.cells front (fewer_again (drop passed buffered) n times more fewer again));
      rest = ap (drop (i + (1 + more))) c.fill_cells.ensures ∙ written-rest i (1 + more) row c.args.row.now cell room c.words.invariant.rest;
    }
