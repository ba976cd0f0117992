use Rattle.std.proofs.Common.{◌≡◌, ◌<◌, ◌≤◌, ◌+◌, ◌-◌, ◌++◌, ◌∷◌, [], ◌∙◌, arith, length, length-drop, length-take, take, drop, set, length-set}
use Rattle.std.proofs.lemmas.List.{take_more_set, drop-set-lt, take_rest}
use Rattle.std.proofs.lemmas.Grind.{drop_more_same}
use Rattle.cell_ascii.specs.parts.BlankRuns.{ByteIsBlankAndBitsMarkBlanks}
use Rattle.cell_ascii.proofs.BitLemmas.{next_end}
use Rattle.cell_ascii.proofs.WordLemmas.{word-more, gap-more, gap-one}
use Rattle.cell_ascii.proofs.word_table.read_block_words_as_cells.Goals as goal
use lib.Count.{count_trailing_zeros}

pub overflow_sub-size : goal.overflow_sub-size
overflow_sub-size g c =
    let buffered : 64 ≤ length c.args.buffered.now = omega arith in
    let some : 0 < c.words.ends = omega (arith, c.words-test.true) in
    (next_end c.args.buffered.now c.words.at c.words.ends buffered some c.words.invariant.ends).behind

pub write_word_cell_to_row-requires : goal.write_word_cell_to_row-requires
write_word_cell_to_row-requires g c =
    let bs = c.args.buffered.now in
    let at = c.words.at in
    let buffered : 64 ≤ length bs = omega arith in
    let some : 0 < c.words.ends = omega (arith, c.words-test.true) in
    let next = next_end bs at c.words.ends buffered some c.words.invariant.ends in
    let lower : at < count_trailing_zeros 64 c.words.ends = omega (arith, c.if-size-gt0.true) in
    let rest = length bs - at in
    let long : length (take rest (drop at bs)) ≡ rest =
    omega (arith, length-take rest (drop at bs), length-drop at bs) in
    record {
      some = omega (arith, lower);
      within = omega (arith, long, lower, next.few);
      buffered = omega (arith, long, lower, next.few, c.requires.buffered);
      room = c.words.invariant.room;
      known = c.words.invariant.known;
      place = omega (arith, c.if-i-row.true);
    }

pub index_and_bits_after_blanks-passed-requires : goal.index_and_bits_after_blanks-passed-requires
index_and_bits_after_blanks-passed-requires g c =
    let buffered : 64 ≤ length c.args.buffered.now = omega arith in
    let some : 0 < c.words.ends = omega (arith, c.words-test.true) in
    let next = next_end c.args.buffered.now c.words.at c.words.ends buffered some c.words.invariant.ends in
    omega (arith, next.behind, next.few)

pub words-smaller-then-size-gt0 : goal.words-smaller-then-size-gt0
words-smaller-then-size-gt0 g c =
    let buffered : 64 ≤ length c.args.buffered.now = omega arith in
    let some : 0 < c.words.ends = omega (arith, c.words-test.true) in
    let next = next_end c.args.buffered.now c.words.at c.words.ends buffered some c.words.invariant.ends in
    omega (arith, next.behind, next.few)

pub words-smaller : goal.words-smaller
words-smaller g c =
    let bs = c.args.buffered.now in
    let at = c.words.at in
    let buffered : 64 ≤ length bs = omega arith in
    let some : 0 < c.words.ends = omega (arith, c.words-test.true) in
    let next = next_end bs at c.words.ends buffered some c.words.invariant.ends in
    let same : count_trailing_zeros 64 c.words.ends ≡ at = omega (arith, c.if-size-gt0.false, next.behind) in
    let here : ByteIsBlankAndBitsMarkBlanks bs c.words.ends at =
    record { buffered = buffered; bits = c.words.invariant.ends; blank = rw same at next.blank } in
    let passed = c.index_and_bits_after_blanks-passed.ensures bs here in
    omega (arith, passed.some, passed.few)

pub words-preserved-then-size-gt0 : goal.words-preserved-then-size-gt0
words-preserved-then-size-gt0 g c =
    let bs = c.args.buffered.now in
    let at = c.words.at in
    let last = c.words.last in
    let i = c.words.i in
    let row = c.words.row in
    let end = count_trailing_zeros 64 c.words.ends in
    let buffered : 64 ≤ length bs = omega arith in
    let some : 0 < c.words.ends = omega (arith, c.words-test.true) in
    let next = next_end bs at c.words.ends buffered some c.words.invariant.ends in
    let inside : end < length bs = omega (arith, next.few) in
    let put = c.write_word_cell_to_row.ensures.cell c.if-not-write_word_cell_to_row.false in
    let cell = put.cell in
    let longer : take (i + 1) (set row i cell) ≡ take i row ++ cell ∷ [] =
    take_more_set row i cell (omega (arith, c.if-i-row.true)) in
    let here : i < i + 1 = omega arith in
    let word = rw (take_rest bs at) at put.is in
    let lower : at < end = omega (arith, c.if-size-gt0.true) in
    rw put.row
    (record {
      within = omega (arith, next.few);
      behind = omega arith;
      inside = omega (arith, next.few);
      low = omega (arith, c.if-i-row.true, length-set row i cell);
      ends = c.without_lowest_set_bit-ends.ensures ∙ next.next;
      gap = gap-one bs end inside next.blank;
      cells = rw longer
          (word-more c.args.header.now bs (take i row) i last at end cell c.words.invariant.behind lower next.few inside
          c.words.invariant.gap next.word next.blank word c.words.invariant.cells);
      rest = drop-set-lt (i + 1) row i cell here ∙ drop_more_same row c.args.row.now i c.words.invariant.rest;
      room = c.write_word_cell_to_row.auto.entries ∙ c.words.invariant.room;
      known = c.write_word_cell_to_row.ensures.known;
    })

pub words-preserved : goal.words-preserved
words-preserved g c =
    let bs = c.args.buffered.now in
    let at = c.words.at in
    let buffered : 64 ≤ length bs = omega arith in
    let some : 0 < c.words.ends = omega (arith, c.words-test.true) in
    let next = next_end bs at c.words.ends buffered some c.words.invariant.ends in
    let same : count_trailing_zeros 64 c.words.ends ≡ at = omega (arith, c.if-size-gt0.false, next.behind) in
    let here : ByteIsBlankAndBitsMarkBlanks bs c.words.ends at =
    record { buffered = buffered; bits = c.words.invariant.ends; blank = rw same at next.blank } in
    let passed = c.index_and_bits_after_blanks-passed.ensures bs here in
    record {
      within = passed.few;
      behind = omega (arith, c.words.invariant.behind, passed.some);
      inside = c.words.invariant.inside;
      low = c.words.invariant.low;
      ends = passed.bits;
      gap = gap-more bs c.words.last at c.index_and_bits_after_blanks-passed.result.0 c.words.invariant.behind (omega (arith, passed.some))
          c.words.invariant.gap passed.run;
      cells = c.words.invariant.cells;
      rest = c.words.invariant.rest;
      room = c.words.invariant.room;
      known = c.words.invariant.known;
    }
