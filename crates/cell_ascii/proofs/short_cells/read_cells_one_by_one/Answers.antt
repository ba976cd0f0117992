use Rattle.std.proofs.Common.{◌≡◌, ◌+◌, ◌-◌, ◌<◌, ◌∙◌, arith, length, take, drop, set, ◌++◌, ◌∷◌, [], length-drop, take_all}
use Rattle.std.proofs.lemmas.List.{take_more_set, drop-set-lt}
use Rattle.std.proofs.lemmas.Grind.{drop_more_same}
use Rattle.cell_ascii.proofs.BufferedRowLemmas.{BytesHoldNextCells-more}
use Rattle.cell_ascii.proofs.AgainLemmas.{front_holds}
use Rattle.cell_ascii.proofs.short_cells.read_cells_one_by_one.Goals as goal

pub loop-i-preserved : goal.loop-i-preserved
loop-i-preserved c =
    let buffered = c.args.buffered.now in
    let row = c.loop-i.row in
    let i = c.loop-i.i in
    let passed = c.loop-i.passed in
    let cell = c.in-Some.found.0 in
    let size = length-drop passed buffered in
    let rest : take (length buffered - passed) (drop passed buffered) ≡ drop passed buffered = take_all (length buffered - passed) (drop passed buffered) (omega (arith, size)) in
    let longer : take (i + 1) (set row i cell) ≡ take i row ++ cell ∷ [] = take_more_set row i cell (omega arith) in
    let here : i < i + 1 = omega arith in
    let inside = rw rest at c.in-Some.ensures.within in
    let next = front_holds c.args.header.now (drop passed buffered) cell c.in-Some.found.1 inside.1 (rw rest at c.in-Some.ensures.cell) in
    record {
      within = omega (arith, inside, c.loop-i.invariant.within, size);
      cells = rw longer (BytesHoldNextCells-more c.args.header.now buffered (take i row) i passed cell c.in-Some.found.1 c.loop-i.invariant.cells next);
      rest = drop-set-lt (i + 1) row i cell here ∙ drop_more_same row c.args.row.now i c.loop-i.invariant.rest;
    }
