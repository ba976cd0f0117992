use Rattle.std.proofs.Common.{◌≤◌, ◌++◌, ◌∙◌, ap, sym, List, length, replicate, drop, arith}
use Rattle.std.proofs.lemmas.List.{drop-append-le, drop-replicate, length-replicate}
use Rattle.cell_clumps.specs.declared.near.LabelledCell.{LabelledCell}
use Rattle.cell_clumps.specs.parts.RunsOfLabels.{labelled_cells_of_runs}
use Rattle.cell_clumps.proofs.above.UnreadRowAbove.after.Goals as goal

pub returns-then-count-self-clause-coming : goal.returns-then-count-self-clause-coming
returns-then-count-self-clause-coming c =
    let above = c.args.self.now in
    let rest : List LabelledCell = labelled_cells_of_runs (drop above.place c.args.line.now) in
    let le : c.args.count ≤ length (replicate above.count above.cell) = omega
    (arith, length-replicate above.count above.cell, c.if-count-self.true) in
    sym (drop-append-le c.args.count (replicate above.count above.cell) rest le
    ∙ ap (λ (l : List LabelledCell). l ++ rest) (drop-replicate c.args.count above.count above.cell))
