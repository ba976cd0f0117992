use Rattle.std.proofs.Common.{◌<◌, ◌++◌, [], ◌∷◌, length, take, sym, ap, ◌∙◌, arith, take_all}
use Rattle.std.proofs.lemmas.List.{take_more}
use Rattle.std.proofs.lemmas.List.Elements.{All-push, All-same}
use Rattle.std.proofs.lemmas.Bool.{and_parts}
use Rattle.cell_core_values.specs.SmallCells.{CellFitsInByte}
use Rattle.cell_core_values.proofs.small_cells.cells_fit_in_bytes.Goals as goal

pub loop-cell-preserved : goal.loop-cell-preserved
loop-cell-preserved c = λ all.
    let cells = c.args.cells.now in
    let i = c.loop-cell.cell-index in
    let cell = c.cell-item.result in
    let within : i < length cells = omega arith in
    let both = and_parts c.loop-cell.all c.cell_fits_in_byte-all.result all in
    All-same CellFitsInByte _ _ (take_more cells i cell within ∙ ap (λ y. take i cells ++ y ∷ []) (sym c.cell-item.is))
    (All-push CellFitsInByte (take i cells) cell (c.loop-cell.invariant both.0)
    (c.cell_fits_in_byte-all.ensures both.1))

pub returns : goal.returns
returns c = λ all.
    let cells = c.args.cells.now in
    let i = c.loop-cell.cell-index in
    All-same CellFitsInByte cells (take i cells) (sym (take_all i cells (omega arith))) (c.loop-cell.invariant all)
