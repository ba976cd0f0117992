use Rattle.std.proofs.Common.{◌&&◌, ap, sym, ◌∙◌, take, arith, take_all}
use Rattle.std.specs.List.{list_all}
use Rattle.std.proofs.lemmas.List.Folds.{list_all_more}
use Rattle.rcell_pipe_frames.specs.FrameBytes.{is_one_byte_cell}
use Rattle.rcell_pipe_frames.proofs.cells.is_one_byte_row.Goals as goal

pub loop-cell-preserved : goal.loop-cell-preserved
loop-cell-preserved c =
    let cells = c.args.cells.now in
    let i = c.loop-cell.cell-index in
    ap (λ b. b && c.is_one_byte_cell-all.result) c.loop-cell.invariant
    ∙ ap (λ b. list_all is_one_byte_cell (take i cells) && b) (c.is_one_byte_cell-all.ensures
    ∙ ap is_one_byte_cell c.cell-item.is)
    ∙ sym (list_all_more is_one_byte_cell cells i c.cell-item.result (omega arith))

pub returns : goal.returns
returns c =
    c.loop-cell.invariant ∙ ap (list_all is_one_byte_cell) (take_all c.loop-cell.cell-index c.args.cells.now
    (omega arith))
