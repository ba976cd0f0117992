use Rattle.std.proofs.Common.{List, ℕ, sym, subst}
use Rattle.cell_core_devices.specs.Blocks.{IsTextAppendedThroughBlock}
use Rattle.rcell_pipe_frames.proofs.SmallLemmas.{bytes_again}
use Rattle.rcell_pipe_frames.proofs.cells.push_row_stored_as_bytes.Goals as goal

pub returns : goal.returns
returns g c = subst
    (λ (text : List ℕ). IsTextAppendedThroughBlock g.W.Sink.taken g.W.Sink.faults c.args.out.now c.args.block.now text
    c.push.new.out c.push.new.self)
    (sym (bytes_again c.args.kept.now c.type_inv.kept)) c.push.ensures
