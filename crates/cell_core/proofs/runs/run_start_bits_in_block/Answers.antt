use Rattle.std.proofs.Common.{◌≤◌, ◌∙◌, arith}
use Rattle.cell_core.proofs.MarkLemmas.{all_marked}
use Rattle.cell_core.proofs.runs.run_start_bits_in_block.Goals as goal

pub returns : goal.returns
returns c =
    let end : 64 ≤ c.loop-j.j = omega arith in
    c.mask_of_nonzero_bytes.ensures ∙ all_marked c.loop-j.flags c.args.block.now c.loop-j.last c.args.cell c.loop-j.j
    c.loop-j.invariant.size c.requires end c.loop-j.invariant.marked
