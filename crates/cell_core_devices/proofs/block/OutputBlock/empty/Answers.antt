use Rattle.std.proofs.Common.{◌∙◌, sym}
use Rattle.cell_core_devices.proofs.BlockLemmas.{appends_held}
use Rattle.cell_core_devices.proofs.block.OutputBlock.empty.Goals as goal

pub returns-clause-appends : goal.returns-clause-appends
returns-clause-appends g c =
    let put = rw c.bytes.ensures at c.put_bytes-put.ensures in
    rw (c.settle.ensures, c.len-all.ensures.value)
    (appends_held c.put_bytes-put.result c.put_bytes-put.new.out (sym c.has_failed.ensures ∙ c.if-has_failed.false) put.ok put.within put.err put.faults)
