use Rattle.cell_core_devices.proofs.BlockLemmas.{appends_put}
use Rattle.cell_core_devices.proofs.block.OutputBlock.put_directly.Goals as goal

pub returns : goal.returns
returns g c =
    let put = c.put_bytes-put.ensures in
    rw c.settle.ensures (appends_put c.put_bytes-put.result c.args.bytes.now c.put_bytes-put.new.out c.requires.failed c.requires.held put.ok put.within put.err put.faults)
