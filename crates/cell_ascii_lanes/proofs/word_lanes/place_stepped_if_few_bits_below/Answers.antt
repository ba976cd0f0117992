use Rattle.std.proofs.Common.{◌<◌, ◌+◌, arith}
use Rattle.cell_ascii_lanes.proofs.ByteBitLemmas.{below}
use Rattle.cell_ascii_lanes.proofs.word_lanes.place_stepped_if_few_bits_below.Goals as goal

pub returns-then-bits-place-clause-few : goal.returns-then-bits-place-clause-few
returns-then-bits-place-clause-few c =
    let n = c.args.place + c.args.step in
    let within : n < 64 = c.requires.within in
    omega (arith, c.if-bits-place.true, below c.args.bits n within)
