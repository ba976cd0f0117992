use Rattle.std.proofs.Common.{◌≡◌, ◌≤◌, take, length, length-take, arith, eqb, w8}
use Rattle.std.proofs.lemmas.Simd.{bitmask_splat}
use Rattle.cell_ascii.proofs.word_table.line_feed_bits_of_block.Goals as goal

pub returns : goal.returns
returns c =
    let size : length (take 64 c.args.buffered.now) ≡ 64 = omega (arith, length-take 64 c.args.buffered.now) in
    let few : 64 ≤ 64 = omega arith in
    bitmask_splat w8 eqb (take 64 c.args.buffered.now) 64 10 size few
