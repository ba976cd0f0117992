use Rattle.std.proofs.Common.{◌≤◌, arith, eqb, w8}
use Rattle.std.proofs.lemmas.Simd.{bitmask_splat}
use Rattle.cell_ascii_lanes.proofs.word_lanes.star_mask.Goals as goal

pub returns : goal.returns
returns c =
    let few : 64 ≤ 64 = omega arith in
    bitmask_splat w8 eqb c.args.bytes 64 42 c.fits-bytes.0 few
