use Rattle.std.proofs.Common.{◌+◌, ◌<◌, ◌≤◌, length, arith, refl, w8}
use Rattle.std.proofs.lemmas.Simd.{SwzOk-from_below, Each1-from_get_or}
use Rattle.cell_ascii_lanes.proofs.ByteLaneLemmas.{table_at}
use Rattle.cell_ascii_lanes.proofs.word_lanes.looked_up_table_bytes.Goals as goal

pub swizzle : goal.swizzle
swizzle c =
    let v = c.args.places in
    SwzOk-from_below w8 16 4 64 0 v refl (omega (arith, c.fits-places.0)) (Each1-from_get_or (λ j. j < 16) v 0 (λ i _. c.requires i))

pub returns : goal.returns
returns c = λ f is.
    let v = c.args.places in
    let few : 0 + length v ≤ 64 = omega (arith, c.fits-places.0) in
    table_at f c.args.table.now 0 v is few (Each1-from_get_or (λ j. j < 16) v 0 (λ i _. c.requires i))
