use Rattle.std.proofs.Common.{◌≡◌, ◌+◌, get_or, arith, ap, sym, ◌∙◌}
use Rattle.std.proofs.lemmas.Simd.{get_or-put_chunk_at}
use Rattle.cell_ascii_lanes.proofs.null_lanes.put_values.Goals as goal
use lib.Lanes.{put_chunk}

pub returns : goal.returns
returns c = λ p lt.
    let values = c.args.values in
    let same : 0 + p ≡ p = omega arith in
    ap (λ k. get_or (put_chunk 0 c.args.lanes.now values) k 0) (sym same)
    ∙ get_or-put_chunk_at 0 c.args.lanes.now values p 0 (omega (arith, lt, c.fits-values.0))
    (omega (arith, c.fits-values.0, c.requires))
