use Rattle.std.proofs.Common.{get_or, arith, ap, sym, ◌∙◌}
use Rattle.std.proofs.lemmas.Simd.{get_or-zip2}
use Rattle.cell_ascii_lanes.specs.parts.LaneTables.{capped_sum}
use Rattle.cell_ascii_lanes.proofs.ByteLaneLemmas.{sums_are}
use Rattle.cell_ascii_lanes.proofs.word_lanes.capped_lane_sums.Goals as goal

pub returns : goal.returns
returns c = λ p lt.
    let a = c.args.a in
    let b = c.args.b in
    ap (λ l. get_or l p 0) (sums_are a b (c.fits-a.0 ∙ sym c.fits-b.0) c.fits-a.1 c.fits-b.1)
    ∙ get_or-zip2 capped_sum a b p 0 0 0 (omega (arith, c.fits-a.0)) (omega (arith, c.fits-b.0))
