use Rattle.cell_ascii_lanes.proofs.ByteLaneLemmas.{moved}
use Rattle.cell_ascii_lanes.proofs.word_lanes.lanes_rotated_by_one.Goals as goal

pub returns : goal.returns
returns c = λ p lt. moved c.args.lanes p c.fits-lanes.0 lt
