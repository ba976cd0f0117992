use Rattle.std.proofs.Common.{ap, ◌∙◌}
use Rattle.circular_buffer.specs.Buffer.{buffer}
use Rattle.cell_calc.proofs.Rings.{kept_whole}
use Rattle.cell_calc.proofs.window_rows.append_row_to_ring.Goals as goal

pub returns : goal.returns
returns c = c.push_back.ensures.items ∙ ap (λ l. buffer l c.args.ring.now.capacity) (kept_whole c.args.ring.now.items c.args.row c.args.ring.now.capacity c.requires)
