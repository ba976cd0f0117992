use Rattle.std.proofs.Common.{flat_map}
use Rattle.rcell_pipe_frames.specs.FrameBytes.{four_bytes_of_cell, cell_bytes_of_combinations}
use Rattle.rcell_pipe_frames.proofs.ListingLemmas.{leads_first, leads_more, leads_done}
use Rattle.rcell_pipe_frames.proofs.table_frame.push_combinations.Goals as goal

pub loop-entry-init : goal.loop-entry-init
loop-entry-init g c = rw c.into_iter-entry-iterator.ensures.into_iter_gives leads_first

pub loop-entry-preserved : goal.loop-entry-preserved
loop-entry-preserved g c = leads_more (flat_map four_bytes_of_cell c.in-Some.entry.combo.now) (cell_bytes_of_combinations c.next.new.self) (rw c.in-Some.ensures.steps at c.loop-entry.invariant) (rw c.cells.ensures at c.push_cells_in_four_bytes.ensures)

pub returns : goal.returns
returns g c = leads_done (rw c.in-None.ensures.steps.0 at c.loop-entry.invariant)
