use Rattle.std.proofs.Common.{◌≡◌, length, All}
use Rattle.rcell_pipe_frames.specs.parts.CellLabels.{cell_labels_bytes}
use Rattle.rcell_pipe_frames.proofs.ListingLemmas.{Leads}
use Rattle.rcell_pipe_frames.proofs.table_frame.push_labels.Given as goal

abbrev pub invariant-loop-entry : goal.invariant-loop-entry
invariant-loop-entry g l =
    All (λ pair. length pair.0 ≡ length l.places) l.entry-iterator
    × Leads g.W.Sink.taken g.W.Sink.faults l.fn.out l.fn.block (cell_labels_bytes l.shelf.maps l.places l.fn.entries) l.out l.block (cell_labels_bytes l.shelf.maps l.places l.entry-iterator)
