use Rattle.std.proofs.Common.{◌≡◌, ℕ, length, flat_map, ap, ◌∙◌}
use Rattle.std.specs.List.{zip}
use Rattle.cell_stats.specs.TableText.{label_of_cell}
use Rattle.cell_stats_combinations.specs.Combinations.{Combination}
use Rattle.rcell_pipe_frames.specs.FrameBytes.{length_and_text_bytes}
use Rattle.rcell_pipe_frames.specs.parts.CellLabels.{cell_labels_bytes}
use Rattle.rcell_pipe_frames.proofs.ListingLemmas.{leads_first, leads_more, leads_done}
use Rattle.rcell_pipe_frames.proofs.TableLemmas.{first-of, others-of}
use Rattle.rcell_pipe_frames.proofs.table_frame.push_labels.Goals as goal

pub loop-entry-init : goal.loop-entry-init
loop-entry-init g c = (rw c.into_iter-entry-iterator.ensures.into_iter_gives c.requires.width, rw c.into_iter-entry-iterator.ensures.into_iter_gives leads_first)

pub push_cell_labels-requires-clause-width : goal.push_cell_labels-requires-clause-width
push_cell_labels-requires-clause-width g c =
    ap length c.cells.ensures ∙ first-of (λ (pair : Combination × ℕ). length pair.0 ≡ length c.args.places.now) _ _ (rw c.in-Some.ensures.steps at c.loop-entry.invariant.0)

pub loop-entry-preserved : goal.loop-entry-preserved
loop-entry-preserved g c =
    let maps = c.args.shelf.now.maps in
    let places = c.args.places.now in (
      others-of (λ (pair : Combination × ℕ). length pair.0 ≡ length places) _ _ (rw c.in-Some.ensures.steps at c.loop-entry.invariant.0),
      leads_more (flat_map (λ p. length_and_text_bytes (label_of_cell maps p.0 p.1)) (zip places c.in-Some.entry.combo.now)) (cell_labels_bytes maps places c.next.new.self) (rw c.in-Some.ensures.steps at c.loop-entry.invariant.1) (rw c.cells.ensures at c.push_cell_labels.ensures),
    )

pub returns : goal.returns
returns g c = leads_done (rw c.in-None.ensures.steps.0 at c.loop-entry.invariant.1)
