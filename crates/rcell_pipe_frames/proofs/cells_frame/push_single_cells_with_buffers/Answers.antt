use Rattle.std.proofs.Common.{◌≡◌, ◌∙◌, ℕ, List, [], length, ap, sym, if◌then◌else◌}
use Rattle.std.proofs.lemmas.List.{length-map}
use Rattle.cell_core_devices.proofs.BlockLemmas.{appends_none, appends_then}
use Rattle.cell_stats_combinations.specs.Combinations.{Combination}
use Rattle.cell_stats_combinations.specs.LeftOut.{kept_cells}
use Rattle.rcell.specs.Output.{combinations_at_all_cells}
use Rattle.rcell_pipe_frames.specs.Frames.{cells_as_entries_with_count_one}
use Rattle.rcell_pipe_frames.proofs.CellsLemmas.{entries-cells, entries-labels}
use Rattle.rcell_pipe_frames.proofs.cells_frame.push_single_cells_with_buffers.Goals as goal

pub returns : goal.returns
returns g c =
    let shelf = c.args.shelf.now in
    let places = c.args.places.now in
    let options = c.args.options.now in
    let kept = kept_cells options.skip (combinations_at_all_cells shelf places) in
    let count : c.count_kept_cells-count.result ≡ length (cells_as_entries_with_count_one kept) =
    c.count_kept_cells-count.ensures.count
    ∙ sym (length-map kept (λ (k : Combination). (k, 1))) in
    let labels = ap (λ (l : List ℕ). if options.labels then l else []) (entries-labels shelf.maps places kept) in
    appends_then (appends_then (appends_then (rw count at c.push_table_frame_head.ensures) appends_none) (rw
    (entries-cells shelf.maps places kept) at c.push_map_rows.ensures.all))
    (rw labels at c.push_asked_labels.ensures)
