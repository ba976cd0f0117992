use Rattle.std.proofs.Common.{◌≡◌, ◌∙◌, ◌*◌, ℕ, length, ap, refl}
use Rattle.cell_core_values.specs.Region.{RegionValue}
use Rattle.cell_stats_combinations.proofs.WalkLemmas.{length_all}
use Rattle.rcell_pipe_frames.specs.parts.CellEntries.{combinations_of_selected_maps}
use Rattle.rcell_pipe_frames.proofs.CellsLemmas.{kept-all}
use Rattle.rcell_pipe_frames.proofs.cells_frame.count_kept_cells.Goals as goal

pub returns-in-Nothing-clause-count : goal.returns-in-Nothing-clause-count
returns-in-Nothing-clause-count c =
    let s = c.args.selection in
    let shelf = s.shelf.now in
    let rows : c.rows.result ≡ shelf.region.rows = c.rows.ensures.value
    ∙ ap (λ (r : RegionValue). r.rows) c.region-region.ensures.value in
    let cols : c.cols.result ≡ shelf.region.cols = c.cols.ensures.value
    ∙ ap (λ (r : RegionValue). r.cols) c.region-region.ensures.value in
    rw (c.in-Nothing.is, kept-all (combinations_of_selected_maps s), length_all shelf.maps s.picks.now shelf.region.cols shelf.region.rows, rows, cols) refl
