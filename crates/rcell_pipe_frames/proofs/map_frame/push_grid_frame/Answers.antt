use Rattle.std.proofs.Common.{◌∙◌, ap}
use Rattle.cell_core_values.specs.Region.{RegionValue}
use Rattle.cell_core_devices.proofs.BlockLemmas.{appends_then}
use Rattle.cell_ascii_meaning.specs.Writing.{coordinate_text}
use Rattle.rcell_pipe_frames.proofs.map_frame.push_grid_frame.Goals as goal

pub returns-clause-ok : goal.returns-clause-ok
returns-clause-ok g c =
    let region = c.region-region.ensures.value in
    let texts = c.in-Ok.ensures in
    let north = texts.north ∙ ap (λ (r : RegionValue). coordinate_text r.north) region in
    let south = texts.south ∙ ap (λ (r : RegionValue). coordinate_text r.south) region in
    let east = texts.east ∙ ap (λ (r : RegionValue). coordinate_text r.east) region in
    let west = texts.west ∙ ap (λ (r : RegionValue). coordinate_text r.west) region in
    appends_then (appends_then (appends_then c.push_grid_frame_head.ensures (rw
    (north, south, east, west) at c.push_region_sides.ensures)) (rw region at c.push_row_and_column_counts.ensures))
    c.push_map_rows.ensures
