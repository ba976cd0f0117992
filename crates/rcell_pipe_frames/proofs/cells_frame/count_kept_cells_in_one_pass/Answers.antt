use Rattle.std.proofs.Common.{◌≡◌, ◌∙◌, ◌≤◌, ℕ, length, refl, ap, subst}
use Rattle.cell_core_devices.specs.Blocks.{capped_byte_count}
use Rattle.cell_core_values.specs.Region.{RegionValue}
use Rattle.rcell_pipe_frames.specs.declared.cells_frame.EntryPart.TheVariants as parts
use Rattle.rcell_pipe_frames.specs.parts.CellEntries.{bytes_of_kept_entry_parts, combinations_of_selected_maps}
use Rattle.rcell_pipe_frames.proofs.CountLemmas.{counted}
use Rattle.rcell_pipe_frames.proofs.CellsLemmas.{kept-few, marks}
use Rattle.rcell_pipe_frames.proofs.cells_frame.count_kept_cells_in_one_pass.Goals as goal

pub returns-clause-count : goal.returns-clause-count
returns-clause-count c =
    let s = c.args.selection in
    let shelf = s.shelf.now in
    let rows = subst (λ (r : RegionValue). r.rows ≤ 65535) c.region-region.ensures.value c.rows-rows.ensures.region.rows_most in
    let cols = subst (λ (r : RegionValue). r.cols ≤ 65535) c.region-region.ensures.value c.cols-cols.ensures.region.cols_most in
    c.written.ensures
    ∙ counted c.new-none.result c.push_map_rows.new.out c.empty.new.out c.new-block.result c.push_map_rows.new.block c.empty.new.self (bytes_of_kept_entry_parts parts.Mark s (combinations_of_selected_maps s))
    (c.new-block.ensures.nothing _ _) c.push_map_rows.ensures.all c.empty.ensures.appends refl c.empty.ensures.held
    ∙ ap capped_byte_count (marks shelf.maps s.picks.now _)
    ∙ kept-few shelf.maps s.picks.now shelf.region.cols s.skip shelf.region.rows rows cols
