use Rattle.std.proofs.Common.{◌≡◌, ◌<◌, ◌≤◌, ◌+◌, ◌-◌, ◌++◌, ℕ, length, flat_map, arith, ap, sym, ◌∙◌, append_assoc}
use borrow.Author.Count.{falls}
use Rattle.std.specs.List.{range_with_len}
use Rattle.cell_core_devices.proofs.BlockLemmas.{appends_cut, appends_none, appends_then}
use Rattle.cell_core_values.specs.Region.{RegionValue}
use Rattle.cell_stats_combinations.specs.Combinations.{all_combinations, row_combinations}
use Rattle.cell_stats.proofs.CellsLemmas.{kept_text, row-more, rows-all}
use Rattle.cell_stats.specs.TableText.{cell_line}
use Rattle.cell_stats.proofs.printed_cells.write_line_for_each_cell.Goals as goal

below : {row last rows : ℕ} → row < last → last ≡ rows → row < rows
below lower same = omega arith

at_end : {row last rows : ℕ} → row ≤ last → last ≤ row → last ≡ rows → row ≡ rows
at_end within ended same = omega arith

pub loop-row-preserved : goal.loop-row-preserved
loop-row-preserved g c =
    record {
      appends = rw (row-more (cell_line c.args.format.now c.args.shelf.now.maps c.args.picks.now) c.args.skip c.args.shelf.now.maps c.args.picks.now c.args.shelf.now.region.cols c.loop-row.row) (appends_then c.loop-row.invariant.appends c.write_cell_lines_of_row.ensures);
      cursors = c.write_cell_lines_of_row.auto.cursors ∙ c.loop-row.invariant.cursors;
      cells = c.write_cell_lines_of_row.auto.cells ∙ c.loop-row.invariant.cells;
    }

pub returns : goal.returns
returns g c =
    let last = at_end c.loop-row.auto.row-end c.loop-row-test.false
    (c.rows-row-end.ensures.value ∙ ap (λ (r : RegionValue). r.rows) c.region.ensures.value) in
    rw last at c.loop-row.invariant.appends

pub loop-row-init : goal.loop-row-init
loop-row-init g c =
    let width = c.walk.view_is ∙ c.requires.width in
    record {
      appends = appends_none;
      cursors = ap length c.as_mut_slice-cursors.ensures.value ∙ c.walk.invariant ∙ width;
      cells = ap length c.as_mut_slice-cells.ensures.value ∙ width;
    }

pub write_cell_lines_of_row-requires-clause-picks : goal.write_cell_lines_of_row-requires-clause-picks
write_cell_lines_of_row-requires-clause-picks g c =
    record { picked = c.requires.picked; some = c.requires.some; width = c.loop-row.invariant.cells }

pub write_cell_lines_of_row-requires-clause-row_in_range : goal.write_cell_lines_of_row-requires-clause-row_in_range
write_cell_lines_of_row-requires-clause-row_in_range g c =
    below c.loop-row-test.true (c.rows-row-end.ensures.value ∙ ap (λ (r : RegionValue). r.rows) c.region.ensures.value)

pub write_cell_lines_of_row-requires-clause-cursors : goal.write_cell_lines_of_row-requires-clause-cursors
write_cell_lines_of_row-requires-clause-cursors g c = c.loop-row.invariant.cursors

pub loop-row-smaller : goal.loop-row-smaller
loop-row-smaller g c = falls _ _ c.loop-row-test.true

pub returns-then-has_failed : goal.returns-then-has_failed
returns-then-has_failed g c =
    let maps = c.args.shelf.now.maps in
    let picks = c.args.picks.now in
    let region = c.args.shelf.now.region in
    let row = c.loop-row.row in
    let f = cell_line c.args.format.now maps picks in
    let text = kept_text f c.args.skip in
    let within = below c.loop-row-test.true (c.rows-row-end.ensures.value ∙ ap (λ (r : RegionValue). r.rows) c.region.ensures.value) in
    let next = text (row_combinations maps picks region.cols row) in
    let rest = text (flat_map (row_combinations maps picks region.cols) (range_with_len (row + 1) (region.rows - (row + 1)))) in
    let parts = sym (append_assoc (text (all_combinations maps picks row region.cols)) next rest) ∙ rows-all f c.args.skip maps picks region.cols row region.rows within in
    rw (← parts) (appends_cut (next ++ rest) c.loop-row.invariant.appends (sym c.has_failed.ensures ∙ c.if-has_failed.true))
