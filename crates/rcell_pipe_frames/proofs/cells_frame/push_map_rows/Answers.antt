use Rattle.std.proofs.Common.{◌≡◌, ◌<◌, ◌≤◌, ◌+◌, ◌-◌, ◌++◌, ℕ, flat_map, arith, ap, sym, ◌∙◌, append_assoc}
use borrow.Author.Count.{falls}
use Rattle.std.specs.List.{range_with_len}
use Rattle.cell_core_devices.proofs.BlockLemmas.{appends_cut, appends_none, appends_then}
use Rattle.cell_core_values.specs.Region.{RegionValue}
use Rattle.cell_stats.proofs.CellsLemmas.{row-more, rows-all}
use Rattle.cell_stats_combinations.specs.Combinations.{all_combinations, row_combinations}
use Rattle.rcell_pipe_frames.specs.parts.CellEntries.{entry_part_bytes, bytes_of_kept_combinations}
use Rattle.rcell_pipe_frames.proofs.cells_frame.push_map_rows.Goals as goal

below : {row last rows : ℕ} → row < last → last ≡ rows → row < rows
below lower same = omega arith

at_end : {row last rows : ℕ} → row ≤ last → last ≤ row → last ≡ rows → row ≡ rows
at_end within ended same = omega arith

pub loop-row-preserved : goal.loop-row-preserved
loop-row-preserved g c =
    let s = c.args.selection in
    let f = entry_part_bytes c.args.part s.shelf.now.maps s.picks.now in
    record {
      appends = rw (row-more f s.skip s.shelf.now.maps s.picks.now s.shelf.now.region.cols c.loop-row.row)
          (appends_then c.loop-row.invariant.appends c.push_row_entries.ensures);
      cursors = c.push_row_entries.auto.cursors ∙ c.loop-row.invariant.cursors;
      cells = c.push_row_entries.auto.cells ∙ c.loop-row.invariant.cells;
    }

pub returns-clause-all : goal.returns-clause-all
returns-clause-all g c =
    let last = at_end c.loop-row.auto.row-end c.loop-row-test.false
    (c.rows-row-end.ensures.value ∙ ap (λ (r : RegionValue). r.rows) c.region.ensures.value) in
    rw last at c.loop-row.invariant.appends

pub loop-row-init : goal.loop-row-init
loop-row-init g c = record { appends = appends_none; cursors = c.requires.cursors; cells = c.requires.picks.width }

pub push_row_entries-requires-clause-picks : goal.push_row_entries-requires-clause-picks
push_row_entries-requires-clause-picks g c =
    record { picked = c.requires.picks.picked; some = c.requires.picks.some; width = c.loop-row.invariant.cells }

pub push_row_entries-requires-clause-row_in_range : goal.push_row_entries-requires-clause-row_in_range
push_row_entries-requires-clause-row_in_range g c =
    below c.loop-row-test.true (c.rows-row-end.ensures.value ∙ ap (λ (r : RegionValue). r.rows) c.region.ensures.value)

pub push_row_entries-requires-clause-cursors : goal.push_row_entries-requires-clause-cursors
push_row_entries-requires-clause-cursors g c = c.loop-row.invariant.cursors

pub loop-row-smaller : goal.loop-row-smaller
loop-row-smaller g c = falls _ _ c.loop-row-test.true

pub returns-then-has_failed-clause-all : goal.returns-then-has_failed-clause-all
returns-then-has_failed-clause-all g c =
    let s = c.args.selection in
    let maps = s.shelf.now.maps in
    let picks = s.picks.now in
    let region = s.shelf.now.region in
    let row = c.loop-row.row in
    let f = entry_part_bytes c.args.part maps picks in
    let within = below c.loop-row-test.true (c.rows-row-end.ensures.value
    ∙ ap (λ (r : RegionValue). r.rows) c.region.ensures.value) in
    let next = bytes_of_kept_combinations f s.skip (row_combinations maps picks region.cols row) in
    let rest = bytes_of_kept_combinations f s.skip (flat_map (row_combinations maps picks region.cols) (range_with_len
    (row + 1) (region.rows - (row + 1)))) in
    let parts = sym (append_assoc (bytes_of_kept_combinations f s.skip (all_combinations maps picks row region.cols)) next rest) ∙ rows-all f s.skip maps picks region.cols row region.rows within in
    rw (← parts) (appends_cut (next ++ rest) c.loop-row.invariant.appends (sym c.has_failed.ensures
    ∙ c.if-has_failed.true))
