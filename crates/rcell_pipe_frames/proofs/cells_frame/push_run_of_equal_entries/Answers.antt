use Rattle.std.proofs.Common.{◌≡◌, ℕ, ◌≤◌, false, true, replicate, flat_map, arith, sym, ap, ◌∙◌}
use Rattle.cell_core_devices.proofs.BlockLemmas.{appends_none, appends_then}
use Rattle.cell_stats_combinations.specs.LeftOut.{combination_is_left_out}
use Rattle.cell_stats.proofs.CellsLemmas.{alike-kept, alike-left, flat_map-replicate-more}
use Rattle.rcell_pipe_frames.specs.parts.CellEntries.{entry_part_bytes}
use Rattle.rcell_pipe_frames.proofs.cells_frame.push_run_of_equal_entries.Goals as goal

at_end : {entry count : ℕ} → entry ≤ count → count ≤ entry → entry ≡ count
at_end within ended = omega arith

pub returns-then-combination_is_left_out : goal.returns-then-combination_is_left_out
returns-then-combination_is_left_out g c =
    let s = c.args.selection in
    let left : combination_is_left_out s.skip c.args.cells.now ≡ true = sym c.combination_is_left_out.ensures
    ∙ c.if-combination_is_left_out.true in
    rw (alike-left (entry_part_bytes c.args.part s.shelf.now.maps s.picks.now) s.skip c.args.cells.now c.args.count
    left) appends_none

pub loop-entry-preserved : goal.loop-entry-preserved
loop-entry-preserved g c =
    let f = entry_part_bytes c.args.part c.args.selection.shelf.now.maps c.args.selection.picks.now in
    rw (flat_map-replicate-more f c.loop-entry.entry c.args.cells.now)
    (appends_then c.loop-entry.invariant c.push_entry_part.ensures)

pub returns : goal.returns
returns g c =
    let s = c.args.selection in
    let cells = c.args.cells.now in
    let kept_in : combination_is_left_out s.skip cells ≡ false = sym c.combination_is_left_out.ensures
    ∙ c.if-combination_is_left_out.false in
    let f = entry_part_bytes c.args.part s.shelf.now.maps s.picks.now in
    let last = at_end c.loop-entry.auto.entry-end c.loop-entry-test.false in
    let whole = ap (λ (n : ℕ). flat_map f (replicate n cells)) last
    ∙ sym (alike-kept f s.skip cells c.args.count kept_in) in
    rw whole at c.loop-entry.invariant
