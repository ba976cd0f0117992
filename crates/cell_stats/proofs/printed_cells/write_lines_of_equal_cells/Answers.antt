use Rattle.std.proofs.Common.{◌≡◌, ℕ, ◌≤◌, false, true, replicate, flat_map, arith, sym, ap, ◌∙◌}
use Rattle.cell_core_devices.proofs.BlockLemmas.{appends_none, appends_then}
use Rattle.cell_stats.specs.TableText.{cell_line}
use Rattle.cell_stats_combinations.specs.LeftOut.{combination_is_left_out}
use Rattle.cell_stats.proofs.CellsLemmas.{alike-kept, alike-left, flat_map-replicate-more}
use Rattle.cell_stats.proofs.printed_cells.write_lines_of_equal_cells.Goals as goal

at_end : {line count : ℕ} → line ≤ count → count ≤ line → line ≡ count
at_end within ended = omega arith

pub returns-then-combination_is_left_out : goal.returns-then-combination_is_left_out
returns-then-combination_is_left_out g c =
    let left : combination_is_left_out c.args.selection.skip c.args.cells.now ≡ true = sym c.combination_is_left_out.ensures ∙ c.if-combination_is_left_out.true in
    let f = cell_line c.args.format.now c.args.selection.shelf.now.maps c.args.selection.picks.now in
    rw (alike-left f c.args.selection.skip c.args.cells.now c.args.count left) appends_none

pub loop-line-preserved : goal.loop-line-preserved
loop-line-preserved g c =
    let f = cell_line c.args.format.now c.args.selection.shelf.now.maps c.args.selection.picks.now in
    rw (flat_map-replicate-more f c.loop-line.line c.args.cells.now) (appends_then c.loop-line.invariant c.write_cell_line.ensures)

pub returns : goal.returns
returns g c =
    let cells = c.args.cells.now in
    let kept_in : combination_is_left_out c.args.selection.skip cells ≡ false = sym c.combination_is_left_out.ensures ∙ c.if-combination_is_left_out.false in
    let f = cell_line c.args.format.now c.args.selection.shelf.now.maps c.args.selection.picks.now in
    let last = at_end c.loop-line.auto.line-end c.loop-line-test.false in
    let whole = ap (λ (n : ℕ). flat_map f (replicate n cells)) last ∙ sym (alike-kept f c.args.selection.skip cells c.args.count kept_in) in
    rw whole at c.loop-line.invariant
