use Rattle.std.proofs.Common.{ℕ, ◌<◌, length}
use Rattle.cell_core_devices.proofs.BlockLemmas.{appends_then}
use Rattle.cell_stats.proofs.LineLemmas.{All-others, length-others, combination-parts}
use Rattle.cell_stats.proofs.printing.write_combination.Goals as goal

pub write_cell_and_label-requires : goal.write_cell_and_label-requires
write_cell_and_label-requires g c = c.requires.picked 0 0 c.requires.some

pub write_cells_after_first-requires-clause-picked : goal.write_cells_after_first-requires-clause-picked
write_cells_after_first-requires-clause-picked g c = All-others (λ (i : ℕ). i < length c.args.shelf.now.maps) c.args.picks.now c.requires.picked

pub write_cells_after_first-requires-clause-width : goal.write_cells_after_first-requires-clause-width
write_cells_after_first-requires-clause-width g c = length-others c.args.cells.now c.args.picks.now c.requires.width

pub returns : goal.returns
returns g c =
    rw (← combination-parts c.args.format.now c.args.shelf.now.maps c.args.picks.now c.args.cells.now c.index-cells-0.result c.index-cells-0.is c.requires.some c.requires.width)
    (appends_then c.write_cell_and_label.ensures c.write_cells_after_first.ensures)
