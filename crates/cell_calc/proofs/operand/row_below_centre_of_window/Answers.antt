use Rattle.std.proofs.Common.{rules, w32, FitsSigned}
use Rattle.std.proofs.lemmas.Int.{to_z-of_z}
use Rattle.cell_calc.proofs.Ready.{reach_in_map_at_place, row_at}
use Rattle.cell_calc.proofs.operand.row_below_centre_of_window.Goals as goal

pub row-requires : goal.row-requires
row-requires c =
    let fits : FitsSigned w32 c.args.down = search rules in
    rw (to_z-of_z w32 c.args.down fits) (reach_in_map_at_place c.args.windows.now c.args.place c.args.down c.index-windows-place.result c.requires c.index-windows-place.is)

pub returns : goal.returns
returns c =
    let fits : FitsSigned w32 c.args.down = search rules in
    let held = rw (to_z-of_z w32 c.args.down fits) at c.row.ensures.held in
    row_at c.args.windows.now c.args.place c.args.down c.index-windows-place.result c.row.result.now c.requires c.index-windows-place.is held
