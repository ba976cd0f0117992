use Rattle.std.proofs.Common.{◌≡◌, false, map}
use Rattle.std.proofs.lemmas.List.Elements.{All-same}
use Rattle.cell_calc_language.specs.CellOperators.{is_null, non_null_cells}
use Rattle.cell_calc_modes.specs.ColumnCells.{cells_at_column}
use Rattle.cell_calc_modes.proofs.Frequent.{all_known}
use Rattle.cell_calc_modes.proofs.modes.column_mode_ignoring_null.Goals as goal

pub most_frequent-requires : goal.most_frequent-requires
most_frequent-requires c =
    let cells = cells_at_column c.args.c (map (λ row. row.items) c.args.arguments.now) in
    All-same (λ cell. is_null cell ≡ false) _ (non_null_cells cells) c.gather_categories_of_column-count.ensures.known
    (all_known cells)
