use Rattle.cell_patches.proofs.read_rows.add_row_of_map_to_patches.Given as goal

abbrev pub ghost-add_row_of_runs_to_patches : goal.ghost-add_row_of_runs_to_patches
ghost-add_row_of_runs_to_patches g a = g.tile
