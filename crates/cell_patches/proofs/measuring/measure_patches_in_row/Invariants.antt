use Rattle.cell_patches.proofs.measuring.measure_patches_in_row.Given as goal

abbrev pub ghost-add_row_of_map_to_patches : goal.ghost-add_row_of_map_to_patches
ghost-add_row_of_map_to_patches g a = g.tile

abbrev pub ghost-add_row_of_map_to_cores : goal.ghost-add_row_of_map_to_cores
ghost-add_row_of_map_to_cores g a = g.tile
