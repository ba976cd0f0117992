use Rattle.cell_patches.proofs.core_counts.add_row_of_map_to_cores.Given as goal

abbrev pub ghost-add_row_of_cells_to_cores : goal.ghost-add_row_of_cells_to_cores
ghost-add_row_of_cells_to_cores g a = g.tile
