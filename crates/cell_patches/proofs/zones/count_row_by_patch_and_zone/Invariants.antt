use Rattle.cell_patches.proofs.zones.count_row_by_patch_and_zone.Given as goal

abbrev pub ghost-add_row_of_cells_to_patches : goal.ghost-add_row_of_cells_to_patches
ghost-add_row_of_cells_to_patches g a = g.maps
