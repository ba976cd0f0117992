use Rattle.cell_patches.proofs.measuring.patch_measures_in_tile.Given as goal

abbrev pub ghost-measure_patches_in_all_rows : goal.ghost-measure_patches_in_all_rows
ghost-measure_patches_in_all_rows a = record { map = a.map.now; position = a.position; numbers = a.numbers.now }
