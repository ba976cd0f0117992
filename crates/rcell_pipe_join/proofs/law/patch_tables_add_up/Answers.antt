use Rattle.rcell_pipe_join.proofs.PatchSumLemmas.{patch-tables-add-up}
use Rattle.rcell_pipe_join.proofs.law.patch_tables_add_up.Goals as goal

pub returns : goal.returns
returns c = patch-tables-add-up c.renumbered_tiles_are_full_clump_map.ensures
