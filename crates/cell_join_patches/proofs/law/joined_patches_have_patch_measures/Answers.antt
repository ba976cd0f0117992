use Rattle.cell_join_patches.proofs.PatchPartLemmas.{joined-patches}
use Rattle.cell_join_patches.proofs.law.joined_patches_have_patch_measures.Goals as goal

pub returns : goal.returns
returns c = joined-patches
