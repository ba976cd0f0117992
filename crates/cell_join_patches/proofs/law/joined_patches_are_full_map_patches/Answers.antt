use Rattle.cell_join_patches.proofs.JoinedGridLemmas.{joined-are-full}
use Rattle.cell_join_patches.proofs.law.joined_patches_are_full_map_patches.Goals as goal

pub returns : goal.returns
returns c = joined-are-full
