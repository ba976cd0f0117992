use Rattle.cell_join_patches.proofs.JoinedGridLemmas.{closed-are-full}
use Rattle.cell_join_patches.proofs.law.closed_patches_are_full_map_patches.Goals as goal

pub returns : goal.returns
returns c = closed-are-full
