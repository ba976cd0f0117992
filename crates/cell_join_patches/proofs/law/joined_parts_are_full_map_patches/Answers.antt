use Rattle.cell_join_patches.proofs.JoinedGridLemmas.{parts-are-full}
use Rattle.cell_join_patches.proofs.law.joined_parts_are_full_map_patches.Goals as goal

pub returns : goal.returns
returns c = parts-are-full
