use Rattle.std.proofs.Common.{sym}
use Rattle.cell_patches.proofs.ResultLemmas.{if_ok}
use Rattle.cell_patches.proofs.FullMapLemmas.{class_is, all_of_full_map}
use Rattle.cell_patches.proofs.measuring.patch_measures.Goals as goal

pub patch_measures_in_tile-requires-clause-clumping : goal.patch_measures_in_tile-requires-clause-clumping
patch_measures_in_tile-requires-clause-clumping c = record {
  tile = c.args.map.now;
  cells = λ row col _ _. sym (class_is c.args.map.now row col);
  clumping = c.requires.clumping;
}

pub returns : goal.returns
returns c =
    if_ok c.patch_measures_in_tile.result _ _
    (λ patches. all_of_full_map c.args.joining c.args.map.now c.args.numbers.now c.args.depth patches.items
    c.requires.clumping)
    c.patch_measures_in_tile.ensures
