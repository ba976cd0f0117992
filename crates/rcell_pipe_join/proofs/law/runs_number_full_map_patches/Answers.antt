use Rattle.std.proofs.Common.{◌≡◌, List, ℕ, ap, sym, subst, ◌∙◌, flat_map}
use Rattle.cell_join_tiles.specs.JoinedTiles.{AreClumpNumbersOfTileGrid, clump_counts_by_tile}
use Rattle.rcell_pipe_join.specs.JoinLaw.{full_map_numbers_of_run}
use Rattle.rcell_pipe_join.proofs.RunNumberLemmas.{runs-represent}
use Rattle.rcell_pipe_join.proofs.law.runs_number_full_map_patches.Goals as goal

pub returns : goal.returns
returns c = λ joining grid response frame.
    let runs = frame.numbers in
    let same : flat_map full_map_numbers_of_run frame.runs ≡ runs.numbers =
    ap (flat_map full_map_numbers_of_run) runs.are ∙ runs-represent
    (clump_counts_by_tile grid) runs.numbers runs.many in
    (subst (λ (l : List ℕ). AreClumpNumbersOfTileGrid joining grid l) (sym same) runs.join, frame.many)
