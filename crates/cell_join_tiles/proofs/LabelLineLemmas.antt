-- The labels of a row of tiles, computed from tile to tile.
use Rattle.std.proofs.Common.{◌<◌, [], length, get_or, arith}
use Rattle.cell_join_tiles.specs.Beginnings.{BegunClumpCountsByRow, row_where_clump_number_begins}
use Rattle.cell_join_tiles.specs.LabelLines.{FirstLabelsGiveTileLabels, FirstLabelsGiveNextTileLabels}
use Rattle.cell_join_tiles.proofs.StretchLemmas.{lies}
use Rattle.cell_join_tiles.proofs.LabelSums.{next-one}

pub label-lines-label : FirstLabelsGiveTileLabels
label-lines-label grid r c k line long lt is =
    let begun : BegunClumpCountsByRow = get_or (get_or grid r []) c [] in
    let at = lies begun k lt in
    let i = row_where_clump_number_begins begun k in
    let inside : i < length line = omega (arith, at.inside, long) in
    omega (arith, is i inside)

pub label-lines-pass : FirstLabelsGiveNextTileLabels
label-lines-pass grid r c line next c_in is long each i lt =
    let i_in : i < length line = omega (arith, lt, long) in
    omega (
      arith,
      is i i_in,
      each i i_in,
      next-one (λ (begun : BegunClumpCountsByRow). get_or begun i 0)
          (get_or grid r []) c [] c_in,
    )
