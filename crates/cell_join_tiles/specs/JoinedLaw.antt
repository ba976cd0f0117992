-- What the joiner keeps of joined rows of tiles is enough for the next row, and for the numbering of each map that is
-- cut into these tiles.
use Rattle.std.specs.Prelude.{ℕ, ◌≡◌, ◌+◌, ◌-◌, List, [], ◌∷◌, ◌++◌, length, slice_index}
use Rattle.cell_join_numbers.specs.declared.stretch.ConsecutiveClumps.{ConsecutiveClumps}
use Rattle.cell_join_numbers.specs.SparseNumbers.{AreNumbersOfPairedLabels}
use Rattle.cell_join_tiles.specs.Beginnings.{clump_count_of_tile_row}
use Rattle.cell_join_tiles.specs.SeamLines.{label_pairs_of_adjacent_lines}
use Rattle.cell_join_tiles.specs.Values.{TileBorderValue}
use Rattle.cell_join_tiles.specs.JoinedTiles.{TileJoinerValue, JoinerHasJoinedTileRows, clump_labels_of_tiles_in_row}
use Rattle.cell_join_tiles.specs.JoinedTiles.{AreConsecutiveClumpsOfTiles, IsClumpCountOfTileGrid}
use Rattle.cell_join_tiles.specs.parts.RowMarks.{AddsLabelPairs, begun_clump_counts_of_tile_row}
use Rattle.cell_join_tiles.specs.parts.RowMarks.{labelled_first_rows_of_tiles}
use Rattle.cell_join_tiles.specs.parts.RowMarks.{labelled_last_rows_of_tiles, label_pairs_within_tile_row}
use Rattle.cell_join_tiles.specs.parts.LabelRuns.{consecutive_clumps_by_labels}

-- one more row of tiles adds the pairs within it and at the seam above it, replaces the last row of cells, and adds the
-- labels of its tiles
abbrev pub KeptRowsSufficeForNextRow : Type 0
KeptRowsSufficeForNextRow = (grid : List (List TileBorderValue)) (row : List TileBorderValue) (old new : TileJoinerValue) (mid : List (ℕ × ℕ)) → JoinerHasJoinedTileRows grid old → new.joining ≡ old.joining → new.clumps ≡ old.clumps + clump_count_of_tile_row (begun_clump_counts_of_tile_row row) → AddsLabelPairs old.pairs mid (label_pairs_within_tile_row old.joining old.clumps row (length row)) → AddsLabelPairs mid new.pairs (label_pairs_of_adjacent_lines old.joining old.above (labelled_first_rows_of_tiles old.clumps row (length row))) → new.above ≡ labelled_last_rows_of_tiles old.clumps row (length row) → new.tiles ≡ old.tiles ++ clump_labels_of_tiles_in_row old.clumps row → JoinerHasJoinedTileRows (grid ++ row ∷ []) new

-- the runs of the numbers that follow from the pairs are the numbering of the tiles in each map that is cut into them
abbrev pub JoinedTilesGiveClumpNumbers : Type 0
JoinedTilesGiveClumpNumbers = (grid : List (List TileBorderValue)) (joiner : TileJoinerValue) → JoinerHasJoinedTileRows grid joiner → (paired numbers roots : List ℕ) (h : AreNumbersOfPairedLabels joiner.pairs paired numbers roots) (runs : List ConsecutiveClumps) → runs ≡ consecutive_clumps_by_labels h.number 1 joiner.tiles → AreConsecutiveClumpsOfTiles joiner.joining grid runs

-- each map that is cut into the joined tiles has the number of clumps that the joiner counts
abbrev pub JoinedTilesGiveClumpCount : Type 0
JoinedTilesGiveClumpCount = (grid : List (List TileBorderValue)) (joiner : TileJoinerValue) → JoinerHasJoinedTileRows grid joiner → (paired numbers roots : List ℕ) (h : AreNumbersOfPairedLabels joiner.pairs paired numbers roots) (n : ℕ) → n ≡ (joiner.clumps - length paired) + slice_index roots (length paired) → IsClumpCountOfTileGrid joiner.joining grid n
