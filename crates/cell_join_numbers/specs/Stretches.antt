-- The numbers of the clumps of tiles, as runs: clumps of a tile with consecutive numbers in the full map.
use Rattle.std.specs.Prelude.{ℕ, ◌+◌, ◌==◌, List, [], ◌∷◌, ◌++◌, take, drop, if◌then◌else◌}
use Rattle.cell_join_numbers.specs.declared.stretch.ConsecutiveClumps.{ConsecutiveClumps}

-- the runs of a tile, starting with an unfinished run, which is extended by the next clump if the clump has the next
-- number
abbrev pub consecutive_clumps_from_unfinished : (tile first last number previous : ℕ) → List ℕ → List ConsecutiveClumps
consecutive_clumps_from_unfinished tile first last number previous [] = record { tile = tile; first = first; last = last; number = number } ∷ []
consecutive_clumps_from_unfinished tile first last number previous (n ∷ ns) =
    if n == previous + 1 then consecutive_clumps_from_unfinished tile first (last + 1) number n ns
    else record { tile = tile; first = first; last = last; number = number } ∷ consecutive_clumps_from_unfinished tile (last + 1) (last + 1) n n ns

-- the runs of a tile whose clumps have these numbers
abbrev pub consecutive_clumps_of_tile : ℕ → List ℕ → List ConsecutiveClumps
consecutive_clumps_of_tile tile [] = []
consecutive_clumps_of_tile tile (n ∷ ns) = consecutive_clumps_from_unfinished tile 1 1 n n ns

-- the runs of the tiles from index `tile` on, given the number of clumps in each
abbrev pub consecutive_clumps_from_tile : ℕ → (clumps numbers : List ℕ) → List ConsecutiveClumps
consecutive_clumps_from_tile tile [] numbers = []
consecutive_clumps_from_tile tile (count ∷ clumps) numbers = consecutive_clumps_of_tile tile (take count numbers) ++ consecutive_clumps_from_tile (tile + 1) clumps (drop count numbers)

-- the runs of all tiles
abbrev pub consecutive_clumps_of_all_tiles : (clumps numbers : List ℕ) → List ConsecutiveClumps
consecutive_clumps_of_all_tiles clumps numbers = consecutive_clumps_from_tile 1 clumps numbers
