-- The number of patches of the first rows of tiles.
use Rattle.std.proofs.Common.{◌≡◌, ◌∙◌, ℕ, zero, suc, ◌+◌, ◌<◌, ◌≤◌, List, [], ◌∷◌, ◌++◌, Vec, length, take, get_or}
use Rattle.std.proofs.Common.{ap, sym, arith}
use Rattle.std.specs.Global.{Global}
use Rattle.std.proofs.lemmas.List.{take_more}
use Rattle.std.proofs.lemmas.List.Sums.{sum_by-cons}
use Rattle.cell_join_tiles.specs.Beginnings.{clump_count_of_tile_grid, clump_count_of_tile_row}
use Rattle.cell_join_tiles.specs.JoinedBorders.{begun_clump_counts_of_grid}
use Rattle.cell_join_tiles.specs.Values.{values_of_tile_borders}
use Rattle.cell_join_tiles.specs.declared.border.TileBorder.{TileBorder}
use Rattle.cell_join_tiles.specs.parts.RowMarks.{begun_clump_counts_of_tile_row}
use Rattle.rcell_pipe_borders.specs.BorderGrids.{borders_as_values}

abbrev patches : List (Vec TileBorder Global) → ℕ
patches grid = clump_count_of_tile_grid (begun_clump_counts_of_grid (borders_as_values grid))

abbrev of_row : List TileBorder → ℕ
of_row row = clump_count_of_tile_row (begun_clump_counts_of_tile_row (values_of_tile_borders row))

patches-cons : (row : Vec TileBorder Global) (grid : List (Vec TileBorder Global))
    → patches (row ∷ grid) ≡ of_row row.items + patches grid
patches-cons row grid = sum_by-cons clump_count_of_tile_row (begun_clump_counts_of_tile_row
    (values_of_tile_borders row.items))
    (begun_clump_counts_of_grid (borders_as_values grid))

patches-push : (grid : List (Vec TileBorder Global)) (row : Vec TileBorder Global)
    → patches (grid ++ row ∷ []) ≡ patches grid + of_row row.items
patches-push [] row = let one = patches-cons row [] in omega (arith, one)
patches-push (first ∷ grid) row =
    let more = patches-push grid row in
    let whole = patches-cons first (grid ++ row ∷ []) in
    let before = patches-cons first grid in
    omega (arith, more, whole, before)

-- one more row
pub patches-more : (grid : List (Vec TileBorder Global)) (i : ℕ) (d : Vec TileBorder Global) → i < length grid
    → patches (take (i + 1) grid) ≡ patches (take i grid) + of_row (get_or grid i d).items
patches-more grid i d within = ap patches (take_more grid i d within) ∙ patches-push (take i grid) (get_or grid i d)

-- the first rows have at most all patches
pub patches-first : (grid : List (Vec TileBorder Global)) (n : ℕ) → patches (take n grid) ≤ patches grid
patches-first [] zero = omega arith
patches-first [] (suc n) = omega arith
patches-first (row ∷ grid) zero = omega arith
patches-first (row ∷ grid) (suc n) =
    let less = patches-first grid n in
    let some = patches-cons row (take n grid) in
    let all = patches-cons row grid in
    omega (arith, less, some, all)

-- the patches of the row at an index
pub row-patches : (grid : List (Vec TileBorder Global)) (i : ℕ) (row : Vec TileBorder Global) (slice : List TileBorder)
    → row ≡ get_or grid i row → slice ≡ row.items → of_row slice ≡ of_row (get_or grid i row).items
row-patches grid i row slice is value = ap of_row (value ∙ ap (λ (v : Vec TileBorder Global). v.items) is)
