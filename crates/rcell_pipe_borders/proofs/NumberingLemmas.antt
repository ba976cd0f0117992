-- The rows of tiles that are joined, and those that are left.
use Rattle.std.proofs.Common.{◌≡◌, ◌∙◌, ℕ, ◌+◌, ◌<◌, ◌^◌, List, [], ◌∷◌, ◌++◌, All, map, sum_by, ap, sym, arith}
use Rattle.std.proofs.Common.{append_assoc, append-nil, length, subst, refl, Result, Ok, Err}
use Rattle.std.specs.Prelude.{IfOk}
use Rattle.std.proofs.lemmas.List.{map-append}
use Rattle.std.proofs.lemmas.List.Sums.{sum_by-append, sum_by-cons}
use Rattle.cell_join_tiles.specs.Beginnings.{clump_count_of_tile_grid, clump_count_of_tile_row}
use Rattle.cell_join_tiles.specs.JoinedBorders.{begun_clump_counts_of_grid}
use Rattle.cell_join_tiles.specs.JoinedTiles.{JoinerHasJoinedTileRows, TileJoinerValue}
use Rattle.cell_join_tiles.specs.Values.{TileBorderValue}
use Rattle.cell_join_tiles.specs.parts.RowMarks.{begun_clump_counts_of_tile_row}

-- some rows of a grid are joined, and these are left
pub record AreJoinedSo (grid left : List (List TileBorderValue)) (joiner : TileJoinerValue) : Type 0 where
  pub done : List (List TileBorderValue)
  pub whole : grid ≡ done ++ left
  pub joined : JoinerHasJoinedTileRows done joiner

-- the patches of the joined rows and of the next row are among all patches
pub so-few : (grid left rest : List (List TileBorderValue)) (row : List TileBorderValue) (joiner : TileJoinerValue)
    → AreJoinedSo grid left joiner → left ≡ row ∷ rest → clump_count_of_tile_grid
    (begun_clump_counts_of_grid grid) < 2 ^ 64
    → joiner.clumps + clump_count_of_tile_row (begun_clump_counts_of_tile_row row) < 2 ^ 64
so-few grid left rest row joiner so is few =
    let all : begun_clump_counts_of_grid grid ≡ begun_clump_counts_of_grid so.done ++ begun_clump_counts_of_tile_row row
    ∷ begun_clump_counts_of_grid rest =
    ap begun_clump_counts_of_grid (so.whole ∙ ap (λ (l : List (List TileBorderValue)). so.done ++ l) is)
    ∙ map-append begun_clump_counts_of_tile_row so.done (row ∷ rest) in
    let sum : clump_count_of_tile_grid (begun_clump_counts_of_grid grid)
    ≡ clump_count_of_tile_grid (begun_clump_counts_of_grid so.done) + (clump_count_of_tile_row
    (begun_clump_counts_of_tile_row row) + clump_count_of_tile_grid (begun_clump_counts_of_grid rest)) =
    ap clump_count_of_tile_grid all ∙ sum_by-append clump_count_of_tile_row (begun_clump_counts_of_grid so.done)
    (begun_clump_counts_of_tile_row row ∷ begun_clump_counts_of_grid rest)
    ∙ ap (λ (n : ℕ). clump_count_of_tile_grid (begun_clump_counts_of_grid so.done) + n)
    (sum_by-cons clump_count_of_tile_row (begun_clump_counts_of_tile_row row) (begun_clump_counts_of_grid rest)) in
    omega (arith, sum, so.joined.clumps, few)

-- one more row is joined
pub so-more : (grid left rest : List (List TileBorderValue)) (row : List TileBorderValue) (old new : TileJoinerValue)
    → AreJoinedSo grid left old → left ≡ row ∷ rest
    → ((done : List (List TileBorderValue)) → JoinerHasJoinedTileRows done old
    → JoinerHasJoinedTileRows (done ++ row ∷ []) new)
    → AreJoinedSo grid rest new
so-more grid left rest row old new so is on = record {
  done = so.done ++ row ∷ [];
  whole =
      so.whole ∙ ap (λ (l : List (List TileBorderValue)). so.done ++ l) is ∙ sym (append_assoc so.done (row ∷ []) rest);
  joined = on so.done so.joined;
}

-- once no row is left, all are joined
pub so-all : (grid left : List (List TileBorderValue)) (joiner : TileJoinerValue) → AreJoinedSo grid left joiner
    → left ≡ [] → JoinerHasJoinedTileRows grid joiner
so-all grid left joiner so is =
    subst (λ (g : List (List TileBorderValue)). JoinerHasJoinedTileRows g joiner)
    (sym (so.whole ∙ ap (λ (l : List (List TileBorderValue)). so.done ++ l) is ∙ append-nil so.done)) so.joined

pub if-ok : {A E : Type 0} (P Q : A → Type 0) (r : Result A E) → ((x : A) → P x → Q x) → IfOk r P → IfOk r Q
if-ok P Q (Ok x) on h = on x h
if-ok P Q (Err e) on h = tt

pub none-left : {X : Type 0} (left : List X) → length left ≡ 0 → left ≡ []
none-left [] is = refl
none-left (x ∷ xs) is = absurd (omega (arith, is))
