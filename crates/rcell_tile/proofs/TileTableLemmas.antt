-- Tables of tiles after runs merge into the table of the full maps.
use Rattle.std.proofs.Common.{◌≡◌, ◌↔◌, ℕ, zero, suc, ◌+◌, ◌<◌, Bool, true, false, List, [], ◌∷◌, map, length}
use Rattle.std.proofs.Common.{Option, None, replicate, refl, ap, sym, subst, ◌∙◌}
use Rattle.std.specs.Prelude.{All, flat_map, if◌then◌else◌}
use Rattle.std.specs.List.{range_with_len}
use Rattle.std.proofs.lemmas.List.Elements.{All-head, All-tail, All-map, All-weaker}
use Rattle.cell_core.specs.Grid.{Grid}
use Rattle.cell_core.specs.Shelf.{ShelfValue}
use Rattle.cell_stats_combinations.specs.Combinations.{Combination, all_combinations, shelf_combinations}
use Rattle.cell_stats_combinations.specs.Combinations.{cell_of_map_at_place, combination_at_row_and_column}
use Rattle.cell_stats_combinations.specs.declared.skip.Skip.{Skip}
use Rattle.cell_stats.specs.CategoryTables.{CombinationsWithCounts, IsTable, table_of_cells}
use Rattle.cell_join_numbers.specs.Parts.{Rectangle, MapsAreTileOfFullMaps, RectanglesCoverMap}
use Rattle.cell_join_numbers.specs.TableParts.{TileOfMaps, TilesCoverMaps, combinations_of_tile, IsMergeOfTables}
use Rattle.cell_join_numbers.proofs.MergeLemmas.{tables-merge}
use Rattle.rcell_script.specs.declared.statement.Statement.{Statement}
use Rattle.rcell_tile.specs.ClumpDependence.{map_depends_on_clump, clump_dependence_after_statements}
use Rattle.rcell_tile.specs.ClumpDependence.{MapDoesNotDependOnClump}
use Rattle.rcell_tile.specs.TilePlaces.{TilePlaceValue}
use Rattle.rcell_tile.specs.TileRunLaw.{TileRun, IsRunWithEnoughHalo, AreRunsOverTiles}
use Rattle.rcell_tile.specs.TileRunLaw.{TablesAfterRunsMergeIntoFullTable}
use Rattle.rcell_tile.specs.TileRuns.{RunShelvesValue, inner_shelf, shelf_without_halo, AreShelvesAfterStatements}
use Rattle.rcell_tile.proofs.TileCoverLemmas.{run-cells, covers}

-- ---- the place stays

place-after-all : (shelves after : RunShelvesValue) (statements : List Statement)
    → AreShelvesAfterStatements shelves statements after → after.place ≡ shelves.place
place-after-all shelves after [] u = ap (λ (s : RunShelvesValue). s.place) (sym u)
place-after-all shelves after (s ∷ ss) u = place-after-all u.0 after ss u.1.1 ∙ u.1.0.place

-- ---- maps that depend on an r.clump are left out

-- a map without cells
abbrev without_cells : Grid → Grid
without_cells m = record m { rows = [] }

-- the maps, with those without cells that depend on an r.clump
abbrev pub plain_maps : List Bool → List Grid → List Grid
plain_maps [] maps = maps
plain_maps (b ∷ clumps) [] = []
plain_maps (b ∷ clumps) (m ∷ maps) = (if b then without_cells m else m) ∷ plain_maps clumps maps

left-out-cell : (clumps : List Bool) (maps : List Grid) (row col place : ℕ) → map_depends_on_clump clumps place ≡ true
    → cell_of_map_at_place (plain_maps clumps maps) row col place ≡ None
left-out-cell [] maps row col place e = cc
left-out-cell (b ∷ clumps) [] row col place e = refl
left-out-cell (b ∷ clumps) (m ∷ maps) row col zero e = rw e refl
left-out-cell (b ∷ clumps) (m ∷ maps) row col (suc place) e = left-out-cell clumps maps row col place e

plain-cell : (clumps : List Bool) (maps : List Grid) (row col place : ℕ) → map_depends_on_clump clumps place ≡ false
    → cell_of_map_at_place (plain_maps clumps maps) row col place ≡ cell_of_map_at_place maps row col place
plain-cell [] maps row col place e = refl
plain-cell (b ∷ clumps) [] row col place e = refl
plain-cell (b ∷ clumps) (m ∷ maps) row col zero e = rw e refl
plain-cell (b ∷ clumps) (m ∷ maps) row col (suc place) e = plain-cell clumps maps row col place e

module _ (clumps : List Bool) where
  abbrev Plain : ℕ → Type 0
  Plain place = map_depends_on_clump clumps place ≡ false

  same-combination : (maps : List Grid) (picks : List ℕ) (row col : ℕ) → All Plain picks
      → combination_at_row_and_column (plain_maps clumps maps) picks row col
      ≡ combination_at_row_and_column maps picks row col
  same-combination maps [] row col plain = refl
  same-combination maps (place ∷ picks) row col plain =
      let here = plain-cell clumps maps row col place (All-head Plain place picks plain) in
      let rest = same-combination maps picks row col (All-tail Plain place picks plain) in
      λ i. here i ∷ rest i

  pub same-combinations : (maps : List Grid) (picks : List ℕ) (rows cols : ℕ) → All Plain picks
      → all_combinations (plain_maps clumps maps) picks rows cols ≡ all_combinations maps picks rows cols
  same-combinations maps picks rows cols plain = λ i.
      flat_map (λ row. map (λ col. same-combination maps picks row col plain i) (range_with_len 0 cols))
      (range_with_len 0 rows)

  same-plain : (r : Rectangle) (whole part : List Grid)
      → ((row col place : ℕ) → Plain place → row < r.rows → col < r.cols → cell_of_map_at_place part row col place
      ≡ cell_of_map_at_place whole (r.top + row) (r.left + col) place)
      → MapsAreTileOfFullMaps r (plain_maps clumps whole) (plain_maps clumps part)
  same-plain r whole part same row col place high wide = by (map_depends_on_clump clumps place) refl
    where
      by : (b : Bool) → map_depends_on_clump clumps place ≡ b
          → cell_of_map_at_place (plain_maps clumps part) row col place
          ≡ cell_of_map_at_place (plain_maps clumps whole) (r.top + row) (r.left + col) place
      by true e = left-out-cell clumps part row col place e
          ∙ sym (left-out-cell clumps whole (r.top + row) (r.left + col) place e)
      by false e = plain-cell clumps part row col place e ∙ same row col place e high wide
          ∙ sym (plain-cell clumps whole (r.top + row) (r.left + col) place e)

-- ---- tables

-- the maps of a tile after a run that do not depend on an r.clump
abbrev pub plain_tile : List Bool → TileRun → TileOfMaps
plain_tile clumps run = record { place = run.place.tile; maps = plain_maps clumps (inner_shelf run.after).maps }

plain-places : (clumps : List Bool) (runs : List TileRun) → map (λ part. part.place) (map (plain_tile clumps) runs)
    ≡ map (λ run. run.place.tile) runs
plain-places clumps [] = refl
plain-places clumps (run ∷ runs) = ap (λ (l : List Rectangle). run.place.tile ∷ l) (plain-places clumps runs)

module _ (full after : ShelfValue) (statements : List Statement) (runs : List TileRun)
    (are : AreRunsOverTiles full statements after runs) where
  abbrev pub clumps : List Bool
  clumps = clump_dependence_after_statements (replicate (length full.maps) false) statements

  pub plain-cover : TilesCoverMaps after.region.rows after.region.cols (plain_maps clumps after.maps)
      (map (plain_tile clumps) runs)
  plain-cover = record {
    tiling = subst (RectanglesCoverMap after.region.rows after.region.cols) (sym (plain-places clumps runs))
        (covers full after statements runs are);
    cells = All-map (λ part. MapsAreTileOfFullMaps part.place (plain_maps clumps after.maps) part.maps)
        (plain_tile clumps) runs
        (All-weaker (IsRunWithEnoughHalo full statements)
        (λ run. MapsAreTileOfFullMaps run.place.tile (plain_maps clumps after.maps)
        (plain_maps clumps (inner_shelf run.after).maps))
        (λ run is. same-plain clumps run.place.tile after.maps (inner_shelf run.after).maps
        (run-cells full after statements run is are.whole)) runs are.each);
  }

  module _ (picks : List ℕ) (plain : All (MapDoesNotDependOnClump (length full.maps) statements) picks) where
    pub same-cells : (run : TileRun) → IsRunWithEnoughHalo full statements run
        → combinations_of_tile picks (plain_tile clumps run) ≡ shelf_combinations (inner_shelf run.after) picks
    same-cells run is =
        same-combinations clumps (inner_shelf run.after).maps picks run.place.tile.rows run.place.tile.cols plain
        ∙ subst (λ (o : Option TilePlaceValue). all_combinations (shelf_without_halo o run.after.outer).maps picks
        run.place.tile.rows run.place.tile.cols ≡ shelf_combinations (shelf_without_halo o run.after.outer) picks)
        (sym (place-after-all _ run.after statements is.executed)) refl

    same-tables : (skip : Skip) (some : List TileRun) → All (IsRunWithEnoughHalo full statements) some
        → map (λ part. table_of_cells skip (combinations_of_tile picks part)) (map (plain_tile clumps) some)
        ≡ map (λ run. table_of_cells skip (shelf_combinations (inner_shelf run.after) picks)) some
    same-tables skip [] all = refl
    same-tables skip (run ∷ some) all =
        let is = All-head (IsRunWithEnoughHalo full statements) run some all in
        let here = ap (table_of_cells skip) (same-cells run is) in
        let rest = same-tables skip some (All-tail (IsRunWithEnoughHalo full statements) run some all) in
        λ i. here i ∷ rest i

    merge : (skip : Skip) (pairs : CombinationsWithCounts)
        → IsMergeOfTables (map (λ run. table_of_cells skip (shelf_combinations (inner_shelf run.after) picks)) runs)
        pairs ↔ IsTable skip (shelf_combinations after picks) pairs
    merge skip pairs =
        let cells = same-combinations clumps after.maps picks after.region.rows after.region.cols plain in
        subst (λ (tables : List CombinationsWithCounts). IsMergeOfTables tables pairs ↔ IsTable skip
        (shelf_combinations after picks) pairs) (same-tables skip runs are.each)
        (subst (λ (whole : List Combination). IsMergeOfTables (map (λ part. table_of_cells skip
        (combinations_of_tile picks part)) (map (plain_tile clumps) runs)) pairs ↔ IsTable skip whole pairs) cells
        (tables-merge after.region.rows after.region.cols (plain_maps clumps after.maps)
        (map (plain_tile clumps) runs) plain-cover picks skip pairs))

pub tables-after-runs-merge : TablesAfterRunsMergeIntoFullTable
tables-after-runs-merge full after statements runs are picks plain skip pairs =
    merge full after statements runs are picks plain skip pairs
