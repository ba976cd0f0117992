-- Tiles cover the full maps after statements, as they do before them.
use Rattle.std.proofs.Common.{◌≡◌, ℕ, zero, suc, ◌+◌, ◌<◌, Bool, true, false, List, [], ◌∷◌, ◌++◌, map, length, get_or}
use Rattle.std.proofs.Common.{Option, Some, None, replicate, refl, ap, sym, subst, ◌∙◌}
use Rattle.std.specs.Prelude.{slice_get, if◌then◌else◌}
use Rattle.std.specs.List.{list_any}
use Rattle.std.specs.Option.{option_map_or}
use Rattle.std.proofs.lemmas.Bool.{or_from}
use Rattle.std.proofs.lemmas.List.Elements.{All-head, All-tail, All-map, All-weaker}
use Rattle.std.proofs.lemmas.List.Folds.{list_any_none}
use Rattle.std.proofs.lemmas.Option.{same_Some}
use Rattle.cell_core_values.specs.Region.{RegionValue}
use Rattle.cell_core.specs.Grid.{Grid, cell_at}
use Rattle.cell_core.specs.Shelf.{ShelfValue}
use Rattle.cell_stats_combinations.specs.Combinations.{cell_of_map_at_place}
use Rattle.cell_join_numbers.specs.Parts.{Rectangle, MapsAreTileOfFullMaps, RectanglesCoverMap, cells_of_rectangle}
use Rattle.rcell.specs.After.{IsShelfAfterCommand}
use Rattle.rcell_script.specs.declared.command.Command.{Command}
use Rattle.rcell_script.specs.declared.command.Command.TheVariants.{Mapcalc, Reclass, Clump, Stats, OutAscii}
use Rattle.rcell_script.specs.declared.statement.Statement.{Statement}
use Rattle.rcell_plan.specs.NeedsLaw.{IsShelfAfterStatements}
use Rattle.rcell_plan.specs.Plans.{command_makes_map, maps_read_by_command}
use Rattle.rcell_plan.proofs.LawLemmas.{of_map}
use Rattle.rcell_tile.specs.ClumpDependence.{map_depends_on_clump, made_map_depends_on_clump}
use Rattle.rcell_tile.specs.ClumpDependence.{clump_dependence_after_command, clump_dependence_after_statements}
use Rattle.rcell_tile.specs.ClumpDependence.{MapDoesNotDependOnClump}
use Rattle.rcell_tile.specs.HaloMargins.{command_is_clump}
use Rattle.rcell_tile.specs.TileRunLaw.{TileRun, IsRunWithEnoughHalo, AreRunsOverTiles, NoStatementIsClump}
use Rattle.rcell_tile.specs.TileRunLaw.{MapIsCutOutOfFullMap, tile_after_run, TilesAfterRunsCoverFullMaps}
use Rattle.rcell_tile.specs.TileRunLaw.{TilesWithoutClumpAreCutOut}
use Rattle.rcell_tile.specs.TileRuns.{inner_shelf}
use Rattle.rcell_tile.proofs.CutLemmas.{cut-cell}
use Rattle.rcell_tile.proofs.TileRunLemmas.{tile-runs}

-- ---- the region stays

region-after : (shelf : ShelfValue) (command : Command) (next : ShelfValue) → IsShelfAfterCommand shelf command next
    → next.region ≡ shelf.region
region-after shelf (Mapcalc target f) next u = ap (λ (s : ShelfValue). s.region) u.1.1
region-after shelf (Reclass place target rules) next u =
    ap (λ (s : ShelfValue). s.region) (of_map (slice_get shelf.maps place) u).1.1
region-after shelf (Clump place target joining) next u = ap (λ (s : ShelfValue). s.region) u.1.1
region-after shelf (Stats places options) next u = ap (λ (s : ShelfValue). s.region) u
region-after shelf (OutAscii place null_text) next u = ap (λ (s : ShelfValue). s.region) u

region-after-all : (shelf after : ShelfValue) (statements : List Statement)
    → IsShelfAfterStatements shelf statements after → after.region ≡ shelf.region
region-after-all shelf after [] u = ap (λ (s : ShelfValue). s.region) (sym u)
region-after-all shelf after (s ∷ ss) u =
    region-after-all u.0 after ss u.1.1 ∙ region-after shelf s.command u.0 u.1.0

-- ---- scripts without r.clump

-- no map depends on an r.clump
abbrev pub NoMapDependsOnClump : List Bool → Type 0
NoMapDependsOnClump known = (place : ℕ) → map_depends_on_clump known place ≡ false

pub none-given : (count : ℕ) → NoMapDependsOnClump (replicate count false)
none-given zero place = refl
none-given (suc count) zero = refl
none-given (suc count) (suc place) = none-given count place

one-more : (known : List Bool) (b : Bool) → b ≡ false → NoMapDependsOnClump known
    → NoMapDependsOnClump (known ++ b ∷ [])
one-more [] b e h zero = e
one-more [] b e h (suc place) = refl
one-more (k ∷ known) b e h zero = h zero
one-more (k ∷ known) b e h (suc place) = one-more known b e (λ i. h (suc i)) place

pub none-made : (known : List Bool) (command : Command) → command_is_clump command ≡ false → NoMapDependsOnClump known
    → NoMapDependsOnClump (clump_dependence_after_command known command)
none-made known command no_clump h = by (command_makes_map command)
  where
    plain : made_map_depends_on_clump known command ≡ false
    plain = or_from (command_is_clump command) (list_any (λ n. map_depends_on_clump known n.place)
        (maps_read_by_command command)) no_clump
        (list_any_none (λ n. map_depends_on_clump known n.place) (maps_read_by_command command)
        (λ i d lt. h _))

    by : (b : Bool) → NoMapDependsOnClump (if b then known ++ made_map_depends_on_clump known command ∷ [] else known)
    by true = one-more known (made_map_depends_on_clump known command) plain h
    by false = h

no-map-depends : (known : List Bool) (statements : List Statement) → NoStatementIsClump statements
    → NoMapDependsOnClump known → NoMapDependsOnClump (clump_dependence_after_statements known statements)
no-map-depends known [] no_clump h = h
no-map-depends known (s ∷ ss) no_clump h =
    no-map-depends (clump_dependence_after_command known s.command) ss
    (All-tail (λ s. command_is_clump s.command ≡ false) s ss no_clump)
    (none-made known s.command (All-head (λ s. command_is_clump s.command ≡ false) s ss no_clump) h)

-- ---- tiles

-- lists of maps that are cut out at each place are cut out
all-cut : (r : Rectangle) (whole part : List Grid)
    → ((place : ℕ) → MapIsCutOutOfFullMap r (slice_get whole place) (slice_get part place))
    → map (λ m. m.rows) part ≡ map (λ m. cells_of_rectangle r m.rows) whole
all-cut r [] [] cut = refl
all-cut r [] (m ∷ part) cut = absurd (let no : Some m.rows ≡ None = cut 0 in cc)
all-cut r (w ∷ whole) [] cut = absurd (let no : None ≡ Some (cells_of_rectangle r w.rows) = cut 0 in cc)
all-cut r (w ∷ whole) (m ∷ part) cut =
    let first = same_Some m.rows (cells_of_rectangle r w.rows) (cut 0) in
    let rest = all-cut r whole part (λ i. cut (suc i)) in
    λ i. first i ∷ rest i

-- in a script without r.clump, no map depends on an r.clump
pub plain-place : (full : ShelfValue) (statements : List Statement) → NoStatementIsClump statements → (place : ℕ)
    → MapDoesNotDependOnClump (length full.maps) statements place
plain-place full statements no_clump place =
    no-map-depends (replicate (length full.maps) false) statements no_clump (none-given (length full.maps)) place

pub tiles-without-clump : TilesWithoutClumpAreCutOut
tiles-without-clump full after statements run whole is no_clump =
    all-cut run.place.tile after.maps (inner_shelf run.after).maps (λ place.
    tile-runs full after statements run whole is place (plain-place full statements no_clump place))

same-places : (runs : List TileRun) → map (λ part. part.place) (map tile_after_run runs)
    ≡ map (λ run. run.place.tile) runs
same-places [] = refl
same-places (run ∷ runs) = ap (λ (l : List Rectangle). run.place.tile ∷ l) (same-places runs)

-- the cells of a map that is cut out of a full map
cut-cells : (r : Rectangle) (whole part : Option Grid) → MapIsCutOutOfFullMap r whole part → (row col : ℕ)
    → row < r.rows → col < r.cols → option_map_or (λ m. cell_at m row col) part None
    ≡ option_map_or (λ m. cell_at m (r.top + row) (r.left + col)) whole None
cut-cells r None None cut row col high wide = refl
cut-cells r None (Some m) cut row col high wide = cc
cut-cells r (Some w) None cut row col high wide = cc
cut-cells r (Some w) (Some m) cut row col high wide =
    ap (λ l. get_or (get_or l row []) col None) (same_Some m.rows (cells_of_rectangle r w.rows) cut)
    ∙ cut-cell r w row col high wide

module _ (full after : ShelfValue) (statements : List Statement) (run : TileRun)
    (is : IsRunWithEnoughHalo full statements run) (whole : IsShelfAfterStatements full statements after) where
  pub run-cells : (row col place : ℕ) → MapDoesNotDependOnClump (length full.maps) statements place
      → row < run.place.tile.rows → col < run.place.tile.cols
      → cell_of_map_at_place (inner_shelf run.after).maps row col place
      ≡ cell_of_map_at_place after.maps (run.place.tile.top + row) (run.place.tile.left + col) place
  run-cells row col place plain high wide =
      cut-cells run.place.tile (slice_get after.maps place) (slice_get (inner_shelf run.after).maps place)
      (tile-runs full after statements run whole is place plain) row col high wide

module _ (full after : ShelfValue) (statements : List Statement) (runs : List TileRun)
    (are : AreRunsOverTiles full statements after runs) where
  pub covers : RectanglesCoverMap after.region.rows after.region.cols
      (map (λ run. run.place.tile) runs)
  covers = subst (λ (e : RegionValue). RectanglesCoverMap e.rows e.cols (map (λ run. run.place.tile) runs))
      (sym (region-after-all full after statements are.whole)) are.covering

pub tiles-cover : TilesAfterRunsCoverFullMaps
tiles-cover full after statements runs are no_clump =
    record {
      tiling = subst (RectanglesCoverMap after.region.rows after.region.cols) (sym (same-places runs))
          (covers full after statements runs are);
      cells = All-map (λ part. MapsAreTileOfFullMaps part.place after.maps part.maps) tile_after_run runs
          (All-weaker (IsRunWithEnoughHalo full statements)
          (λ run. MapsAreTileOfFullMaps run.place.tile after.maps (inner_shelf run.after).maps)
          (λ run is row col place high wide. run-cells full after statements run is are.whole row col place
          (plain-place full statements no_clump place) high wide) runs are.each);
    }
