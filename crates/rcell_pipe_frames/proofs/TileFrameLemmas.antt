-- The frames of tiles join into the frames of the full maps, statement by statement.
use Rattle.std.proofs.Common.{◌≡◌, ◌↔◌, ℕ, zero, suc, false, List, [], ◌∷◌, ◌++◌, map, length, replicate}
use Rattle.std.proofs.Common.{get_or, Option, Some, None, refl, ap, sym, subst, ◌∙◌, append_assoc}
use Rattle.std.specs.Prelude.{All, slice_get, unwrap_or}
use Rattle.std.proofs.lemmas.List.{get_or_default}
use Rattle.std.proofs.lemmas.List.Elements.{All-nil, All-cons, All-head, All-tail, All-append, All-weaker}
use Rattle.std.proofs.lemmas.Option.{same_Some}
use Rattle.cell_core.specs.Grid.{Grid}
use Rattle.cell_core.specs.Shelf.{ShelfValue}
use Rattle.cell_stats_combinations.specs.Combinations.{Combination, shelf_combinations}
use Rattle.cell_stats_combinations.specs.LeftOut.{kept_cells}
use Rattle.cell_stats_combinations.specs.declared.skip.Skip.{Skip}
use Rattle.cell_stats.specs.CategoryTables.{CombinationsWithCounts, IsTable, table_of_cells}
use Rattle.cell_stats.proofs.TableLemmas.{combination_counts-IsTally, table_is, table_of-IsTable}
use Rattle.cell_join_numbers.specs.Merging.{AreAscendingNonzeroEntries}
use Rattle.cell_join_numbers.specs.Parts.{Rectangle, RectanglesCoverMap, cells_of_rectangle}
use Rattle.cell_join_numbers.specs.TableParts.{IsMergeOfTables}
use Rattle.rcell.specs.After.{IsShelfAfterCommand}
use Rattle.rcell.specs.Output.{combinations_at_all_cells, table_format_of_stats_options}
use Rattle.rcell_script.specs.KnownMaps.{known_names_after_command}
use Rattle.rcell_script.specs.declared.command.Command.{Command}
use Rattle.rcell_script.specs.declared.command.Command.TheVariants.{Mapcalc, Reclass, Clump, Stats, OutAscii}
use Rattle.rcell_script.specs.declared.command.StatsOptions.{StatsOptions}
use Rattle.rcell_script.specs.declared.statement.Statement.{Statement}
use Rattle.rcell_plan.specs.NeedsLaw.{IsShelfAfterStatements}
use Rattle.rcell_plan.proofs.LawLemmas.{of_map}
use Rattle.rcell_tile.specs.declared.halo_margins.HaloFaultKind.{HaloFaultKind}
use Rattle.rcell_tile.specs.declared.halo_margins.HaloMargin.{HaloMargin}
use Rattle.rcell_tile.specs.ClumpDependence.{MapDoesNotDependOnClump}
use Rattle.rcell_tile.specs.HaloMargins.{halo_margin, halo_fault_of_command, fault_at_line_or_next}
use Rattle.rcell_tile.specs.HaloMargins.{first_fault_with_margins, margins_after_command, first_halo_fault}
use Rattle.rcell_tile.specs.HaloMargins.{command_is_clump, command_prints_labels}
use Rattle.rcell_tile.specs.TileMaps.{tile_map}
use Rattle.rcell_tile.specs.TilePlaces.{TilePlaceValue}
use Rattle.rcell_tile.specs.TileRunLaw.{IsShelfOfTile, shelves_at_place, MapIsCutOutOfFullMap, TileRun}
use Rattle.rcell_tile.specs.TileRunLaw.{IsRunWithEnoughHalo, NoStatementIsClump, AreRunsOverTiles}
use Rattle.rcell_tile.specs.TileRuns.{RunShelvesValue, shelves_of_full_maps, shelf_without_halo, inner_shelf}
use Rattle.rcell_tile.specs.TileRuns.{IsTileShelfAfterCommand, IsOuterShelfAfterCommand, AreShelvesAfterCommand}
use Rattle.rcell_tile.specs.TileRuns.{AreShelvesAfterStatements}
use Rattle.rcell_tile.proofs.PlannedHaloLemmas.{no-clump-is-read, planned-halo}
use Rattle.rcell_tile.proofs.TileCoverLemmas.{none-given, plain-place}
use Rattle.rcell_tile.proofs.TileRunLemmas.{given-count, tile-runs}
use Rattle.rcell_tile.proofs.TileTableLemmas.{tables-after-runs-merge}
use Rattle.rcell_pipe_frames.specs.Frames.{OutputFrame, Table, Map, table_frame, stats_frame, grid_frame}
use Rattle.rcell_pipe_frames.specs.Frames.{map_name_at_place, out_ascii_frames, command_frames, StatementsGiveFrames}
use Rattle.rcell_pipe_frames.specs.TileFrameLaw.{CanBeRunInTiles, TileWithFrames, AreFramesOfTile, AreFramesOverTiles}
use Rattle.rcell_pipe_frames.specs.TileFrameLaw.{FrameIsPartOfFrame, entries_of_frame, TablesMergeIntoTable}
use Rattle.rcell_pipe_frames.specs.TileFrameLaw.{TablesMergeIntoFrame}
use Rattle.rcell_pipe_frames.specs.TileFrameLaw.{FramesJoinIntoFrame, frames_at_index, TileFramesJoinIntoFullFrames}
use Rattle.rcell_pipe_frames.proofs.LawLemmas.{full-maps-after}

-- ---- lists

same-map : {X Y Z : Type 0} (f : X → Z) (g : Y → Z) (next : X → Y) → ((x : X) → f x ≡ g (next x)) → (xs : List X)
    → map f xs ≡ map g (map next xs)
same-map f g next same [] = refl
same-map f g next same (x ∷ xs) =
    let here = same x in
    let rest = same-map f g next same xs in
    λ i. here i ∷ rest i

all-of-map : {X Y : Type 0} (P : Y → Type 0) (f : X → Y) → ((x : X) → P (f x)) → (xs : List X) → All P (map f xs)
all-of-map P f h [] = All-nil P
all-of-map P f h (x ∷ xs) = All-cons P (f x) (map f xs) (h x) (all-of-map P f h xs)

all-of : {X : Type 0} (P : X → Type 0) → ((x : X) → P x) → (xs : List X) → All P xs
all-of P h [] = All-nil P
all-of P h (x ∷ xs) = All-cons P x xs (h x) (all-of P h xs)

-- a table lists combinations in order
table-listed : (skip : Skip) (cells : List Combination) → AreAscendingNonzeroEntries (table_of_cells skip cells)
table-listed skip cells =
    let tally = combination_counts-IsTally (kept_cells skip cells) in
    let entries = table_of_cells skip cells in
    record {
      ascending = tally.ascending;
      no_zero = λ i d within.
          let e = get_or entries i d in
          ((tally.counted e.0 e.1).0 (i, within, get_or_default entries i e d within)).0;
    }

-- ---- one more statement

whole-more : (full now : ShelfValue) (done : List Statement) (s : Statement) (next : ShelfValue)
    → IsShelfAfterStatements full done now → IsShelfAfterCommand now s.command next
    → IsShelfAfterStatements full (done ++ s ∷ []) next
whole-more full now [] s next u step =
    (next, (subst (λ (x : ShelfValue). IsShelfAfterCommand x s.command next) (sym u) step, refl))
whole-more full now (d ∷ done) s next u step = (u.0, (u.1.0, whole-more u.0 now done s next u.1.1 step))

run-more : (given now : RunShelvesValue) (done : List Statement) (s : Statement) (next : RunShelvesValue)
    → AreShelvesAfterStatements given done now → AreShelvesAfterCommand now s.command next
    → AreShelvesAfterStatements given (done ++ s ∷ []) next
run-more given now [] s next u step =
    (next, (subst (λ (x : RunShelvesValue). AreShelvesAfterCommand x s.command next) (sym u) step, refl))
run-more given now (d ∷ done) s next u step = (u.0, (u.1.0, run-more u.0 now done s next u.1.1 step))

no-fault-before : (halo : HaloMargin) (known : List HaloMargin) (xs ys : List Statement)
    → first_fault_with_margins halo known (xs ++ ys) ≡ None → first_fault_with_margins halo known xs ≡ None
no-fault-before halo known [] ys e = refl
no-fault-before halo known (x ∷ xs) ys e =
    by (halo_fault_of_command known x.command)
    (no-fault-before halo (margins_after_command halo known x.command) xs ys) e
  where
    by : (o : Option HaloFaultKind)
        → (first_fault_with_margins halo (margins_after_command halo known x.command) (xs ++ ys) ≡ None
        → first_fault_with_margins halo (margins_after_command halo known x.command) xs ≡ None)
        → fault_at_line_or_next x.line o
        (first_fault_with_margins halo (margins_after_command halo known x.command) (xs ++ ys)) ≡ None
        → fault_at_line_or_next x.line o
        (first_fault_with_margins halo (margins_after_command halo known x.command) xs) ≡ None
    by None behind e = behind e
    by (Some kind) behind e = cc

-- ---- names

names-after : (shelf : ShelfValue) (command : Command) (next : ShelfValue) → IsShelfAfterCommand shelf command next
    → next.names ≡ known_names_after_command shelf.names command
names-after shelf (Mapcalc target f) next u = ap (λ (s : ShelfValue). s.names) u.1.1
names-after shelf (Reclass place target rules) next u =
    ap (λ (s : ShelfValue). s.names) (of_map (slice_get shelf.maps place) u).1.1
names-after shelf (Clump place target joining) next u = ap (λ (s : ShelfValue). s.names) u.1.1
names-after shelf (Stats places options) next u = ap (λ (s : ShelfValue). s.names) u
names-after shelf (OutAscii place null_text) next u = ap (λ (s : ShelfValue). s.names) u

tile-names-after : (p : TilePlaceValue) (shelf : ShelfValue) (command : Command) (next : ShelfValue)
    → IsTileShelfAfterCommand p shelf command next → next.names ≡ known_names_after_command shelf.names command
tile-names-after p shelf (Mapcalc target f) next u = ap (λ (s : ShelfValue). s.names) u.1.1
tile-names-after p shelf (Reclass place target rules) next u =
    ap (λ (s : ShelfValue). s.names) (of_map (slice_get shelf.maps place) u).1.1
tile-names-after p shelf (Clump place target joining) next u = ap (λ (s : ShelfValue). s.names) u.1.1
tile-names-after p shelf (Stats places options) next u = ap (λ (s : ShelfValue). s.names) u
tile-names-after p shelf (OutAscii place null_text) next u = ap (λ (s : ShelfValue). s.names) u

inner-names : (o : Option TilePlaceValue) (shelf : ShelfValue) → (shelf_without_halo o shelf).names ≡ shelf.names
inner-names None shelf = refl
inner-names (Some p) shelf = refl

-- ---- maps of a tile

cut-none : (r : Rectangle) (part : Option Grid) → MapIsCutOutOfFullMap r None part → part ≡ None
cut-none r None cut = refl
cut-none r (Some m) cut = cc

cut-found : (r : Rectangle) (whole : Grid) (part : Option Grid) → MapIsCutOutOfFullMap r (Some whole) part
    → (m : Grid) × ((part ≡ Some m) × (m.rows ≡ cells_of_rectangle r whole.rows))
cut-found r whole None cut = cc
cut-found r whole (Some m) cut = (m, (refl, same_Some m.rows (cells_of_rectangle r whole.rows) cut))

-- the map has as many rows and columns as the tile
record HasSizeOfTile (p : TilePlaceValue) (m : Grid) : Type 0 where
  rows : m.region.rows ≡ p.tile.rows
  cols : m.region.cols ≡ p.tile.cols

size-of-tile : (p : TilePlaceValue) (maps : List Grid) (place : ℕ) (m : Grid)
    → slice_get (map (tile_map p) maps) place ≡ Some m → HasSizeOfTile p m
size-of-tile p [] place m e = cc
size-of-tile p (g ∷ maps) zero m e =
    let same : tile_map p g ≡ m = same_Some (tile_map p g) m e in
    record {
      rows = sym (ap (λ (k : Grid). k.region.rows) same);
      cols = sym (ap (λ (k : Grid). k.region.cols) same);
    }
size-of-tile p (g ∷ maps) (suc place) m e = size-of-tile p maps place m e

-- ---- a tile between two statements

-- a tile after the statements `done` and before the statements `rest`
record TileBetween (full now : ShelfValue) (done rest : List Statement) : Type 0 where
  place : TilePlaceValue
  given : ShelfValue
  shelves : RunShelvesValue
  frames : List OutputFrame
  after : RunShelvesValue
  tile : IsShelfOfTile place full given
  place_is : shelves.place ≡ Some place
  names : shelves.outer.names ≡ now.names
  enough : first_halo_fault place (length given.maps) (done ++ rest) ≡ None
  executed : AreShelvesAfterStatements (shelves_at_place place given) done shelves
  gives : StatementsGiveFrames shelves rest frames after

module _ (full now : ShelfValue) (done rest : List Statement) where
  abbrev place-of : TileBetween full now done rest → Rectangle
  place-of t = t.place.tile

  abbrev run-of : TileBetween full now done rest → TileRun
  run-of t = record { place = t.place; given = t.given; after = t.shelves }

  is-run : (t : TileBetween full now done rest) → IsRunWithEnoughHalo full done (run-of t)
  is-run t = record {
    tile = t.tile;
    enough = no-fault-before (halo_margin t.place) (replicate (length t.given.maps) (halo_margin t.place)) done rest
        t.enough;
    executed = t.executed;
  }

  same-names : (t : TileBetween full now done rest) → (inner_shelf t.shelves).names ≡ now.names
  same-names t = inner-names t.shelves.place t.shelves.outer ∙ t.names

  has-size : (t : TileBetween full now done rest) (place : ℕ) (m : Grid)
      → slice_get (inner_shelf t.shelves).maps place ≡ Some m → HasSizeOfTile t.place m
  has-size t place m e =
      size-of-tile t.place t.shelves.outer.maps place m
      (subst (λ (o : Option TilePlaceValue). slice_get (shelf_without_halo o t.shelves.outer).maps place ≡ Some m)
      t.place_is e)

  module _ (whole : IsShelfAfterStatements full done now) (plain : NoStatementIsClump done) where
    cut : (t : TileBetween full now done rest) (place : ℕ)
        → MapIsCutOutOfFullMap t.place.tile (slice_get now.maps place)
        (slice_get (inner_shelf t.shelves).maps place)
    cut t place = tile-runs full now done (run-of t) whole (is-run t) place (plain-place full done plain place)

    -- the tables of the tiles merge
    tables-merge : (tiles : List (TileBetween full now done rest))
        → RectanglesCoverMap full.region.rows full.region.cols (map place-of tiles) → (skip : Skip)
        → (places : List ℕ)
        → TablesMergeIntoTable (table_of_cells skip (combinations_at_all_cells now places))
        (map (λ t. table_of_cells skip (combinations_at_all_cells (inner_shelf t.shelves) places)) tiles)
    tables-merge tiles covering skip places =
        let are : AreRunsOverTiles full done now (map run-of tiles) = record {
          whole = whole;
          each = all-of-map (IsRunWithEnoughHalo full done) run-of is-run tiles;
          covering = subst (RectanglesCoverMap full.region.rows full.region.cols)
              (same-map place-of (λ run. run.place.tile) run-of (λ t. refl) tiles) covering;
        } in
        let cells = combinations_at_all_cells now places in
        let plain_places = all-of (MapDoesNotDependOnClump (length full.maps) done)
        (plain-place full done plain) places in
        record {
          listed = all-of-map AreAscendingNonzeroEntries
              (λ t. table_of_cells skip (combinations_at_all_cells (inner_shelf t.shelves) places))
              (λ t. table-listed skip (combinations_at_all_cells (inner_shelf t.shelves) places)) tiles;
          merge = λ pairs. subst (λ (tables : List CombinationsWithCounts). IsMergeOfTables tables pairs
              ↔ (pairs ≡ table_of_cells skip cells))
              (sym (same-map (λ t. table_of_cells skip (combinations_at_all_cells (inner_shelf t.shelves) places))
              (λ run. table_of_cells skip (shelf_combinations (inner_shelf run.after) places)) run-of (λ t. refl)
              tiles))
              (let law = tables-after-runs-merge full now done (map run-of tiles) are places plain_places skip pairs
              in (
                (λ merge. table_is skip cells pairs (law.0 merge)),
                (λ same. law.1 (subst (IsTable skip cells) (sym same) (table_of-IsTable skip cells))),
              ));
        }

-- the tile after one more statement
abbrev after-statement : (full now next : ShelfValue) (done : List Statement) (s : Statement) (rest : List Statement)
    → IsShelfAfterCommand now s.command next → TileBetween full now done (s ∷ rest)
    → TileBetween full next (done ++ s ∷ []) rest
after-statement full now next done s rest whole t =
    let step = t.gives.1.1.0 in
    let tile_step : IsTileShelfAfterCommand t.place t.shelves.outer s.command t.gives.0.outer =
    subst (λ (o : Option TilePlaceValue). IsOuterShelfAfterCommand o t.shelves.outer s.command t.gives.0.outer)
    t.place_is step.outer in
    record {
      place = t.place;
      given = t.given;
      shelves = t.gives.0;
      frames = t.gives.1.0;
      after = t.after;
      tile = t.tile;
      place_is = step.place ∙ t.place_is;
      names = tile-names-after t.place t.shelves.outer s.command t.gives.0.outer tile_step
          ∙ ap (λ names. known_names_after_command names s.command) t.names
          ∙ sym (names-after now s.command next whole);
      enough = subst (λ (l : List Statement). first_halo_fault t.place (length t.given.maps) l ≡ None)
          (sym (append_assoc done (s ∷ []) rest)) t.enough;
      executed = run-more (shelves_at_place t.place t.given) t.shelves done s t.gives.0 t.executed step;
      gives = t.gives.1.1.1.0;
    }

-- ---- the frames of a statement, before the frames of the rest

module _ {X : Type 0} (place : X → Rectangle) (frames tail : X → List OutputFrame) (rest : List OutputFrame)
    (xs : List X)
    (joined : (index : ℕ) → FramesJoinIntoFrame (slice_get rest index)
    (map (λ x. (place x, slice_get (tail x) index)) xs)) where
  join-none : ((x : X) → frames x ≡ tail x) → (index : ℕ)
      → FramesJoinIntoFrame (slice_get rest index) (map (λ x. (place x, slice_get (frames x) index)) xs)
  join-none same index =
      subst (FramesJoinIntoFrame (slice_get rest index))
      (λ i. map (λ x. (place x, slice_get (sym (same x) i) index)) xs) (joined index)

  join-one : (frame : OutputFrame) (first : X → OutputFrame) → ((x : X) → frames x ≡ first x ∷ tail x)
      → ((x : X) → FrameIsPartOfFrame (place x) (Some frame) (Some (first x)))
      → TablesMergeIntoFrame (Some frame) (map (λ x. Some (first x)) xs) → (index : ℕ)
      → FramesJoinIntoFrame (slice_get (frame ∷ rest) index)
      (map (λ x. (place x, slice_get (frames x) index)) xs)
  join-one frame first same part merge zero =
      subst (FramesJoinIntoFrame (Some frame)) (λ i. map (λ x. (place x, slice_get (sym (same x) i) 0)) xs)
      (record {
        each = all-of-map (λ p. FrameIsPartOfFrame p.0 (Some frame) p.1) (λ x. (place x, Some (first x))) part xs;
        tables = subst (TablesMergeIntoFrame (Some frame))
            (same-map (λ x. Some (first x)) (λ p. p.1) (λ x. (place x, Some (first x))) (λ x. refl) xs) merge;
      })
  join-one frame first same part merge (suc index) =
      subst (FramesJoinIntoFrame (slice_get rest index))
      (λ i. map (λ x. (place x, slice_get (sym (same x) i) (suc index))) xs) (joined index)

-- the table of r.stats without -1 and after=
whole-table : (shelf : ShelfValue) (line : ℕ) (places : List ℕ) (options : StatsOptions) → options.cells ≡ false
    → options.after ≡ None
    → stats_frame shelf line places options
    ≡ Table (table_frame shelf line places (table_format_of_stats_options options)
    (table_of_cells options.skip (combinations_at_all_cells shelf places)))
whole-table shelf line places options cells after = rw (cells, after) refl

module _ (full now : ShelfValue) (done all : List Statement) (whole : IsShelfAfterStatements full done now)
    (plain : NoStatementIsClump done) (tiles : List (TileBetween full now done all))
    (covering : RectanglesCoverMap full.region.rows full.region.cols (map (place-of full now done all) tiles))
    (tail : TileBetween full now done all → List OutputFrame) (rest : List OutputFrame)
    (joined : (index : ℕ) → FramesJoinIntoFrame (slice_get rest index)
    (map (λ t. (t.place.tile, slice_get (tail t) index)) tiles)) where
  abbrev JoinAt : List OutputFrame → ℕ → Type 0
  JoinAt frames index =
      FramesJoinIntoFrame (slice_get frames index) (map (λ t. (t.place.tile, slice_get t.frames index)) tiles)

  grids-join : (line place : ℕ) (null_text : List ℕ) (o : Option Grid) → slice_get now.maps place ≡ o
      → ((t : TileBetween full now done all) → t.frames
      ≡ out_ascii_frames (inner_shelf t.shelves) line place null_text (slice_get (inner_shelf t.shelves).maps place)
      ++ tail t)
      → (index : ℕ) → JoinAt (out_ascii_frames now line place null_text o ++ rest) index
  grids-join line place null_text None e frames_are =
      join-none (λ t. t.place.tile) (λ t. t.frames) tail rest tiles joined (λ t.
      frames_are t
      ∙ ap (λ o. out_ascii_frames (inner_shelf t.shelves) line place null_text o ++ tail t)
      (cut-none t.place.tile (slice_get (inner_shelf t.shelves).maps place)
      (subst (λ (o : Option Grid). MapIsCutOutOfFullMap t.place.tile o (slice_get (inner_shelf t.shelves).maps place))
      e (cut full now done all whole plain t place))))
  grids-join line place null_text (Some grid) e frames_are =
      join-one (λ t. t.place.tile) (λ t. t.frames) tail rest tiles joined
      (Map (grid_frame line null_text (map_name_at_place now place) grid)) first
      (λ t. frames_are t
      ∙ ap (λ o. out_ascii_frames (inner_shelf t.shelves) line place null_text o ++ tail t) (found t).1.0)
      (λ t. let size = has-size full now done all t place (found t).0 (found t).1.0 in record {
        line = refl;
        null_text = refl;
        name = ap (λ names. unwrap_or (slice_get names place) []) (same-names full now done all t);
        rows = size.rows;
        cols = size.cols;
        cells = (found t).1.1;
      }) tt
    where
      found : (t : TileBetween full now done all) → (m : Grid)
          × ((slice_get (inner_shelf t.shelves).maps place ≡ Some m)
          × (m.rows ≡ cells_of_rectangle t.place.tile grid.rows))
      found t = cut-found t.place.tile grid (slice_get (inner_shelf t.shelves).maps place)
          (subst (λ (o : Option Grid). MapIsCutOutOfFullMap t.place.tile o
          (slice_get (inner_shelf t.shelves).maps place)) e (cut full now done all whole plain t place))

      first : TileBetween full now done all → OutputFrame
      first t = Map (grid_frame line null_text (map_name_at_place (inner_shelf t.shelves) place) (found t).0)

  tables-join : (line : ℕ) (places : List ℕ) (options : StatsOptions) → options.cells ≡ false
      → options.after ≡ None
      → ((t : TileBetween full now done all) → t.frames
      ≡ stats_frame (inner_shelf t.shelves) line places options ∷ tail t)
      → (index : ℕ) → JoinAt (stats_frame now line places options ∷ rest) index
  tables-join line places options cells after frames_are index =
      subst (λ (frame : OutputFrame). JoinAt (frame ∷ rest) index)
      (sym (whole-table now line places options cells after))
      (join-one (λ t. t.place.tile) (λ t. t.frames) tail rest tiles joined (table now)
      (λ t. table (inner_shelf t.shelves))
      (λ t. frames_are t
      ∙ ap (λ frame. frame ∷ tail t) (whole-table (inner_shelf t.shelves) line places options cells after))
      (λ t. record {
        line = refl;
        format = refl;
        names = λ i. map (λ place. unwrap_or (slice_get (same-names full now done all t i) place) []) places;
      })
      (subst (TablesMergeIntoTable (entries now))
      (same-map (λ t. entries (inner_shelf t.shelves)) entries_of_frame (λ t. Some (table (inner_shelf t.shelves)))
      (λ t. refl) tiles)
      (tables-merge full now done all whole plain tiles covering options.skip places)) index)
    where
      entries : ShelfValue → CombinationsWithCounts
      entries shelf = table_of_cells options.skip (combinations_at_all_cells shelf places)

      table : ShelfValue → OutputFrame
      table shelf =
          Table (table_frame shelf line places (table_format_of_stats_options options) (entries shelf))

  frames-join : (line : ℕ) (command : Command) → CanBeRunInTiles command
      → ((t : TileBetween full now done all) → t.frames
      ≡ command_frames (inner_shelf t.shelves) line command ++ tail t)
      → (index : ℕ) → JoinAt (command_frames now line command ++ rest) index
  frames-join line (Mapcalc target f) can frames_are =
      join-none (λ t. t.place.tile) (λ t. t.frames) tail rest tiles joined frames_are
  frames-join line (Reclass place target rules) can frames_are =
      join-none (λ t. t.place.tile) (λ t. t.frames) tail rest tiles joined frames_are
  frames-join line (Clump place target joining) can frames_are = absurd can
  frames-join line (Stats places options) can frames_are = tables-join line places options can.1.0 can.1.1 frames_are
  frames-join line (OutAscii place null_text) can frames_are =
      grids-join line place null_text (slice_get now.maps place) refl frames_are

-- ---- all statements

can-be-plain : (s : Statement) → CanBeRunInTiles s.command → command_is_clump s.command ≡ false
can-be-plain s can = by s.command can
  where
    by : (command : Command) → CanBeRunInTiles command → command_is_clump command ≡ false
    by (Mapcalc target f) can = refl
    by (Reclass place target rules) can = refl
    by (Clump place target joining) can = absurd can
    by (Stats places options) can = refl
    by (OutAscii place null_text) can = refl

prints-no-labels : (s : Statement) → CanBeRunInTiles s.command → command_prints_labels s.command ≡ false
prints-no-labels s can = by s.command can
  where
    by : (command : Command) → CanBeRunInTiles command → command_prints_labels command ≡ false
    by (Mapcalc target f) can = refl
    by (Reclass place target rules) can = refl
    by (Clump place target joining) can = absurd can
    by (Stats places options) can = can.0
    by (OutAscii place null_text) can = refl

abbrev CanBeRun : Statement → Type 0
CanBeRun s = CanBeRunInTiles s.command

abbrev IsPlain : Statement → Type 0
IsPlain s = command_is_clump s.command ≡ false

walk : (full now after : ShelfValue) (done rest : List Statement) (frames : List OutputFrame)
    → IsShelfAfterStatements full done now
    → StatementsGiveFrames (shelves_of_full_maps now) rest frames (shelves_of_full_maps after)
    → All IsPlain done → All CanBeRun rest → (tiles : List (TileBetween full now done rest))
    → RectanglesCoverMap full.region.rows full.region.cols (map (λ t. t.place.tile) tiles) → (index : ℕ)
    → FramesJoinIntoFrame (slice_get frames index) (map (λ t. (t.place.tile, slice_get t.frames index)) tiles)
walk full now after done [] frames whole gives plain can tiles covering index =
    subst (λ (l : List OutputFrame). FramesJoinIntoFrame (slice_get l index)
    (map (λ t. (t.place.tile, slice_get t.frames index)) tiles)) (sym gives.0)
    (subst (FramesJoinIntoFrame None)
    (λ i. map (λ t. (t.place.tile, slice_get (sym t.gives.0 i) index)) tiles) (record {
      each = all-of-map (λ p. FrameIsPartOfFrame p.0 None p.1) (λ t. (t.place.tile, None)) (λ t. tt) tiles;
      tables = tt;
    }))
walk full now after done (s ∷ ss) frames whole gives plain can tiles covering index =
    let step = gives.1.1.0 in
    let next = gives.0.outer in
    let rest = gives.1.0 in
    let rest_gives = subst (λ (n : RunShelvesValue). StatementsGiveFrames n ss rest (shelves_of_full_maps after))
    (full-maps-after now s.command gives.0 step) gives.1.1.1.0 in
    let can_here = All-head CanBeRun s ss can in
    let move = after-statement full now next done s ss step.outer in
    let joined : (index : ℕ) → FramesJoinIntoFrame (slice_get rest index)
    (map (λ t. (t.place.tile, slice_get t.frames index)) (map move tiles)) =
    walk full next after (done ++ s ∷ []) ss rest (whole-more full now done s next whole step.outer) rest_gives
    (All-append IsPlain done (s ∷ []) plain (All-cons IsPlain s [] (can-be-plain s can_here) (All-nil IsPlain)))
    (All-tail CanBeRun s ss can) (map move tiles)
    (subst (RectanglesCoverMap full.region.rows full.region.cols)
    (same-map (λ t. t.place.tile) (λ t. t.place.tile) move (λ t. refl) tiles) covering) in
    subst (λ (l : List OutputFrame). FramesJoinIntoFrame (slice_get l index)
    (map (λ t. (t.place.tile, slice_get t.frames index)) tiles)) (sym gives.1.1.1.1)
    (frames-join full now done (s ∷ ss) whole plain tiles covering (λ t. t.gives.1.0) rest
    (λ index. subst (FramesJoinIntoFrame (slice_get rest index))
    (sym (same-map (λ t. (t.place.tile, slice_get t.gives.1.0 index))
    (λ t. (t.place.tile, slice_get t.frames index)) move (λ t. refl) tiles)) (joined index))
    s.line s.command can_here (λ t. t.gives.1.1.1.1) index)

-- ---- tiles with enough halo

-- the tile is cut out of the full maps, no statement reads beyond its halo, and the statements produce its frames
pub record AreFramesWithEnoughHalo (full : ShelfValue) (statements : List Statement) (t : TileWithFrames)
    : Type 0 where
  pub tile : IsShelfOfTile t.place full t.given
  pub names : t.given.names ≡ full.names
  pub enough : first_halo_fault t.place (length t.given.maps) statements ≡ None
  pub frames : StatementsGiveFrames (shelves_at_place t.place t.given) statements t.frames t.after

module _ (full : ShelfValue) (statements : List Statement) where
  abbrev start : (t : TileWithFrames) → AreFramesWithEnoughHalo full statements t
      → TileBetween full full [] statements
  start t is = record {
    place = t.place;
    given = t.given;
    shelves = shelves_at_place t.place t.given;
    frames = t.frames;
    after = t.after;
    tile = is.tile;
    place_is = refl;
    names = is.names;
    enough = is.enough;
    executed = refl;
    gives = is.frames;
  }

  abbrev starts : (some : List TileWithFrames) → All (AreFramesWithEnoughHalo full statements) some
      → List (TileBetween full full [] statements)
  starts [] each = []
  starts (t ∷ some) each =
      start t (All-head (AreFramesWithEnoughHalo full statements) t some each)
      ∷ starts some (All-tail (AreFramesWithEnoughHalo full statements) t some each)

  same-starts : {Y : Type 0} (f : TilePlaceValue → List OutputFrame → Y) (some : List TileWithFrames)
      (each : All (AreFramesWithEnoughHalo full statements) some)
      → map (λ t. f t.place t.frames) (starts some each) ≡ map (λ t. f t.place t.frames) some
  same-starts f [] each = refl
  same-starts f (t ∷ some) each =
      ap (λ l. f t.place t.frames ∷ l)
      (same-starts f some (All-tail (AreFramesWithEnoughHalo full statements) t some each))

  pub frames-with-enough-halo-join : (frames : List OutputFrame) (after : ShelfValue) (tiles : List TileWithFrames)
      → StatementsGiveFrames (shelves_of_full_maps full) statements frames (shelves_of_full_maps after)
      → All (λ s. CanBeRunInTiles s.command) statements
      → All (AreFramesWithEnoughHalo full statements) tiles
      → RectanglesCoverMap full.region.rows full.region.cols (map (λ t. t.place.tile) tiles) → (index : ℕ)
      → FramesJoinIntoFrame (slice_get frames index) (frames_at_index index tiles)
  frames-with-enough-halo-join frames after tiles whole can each covering index =
      subst (FramesJoinIntoFrame (slice_get frames index))
      (same-starts (λ p l. (p.tile, slice_get l index)) tiles each)
      (walk full full after [] statements frames refl whole (All-nil IsPlain) can (starts tiles each)
      (subst (RectanglesCoverMap full.region.rows full.region.cols)
      (sym (same-starts (λ p l. p.tile) tiles each)) covering) index)

-- ---- the law

module _ (full : ShelfValue) (statements : List Statement) (frames : List OutputFrame) (tiles : List TileWithFrames)
    (h : AreFramesOverTiles full statements frames tiles) where
  -- the planned halo is enough
  enough : (t : TileWithFrames) → AreFramesOfTile full statements t → AreFramesWithEnoughHalo full statements t
  enough t is = record {
    tile = is.tile;
    names = is.names;
    enough = subst (λ n. first_halo_fault t.place n statements ≡ None)
        (h.named ∙ given-count t.place full t.given is.tile)
        (planned-halo t.place full.names statements (record {
          fits = h.fits;
          labels = All-weaker CanBeRun (λ s. command_prints_labels s.command ≡ false) prints-no-labels
              statements h.can;
          clumps = no-clump-is-read (replicate (length full.names) false) statements
              (All-weaker CanBeRun IsPlain can-be-plain statements h.can) (none-given (length full.names));
          halo = is.halo;
        }));
    frames = is.frames;
  }

  join-all : (index : ℕ) → FramesJoinIntoFrame (slice_get frames index) (frames_at_index index tiles)
  join-all =
      frames-with-enough-halo-join full statements frames h.after tiles h.whole h.can
      (All-weaker (AreFramesOfTile full statements) (AreFramesWithEnoughHalo full statements) enough tiles h.each)
      h.covering

pub tile-frames-join : TileFramesJoinIntoFullFrames
tile-frames-join full statements frames tiles h index = join-all full statements frames tiles h index
