-- The maps of a tile after statements are cut out of the full maps after them.
use Rattle.std.proofs.Common.{◌≡◌, ℕ, zero, suc, ◌+◌, ◌-◌, List, [], ◌∷◌, map, drop, length, get_or}
use Rattle.std.proofs.Common.{Option, Some, None, false, replicate, refl, ap, sym, subst, ◌∙◌, arith}
use Rattle.std.specs.Prelude.{All, slice_get}
use Rattle.std.proofs.lemmas.List.{length-map, length-replicate}
use Rattle.std.proofs.lemmas.List.Elements.{All-head, All-tail}
use Rattle.cell_core_values.specs.Region.{RegionValue}
use Rattle.cell_core.specs.Grid.{Grid, CellValue, RowsFillRegion, cell_at}
use Rattle.cell_core.specs.Shelf.{ShelfValue}
use Rattle.cell_join_numbers.specs.Parts.{cells_of_rectangle, RowsAreCutOutOfMaps}
use Rattle.cell_join_numbers.proofs.CutLemmas.{first-or}
use Rattle.rcell_plan.proofs.MapLemmas.{same_rows}
use Rattle.rcell_plan.specs.NeedsLaw.{IsShelfAfterStatements}
use Rattle.rcell_script.specs.declared.statement.Statement.{Statement}
use Rattle.rcell_tile.specs.declared.halo_margins.HaloMargin.{HaloMargin}
use Rattle.rcell_tile.specs.ClumpDependence.{clump_dependence_after_statements}
use Rattle.rcell_tile.specs.HaloMargins.{halo_margin, margin_of_map_at_place, margins_of_maps}
use Rattle.rcell_tile.specs.TileMaps.{tile_in_its_maps, tile_map, tile_region, halo_rows_above, halo_columns_left}
use Rattle.rcell_tile.specs.TilePlaces.{TilePlaceValue, IsValidTilePlace}
use Rattle.rcell_tile.specs.TileRunLaw.{IsShelfOfTile, IsRunWithEnoughHalo, TileRun, MapIsCutOutOfFullMap}
use Rattle.rcell_tile.specs.TileRunLaw.{TileRunsHaveFullMapCells, shelves_at_place}
use Rattle.rcell_tile.specs.TileRuns.{shelf_without_halo}
use Rattle.rcell_tile.proofs.AgreeLemmas.{MapsAgreeInTile, ShelvesAgreeInTile}
use Rattle.rcell_tile.proofs.AgreeLemmas.{rows_of, columns_of, MapsAgree}
use Rattle.rcell_tile.proofs.CutLemmas.{cut-fills, cut-cell}
use Rattle.rcell_tile.proofs.LimitLemmas.{within-maps, tile-within}
use Rattle.rcell_tile.proofs.MarginLemmas.{halo-fits, no-margin-fits}
use Rattle.rcell_tile.proofs.StatementLemmas.{RunAgreesInTile, agree-after-statements}

-- ---- the given maps

module _ (p : TilePlaceValue) (valid : IsValidTilePlace p) (outer full : RegionValue)
    (outer_rows : outer.rows ≡ p.outer.rows) (outer_cols : outer.cols ≡ p.outer.cols) (full_rows : full.rows ≡ p.rows)
    (full_cols : full.cols ≡ p.cols) where
  cut-agrees : (w m : Grid) → m.rows ≡ cells_of_rectangle p.outer w.rows
      → MapsAgree p (halo_margin p) (Some m) (Some w)
  cut-agrees w m cut row col row_in col_in within =
      let halo = halo_margin p in
      let fits = halo-fits p valid in
      let high = within-maps (rows_of p) halo.up halo.down row fits.rows within.rows row_in in
      let wide = within-maps (columns_of p) halo.left halo.right col fits.cols within.cols col_in in
      let on_row : p.outer.top + (row - p.outer.top) ≡ row = omega (arith, high.0) in
      let on_col : p.outer.left + (col - p.outer.left) ≡ col = omega (arith, wide.0) in
      ap (λ l. get_or (get_or l (row - p.outer.top) []) (col - p.outer.left) None) cut
      ∙ cut-cell p.outer w (row - p.outer.top) (col - p.outer.left) (omega (arith, high.0, high.1))
      (omega (arith, wide.0, wide.1))
      ∙ (λ i. cell_at w (on_row i) (on_col i))

  given-agree : (whole part : List Grid) → All (λ m. RowsFillRegion full m.rows) whole
      → RowsAreCutOutOfMaps p.outer whole part → (place : ℕ)
      → MapsAgreeInTile p outer full (margin_of_map_at_place (replicate (length part) (halo_margin p)) place)
      (slice_get part place) (slice_get whole place)
  given-agree [] [] all cut place = record {
    part_fills = tt;
    whole_fills = tt;
    fits = no-margin-fits p valid;
    agree = λ row col row_in col_in within. refl;
  }
  given-agree [] (m ∷ part) all cut place = cc
  given-agree (w ∷ whole) [] all cut place = cc
  given-agree (w ∷ whole) (m ∷ part) all cut zero =
      let here : m.rows ≡ cells_of_rectangle p.outer w.rows = ap (first-or []) cut in
      let filled = All-head (λ (g : Grid). RowsFillRegion full g.rows) w whole all in
      record {
        part_fills = subst (RowsFillRegion outer) (sym here) (cut-fills full outer p.outer outer_rows outer_cols w.rows
            filled (omega (arith, valid.outer.bottom, full_rows)) (omega (arith, valid.outer.right, full_cols)));
        whole_fills = filled;
        fits = halo-fits p valid;
        agree = cut-agrees w m here;
      }
  given-agree (w ∷ whole) (m ∷ part) all cut (suc place) =
      given-agree whole part (All-tail (λ (g : Grid). RowsFillRegion full g.rows) w whole all) (ap (drop 1) cut) place

  -- ---- the maps of the tile alone

  tile-rows : (margin : HaloMargin) (m n : Grid) → MapsAgreeInTile p outer full margin (Some m) (Some n)
      → cells_of_rectangle (tile_in_its_maps p) m.rows ≡ cells_of_rectangle p.tile n.rows
  tile-rows margin m n h =
      let inner = tile_region p outer in
      let top = valid.tile.top in
      let bottom = valid.tile.bottom in
      let left = valid.tile.left in
      let right = valid.tile.right in
      same_rows inner (cells_of_rectangle (tile_in_its_maps p) m.rows) (cells_of_rectangle p.tile n.rows)
      (cut-fills outer inner (tile_in_its_maps p) refl refl m.rows h.part_fills (omega (arith, top, bottom, outer_rows))
      (omega (arith, left, right, outer_cols)))
      (cut-fills full inner p.tile refl refl n.rows h.whole_fills
      (omega (arith, bottom, valid.outer.bottom, full_rows)) (omega (arith, right, valid.outer.right, full_cols)))
      (λ r c r_lt c_lt.
      let on_row : halo_rows_above p + r ≡ p.tile.top + r - p.outer.top = omega (arith, top) in
      let on_col : halo_columns_left p + c ≡ p.tile.left + c - p.outer.left = omega (arith, left) in
      cut-cell (tile_in_its_maps p) m r c r_lt c_lt
      ∙ (λ i. cell_at m (on_row i) (on_col i))
      ∙ h.agree (p.tile.top + r) (p.tile.left + c) (omega (arith, bottom, valid.outer.bottom, r_lt))
      (omega (arith, right, valid.outer.right, c_lt)) (record {
        rows = tile-within (rows_of p) margin.up margin.down r r_lt;
        cols = tile-within (columns_of p) margin.left margin.right c c_lt;
      })
      ∙ sym (cut-cell p.tile n r c r_lt c_lt))

  tile-at-place : (margin : HaloMargin) (part whole : List Grid) (place : ℕ) → length part ≡ length whole
      → MapsAgreeInTile p outer full margin (slice_get part place) (slice_get whole place)
      → MapIsCutOutOfFullMap p.tile (slice_get whole place) (slice_get (map (tile_map p) part) place)
  tile-at-place margin [] [] place count h = refl
  tile-at-place margin (m ∷ part) (w ∷ whole) zero count h =
      ap (λ (l : List (List CellValue)). Some l) (tile-rows margin m w h)
  tile-at-place margin (m ∷ part) (w ∷ whole) (suc place) count h =
      tile-at-place margin part whole place (omega (arith, count)) h
  tile-at-place margin part whole place count h = absurd (let no : ⊥ = omega (arith, count) in no)

-- ---- the law

-- as many maps of the tile are given as full maps
pub given-count : (p : TilePlaceValue) (full shelf : ShelfValue) → IsShelfOfTile p full shelf
    → length full.maps ≡ length shelf.maps
given-count p full shelf h =
    sym (length-map full.maps (λ m. cells_of_rectangle p.outer m.rows)) ∙ ap length (sym h.cells)
    ∙ length-map shelf.maps (λ m. m.rows)

-- the shelves agree before the first statement
given-shelves : (p : TilePlaceValue) (full shelf : ShelfValue) → IsShelfOfTile p full shelf
    → ShelvesAgreeInTile p (replicate (length full.maps) false) (replicate (length shelf.maps) (halo_margin p)) shelf
    full
given-shelves p full shelf h =
    let count = given-count p full shelf h in
    let given = length-replicate (length shelf.maps) (halo_margin p) in
    record {
      valid = h.place.valid;
      outer_rows = h.place.rows;
      outer_cols = h.place.cols;
      full_rows = h.rows;
      full_cols = h.cols;
      clump_count = length-replicate (length full.maps) false ∙ count ∙ sym given;
      part_count = sym given;
      whole_count = count ∙ sym given;
      maps = λ place e. given-agree p h.place.valid shelf.region full.region h.place.rows h.place.cols h.rows h.cols
          full.maps shelf.maps h.filled h.cells place;
    }

-- after the statements, the maps of the tile agree with the full maps within their margins
pub maps-agree-after-run : (full after : ShelfValue) (statements : List Statement) (run : TileRun)
    → IsShelfAfterStatements full statements after → IsRunWithEnoughHalo full statements run
    → RunAgreesInTile run.place (clump_dependence_after_statements (replicate (length full.maps) false) statements)
    (margins_of_maps run.place (length run.given.maps) statements) run.after after
maps-agree-after-run full after statements run whole is =
    let p = run.place in
    let valid = is.tile.place.valid in
    agree-after-statements p (halo_margin p) (halo-fits p valid) (no-margin-fits p valid)
    (replicate (length full.maps) false) (replicate (length run.given.maps) (halo_margin p))
    (shelves_at_place p run.given) run.after full after statements refl (given-shelves p full run.given is.tile)
    is.enough is.executed whole

pub tile-runs : TileRunsHaveFullMapCells
tile-runs full after statements run whole is place plain =
    let p = run.place in
    let ran = maps-agree-after-run full after statements run whole is in
    let h = ran.shelves in
    subst (λ (o : Option TilePlaceValue). MapIsCutOutOfFullMap p.tile (slice_get after.maps place)
    (slice_get (shelf_without_halo o run.after.outer).maps place)) (sym ran.place)
    (tile-at-place p h.valid run.after.outer.region after.region h.outer_rows h.outer_cols h.full_rows h.full_cols
    (margin_of_map_at_place (margins_of_maps p (length run.given.maps) statements) place) run.after.outer.maps
    after.maps place (h.part_count ∙ sym h.whole_count) (h.maps place plain))
