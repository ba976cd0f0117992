-- The measures of the patches of a tile, in its map with the halo, are the measures in the full map.
use Rattle.std.proofs.Common.{◌≡◌, ℕ, pos, ◌+◌, ◌-◌, ◌<◌, ◌≤◌, ◌⊎◌, inl, inr, false, List, Option, Some, None}
use Rattle.std.proofs.Common.{refl, ap, sym, ◌∙◌, arith}
use Rattle.std.specs.Prelude.{◌||◌}
use Rattle.std.proofs.lemmas.Bool.{or_parts, ltb-false}
use Rattle.cell_core_values.specs.Region.{RegionValue}
use Rattle.cell_core.specs.Grid.{Grid, CellValue, RowsFillRegion, cell_at}
use Rattle.cell_clumps.specs.declared.clump.Joining.{Joining}
use Rattle.cell_clumps.specs.Clumps.{IsClumpMapOf}
use Rattle.cell_clumps.proofs.StartLemmas.{inside_map}
use Rattle.cell_clumps.specs.parts.CellPlaces.{position_at_row_and_column}
use Rattle.cell_join_numbers.specs.Parts.{cells_of_rectangle}
use Rattle.cell_patches.specs.declared.patch.Patch.{Patch}
use Rattle.cell_patches.specs.TilePatches.{AreMeasuresOfAllPatchesInTile, ContainsTileWithHalo, IsNearTile}
use Rattle.cell_patches.specs.TilePatches.{position_in_its_full_map}
use Rattle.cell_patches.proofs.HaloLemmas.{IsPatchInsideMap, halo_inside}
use Rattle.cell_patches.proofs.InsideLemmas.{of_to}
use Rattle.rcell_tile.specs.declared.halo_margins.HaloMargin.{HaloMargin}
use Rattle.rcell_tile.specs.HaloMargins.{exceeds_limit, exceeds_margin}
use Rattle.rcell_tile.specs.TileMaps.{halo_rows_above, halo_columns_left, tile_in_its_maps, tile_map, tile_region}
use Rattle.rcell_tile.specs.TilePlaces.{TilePlaceValue, IsValidTilePlace}
use Rattle.rcell_tile.proofs.AgreeLemmas.{MapsAgreeInTile, rows_of, columns_of, rows-are, columns-are, same-cell}
use Rattle.rcell_tile.proofs.CutLemmas.{cut-cell, cut-fills}
use Rattle.rcell_tile.proofs.LimitLemmas.{IsNotBefore, IsNotAfter, FitsBefore, lead-on}
use Rattle.rcell_pipe_response.specs.QuestionFrames.{position_of_tile}
use Rattle.rcell_pipe_response.specs.TileQuestionLaw.{AreNumbersAndMeasuresInFullMap}

-- ---- a depth within a margin

near-before : (limit : Option ℕ) (depth start i : ℕ) → exceeds_limit limit depth ≡ false → start ≤ i + depth
    → IsNotBefore limit start i
near-before None depth start i enough le = tt
near-before (Some n) depth start i enough le =
    let most : depth ≤ n = ltb-false n depth enough in omega (arith, most, le)

near-after : (limit : Option ℕ) (depth end i : ℕ) → exceeds_limit limit depth ≡ false → i < end + depth
    → IsNotAfter limit end i
near-after None depth end i enough lt = tt
near-after (Some n) depth end i enough lt =
    let most : depth ≤ n = ltb-false n depth enough in omega (arith, most, lt)

-- the maps of the tile begin with the full map, or contain the depth
begins : (limit : Option ℕ) (depth first start : ℕ) → exceeds_limit limit depth ≡ false → FitsBefore limit first start
    → (first ≡ 0) ⊎ (first + depth ≤ start)
begins None depth first start enough fits = inl fits
begins (Some n) depth first start enough fits =
    let most : depth ≤ n = ltb-false n depth enough in inr (omega (arith, most, fits))

-- the margin contains all cells within `depth` rows and columns of the tile
pub record IsDepthWithinMargin (margin : HaloMargin) (depth : ℕ) : Type 0 where
  pub up : exceeds_limit margin.up depth ≡ false
  pub down : exceeds_limit margin.down depth ≡ false
  pub left : exceeds_limit margin.left depth ≡ false
  pub right : exceeds_limit margin.right depth ≡ false

pub depth-within : (margin : HaloMargin) (depth : ℕ)
    → exceeds_margin margin (record { up = depth; down = depth; left = depth; right = depth }) ≡ false
    → IsDepthWithinMargin margin depth
depth-within margin depth enough =
    let both = or_parts (exceeds_limit margin.up depth || exceeds_limit margin.down depth)
    (exceeds_limit margin.left depth || exceeds_limit margin.right depth) enough in
    let rows = or_parts (exceeds_limit margin.up depth) (exceeds_limit margin.down depth) both.0 in
    let cols = or_parts (exceeds_limit margin.left depth) (exceeds_limit margin.right depth) both.1 in
    record { up = rows.0; down = rows.1; left = cols.0; right = cols.1 }

-- ---- the map with the halo

module _ (p : TilePlaceValue) (valid : IsValidTilePlace p) (outer full : RegionValue)
    (outer_rows : outer.rows ≡ p.outer.rows) (outer_cols : outer.cols ≡ p.outer.cols) (full_rows : full.rows ≡ p.rows)
    (full_cols : full.cols ≡ p.cols) (margin : HaloMargin) (wide whole : Grid)
    (h : MapsAgreeInTile p outer full margin (Some wide) (Some whole)) (depth : ℕ)
    (within : IsDepthWithinMargin margin depth) where
  -- it contains the tile with the cells of the full map around it
  contains-tile : (tile : RegionValue) → tile.rows ≡ p.tile.rows → tile.cols ≡ p.tile.cols
      → ContainsTileWithHalo whole wide (position_of_tile p) tile depth
  contains-tile tile rows cols = record {
    cells = cells;
    top = omega arith;
    left = omega arith;
    north = high (begins margin.up depth p.outer.top p.tile.top within.up h.fits.rows.before);
    west = wide_left (begins margin.left depth p.outer.left p.tile.left within.left h.fits.cols.before);
  }
    where
      high : (p.outer.top ≡ 0) ⊎ (p.outer.top + depth ≤ p.tile.top)
          → (halo_rows_above p ≡ p.tile.top) ⊎ (depth ≤ halo_rows_above p)
      high (inl e) = inl (omega (arith, e))
      high (inr le) = inr (omega (arith, le))

      wide_left : (p.outer.left ≡ 0) ⊎ (p.outer.left + depth ≤ p.tile.left)
          → (halo_columns_left p ≡ p.tile.left) ⊎ (depth ≤ halo_columns_left p)
      wide_left (inl e) = inl (omega (arith, e))
      wide_left (inr le) = inr (omega (arith, le))

      cells : (r c : ℕ) → IsNearTile depth (halo_rows_above p) tile.rows r
          → IsNearTile depth (halo_columns_left p) tile.cols c
          → cell_at wide r c
          ≡ cell_at whole (p.tile.top - halo_rows_above p + r) (p.tile.left - halo_columns_left p + c)
      cells r c near_row near_col =
          let top = valid.tile.top in
          let left = valid.tile.left in
          let row : p.outer.top + r ≡ p.tile.top - halo_rows_above p + r = omega (arith, top) in
          let col : p.outer.left + c ≡ p.tile.left - halo_columns_left p + c = omega (arith, left) in
          let from_row : r ≡ p.outer.top + r - p.outer.top = omega arith in
          let from_col : c ≡ p.outer.left + c - p.outer.left = omega arith in
          same-cell p outer full outer_rows outer_cols full_rows full_cols margin (Some wide) (Some whole) h (pos r)
          (pos c) (pos (p.outer.top + r)) (pos (p.outer.left + c))
          (lead-on (rows_of p) (rows-are p valid) margin.up margin.down h.fits.rows (pos r) (p.outer.top + r)
          (ap pos from_row) (record {
            before = near-before margin.up depth p.tile.top (p.outer.top + r) within.up
                (omega (arith, near_row.before, top));
            after = near-after margin.down depth (p.tile.top + p.tile.rows) (p.outer.top + r) within.down
                (omega (arith, near_row.after, top, rows));
          }))
          (lead-on (columns_of p) (columns-are p valid) margin.left margin.right h.fits.cols (pos c) (p.outer.left + c)
          (ap pos from_col) (record {
            before = near-before margin.left depth p.tile.left (p.outer.left + c) within.left
                (omega (arith, near_col.before, left));
            after = near-after margin.right depth (p.tile.left + p.tile.cols) (p.outer.left + c) within.right
                (omega (arith, near_col.after, left, cols));
          }))
          ∙ (λ i. cell_at whole (row i) (col i))

  -- the map without its halo has the cells of the full map
  tile-cell : (r c : ℕ) → r < p.tile.rows → c < p.tile.cols
      → cell_at (tile_map p wide) r c ≡ cell_at whole (p.tile.top + r) (p.tile.left + c)
  tile-cell r c row_in col_in =
      let top = valid.tile.top in
      let left = valid.tile.left in
      let row : p.tile.top - halo_rows_above p + (halo_rows_above p + r) ≡ p.tile.top + r = omega (arith, top) in
      let col : p.tile.left - halo_columns_left p + (halo_columns_left p + c) ≡ p.tile.left + c = omega (arith, left) in
      cut-cell (tile_in_its_maps p) wide r c row_in col_in
      ∙ (contains-tile (tile_region p outer) refl refl).cells (halo_rows_above p + r) (halo_columns_left p + c)
      (record { before = omega arith; after = omega (arith, row_in) })
      (record { before = omega arith; after = omega (arith, col_in) })
      ∙ (λ i. cell_at whole (row i) (col i))

  module _ (j : Joining) (numbers : Grid) (clumping : IsClumpMapOf j (tile_map p wide) numbers) where
    tile-rows : numbers.region.rows ≡ p.tile.rows
    tile-rows = ap (λ (r : RegionValue). r.rows) clumping.region

    tile-cols : numbers.region.cols ≡ p.tile.cols
    tile-cols = ap (λ (r : RegionValue). r.cols) clumping.region

    -- the patches of the tile are inside the tile
    tile-filled : RowsFillRegion (tile_region p wide.region) (cells_of_rectangle (tile_in_its_maps p) wide.rows)
    tile-filled =
        cut-fills outer (tile_region p wide.region) (tile_in_its_maps p) refl refl wide.rows h.part_fills
        (omega (arith, valid.tile.top, valid.tile.bottom, outer_rows))
        (omega (arith, valid.tile.left, valid.tile.right, outer_cols))

    patch-inside : (n : ℕ) → IsPatchInsideMap numbers n
    patch-inside n r c of = by (cell_at (tile_map p wide) r c) refl
      where
        at : cell_at numbers r c ≡ Some (pos n)
        at = of_to numbers (Some (pos n)) r c of

        by : (x : CellValue) → cell_at (tile_map p wide) r c ≡ x
            → (r < numbers.region.rows) × (c < numbers.region.cols)
        by None e = absurd (let no : None ≡ Some (pos n) =
            sym (clumping.nulls (position_at_row_and_column r c) e) ∙ at in cc)
        by (Some v) e =
            let inside = inside_map (tile_map p wide) (position_at_row_and_column r c) v tile-filled e in
            (omega (arith, inside.0, tile-rows), omega (arith, inside.1, tile-cols))

    -- the measures given the halo are the measures in the full map
    pub in-full-map : 0 < depth → (patches : List Patch)
        → AreMeasuresOfAllPatchesInTile wide (position_of_tile p) numbers depth patches
        → AreNumbersAndMeasuresInFullMap j whole (position_in_its_full_map (position_of_tile p)) numbers depth patches
    in-full-map some patches are = record {
      clumping = record { tile = tile_map p wide; cells = tile-cell; clumping = clumping };
      measures = record {
        each = λ k patch is.
            (halo_inside whole wide numbers (position_of_tile p) depth (k + 1) patch some (patch-inside (k + 1))
            (contains-tile numbers.region tile-rows tile-cols)).0 (are.each k patch is);
        all = are.all;
      };
    }
