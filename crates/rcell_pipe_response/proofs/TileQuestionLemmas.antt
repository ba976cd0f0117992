-- The patches of a tile, in its map with the halo.
use Rattle.std.proofs.Common.{◌≡◌, ℕ, List, Option, Some, ap, sym, ◌∙◌, subst, arith}
use Rattle.std.specs.Prelude.{slice_get}
use Rattle.std.specs.Option.{option_map}
use Rattle.std.proofs.lemmas.Option.{slice_get-map}
use Rattle.cell_clumps.specs.declared.clump.Joining.{Joining}
use Rattle.cell_clumps.specs.Clumps.{IsClumpMapOf}
use Rattle.cell_core_values.specs.Name.{place_of_name}
use Rattle.cell_core_values.specs.Region.{RegionValue}
use Rattle.cell_core.specs.Grid.{Grid}
use Rattle.cell_core.specs.Shelf.{ShelfValue}
use Rattle.cell_patches.specs.TilePatches.{IsClumpMapOfTile, IsTileInsideMap}
use Rattle.rcell_tile.proofs.CutLemmas.{cut-cell}
use Rattle.rcell_tile.specs.TileMaps.{IsPlaceOfMaps, tile_in_its_maps, tile_map, tile_region}
use Rattle.rcell_tile.specs.TilePlaces.{TilePlaceValue}
use Rattle.rcell_tile.specs.TileRuns.{shelf_without_halo}
use Rattle.rcell_pipe_response.specs.QuestionFrames.{IsShelfMapWithName, position_of_tile}

module _ (p : TilePlaceValue) (place : Option TilePlaceValue) (at : place ≡ Some p) (outer : ShelfValue)
    (name : List ℕ) (inner wide : Grid) (without : IsShelfMapWithName (shelf_without_halo place outer) name inner)
    (named : IsShelfMapWithName outer name wide) where
  in-tile : IsShelfMapWithName (shelf_without_halo (Some p) outer) name inner
  in-tile = subst (λ (o : Option TilePlaceValue). IsShelfMapWithName (shelf_without_halo o outer) name inner) at without

  -- the map without its halo is a part of the map with this name
  pub is-part : inner ≡ tile_map p wide
  is-part =
      let k = in-tile.place in
      let here : place_of_name name outer.names ≡ Some k = in-tile.named in
      let there : place_of_name name outer.names ≡ Some named.place = named.named in
      let k-is : k ≡ named.place = cc (here, there) in
      let part : option_map (tile_map p) (slice_get outer.maps k) ≡ Some inner =
      sym (slice_get-map (tile_map p) outer.maps k) ∙ in-tile.at in
      let whole : slice_get outer.maps k ≡ Some wide = ap (slice_get outer.maps) k-is ∙ named.at in
      let both : Some inner ≡ Some (tile_map p wide) = sym part ∙ ap (option_map (tile_map p)) whole in
      cc both

  -- the numbers of its patches are the numbers of the tile's patches
  pub numbers_of_tile : (j : Joining) (numbers : Grid) → IsClumpMapOf j inner numbers
      → IsClumpMapOfTile j wide (position_of_tile p) numbers
  numbers_of_tile j numbers clumping = record {
    tile = tile_map p wide;
    cells = λ r c high right. cut-cell (tile_in_its_maps p) wide r c high right;
    clumping = subst (λ (m : Grid). IsClumpMapOf j m numbers) is-part clumping;
  }

  -- the tile is inside the map
  pub tile_is_inside : (numbers : Grid) → numbers.region ≡ inner.region → wide.region ≡ outer.region
      → IsPlaceOfMaps p outer.region → IsTileInsideMap wide.region (position_of_tile p) numbers.region
  tile_is_inside numbers same alike covers =
      let region : numbers.region ≡ tile_region p wide.region = same ∙ ap (λ (m : Grid). m.region) is-part in
      let valid = covers.valid in
      let rows : numbers.region.rows ≡ p.tile.rows = ap (λ (r : RegionValue). r.rows) region in
      let cols : numbers.region.cols ≡ p.tile.cols = ap (λ (r : RegionValue). r.cols) region in
      let high : wide.region.rows ≡ p.outer.rows = ap (λ (r : RegionValue). r.rows) alike ∙ covers.rows in
      let right : wide.region.cols ≡ p.outer.cols = ap (λ (r : RegionValue). r.cols) alike ∙ covers.cols in
      record {
        rows = omega (arith, rows, high, valid.tile.top, valid.tile.bottom);
        cols = omega (arith, cols, right, valid.tile.left, valid.tile.right);
        last_row = omega (arith, rows, valid.tile.bottom, valid.outer.bottom, valid.rows_most);
        last_col = omega (arith, cols, valid.tile.right, valid.outer.right, valid.cols_most);
      }
