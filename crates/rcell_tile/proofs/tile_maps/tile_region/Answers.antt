use Rattle.std.proofs.Common.{◌≡◌, ◌∙◌, ℕ, ℤ, sym, Ok, Err, Result, w64, rules}
use Rattle.std.specs.Int.RustNames.{FitsSigned}
use Rattle.std.proofs.lemmas.Int.{to_z-of_z}
use Rattle.cell_core_values.specs.Region.{RegionValue, IsValidRegion, region_or_first_fault}
use Rattle.cell_core_values.specs.declared.region.RegionFault.{RegionFault}
use Rattle.rcell_tile.specs.TilePlaces.{TilePlaceValue}
use Rattle.rcell_tile.specs.TileMaps.{IsPlaceOfMaps, tile_region}
use Rattle.rcell_tile.proofs.TileMapLemmas.{tile_region_accepted}
use Rattle.rcell_tile.proofs.tile_maps.tile_region.Goals as goal

made_is : (p : TilePlaceValue) (e : RegionValue) (n s o w : ℤ) (rows cols : ℕ) (made : Result RegionValue RegionFault)
    → IsPlaceOfMaps p e → IsValidRegion e → n ≡ e.north → s ≡ e.south → o ≡ e.east → w ≡ e.west
    → rows ≡ p.tile.rows → cols ≡ p.tile.cols
    → made ≡ region_or_first_fault (record { north = n; south = s; east = o; west = w; rows = rows; cols = cols })
    → made ≡ Ok (tile_region p e)
made_is p e n s o w rows cols made is valid hn hs ho hw hr hc h =
    h ∙ rw (hn, hs, ho, hw, hr, hc) (tile_region_accepted p e is valid)

pub unreachable-requires : goal.unreachable-requires
unreachable-requires c =
    let n : FitsSigned w64 c.north.result = search rules in
    let s : FitsSigned w64 c.south.result = search rules in
    let o : FitsSigned w64 c.east.result = search rules in
    let w : FitsSigned w64 c.west.result = search rules in
    let made = made_is c.args.place.now c.args.region _ _ _ _ _ _ c.new.result c.requires c.north.ensures.region
    c.north.ensures.value c.south.ensures.value c.east.ensures.value c.west.ensures.value c.tile_rows.ensures.value
    c.tile_cols.ensures.value (simp to_z-of_z at c.new.ensures) in
    let error : Err c.in-Err.field-0 ≡ Ok (tile_region c.args.place.now c.args.region) = sym c.in-Err.is ∙ made in
    cc

pub returns : goal.returns
returns c =
    let n : FitsSigned w64 c.north.result = search rules in
    let s : FitsSigned w64 c.south.result = search rules in
    let o : FitsSigned w64 c.east.result = search rules in
    let w : FitsSigned w64 c.west.result = search rules in
    let made = made_is c.args.place.now c.args.region _ _ _ _ _ _ c.new.result c.requires c.north.ensures.region
    c.north.ensures.value c.south.ensures.value c.east.ensures.value c.west.ensures.value c.tile_rows.ensures.value
    c.tile_cols.ensures.value (simp to_z-of_z at c.new.ensures) in
    let same : Ok c.in-Ok.region ≡ Ok (tile_region c.args.place.now c.args.region) = sym c.in-Ok.is ∙ made in
    cc
