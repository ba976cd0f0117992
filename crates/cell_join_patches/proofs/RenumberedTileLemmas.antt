-- The clump maps of the tiles of a grid, renumbered by the runs, are the clump map of the full map.
use Rattle.std.proofs.Common.{◌≡◌, ◌∙◌, ℕ, ℤ, pos, ◌+◌, ◌*◌, ◌-◌, ◌<◌, ◌≤◌, List, Some, None, length, get_or, sum}
use Rattle.std.proofs.Common.{refl, ap, sym, arith}
use Rattle.std.specs.Option.{option_map}
use Rattle.cell_core.specs.Grid.{Grid, CellValue}
use Rattle.cell_clumps.specs.declared.clump.Joining.{Joining}
use Rattle.cell_clumps.specs.Clumps.{Position, cell_at_position}
use Rattle.cell_clumps.proofs.LawLemmas.{HasClumpNumber-one}
use Rattle.cell_join_numbers.specs.ClumpParts.{position_in_full_map}
use Rattle.cell_join_numbers.specs.declared.stretch.ConsecutiveClumps.{ConsecutiveClumps}
use Rattle.cell_join_numbers.proofs.ClumpCellLemmas.{is-some}
use Rattle.cell_join_tiles.specs.Beginnings.{rectangle_of_tile_in_grid}
use Rattle.cell_join_tiles.specs.JoinedBorders.{begun_clump_counts_of_grid, border_of_tile_at}
use Rattle.cell_join_tiles.specs.JoinedTiles.{clump_counts_by_tile}
use Rattle.cell_join_tiles.specs.TileNumbers.{clump_count_before_tile}
use Rattle.cell_join_tiles.proofs.JoinedLemmas.{begun-tile}
use Rattle.cell_join_tiles.proofs.SideLemmas.{numbered}
use Rattle.cell_join_patches.specs.PatchNumbers.{number_in_full_map}
use Rattle.cell_join_patches.specs.TileGridLaw.{IsNumberedTileGrid, RenumberedTilesAreFullClumpMap}
use Rattle.cell_join_patches.specs.TileGridLaw.{cell_with_full_map_number, tile_number_in_grid}
use Rattle.cell_join_patches.proofs.RunLookupLemmas.{number-looked-up}
use Rattle.cell_join_patches.proofs.TileCountLemmas.{IsGridOfWidth, count-before-tile, tile-count, tile-counted}

module _ (j : Joining) (whole numbers : Grid) (heights widths : List ℕ) (map_of numbers_of : ℕ → ℕ → Grid)
    (runs : List ConsecutiveClumps)
    (grid : IsNumberedTileGrid j whole numbers heights widths map_of numbers_of runs) where
  wide : IsGridOfWidth grid.borders (length widths)
  wide r lt = let high = grid.tiles.high in grid.tiles.wide r (omega (arith, lt, high))

  module _ (r c : ℕ) (r_in : r < length heights) (c_in : c < length widths) where
    abbrev tile : ℕ
    tile = tile_number_in_grid (length widths) r c

    -- the index of a clump of the tile among the clumps of all tiles
    abbrev place : ℕ → ℕ
    place k = clump_count_before_tile (begun_clump_counts_of_grid grid.borders) r c + (k - 1)

    -- the runs have each clump of the tile
    looked-up : (k : ℕ) → 1 ≤ k → k ≤ sum (border_of_tile_at grid.borders r c).begun
        → number_in_full_map runs tile k ≡ Some (get_or grid.numbering.numbers (place k) 0)
    looked-up k low high =
        let in_grid : r < length grid.borders = let high = grid.tiles.high in omega (arith, r_in, high) in
        let counts = clump_counts_by_tile grid.borders in
        let index = r * length widths + c in
        let own = tile-count grid.borders (length widths) r c wide in_grid c_in in
        ap (λ (l : List ConsecutiveClumps). number_in_full_map l tile k) grid.numbering.are
        ∙ number-looked-up counts grid.numbering.numbers index k
        (tile-counted grid.borders (length widths) r c wide in_grid c_in) low (omega (arith, own, high))
        grid.numbering.many
        ∙ ap (λ (n : ℕ). Some (get_or grid.numbering.numbers (n + (k - 1)) 0))
        (count-before-tile grid.borders (length widths) r c wide in_grid c_in)

    module _ (p : Position) (row : p.row < get_or heights r 0) (col : p.col < get_or widths c 0) where
      abbrev q : Position
      q = position_in_full_map (rectangle_of_tile_in_grid heights widths r c) p

      same : cell_at_position (map_of r c) p ≡ cell_at_position whole q
      same = (grid.cut.tiles r c r_in c_in).cells p row col

      -- a cell's clump has its number by the runs
      renumbered : (v : ℤ) → cell_at_position (map_of r c) p ≡ Some v
          → cell_at_position numbers q ≡ cell_with_full_map_number runs tile (cell_at_position (numbers_of r c) p)
      renumbered v is =
          let some = is-some (cell_at_position (map_of r c) p) v is in
          let known = numbered j whole heights widths map_of numbers_of grid.borders grid.cut grid.tiles r c r_in c_in
          p some in
          let k : ℕ = known.clump + 1 in
          let count = ap (λ (l : List ℕ). sum l)
          (begun-tile j whole heights widths map_of numbers_of grid.borders grid.cut grid.tiles r c r_in c_in) in
          let here = grid.clumping.numbered q (is-some (cell_at_position whole q) v (sym same ∙ is)) in
          let there = grid.numbering.join whole heights widths map_of numbers_of grid.cut grid.tiles r c r_in c_in p k
          known.is in
          let one = HasClumpNumber-one j whole q here.0 (get_or grid.numbering.numbers (place k) 0) here.1 there in
          let found = looked-up k (omega arith) (omega (arith, known.inside, count)) in
          here.2
          ∙ ap (λ (n : ℕ). Some (pos n)) one
          ∙ sym (ap (cell_with_full_map_number runs tile) known.is ∙ ap (option_map pos) found)

      pub cell-renumbered : cell_at_position numbers q
          ≡ cell_with_full_map_number runs tile (cell_at_position (numbers_of r c) p)
      cell-renumbered = by (cell_at_position (map_of r c) p) refl
        where
          by : (v : CellValue) → cell_at_position (map_of r c) p ≡ v → cell_at_position numbers q
              ≡ cell_with_full_map_number runs tile (cell_at_position (numbers_of r c) p)
          by None none =
              grid.clumping.nulls q (sym same ∙ none)
              ∙ sym (ap (cell_with_full_map_number runs tile) ((grid.tiles.tiles r c r_in c_in).clumping.nulls p none))
          by (Some v) is = renumbered v is

pub tiles-renumbered : RenumberedTilesAreFullClumpMap
tiles-renumbered j whole numbers heights widths map_of numbers_of runs grid r c r_in c_in p row col =
    cell-renumbered j whole numbers heights widths map_of numbers_of runs grid r c r_in c_in p row col
