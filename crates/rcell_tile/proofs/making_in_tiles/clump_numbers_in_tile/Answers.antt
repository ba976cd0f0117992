use Rattle.std.proofs.Common.{◌∙◌, ap, sym}
use Rattle.std.specs.Prelude.{slice_get}
use Rattle.cell_core.specs.Shelf.{ShelfValue}
use Rattle.rcell.specs.Making.{IsMapOfClumpNumbers}
use Rattle.rcell_tile.specs.TileMaps.{map_with_null_halo}
use Rattle.rcell_tile.proofs.ShelfLemmas.{numbers_of_tile_map}
use Rattle.rcell_tile.proofs.making_in_tiles.clump_numbers_in_tile.Goals as goal

pub returns : goal.returns
returns c =
    let p = c.args.tile.now.place in
    let numbers = c.in_ok-numbers.numbers in
    let found =
    sym (ap (λ (s : ShelfValue). slice_get s.maps c.args.place) c.requires.tile.without_halo) ∙ c.map.ensures.value in
    let are : IsMapOfClumpNumbers c.args.joining c.map.result.now numbers =
    record { filled = c.region-region.ensures.filled; clumping = c.in_ok-numbers.ensures } in
    let of_tile =
    numbers_of_tile_map c.args.joining p c.args.outer.now.maps c.args.place c.map.result.now numbers found are in
    (numbers, (of_tile, c.in_ok-made.ensures ∙ ap (λ e. map_with_null_halo p e numbers) c.region.ensures.value))
