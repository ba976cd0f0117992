use Rattle.std.proofs.Common.{ap, ◌∙◌}
use Rattle.cell_core_values.specs.Name.{place_of_name}
use Rattle.cell_core.specs.Shelf.{ShelfValue}
use Rattle.rcell_tile.proofs.ShelfLemmas.{name_is_new, next_tile_map}
use Rattle.rcell_tile.proofs.run_shelves.shelf_of_tile.Goals as goal

pub add_new_map-requires-clause-free : goal.add_new_map-requires-clause-free
add_new_map-requires-clause-free c =
    ap (λ (s : ShelfValue). place_of_name c.name.result.now s.names) c.loop-i.invariant
    ∙ name_is_new c.name.result.now c.args.outer.now.names c.loop-i.i c.name.ensures.place

pub loop-i-preserved : goal.loop-i-preserved
loop-i-preserved c =
    next_tile_map c.args.place.now c.args.outer.now c.loop-i.inner c.add_new_map.new.shelf c.loop-i.i c.name.result.now
    c.map.result.now c.in_ok-map.map c.loop-i.invariant c.name.ensures.value c.map.ensures.value c.in_ok-map.ensures
    c.in_ok-add_new_map.ensures
