use Rattle.std.proofs.Common.{◌≡◌}
use Rattle.cell_core_test_maps.proofs.maps.map_of_categories.Given as goal

abbrev pub invariant-loop-row : goal.invariant-loop-row
invariant-loop-row l =
    (l.builder.region ≡ l.region) × ((goal.iterator-loop-row).can_next l.row-iterator × (goal.iterator-loop-row).is_finite l.row-iterator)
