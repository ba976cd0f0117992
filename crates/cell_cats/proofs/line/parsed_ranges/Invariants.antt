use Rattle.std.proofs.Common.{◌≡◌, drop, map}
use Rattle.cell_cats.specs.RuleReading.{parsed_ranges}
use Rattle.cell_cats.proofs.ItemLemmas.{after}
use Rattle.cell_cats.proofs.line.parsed_ranges.Given as goal

abbrev pub invariant-loop-item : goal.invariant-loop-item
invariant-loop-item l = parsed_ranges (map (λ item. (item.0.now, item.1.now)) l.items)
    ≡ after l.ranges.items (parsed_ranges (map (λ item. (item.0.now, item.1.now)) (drop l.item-index l.items)))
