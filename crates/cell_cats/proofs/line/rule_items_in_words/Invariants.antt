use Rattle.std.proofs.Common.{◌≡◌, ◌-◌, ◌≤◌, length, map, drop}
use Rattle.cell_cats.specs.RuleReading.{rule_items_in_words}
use Rattle.cell_cats.proofs.ItemLemmas.{after}
use Rattle.cell_cats.proofs.line.rule_items_in_words.Given as goal

abbrev pub invariant-loop-at : goal.invariant-loop-at
invariant-loop-at l =
    (rule_items_in_words (map (λ w. w.now) l.words) ≡ after (map (λ item. (item.0.now, item.1.now)) l.items.items) (rule_items_in_words (map (λ w. w.now) (drop l.at l.words))))
    × (l.at ≤ length l.words)

abbrev pub decreases-loop-at : goal.decreases-loop-at
decreases-loop-at l = length l.words - l.at
