use Rattle.std.proofs.Common.{◌∙◌, ap, sym}
use Rattle.std.specs.Option.{ok_or}
use Rattle.std.proofs.lemmas.List.{at_drop_all}
use Rattle.cell_cats.specs.RuleReading.{parsed_ranges}
use Rattle.cell_cats.proofs.ItemLemmas.{after, after-all, ranges-step, ranges-stop}
use Rattle.cell_cats.specs.parts.ItemWords.{bytes_of_rule_item_ends}
use Rattle.cell_cats.specs.declared.rules.RuleFault.TheVariants.{BadNumber}
use Rattle.cell_cats.proofs.line.parsed_ranges.Goals as goal

pub loop-item-preserved : goal.loop-item-preserved
loop-item-preserved c =
    ranges-step c.args.items.now c.loop-item.item-index _ c.loop-item.ranges.items c.loop-item-test.true c.loop-item.invariant
    c.in-Some.range c.push.new.self.items (sym c.parsed_range.ensures ∙ c.in-Some.is) c.in_ok-push.ensures.items

pub returns-in_default : goal.returns-in_default
returns-in_default c = λ _.
    ap (λ o. ok_or o BadNumber)
    (ranges-stop c.args.items.now c.loop-item.item-index _ c.loop-item.ranges.items c.loop-item-test.true
    c.loop-item.invariant
    (sym c.parsed_range.ensures ∙ c.in_default.is))

pub returns : goal.returns
returns c =
    let all = at_drop_all (λ items. after c.loop-item.ranges.items (parsed_ranges (bytes_of_rule_item_ends items))) c.args.items.now c.loop-item.item-index c.loop-item-test.false in
    ap (λ o. ok_or o BadNumber) (c.loop-item.invariant ∙ all ∙ after-all c.loop-item.ranges.items)
