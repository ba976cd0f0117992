use Rattle.std.proofs.Common.{ℕ, ◌+◌, ◌-◌, ◌<◌, ◌≤◌, length, arith, ap, sym, ◌∙◌}
use Rattle.std.proofs.lemmas.List.{at_drop_all}
use Rattle.std.specs.Option.{ok_or}
use Rattle.cell_cats.specs.RuleReading.{rule_items_in_words}
use Rattle.cell_cats.proofs.ItemLemmas.{after, after-nil, after-all, items-step, items-stop}
use Rattle.cell_cats.specs.parts.ItemWords.{bytes_of_words, bytes_of_rule_item_ends}
use Rattle.cell_cats.specs.declared.rules.RuleFault.TheVariants.{BadRule}
use Rattle.cell_cats.proofs.line.rule_items_in_words.Goals as goal

least : (n : ℕ) → 0 ≤ n
least n = omega arith

fewer : (all at more : ℕ) → at < all → all - (at + 1 + more) < all - at
fewer all at more inside = omega arith

pub loop-at-init : goal.loop-at-init
loop-at-init c = (
  rw c.new-items.ensures.items (after-nil (rule_items_in_words (bytes_of_words c.args.words.now))),
  least
      (length c.args.words.now),
)

pub returns-then-not-are_number_words : goal.returns-then-not-are_number_words
returns-then-not-are_number_words c = λ _.
    ap (λ o. ok_or o BadRule)
    (items-stop c.args.words.now c.loop-at.at c.item_end_and_further_word_count-more.result.1 _
    c.item_end_and_further_word_count-more.result.0 c.loop-at.items.items
    c.loop-at-test.true c.item_end_and_further_word_count-more.ensures.items
    (sym c.if-not-are_number_words.ensures) c.loop-at.invariant.0)

pub loop-at-smaller : goal.loop-at-smaller
loop-at-smaller c = fewer (length c.args.words.now) c.loop-at.at c.item_end_and_further_word_count-more.result.1
    c.loop-at-test.true

pub loop-at-preserved : goal.loop-at-preserved
loop-at-preserved c =
    items-step c.args.words.now c.loop-at.at c.item_end_and_further_word_count-more.result.1 _
    c.item_end_and_further_word_count-more.result.0 c.loop-at.items.items
    c.push.new.self.items c.loop-at-test.true c.item_end_and_further_word_count-more.ensures.within
    c.item_end_and_further_word_count-more.ensures.items
    (sym c.if-not-are_number_words.ensures) c.in_ok-push.ensures.items c.loop-at.invariant.0

pub returns : goal.returns
returns c =
    let found = bytes_of_rule_item_ends c.loop-at.items.items in
    let end = at_drop_all (λ l. rule_items_in_words (bytes_of_words l)) c.args.words.now c.loop-at.at
    c.loop-at-test.false in
    ap (λ o. ok_or o BadRule) (c.loop-at.invariant.0 ∙ ap (after found) end ∙ after-all found)
