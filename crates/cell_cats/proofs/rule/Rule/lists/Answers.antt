use Rattle.std.proofs.Common.{rules, tests, ◌∙◌, sym}
use Rattle.std.proofs.lemmas.Iterator.{YieldsList-from_slice}
use Rattle.std.proofs.lemmas.Iterator.Search.{any_from_yields_List}
use Rattle.cell_cats.specs.Rule.{is_between_ends}
use Rattle.cell_cats.proofs.rule.Rule.lists.Goals as goal

pub returns : goal.returns
returns c =
    any_from_yields_List (λ ends. is_between_ends ends c.args.x) _ _ _ c.any.ensures.ran
    (YieldsList-from_slice c.ranges-2.result.now cc) (λ y b q k. search (rules, tests))
    ∙ sym (c.ranges-2.ensures c.args.x)
