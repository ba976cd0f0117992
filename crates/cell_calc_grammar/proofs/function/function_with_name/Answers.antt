use Rattle.std.proofs.Common.{refl, sym, ◌∙◌, add-one}
use borrow.Author.Count.{falls}
use Rattle.cell_calc_grammar.proofs.Named.{not_here, is_here, none_past}
use Rattle.cell_calc_grammar.proofs.function.function_with_name.Goals as goal

pub loop-text-init : goal.loop-text-init
loop-text-init c = refl

pub returns-then-eq : goal.returns-then-eq
returns-then-eq c =
    sym (c.loop-text.invariant
    ∙ is_here _ c.args.name.now c.loop-text.text-index _ c.loop-text-test.true (sym c.eq.ensures ∙ c.if-eq.true))

pub loop-text-smaller : goal.loop-text-smaller
loop-text-smaller c = falls 15 c.loop-text.text-index c.loop-text-test.true

pub loop-text-preserved : goal.loop-text-preserved
loop-text-preserved c =
    rw add-one
    (c.loop-text.invariant
    ∙ not_here _ c.args.name.now c.loop-text.text-index _ c.loop-text-test.true (sym c.eq.ensures ∙ c.if-eq.false))

pub returns : goal.returns
returns c = sym (c.loop-text.invariant ∙ none_past _ c.args.name.now c.loop-text.text-index c.loop-text-test.false)
