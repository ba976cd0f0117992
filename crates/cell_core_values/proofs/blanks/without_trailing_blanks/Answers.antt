use Rattle.std.proofs.Common.{arith, sym, ◌∙◌}
use Rattle.cell_core_values.proofs.BlankLemmas.{without_trailing_blanks-step, without_trailing_blanks-stop}
use Rattle.cell_core_values.proofs.blanks.without_trailing_blanks.Goals as goal

pub returns-then-not-is_blank : goal.returns-then-not-is_blank
returns-then-not-is_blank c = without_trailing_blanks-stop c.args.text.now c.loop-end.end (omega arith) (omega arith)
    (sym c.if-not-is_blank.ensures) ∙ c.loop-end.invariant.0

pub loop-end-preserved : goal.loop-end-preserved
loop-end-preserved c = (
  without_trailing_blanks-step c.args.text.now c.loop-end.end (omega arith) (omega arith)
      (sym c.if-not-is_blank.ensures) ∙ c.loop-end.invariant.0,
  omega arith,
)
