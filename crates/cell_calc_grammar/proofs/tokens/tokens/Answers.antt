use Rattle.std.proofs.Common.{arith, ◌∙◌, sym}
use Rattle.std.proofs.lemmas.Result.{err_from_is_err_and}
use Rattle.cell_calc_grammar.proofs.SpellingLemmas.{are_spelled, are_few}
use Rattle.cell_calc_grammar.proofs.Pieces.{after_blank, after_token, at_fault, at_end, at_start}
use Rattle.cell_calc_grammar.proofs.tokens.tokens.Goals as goal

pub pieces-init : goal.pieces-init
pieces-init c = (at_start _ _ _ c.new-found.ensures.items c.new-found.ensures.len, omega arith)

pub pieces-preserved-then-is_blank : goal.pieces-preserved-then-is_blank
pieces-preserved-then-is_blank c = (
  after_blank _ _ _ _ _ _ _ c.in-Some.ensures.cases.0 (sym c.is_blank.ensures ∙ c.if-is_blank.true) c.pieces.invariant.0,
  omega (arith, c.in-Some.ensures.cases.1, c.pieces.invariant.1),
)

pub returns-in_err-token-clause-err : goal.returns-in_err-token-clause-err
returns-in_err-token-clause-err c =
    let p = err_from_is_err_and c.from_residual.result c.from_residual.ensures.1 in
    rw (p.1, p.2)
    (at_fault _ _ _ _ _ _ _ _ _ _ c.in-Some.ensures.cases.0 (sym c.is_blank.ensures ∙ c.if-is_blank.false)
    (sym c.first_token_length-length.ensures.value) c.first_token_length-length.ensures.some c.split_at.ensures.front c.pieces.invariant.0
    (rw (← c.len.ensures) c.in_err-token.ensures))

pub pieces-preserved : goal.pieces-preserved
pieces-preserved c = (
  rw (c.in-Ok.ensures.items, c.in-Ok.ensures.len)
      (after_token _ _ _ _ _ _ _ _ _ _ _ c.in-Some.ensures.cases.0 (sym c.is_blank.ensures ∙ c.if-is_blank.false)
      (sym c.first_token_length-length.ensures.value) c.first_token_length-length.ensures.some c.split_at.ensures.front c.split_at.ensures.back
      (rw (← c.len.ensures) c.in_ok-token.ensures) c.pieces.invariant.0),
  omega (arith, c.split_at.ensures.back_len, c.pieces.invariant.1),
)

pub returns-clause-ok : goal.returns-clause-ok
returns-clause-ok c = at_end _ _ _ _ _ c.in_default.ensures.cases c.pieces.invariant.0

pub returns-clause-spelled : goal.returns-clause-spelled
returns-clause-spelled c = are_spelled _ _ (at_end _ _ _ _ _ c.in_default.ensures.cases c.pieces.invariant.0)

pub returns-clause-few : goal.returns-clause-few
returns-clause-few c = are_few _ _ (at_end _ _ _ _ _ c.in_default.ensures.cases c.pieces.invariant.0)
