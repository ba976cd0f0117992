use Rattle.std.proofs.Common.{sym, subst}
use Rattle.cell_calc_language.specs.GrammarFault.{IsGrammarFaultOrMemory}
use Rattle.cell_calc_grammar.specs.Postfix.{tree_of_steps}
use Rattle.cell_calc_language.proofs.Faults.{fault_nothing, fault_no_name, fault_no_assign, fault_stops, fault_goes_on, ends, ends_only}
use Rattle.cell_calc_language.proofs.Grammatical.{read_grammatical}
use Rattle.cell_calc_language.proofs.token_parsing.assignment_of_tokens.Goals as goal

pub returns-in_default-tokens_after_sign-clause-fault : goal.returns-in_default-tokens_after_sign-clause-fault
returns-in_default-tokens_after_sign-clause-fault c =
    subst (IsGrammarFaultOrMemory c.args.end c.args.tokens.now) (sym c.fault_of_parse_stop-in_default-tokens_after_sign.ensures) (fault_no_assign c.args.end c.args.tokens.now c.in-Some.placed.now c.in-Some.rest.now c.in-Name.name c.in-Some.ensures.some c.in-Name.is c.in_default-tokens_after_sign.ensures.none)

pub returns-in_default-clause-fault : goal.returns-in_default-clause-fault
returns-in_default-clause-fault c =
    subst (IsGrammarFaultOrMemory c.args.end c.args.tokens.now) (sym c.fault_of_parse_stop.ensures) (fault_nothing c.args.end c.args.tokens.now c.in_default.ensures.none)

pub returns-in_default-token-clause-fault : goal.returns-in_default-token-clause-fault
returns-in_default-token-clause-fault c =
    subst (IsGrammarFaultOrMemory c.args.end c.args.tokens.now) (sym c.fault_of_parse_stop-in_default-token.ensures)
    (fault_no_name c.args.end c.args.tokens.now c.in-Some.placed.now c.in-Some.rest.now c.in-Some.ensures.some c.in_default-token.not-Name)

pub returns-in-Err-read_expression-clause-fault : goal.returns-in-Err-read_expression-clause-fault
returns-in-Err-read_expression-clause-fault c =
    subst (IsGrammarFaultOrMemory c.args.end c.args.tokens.now)
    (sym c.fault_of_parse_stop-in-Err-read_expression.ensures)
    (fault_stops c.args.end c.in-Name.name c.args.tokens.now c.in-Some-tokens_after_sign.after.now c.in-Err-read_expression.stop (c.in-Some.placed.now, c.in-Some.rest.now, c.in-Some.ensures.some, c.in-Name.is, c.in-Some-tokens_after_sign.ensures.some) c.in-Err-read_expression.ensures.err)

pub returns-in-None-clause-ok : goal.returns-in-None-clause-ok
returns-in-None-clause-ok c =
    ends c.in-Name.name c.in-Ok.target c.args.tokens.now c.in-Some-tokens_after_sign.after.now (tree_of_steps c.in-Ok-read_expression.read.0.items) c.in-Ok-read_expression.read.1.now c.in-Ok.ensures.ok (c.in-Some.placed.now, c.in-Some.rest.now, c.in-Some.ensures.some, c.in-Name.is, c.in-Some-tokens_after_sign.ensures.some) c.in-None.ensures.none c.in-Ok-read_expression.ensures.ok

pub returns-in-None-clause-only : goal.returns-in-None-clause-only
returns-in-None-clause-only c =
    ends_only c.in-Name.name c.in-Ok.target c.args.tokens.now c.in-Some-tokens_after_sign.after.now (tree_of_steps c.in-Ok-read_expression.read.0.items) c.in-Ok-read_expression.read.1.now c.in-Ok.ensures.ok (c.in-Some.placed.now, c.in-Some.rest.now, c.in-Some.ensures.some, c.in-Name.is, c.in-Some-tokens_after_sign.ensures.some) c.in-None.ensures.none c.in-Ok-read_expression.ensures.ok

pub returns-in-Some-split_first_token-clause-fault : goal.returns-in-Some-split_first_token-clause-fault
returns-in-Some-split_first_token-clause-fault c =
    subst (IsGrammarFaultOrMemory c.args.end c.args.tokens.now)
    (sym c.fault_of_parse_stop-in-Some-split_first_token.ensures)
    (fault_goes_on c.args.end c.in-Name.name c.args.tokens.now c.in-Some-tokens_after_sign.after.now (tree_of_steps c.in-Ok-read_expression.read.0.items) c.in-Ok-read_expression.read.1.now c.in-Some-split_first_token.field-0.0.now c.in-Some-split_first_token.field-0.1.now (c.in-Some.placed.now, c.in-Some.rest.now, c.in-Some.ensures.some, c.in-Name.is, c.in-Some-tokens_after_sign.ensures.some) c.in-Some-split_first_token.ensures.some c.in-Ok-read_expression.ensures.ok)

pub invariant_of-result : goal.invariant_of-result
invariant_of-result c = (
  c.in-Ok-read_expression.ensures.steps,
  read_grammatical c.in-Name.name c.args.tokens.now c.in-Some-tokens_after_sign.after.now (tree_of_steps c.in-Ok-read_expression.read.0.items) c.in-Ok-read_expression.read.1.now c.requires
      (c.in-Some.placed.now, c.in-Some.rest.now, c.in-Some.ensures.some, c.in-Name.is, c.in-Some-tokens_after_sign.ensures.some) c.in-None.ensures.none c.in-Ok-read_expression.ensures.ok,
)
