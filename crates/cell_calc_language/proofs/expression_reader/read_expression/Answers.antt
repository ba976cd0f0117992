use Rattle.std.proofs.lemmas.Result.{err_from_is_err_and}
use Rattle.cell_calc_grammar.specs.TokensRead.{Expression}
use Rattle.cell_calc_language.proofs.Steps.{begins, resumes, ends}
use Rattle.cell_calc_language.proofs.expression_reader.read_expression.Goals as goal

pub returns-in_err-turn-clause-err : goal.returns-in_err-turn-clause-err
returns-in_err-turn-clause-err c =
    let p = err_from_is_err_and c.from_residual.result c.from_residual.ensures.1 in
    rw (p.1, p.2) (c.in_err-turn.ensures.goes (Expression c.args.tokens.now) (begins c.new.result.items c.new-2.result.items c.args.tokens.now c.new.ensures.items c.new-2.ensures.items))

pub turns-init : goal.turns-init
turns-init c = c.in_ok-turn.ensures.goes (Expression c.args.tokens.now) (begins c.new.result.items c.new-2.result.items c.args.tokens.now c.new.ensures.items c.new-2.ensures.items)

pub returns-in_err-turn-in-Some-clause-err : goal.returns-in_err-turn-in-Some-clause-err
returns-in_err-turn-in-Some-clause-err c =
    let p = err_from_is_err_and c.from_residual-in_err-turn-in-Some.result c.from_residual-in_err-turn-in-Some.ensures.1 in
    rw (p.1, p.2)
    (c.in_err-turn-in-Some.ensures.goes (Expression c.args.tokens.now)
    (resumes (Expression c.args.tokens.now) c.turns.reader.frames.items c.pop.new.self.items c.in-Some.frame c.turns.reader.steps.items c.in-After.tokens.now c.in-Some.ensures.items (rw c.in-After.is at c.turns.invariant)))

pub returns-in-None-clause-ok : goal.returns-in-None-clause-ok
returns-in-None-clause-ok c =
    (ends (Expression c.args.tokens.now) c.turns.reader.frames c.turns.reader.steps.items c.in-After.tokens.now c.in-None.ensures.cases.0 (rw c.in-After.is at c.turns.invariant)).0

pub returns-in-None-clause-steps : goal.returns-in-None-clause-steps
returns-in-None-clause-steps c =
    (ends (Expression c.args.tokens.now) c.turns.reader.frames c.turns.reader.steps.items c.in-After.tokens.now c.in-None.ensures.cases.0 (rw c.in-After.is at c.turns.invariant)).1

pub turns-preserved : goal.turns-preserved
turns-preserved c =
    c.in_ok-turn-in-Some.ensures.goes (Expression c.args.tokens.now)
    (resumes (Expression c.args.tokens.now) c.turns.reader.frames.items c.pop.new.self.items c.in-Some.frame c.turns.reader.steps.items c.in-After.tokens.now c.in-Some.ensures.items (rw c.in-After.is at c.turns.invariant))
