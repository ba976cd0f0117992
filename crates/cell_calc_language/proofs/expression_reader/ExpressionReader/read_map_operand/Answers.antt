use Rattle.std.proofs.Common.{rules, w32, SFits}
use Rattle.std.proofs.lemmas.Int.{to_z-of_z}
use Rattle.std.proofs.lemmas.Result.{err_from_is_err_and}
use Rattle.cell_calc_language.specs.parts.Waiting.{waiting_frames}
use Rattle.cell_calc_language.proofs.Steps.{map_alone, map_moved, map_stops}
use Rattle.cell_calc_language.proofs.expression_reader.ExpressionReader.read_map_operand.Goals as goal

pub returns-in_default-clause-goes : goal.returns-in_default-clause-goes
returns-in_default-clause-goes c = λ s h.
    c.end.ensures.goes s
    (map_alone s (waiting_frames c.args.self.now) c.args.self.now.steps.items c.args.name.now c.in_ok-name.name c.args.column c.args.tokens.now h c.in_ok-name.ensures.ok c.requires c.in_default.ensures.none)

pub returns-in_err-down-clause-goes : goal.returns-in_err-down-clause-goes
returns-in_err-down-clause-goes c = λ s h.
    let p = err_from_is_err_and c.from_residual-in_err-down.result c.from_residual-in_err-down.ensures.1 in
    rw (p.1, p.2)
    (map_stops s (waiting_frames c.args.self.now) c.args.self.now.steps.items c.args.name.now c.args.name.now c.args.column c.args.tokens.now c.in-Some.after.now _ h c.in-Some.ensures.some c.in_err-down.ensures.reported)

pub returns-clause-goes : goal.returns-clause-goes
returns-clause-goes c = λ s h.
    let f : SFits w32 c.in_ok-down.down = search rules in
    let g : SFits w32 c.in_ok-down.right = search rules in
    c.end-2.ensures.goes s
    (simp to_z-of_z
    (map_moved s (waiting_frames c.args.self.now) c.args.self.now.steps.items c.args.name.now c.in_ok-name.name c.args.column c.args.tokens.now c.in-Some.after.now c.in_ok-down.rest.now c.in_ok-down.down c.in_ok-down.right h c.in_ok-name.ensures.ok c.in-Some.ensures.some c.in_ok-down.ensures.reported))
