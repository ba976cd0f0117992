use Rattle.std.proofs.Common.{◌∙◌, ap, arith, Option, Some}
use Rattle.std.specs.BTreeMap.{get}
use Rattle.std.specs.Ordering.{int_cmp}
use Rattle.std.proofs.lemmas.Int.{ints, clamps}
use Rattle.cell_cats.specs.declared.rule.Output.{Output}
use Rattle.cell_cats.proofs.PieceLemmas.{painted-over}
use Rattle.cell_cats.proofs.pieces.RuleOutputIntervals.assign_output_to_range.Goals as goal

pub returns : goal.returns
returns c = λ outputs all.
    let p = c.in_ok-insert.ensures.updates in
    let q = c.in_ok-insert-2.ensures.updates in
    painted-over (get int_cmp c.args.self.now.starts) (get int_cmp c.insert.new.self) (get int_cmp c.clear.new.self.starts) (get int_cmp c.insert-2.new.self)
    outputs c.args.ends c.args.output _ _ _ (omega (arith, ints, clamps)) (omega (arith, ints, clamps)) (omega (arith, ints, clamps)) (omega (arith, ints, clamps))
    (p.1 ∙ ap (λ (o : Option Output). Some o) (c.output_of_number-after.ensures outputs all)) p.2 c.clear.ensures.before c.clear.ensures.after c.clear.ensures.cleared q.1 q.2 all
