use Rattle.std.proofs.Common.{◌≡◌, ◌∙◌, ℕ, pos, List, ap, sym, refl, arith}
use Rattle.std.specs.Prelude.{flat_map}
use Rattle.cell_core_values.specs.Region.{RegionValue}
use Rattle.cell_calc_grammar.proofs.PostfixLemmas.{tree-postfix}
use Rattle.cell_calc_grammar.specs.declared.step.Step.{Step}
use Rattle.cell_calc_grammar.specs.Postfix.{postfix, tree_of_steps}
use Rattle.cell_calc_language.specs.Formula.{Formula}
use Rattle.cell_calc_language.specs.Reach.{FormulaIsWithinLimits}
use Rattle.cell_join_numbers.specs.Parts.{Rectangle}
use Rattle.rcell_plan.specs.declared.rewriting.PlaceInFullMap.{PlaceInFullMap}
use Rattle.rcell_plan.specs.Rewriting.{IsPlaceInFullMap, IsPlaceWithinLimits}
use Rattle.rcell_plan.specs.TileLaw.{placed}
use Rattle.rcell_plan.specs.parts.RewrittenSteps.{step_rewritten_for_tile}
use Rattle.rcell_plan.proofs.RewriteLemmas.{steps_placed, placed_grammatical, placed_limit}
use Rattle.rcell_plan.proofs.rewriting.expression_rewritten_for_tile.Goals as goal

module _ (p : PlaceInFullMap) (f : Formula) (given steps : List (Step ℕ)) (given_is : given ≡ postfix f)
    (proper : FormulaIsWithinLimits f) (rewritten : steps ≡ flat_map (step_rewritten_for_tile p) given) where
  abbrev region : RegionValue
  region = record { north = pos 0; south = pos 0; east = pos 0; west = pos 0; rows = p.rows; cols = p.cols }

  abbrev first : Rectangle
  first = record { top = p.top; left = p.left; rows = 0; cols = 0 }

  there : IsPlaceInFullMap p region first
  there = record { rows_are = refl; cols_are = refl; top_is = refl; left_is = refl }

  steps_of : (e : RegionValue) (r : Rectangle) → IsPlaceInFullMap p e r → steps ≡ postfix (placed e r f)
  steps_of e r is = rewritten ∙ ap (flat_map (step_rewritten_for_tile p)) given_is ∙ steps_placed p e r is f proper.0

  tree_of : (e : RegionValue) (r : Rectangle) → IsPlaceInFullMap p e r → tree_of_steps steps ≡ placed e r f
  tree_of e r is = ap tree_of_steps (steps_of e r is) ∙ tree-postfix (placed e r f)

  in_order : steps ≡ postfix (tree_of_steps steps)
  in_order = steps_of region first there ∙ ap postfix (sym (tree_of region first there))

  within : IsPlaceWithinLimits p → FormulaIsWithinLimits (tree_of_steps steps)
  within few =
      let limit = placed_limit p region first there f in
      rw (tree_of region first there)
      (placed_grammatical p region first there few f proper.0, omega (arith, limit, proper.1))

pub of_steps-requires-clause-steps : goal.of_steps-requires-clause-steps
of_steps-requires-clause-steps c =
    in_order c.args.place c.args.bound.now c.steps.result.now c.in_ok-steps.steps.items c.steps.ensures.steps
    c.steps.ensures.proper c.in_ok-steps.ensures

pub of_steps-requires-clause-proper : goal.of_steps-requires-clause-proper
of_steps-requires-clause-proper c =
    within c.args.place c.args.bound.now c.steps.result.now c.in_ok-steps.steps.items c.steps.ensures.steps
    c.steps.ensures.proper c.in_ok-steps.ensures c.requires

pub returns-clause-value : goal.returns-clause-value
returns-clause-value c = λ region r is.
    c.of_steps.ensures
    ∙ tree_of c.args.place c.args.bound.now c.steps.result.now c.in_ok-steps.steps.items c.steps.ensures.steps
    c.steps.ensures.proper c.in_ok-steps.ensures region r is

pub returns-clause-maps : goal.returns-clause-maps
returns-clause-maps c =
    let p = c.args.place in
    let e : RegionValue =
    record { north = pos 0; south = pos 0; east = pos 0; west = pos 0; rows = p.rows; cols = p.cols } in
    let r : Rectangle = record { top = p.top; left = p.left; rows = 0; cols = 0 } in
    let is : IsPlaceInFullMap p e r = record { rows_are = refl; cols_are = refl; top_is = refl; left_is = refl } in
    let same = c.of_steps.ensures
    ∙ tree_of p c.args.bound.now c.steps.result.now c.in_ok-steps.steps.items c.steps.ensures.steps
    c.steps.ensures.proper
    c.in_ok-steps.ensures e r is in
    rw same (placed_limit p e r is c.args.bound.now)
