-- Expressions with replaced leaves are still allowed by the language.
use Rattle.std.proofs.Common.{◌≡◌, ◌<◌, ◌≤◌, ◌+◌, ◌^◌, ℕ, List, [], ◌∷◌, length, max, arith, Bool, true, false, Some}
use Rattle.std.specs.Option.{unwrap_or}
use Rattle.std.specs.Prelude.{cond}
use Rattle.std.specs.List.{position_from}
use Rattle.cell_calc_grammar.specs.declared.step.Step.{Step}
use Rattle.cell_calc_grammar.specs.Postfix.{postfix}
use Rattle.cell_calc_grammar.proofs.PostfixLemmas.{count-over, are_of_tree}
use Rattle.cell_calc_grammar.specs.Tree.{Tree, Number, Map, Negated, Not, Binary, Call, Trees, NoTrees, Then, with_leaves, with_leaves_all}
use Rattle.cell_calc_grammar.specs.Term.{Term}
use Rattle.cell_calc_language.specs.Grammatical.{IsGrammatical, AreGrammatical}
use Rattle.cell_calc_language.specs.Binding.{formula_of_term, place_of_map_name}
use Rattle.cell_calc_language.specs.Formula.{Formula}
use Rattle.cell_calc_language.specs.Reach.{map_place_limit_of_formula, map_place_limit_of_formulas}
use Rattle.cell_calc_language.specs.Reach.{FormulaIsWithinLimits}
use Rattle.cell_calc_language.specs.parts.TreeSteps.{AreStepsOfAllowedExpression}

mutual
  grammatical-over : {L M : Type 0} (to : L → M) (f : Tree L) → IsGrammatical f → IsGrammatical (with_leaves to f)
  grammatical-over to (Number n) h = h
  grammatical-over to (Map l down right) h = h
  grammatical-over to (Negated a) h = grammatical-over to a h
  grammatical-over to (Not a) h = grammatical-over to a h
  grammatical-over to (Binary op a b) h = (grammatical-over to a h.0, grammatical-over to b h.1)
  grammatical-over to (Call f xs) h = (rw (count-over to xs) h.0, grammatical-over_all to xs h.1)

  grammatical-over_all : {L M : Type 0} (to : L → M) (xs : Trees L) → AreGrammatical xs → AreGrammatical (with_leaves_all to xs)
  grammatical-over_all to NoTrees h = tt
  grammatical-over_all to (Then a xs) h = (grammatical-over to a h.0, grammatical-over_all to xs h.1)

mutual
  top-over : {L : Type 0} (to : L → ℕ) (most : ℕ) → ((l : L) → to l + 1 ≤ most) → (f : Tree L) → map_place_limit_of_formula (with_leaves to f) ≤ most
  top-over to most few (Number n) = omega arith
  top-over to most few (Map l down right) = few l
  top-over to most few (Negated a) = top-over to most few a
  top-over to most few (Not a) = top-over to most few a
  top-over to most few (Binary op a b) = omega (arith, top-over to most few a, top-over to most few b)
  top-over to most few (Call f xs) = top-over_all to most few xs

  top-over_all : {L : Type 0} (to : L → ℕ) (most : ℕ) → ((l : L) → to l + 1 ≤ most) → (xs : Trees L) → map_place_limit_of_formulas (with_leaves_all to xs) ≤ most
  top-over_all to most few NoTrees = omega arith
  top-over_all to most few (Then a xs) = omega (arith, top-over to most few a, top-over_all to most few xs)

-- an expression over few places is allowed by the language
pub proper-over : {L : Type 0} (to : L → ℕ) (most : ℕ) → most < 2 ^ 64 → ((l : L) → to l + 1 ≤ most) → (f : Tree L) → IsGrammatical f → FormulaIsWithinLimits (with_leaves to f)
proper-over to most small few f h = (grammatical-over to f h, omega (arith, small, top-over to most few f))

-- the steps of an allowed expression are bound
pub bound_by : (steps : List (Step ℕ)) (f : Formula) → steps ≡ postfix f → FormulaIsWithinLimits f
    → AreStepsOfAllowedExpression steps
bound_by steps f is proper = let b = are_of_tree f steps is in record { postfix = b.1; proper = rw (b.0) proper }

-- the place that is found for a leaf is within the list, or 0 if there is none
found_within : {K : Type 0} (is : K → Bool) (i : ℕ) (xs : List K) → unwrap_or (position_from is i xs) 0 + 1 ≤ max 1 (i + length xs)
found_within is i [] = omega arith
found_within is i (x ∷ xs) = by_case (is x) (found_within is (i + 1) xs)
  where
    by_case : (b : Bool) → unwrap_or (position_from is (i + 1) xs) 0 + 1 ≤ max 1 (i + 1 + length xs)
        → unwrap_or (cond b (Some i) (position_from is (i + 1) xs)) 0 + 1 ≤ max 1 (i + length (x ∷ xs))
    by_case true h = omega arith
    by_case false h = omega (arith, h)

pub proper-placed : (names : List (List ℕ)) → length names < 2 ^ 64 → (e : Term) → IsGrammatical e → FormulaIsWithinLimits (formula_of_term names e)
proper-placed names few e h = proper-over (place_of_map_name names) (max 1 (0 + length names)) (omega (arith, few)) (λ m. found_within _ 0 names) e h
