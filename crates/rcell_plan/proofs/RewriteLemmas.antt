-- The steps of an expression that is rewritten for a tile are the steps of the rewritten expression.
use Rattle.std.proofs.Common.{◌≡◌, ◌≤◌, ◌<◌, ◌+◌, ℕ, suc, true, List, [], ◌∷◌, ◌++◌, length, take, get_or, refl, ap}
use Rattle.std.proofs.Common.{sym}
use Rattle.std.proofs.Common.{◌∙◌, subst, arith, append_assoc, append-nil}
use Rattle.std.specs.Prelude.{IsTrue, flat_map, ◌==◌}
use Rattle.std.proofs.lemmas.Bool.{eqb-true}
use Rattle.std.proofs.lemmas.Grind.{flat_map-append}
use Rattle.std.proofs.lemmas.List.{take_more}
use Rattle.cell_core_values.specs.Region.{RegionValue}
use Rattle.cell_calc_grammar.specs.declared.function.Function.{Function}
use Rattle.cell_calc_grammar.specs.declared.function.Function.TheVariants.{If, IsNull, Null, Abs, Min, Max, Mode, Row}
use Rattle.cell_calc_grammar.specs.declared.function.Function.TheVariants.{Column, RowCount, ColumnCount, Eval}
use Rattle.cell_calc_grammar.specs.declared.function.Function.TheVariants.{KnownMin, KnownMax, KnownMode}
use Rattle.cell_calc_grammar.specs.declared.operator.Operator.TheVariants.{Plus}
use Rattle.cell_calc_grammar.specs.declared.step.Step.{Step}
use Rattle.cell_calc_grammar.specs.declared.step.Step.TheVariants as step
use Rattle.cell_calc_grammar.specs.Function.{accepts_argument_count}
use Rattle.cell_calc_grammar.specs.Postfix.{postfix, postfix_all}
use Rattle.cell_calc_language.specs.Formula.{Formula, Number, Map, Negated, Not, Binary, Call, ArgumentFormulas}
use Rattle.cell_calc_language.specs.Formula.{NoTrees, Then, argument_count}
use Rattle.cell_calc_language.specs.Grammatical.{IsGrammatical, AreGrammatical}
use Rattle.cell_calc_language.specs.Reach.{map_place_limit_of_formula, map_place_limit_of_formulas}
use Rattle.cell_join_numbers.specs.Parts.{Rectangle}
use Rattle.rcell_plan.specs.declared.rewriting.PlaceInFullMap.{PlaceInFullMap}
use Rattle.rcell_plan.specs.Rewriting.{IsPlaceInFullMap, IsPlaceWithinLimits}
use Rattle.rcell_plan.specs.TileLaw.{placed, all_placed, call_rewritten_for_tile}
use Rattle.rcell_plan.specs.parts.RewrittenSteps.{step_rewritten_for_tile}

-- one more step
pub one_more_step : (p : PlaceInFullMap) (xs was now : List (Step ℕ)) (i : ℕ) (d : Step ℕ) → i < length xs
    → was ≡ flat_map (step_rewritten_for_tile p) (take i xs) → now ≡ was ++ step_rewritten_for_tile p (get_or xs i d)
    → now ≡ flat_map (step_rewritten_for_tile p) (take (i + 1) xs)
one_more_step p xs was now i d less held is =
    is ∙ ap (λ l. l ++ step_rewritten_for_tile p (get_or xs i d)) held
    ∙ ap (λ l. flat_map (step_rewritten_for_tile p) (take i xs) ++ l)
    (sym (append-nil (step_rewritten_for_tile p (get_or xs i d))))
    ∙ sym (flat_map-append (step_rewritten_for_tile p) (take i xs) (get_or xs i d ∷ []))
    ∙ ap (flat_map (step_rewritten_for_tile p)) (sym (take_more xs i d less))

module _ (p : PlaceInFullMap) (region : RegionValue) (r : Rectangle) (is : IsPlaceInFullMap p region r) where
  abbrev rewritten : List (Step ℕ) → List (Step ℕ)
  rewritten l = flat_map (step_rewritten_for_tile p) l

  placed_count : (xs : ArgumentFormulas) → argument_count (all_placed region r xs) ≡ argument_count xs
  placed_count NoTrees = refl
  placed_count (Then a xs) = ap suc (placed_count xs)

  no_arguments : (n : ℕ) → (suc n == 0) ≡ true → ⊥
  no_arguments n t = let none = eqb-true (suc n) 0 t in omega (arith, none)

  other_call : (f : Function) (xs ys : ArgumentFormulas) → argument_count ys ≡ argument_count xs
      → postfix_all ys ++ step.Call f (argument_count xs) ∷ [] ≡ postfix (Call f ys)
  other_call f xs ys count = ap (λ n. postfix_all ys ++ step.Call f n ∷ []) (sym count)

  sum_call : (f : Function) (xs ys : ArgumentFormulas) (n m : ℕ) → argument_count ys ≡ argument_count xs → n ≡ m
      → postfix_all ys ++ step.Call f (argument_count xs) ∷ step.Number n ∷ step.Binary Plus ∷ []
      ≡ postfix (Binary Plus (Call f ys) (Number m))
  sum_call f xs ys n m count same =
      ap (λ k. postfix_all ys ++ step.Call f k ∷ step.Number n ∷ step.Binary Plus ∷ []) (sym count)
      ∙ ap (λ k. postfix_all ys ++ step.Call f (argument_count ys) ∷ step.Number k ∷ step.Binary Plus ∷ []) same
      ∙ sym (append_assoc (postfix_all ys) (step.Call f (argument_count ys) ∷ [])
      (step.Number m ∷ step.Binary Plus ∷ []))

  placed_call : (f : Function) (xs : ArgumentFormulas) → IsTrue (accepts_argument_count f (argument_count xs))
      → postfix_all (all_placed region r xs) ++ rewritten (step.Call f (argument_count xs) ∷ [])
      ≡ postfix (call_rewritten_for_tile region r f (all_placed region r xs))
  placed_call Row xs t = sum_call Row xs (all_placed region r xs) p.top r.top (placed_count xs) (sym is.top_is)
  placed_call Column xs t = sum_call Column xs (all_placed region r xs) p.left r.left (placed_count xs) (sym is.left_is)
  placed_call RowCount NoTrees t = ap (λ n. step.Number n ∷ []) (sym is.rows_are)
  placed_call RowCount (Then a xs) t = absurd (no_arguments (argument_count xs) t)
  placed_call ColumnCount NoTrees t = ap (λ n. step.Number n ∷ []) (sym is.cols_are)
  placed_call ColumnCount (Then a xs) t = absurd (no_arguments (argument_count xs) t)
  placed_call If xs t = other_call If xs (all_placed region r xs) (placed_count xs)
  placed_call IsNull xs t = other_call IsNull xs (all_placed region r xs) (placed_count xs)
  placed_call Null xs t = other_call Null xs (all_placed region r xs) (placed_count xs)
  placed_call Abs xs t = other_call Abs xs (all_placed region r xs) (placed_count xs)
  placed_call Min xs t = other_call Min xs (all_placed region r xs) (placed_count xs)
  placed_call Max xs t = other_call Max xs (all_placed region r xs) (placed_count xs)
  placed_call Mode xs t = other_call Mode xs (all_placed region r xs) (placed_count xs)
  placed_call Eval xs t = other_call Eval xs (all_placed region r xs) (placed_count xs)
  placed_call KnownMin xs t = other_call KnownMin xs (all_placed region r xs) (placed_count xs)
  placed_call KnownMax xs t = other_call KnownMax xs (all_placed region r xs) (placed_count xs)
  placed_call KnownMode xs t = other_call KnownMode xs (all_placed region r xs) (placed_count xs)

  mutual
    -- the rewritten steps are the steps of the rewritten expression
    pub steps_placed : (f : Formula) → IsGrammatical f → rewritten (postfix f) ≡ postfix (placed region r f)
    steps_placed (Number n) g = refl
    steps_placed (Map i down right) g = refl
    steps_placed (Negated a) g =
        flat_map-append (step_rewritten_for_tile p) (postfix a) (step.Negated ∷ [])
        ∙ ap (λ l. l ++ step.Negated ∷ []) (steps_placed a g)
    steps_placed (Not a) g =
        flat_map-append (step_rewritten_for_tile p) (postfix a) (step.Not ∷ [])
        ∙ ap (λ l. l ++ step.Not ∷ []) (steps_placed a g)
    steps_placed (Binary op a b) g =
        flat_map-append (step_rewritten_for_tile p) (postfix a) (postfix b ++ step.Binary op ∷ [])
        ∙ ap (λ l. l ++ rewritten (postfix b ++ step.Binary op ∷ [])) (steps_placed a g.0)
        ∙ ap (λ l. postfix (placed region r a) ++ l)
        (flat_map-append (step_rewritten_for_tile p) (postfix b) (step.Binary op ∷ [])
        ∙ ap (λ l. l ++ step.Binary op ∷ []) (steps_placed b g.1))
    steps_placed (Call f xs) g =
        flat_map-append (step_rewritten_for_tile p) (postfix_all xs) (step.Call f (argument_count xs) ∷ [])
        ∙ ap (λ l. l ++ rewritten (step.Call f (argument_count xs) ∷ [])) (all_steps_placed xs g.1)
        ∙ placed_call f xs g.0

    all_steps_placed : (xs : ArgumentFormulas) → AreGrammatical xs
        → rewritten (postfix_all xs) ≡ postfix_all (all_placed region r xs)
    all_steps_placed NoTrees g = refl
    all_steps_placed (Then a xs) g =
        flat_map-append (step_rewritten_for_tile p) (postfix a) (postfix_all xs)
        ∙ ap (λ l. l ++ rewritten (postfix_all xs)) (steps_placed a g.0)
        ∙ ap (λ l. postfix (placed region r a) ++ l) (all_steps_placed xs g.1)

  call_grammatical : (f : Function) (xs : ArgumentFormulas) → IsPlaceWithinLimits p
      → IsTrue (accepts_argument_count f (argument_count xs)) → AreGrammatical (all_placed region r xs)
      → IsGrammatical (call_rewritten_for_tile region r f (all_placed region r xs))
  call_grammatical f xs few t g = by f (subst (λ n. IsTrue (accepts_argument_count f n)) (sym (placed_count xs)) t)
    where
      ys : ArgumentFormulas
      ys = all_placed region r xs

      by : (h : Function) → IsTrue (accepts_argument_count h (argument_count ys))
          → IsGrammatical (call_rewritten_for_tile region r h ys)
      by Row u = ((u, g), omega (arith, is.top_is, few.top_most))
      by Column u = ((u, g), omega (arith, is.left_is, few.left_most))
      by RowCount u = omega (arith, is.rows_are, few.rows_most)
      by ColumnCount u = omega (arith, is.cols_are, few.cols_most)
      by If u = (u, g)
      by IsNull u = (u, g)
      by Null u = (u, g)
      by Abs u = (u, g)
      by Min u = (u, g)
      by Max u = (u, g)
      by Mode u = (u, g)
      by Eval u = (u, g)
      by KnownMin u = (u, g)
      by KnownMax u = (u, g)
      by KnownMode u = (u, g)

  mutual
    -- the language allows the rewritten expression
    pub placed_grammatical : IsPlaceWithinLimits p → (f : Formula) → IsGrammatical f → IsGrammatical (placed region r f)
    placed_grammatical few (Number n) g = g
    placed_grammatical few (Map i down right) g = g
    placed_grammatical few (Negated a) g = placed_grammatical few a g
    placed_grammatical few (Not a) g = placed_grammatical few a g
    placed_grammatical few (Binary op a b) g = (placed_grammatical few a g.0, placed_grammatical few b g.1)
    placed_grammatical few (Call f xs) g = call_grammatical f xs few g.0 (all_placed_grammatical few xs g.1)

    all_placed_grammatical : IsPlaceWithinLimits p → (xs : ArgumentFormulas) → AreGrammatical xs
        → AreGrammatical (all_placed region r xs)
    all_placed_grammatical few NoTrees g = g
    all_placed_grammatical few (Then a xs) g = (placed_grammatical few a g.0, all_placed_grammatical few xs g.1)

  call_limit : (f : Function) (ys : ArgumentFormulas) (n : ℕ) → map_place_limit_of_formulas ys ≤ n
      → map_place_limit_of_formula (call_rewritten_for_tile region r f ys) ≤ n
  call_limit Row ys n h = omega (arith, h)
  call_limit Column ys n h = omega (arith, h)
  call_limit RowCount ys n h = omega arith
  call_limit ColumnCount ys n h = omega arith
  call_limit If ys n h = h
  call_limit IsNull ys n h = h
  call_limit Null ys n h = h
  call_limit Abs ys n h = h
  call_limit Min ys n h = h
  call_limit Max ys n h = h
  call_limit Mode ys n h = h
  call_limit Eval ys n h = h
  call_limit KnownMin ys n h = h
  call_limit KnownMax ys n h = h
  call_limit KnownMode ys n h = h

  mutual
    -- the rewritten expression reads no other maps
    pub placed_limit : (f : Formula) → map_place_limit_of_formula (placed region r f) ≤ map_place_limit_of_formula f
    placed_limit (Number n) = omega arith
    placed_limit (Map i down right) = omega arith
    placed_limit (Negated a) = placed_limit a
    placed_limit (Not a) = placed_limit a
    placed_limit (Binary op a b) = omega (arith, placed_limit a, placed_limit b)
    placed_limit (Call f xs) =
        call_limit f (all_placed region r xs) (map_place_limit_of_formulas xs) (all_placed_limit xs)

    all_placed_limit : (xs : ArgumentFormulas)
        → map_place_limit_of_formulas (all_placed region r xs) ≤ map_place_limit_of_formulas xs
    all_placed_limit NoTrees = omega arith
    all_placed_limit (Then a xs) = omega (arith, placed_limit a, all_placed_limit xs)
