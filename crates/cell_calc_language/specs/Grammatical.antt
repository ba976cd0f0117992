-- Properties of every expression of the grammar (offsets, arguments: r.mapcalc manual; their limits: profile).
use Rattle.std.specs.Prelude.{◌≡◌, ◌≤◌, IsTrue, List, ℕ, zero, suc, ℤ, pos, negsuc}
use Rattle.cell_calc_grammar.specs.Function.{accepts_argument_count}
use Rattle.cell_calc_grammar.specs.Tree.{Tree, Number, Map, Negated, Not, Binary, Call, Trees, NoTrees, Then}
use Rattle.cell_calc_grammar.specs.Tree.{argument_count}
use Rattle.cell_calc_grammar.specs.declared.step.Step.{Step}
use Rattle.cell_calc_grammar.specs.Postfix.{postfix, tree_of_steps}

-- the number of rows up, or columns to the left, in an offset
abbrev pub cell_count_up_or_left : ℤ → ℕ
cell_count_up_or_left (pos n) = zero
cell_count_up_or_left (negsuc n) = suc n

-- the number of rows down, or columns to the right, in an offset
abbrev pub cell_count_down_or_right : ℤ → ℕ
cell_count_down_or_right (pos n) = n
cell_count_down_or_right (negsuc n) = zero

abbrev mutual
  -- numbers are categories, offsets are within ±255, and functions accept their numbers of arguments
  pub IsGrammatical : {L : Type 0} → Tree L → Type 0
  IsGrammatical (Number n) = n ≤ 2147483647
  IsGrammatical (Map leaf down right) = (cell_count_up_or_left down ≤ 255) × ((cell_count_down_or_right down ≤ 255) × ((cell_count_up_or_left right ≤ 255) × (cell_count_down_or_right right ≤ 255)))
  IsGrammatical (Negated a) = IsGrammatical a
  IsGrammatical (Not a) = IsGrammatical a
  IsGrammatical (Binary op a b) = IsGrammatical a × IsGrammatical b
  IsGrammatical (Call f xs) = IsTrue (accepts_argument_count f (argument_count xs)) × AreGrammatical xs

  -- each argument is grammatical
  pub AreGrammatical : {L : Type 0} → Trees L → Type 0
  AreGrammatical NoTrees = Unit {0}
  AreGrammatical (Then a xs) = IsGrammatical a × AreGrammatical xs

-- the steps belong to a grammatical expression
abbrev pub AreStepsOfExpression : {L : Type 0} → List (Step L) → Type 0
AreStepsOfExpression steps = (steps ≡ postfix (tree_of_steps steps)) × IsGrammatical (tree_of_steps steps)
