-- Expressions as lists of steps in postfix order: each step follows the steps of its operands.
use Rattle.std.specs.Prelude.{◌≡◌, ◌≤◌, ◌+◌, ◌-◌, ℕ, List, [], ◌∷◌, ◌++◌, length, take, drop, slice_index_or, ℤ}
use Rattle.cell_calc_grammar.specs.declared.step.Step.{Step}
use Rattle.cell_calc_grammar.specs.declared.step.Step.TheVariants as step
use Rattle.cell_calc_grammar.specs.Tree.{Tree, Number, Map, Negated, Not, Binary, Call, Trees, NoTrees, Then}
use Rattle.cell_calc_grammar.specs.Tree.{argument_count}

abbrev mutual
  -- the steps of an expression
  pub postfix : {L : Type 0} → Tree L → List (Step L)
  postfix (Number n) = step.Number n ∷ []
  postfix (Map leaf down right) = step.Map leaf down right ∷ []
  postfix (Negated a) = postfix a ++ step.Negated ∷ []
  postfix (Not a) = postfix a ++ step.Not ∷ []
  postfix (Binary op a b) = postfix a ++ (postfix b ++ step.Binary op ∷ [])
  postfix (Call f xs) = postfix_all xs ++ step.Call f (argument_count xs) ∷ []

  -- the steps of arguments, in order
  pub postfix_all : {L : Type 0} → Trees L → List (Step L)
  postfix_all NoTrees = []
  postfix_all (Then a xs) = postfix a ++ postfix_all xs

-- the number of operands of a step
abbrev pub arity_of_step : {L : Type 0} → Step L → ℕ
arity_of_step (step.Number n) = 0
arity_of_step (step.Map leaf down right) = 0
arity_of_step step.Negated = 1
arity_of_step step.Not = 1
arity_of_step (step.Binary op) = 2
arity_of_step (step.Call f n) = n

-- the operands after these steps; each step removes its operands from the end and appends its result
abbrev pub operands_after_steps : {L X : Type 0} → (Step L → List X → X) → List (Step L) → List X → List X
operands_after_steps made [] xs = xs
operands_after_steps made (s ∷ steps) xs = operands_after_steps made steps (take (length xs - arity_of_step s) xs ++ made s (drop (length xs - arity_of_step s) xs) ∷ [])

-- starting with n operands, every step has enough operands, and exactly one operand is left at the end
abbrev pub StepsHaveEnoughOperands : {L : Type 0} → List (Step L) → ℕ → Type 0
StepsHaveEnoughOperands [] n = n ≡ 1
StepsHaveEnoughOperands (s ∷ steps) n = (arity_of_step s ≤ n) × StepsHaveEnoughOperands steps (n - arity_of_step s + 1)

-- the arguments in a list
abbrev pub argument_trees_of_list : {L : Type 0} → List (Tree L) → Trees L
argument_trees_of_list [] = NoTrees
argument_trees_of_list (a ∷ xs) = Then a (argument_trees_of_list xs)

-- the expression that a step builds from its operands
abbrev pub tree_of_step : {L : Type 0} → Step L → List (Tree L) → Tree L
tree_of_step (step.Number n) xs = Number n
tree_of_step (step.Map leaf down right) xs = Map leaf down right
tree_of_step step.Negated xs = Negated (slice_index_or xs 0 (Number 0))
tree_of_step step.Not xs = Not (slice_index_or xs 0 (Number 0))
tree_of_step (step.Binary op) xs = Binary op (slice_index_or xs 0 (Number 0)) (slice_index_or xs 1 (Number 0))
tree_of_step (step.Call f n) xs = Call f (argument_trees_of_list xs)

-- the expression that the steps build
abbrev pub tree_of_steps : {L : Type 0} → List (Step L) → Tree L
tree_of_steps steps = slice_index_or (operands_after_steps tree_of_step steps []) 0 (Number 0)

-- the step with its leaf replaced
abbrev pub step_with_leaf_replaced : {L M : Type 0} → (L → M) → Step L → Step M
step_with_leaf_replaced to (step.Number n) = step.Number n
step_with_leaf_replaced to (step.Map leaf down right) = step.Map (to leaf) down right
step_with_leaf_replaced to step.Negated = step.Negated
step_with_leaf_replaced to step.Not = step.Not
step_with_leaf_replaced to (step.Binary op) = step.Binary op
step_with_leaf_replaced to (step.Call f n) = step.Call f n

-- the value for the map of a step, or `none` for other steps
abbrev pub value_of_step_map_or_default : {L X : Type 0} → (L → ℤ → ℤ → X) → X → Step L → X
value_of_step_map_or_default at none (step.Map leaf down right) = at leaf down right
value_of_step_map_or_default at none (step.Number n) = none
value_of_step_map_or_default at none step.Negated = none
value_of_step_map_or_default at none step.Not = none
value_of_step_map_or_default at none (step.Binary op) = none
value_of_step_map_or_default at none (step.Call f n) = none

-- the values for the maps of steps, joined in order
abbrev pub fold_maps_of_steps : {L X : Type 0} → (L → ℤ → ℤ → X) → X → (X → X → X) → List (Step L) → X
fold_maps_of_steps at none join [] = none
fold_maps_of_steps at none join (s ∷ steps) = join (value_of_step_map_or_default at none s)
    (fold_maps_of_steps at none join steps)
