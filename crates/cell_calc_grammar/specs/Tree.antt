-- Expressions as trees with maps as leaves, independent of how they are stored.
use Rattle.std.specs.Prelude.{ℕ, zero, suc, ℤ}
use Rattle.cell_calc_grammar.specs.declared.function.Function.{Function}
use Rattle.cell_calc_grammar.specs.declared.operator.Operator.{Operator}

mutual
  -- an expression with leaves of type L
  pub data Tree (L : Type 0) : Type 0 where
    Number : (n : ℕ) → Tree L
    Map : (leaf : L) (down right : ℤ) → Tree L
    Negated : (a : Tree L) → Tree L
    Not : (a : Tree L) → Tree L
    Binary : (op : Operator) (a b : Tree L) → Tree L
    Call : (f : Function) (xs : Trees L) → Tree L

  -- the arguments of a call, in order
  pub data Trees (L : Type 0) : Type 0 where
    NoTrees : Trees L
    Then : (a : Tree L) (xs : Trees L) → Trees L

-- the number of arguments
abbrev pub argument_count : {L : Type 0} → Trees L → ℕ
argument_count NoTrees = zero
argument_count (Then a xs) = suc (argument_count xs)

abbrev mutual
  -- the values for the maps of an expression, joined in the order of the text
  pub fold_maps : {L X : Type 0} → (L → ℤ → ℤ → X) → X → (X → X → X) → Tree L → X
  fold_maps at none join (Number n) = none
  fold_maps at none join (Map leaf down right) = at leaf down right
  fold_maps at none join (Negated a) = fold_maps at none join a
  fold_maps at none join (Not a) = fold_maps at none join a
  fold_maps at none join (Binary op a b) = join (fold_maps at none join a) (fold_maps at none join b)
  fold_maps at none join (Call f xs) = fold_all at none join xs

  -- the values for the maps of arguments, joined in the order of the text
  pub fold_all : {L X : Type 0} → (L → ℤ → ℤ → X) → X → (X → X → X) → Trees L → X
  fold_all at none join NoTrees = none
  fold_all at none join (Then a xs) = join (fold_maps at none join a) (fold_all at none join xs)

abbrev mutual
  -- the expression with each leaf replaced
  pub with_leaves : {L M : Type 0} → (L → M) → Tree L → Tree M
  with_leaves to (Number n) = Number n
  with_leaves to (Map leaf down right) = Map (to leaf) down right
  with_leaves to (Negated a) = Negated (with_leaves to a)
  with_leaves to (Not a) = Not (with_leaves to a)
  with_leaves to (Binary op a b) = Binary op (with_leaves to a) (with_leaves to b)
  with_leaves to (Call f xs) = Call f (with_leaves_all to xs)

  -- the arguments with each leaf replaced
  pub with_leaves_all : {L M : Type 0} → (L → M) → Trees L → Trees M
  with_leaves_all to NoTrees = NoTrees
  with_leaves_all to (Then a xs) = Then (with_leaves to a) (with_leaves_all to xs)
