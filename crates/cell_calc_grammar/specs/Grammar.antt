-- The lists of tokens that stand for expressions and assignments (r.mapcalc manual; the order of `?` and `:` is our own
-- choice).
use Rattle.std.specs.Prelude.{◌≡◌, ◌≤◌, ℕ, zero, suc, ℤ, pos, List, [], ◌∷◌, ◌++◌, Some, true}
use Rattle.std.proofs.Common.{neg_ℤ}
use Rattle.cell_calc_grammar.specs.declared.function.Function.{Function}
use Rattle.cell_calc_grammar.specs.declared.function.Function.TheVariants.{If}
use Rattle.cell_calc_grammar.specs.declared.operator.Operator.{Operator}
use Rattle.cell_calc_grammar.specs.declared.token.TokenAtColumn.{TokenAtColumn}
use Rattle.cell_calc_grammar.specs.declared.token.Sign.TheVariants.{Plus, Minus, Exclamation, Question, Colon, OpenParenthesis, CloseParenthesis, OpenBracket, CloseBracket, Comma}
use Rattle.cell_calc_grammar.specs.Function.{function_with_name, accepts_argument_count}
use Rattle.cell_calc_grammar.specs.Operator.{operator_of_token, right_operand_level, top_operator_level}
use Rattle.cell_calc_grammar.specs.Term.{Term, Number, Map, Negated, Not, Binary, Call, ArgumentTerms, NoTrees, Then, argument_count, map_name_at_column}
use Rattle.cell_calc_grammar.specs.Token.{number_token_at_column, name_token_at_column, sign_token_at_column}

-- off = NUMBER | "-" NUMBER | "+" NUMBER, where NUMBER is at most 255
pub data TokensDenoteOffset : List TokenAtColumn → ℤ → Type 0 where
  plain : {n c : ℕ} → n ≤ 255 → TokensDenoteOffset (number_token_at_column n c ∷ []) (pos n)
  minus : {n c d : ℕ} → n ≤ 255 → TokensDenoteOffset (sign_token_at_column Minus c ∷ number_token_at_column n d
      ∷ []) (neg_ℤ (pos n))
  plus : {n c d : ℕ} → n ≤ 255 → TokensDenoteOffset (sign_token_at_column Plus c ∷ number_token_at_column n d
      ∷ []) (pos n)

-- off "," off "]"
pub data TokensDenoteRowAndColumnOffsets : List TokenAtColumn → ℤ → ℤ → Type 0 where
  offsets : {ts us : List TokenAtColumn} {down right : ℤ} (c d : ℕ) → TokensDenoteOffset ts down
      → TokensDenoteOffset us right
      → TokensDenoteRowAndColumnOffsets (ts ++ sign_token_at_column Comma c ∷ (us ++ sign_token_at_column CloseBracket d
      ∷ [])) down right

mutual
  -- level 0 = operand; level k + 1 = level k | level k + 1 operator level k
  pub data Stands : ℕ → List TokenAtColumn → Term → Type 0 where
    number : {n c : ℕ} → Stands zero (number_token_at_column n c ∷ []) (Number n)
    map : {name : List ℕ} {c : ℕ} → Stands zero (name_token_at_column name c
        ∷ []) (Map (map_name_at_column name c) (pos 0) (pos 0))
    moved : {name : List ℕ} {c d : ℕ} {ts : List TokenAtColumn} {down right : ℤ}
        → TokensDenoteRowAndColumnOffsets ts down right
        → Stands zero (name_token_at_column name c ∷ sign_token_at_column OpenBracket d
        ∷ ts) (Map (map_name_at_column name c) down right)
    called : {name : List ℕ} {c d : ℕ} {ts : List TokenAtColumn} {xs : ArgumentTerms} (f : Function)
        → function_with_name name ≡ Some f → accepts_argument_count f (argument_count xs) ≡ true → AreCalled ts xs
        → Stands zero (name_token_at_column name c ∷ sign_token_at_column OpenParenthesis d ∷ ts) (Call f xs)
    negated : {c : ℕ} {ts : List TokenAtColumn} {a : Term} → Stands zero ts a
        → Stands zero (sign_token_at_column Minus c ∷ ts) (Negated a)
    not : {c : ℕ} {ts : List TokenAtColumn} {a : Term} → Stands zero ts a
        → Stands zero (sign_token_at_column Exclamation c ∷ ts) (Not a)
    inside : {c : ℕ} {ts : List TokenAtColumn} {a : Term} (d : ℕ) → IsExpression ts a
        → Stands zero (sign_token_at_column OpenParenthesis c ∷ (ts ++ sign_token_at_column CloseParenthesis d ∷ [])) a
    below : {k : ℕ} {ts : List TokenAtColumn} {a : Term} → Stands k ts a → Stands (suc k) ts a
    joined : {k : ℕ} {ts us : List TokenAtColumn} {a b : Term} (s : TokenAtColumn) (op : Operator)
        → operator_of_token s.token ≡ Some op → right_operand_level op ≡ k → Stands (suc k) ts a → Stands k us b
        → Stands (suc k) (ts ++ s ∷ us) (Binary op a b)

  -- expr = level 6 | level 6 "?" expr ":" expr, where the second form is a call of `if`
  pub data IsExpression : List TokenAtColumn → Term → Type 0 where
    plain : {ts : List TokenAtColumn} {a : Term} → Stands top_operator_level ts a → IsExpression ts a
    choice : {ts us vs : List TokenAtColumn} {x a b : Term} (c d : ℕ) → Stands top_operator_level ts x
        → IsExpression us a → IsExpression vs b
        → IsExpression (ts ++ sign_token_at_column Question c ∷ (us ++ sign_token_at_column Colon d ∷ vs)) (Call If (Then x (Then a (Then b NoTrees))))

  -- the tokens after the opening parenthesis of a call, including the closing one
  pub data AreCalled : List TokenAtColumn → ArgumentTerms → Type 0 where
    none : {c : ℕ} → AreCalled (sign_token_at_column CloseParenthesis c ∷ []) NoTrees
    some : {ts : List TokenAtColumn} {xs : ArgumentTerms} → AreArguments ts xs → AreCalled ts xs

  -- one or more arguments, followed by the closing parenthesis
  pub data AreArguments : List TokenAtColumn → ArgumentTerms → Type 0 where
    last : {ts : List TokenAtColumn} {a : Term} (c : ℕ) → IsExpression ts a
        → AreArguments (ts ++ sign_token_at_column CloseParenthesis c ∷ []) (Then a NoTrees)
    another : {ts us : List TokenAtColumn} {a : Term} {xs : ArgumentTerms} (c : ℕ) → IsExpression ts a
        → AreArguments us xs
        → AreArguments (ts ++ sign_token_at_column Comma c ∷ us) (Then a xs)
