-- The error that a list of tokens shows first if it does not stand for an assignment (profile).
use Rattle.std.specs.Prelude.{◌≡◌, ◌<◌, ◌+◌, ℕ, ℤ, List, [], ◌∷◌, ◌++◌, length, Some, None, false, ◌⊎◌, MatchResult}
use Rattle.cell_calc_language.specs.declared.assignment.Assignment.{Assignment}
use Rattle.cell_calc_grammar.specs.declared.calc_fault.CalcFault.{CalcFault}
use Rattle.cell_calc_grammar.specs.declared.calc_fault.CalcKind.{CalcKind}
use Rattle.cell_calc_grammar.specs.declared.calc_fault.CalcKind.TheVariants.{Expected, UnknownFunction, Arguments, BadOffset}
use Rattle.cell_calc_grammar.specs.declared.function.Function.{Function}
use Rattle.cell_calc_grammar.specs.declared.token.TokenAtColumn.{TokenAtColumn}
use Rattle.cell_calc_grammar.specs.declared.token.Sign.TheVariants.{OpenParenthesis, OpenBracket, Comma, Minus, Plus}
use Rattle.cell_calc_language.specs.Assignment.{AreTokensOfAssignment}
use Rattle.cell_calc_grammar.specs.Function.{function_with_name, accepts_argument_count}
use Rattle.cell_calc_grammar.specs.Grammar.{TokensDenoteOffset, AreCalled}
use Rattle.cell_calc_grammar.specs.Shape.{tokens_without_values}
use Rattle.cell_calc_grammar.specs.Term.{ArgumentTerms, argument_count}
use Rattle.cell_calc_grammar.specs.Token.{number_token_at_column, name_token_at_column, sign_token_at_column}
use Rattle.cell_calc_grammar.specs.Tokens.{token_fault, out_of_memory_calc_fault, token_list_of_text}

-- the column of the first token, or the end of the text
abbrev pub first_token_column_or_end : (end : ℕ) → List TokenAtColumn → ℕ
first_token_column_or_end end [] = end
first_token_column_or_end end (s ∷ rest) = s.column

-- some assignment begins with tokens of the same shape, with any names and numbers; so any name before `(` may be
-- called with any number of arguments, and any number may be an offset
abbrev pub CanContinueToAssignment : List TokenAtColumn → Type 0
CanContinueToAssignment ts =
    (us after : List TokenAtColumn) × (a : Assignment) × (tokens_without_values us ≡ tokens_without_values ts)
    × AreTokensOfAssignment (us ++ after) a

-- the list does not stand for an assignment
abbrev pub DenotesNoAssignment : List TokenAtColumn → Type 0
DenotesNoAssignment ts = (a : Assignment) → AreTokensOfAssignment ts a → ⊥

-- the tokens end with a name that is not a function, followed by an opening parenthesis
abbrev pub EndsWithUnknownFunction : (column : ℕ) → List TokenAtColumn → Type 0
EndsWithUnknownFunction column ts =
    (front : List TokenAtColumn) × (name : List ℕ) × (d : ℕ)
    × (ts ≡ front ++ name_token_at_column name column ∷ sign_token_at_column OpenParenthesis d ∷ [])
    × (function_with_name name ≡ None)

-- the tokens end with a call whose function does not accept its number of arguments
abbrev pub EndsWithWrongArgumentCount : (column : ℕ) → List TokenAtColumn → Type 0
EndsWithWrongArgumentCount column ts =
    (front inside : List TokenAtColumn) × (name : List ℕ) × (d : ℕ) × (f : Function) × (xs : ArgumentTerms)
    × (ts ≡ front ++ name_token_at_column name column ∷ sign_token_at_column OpenParenthesis d ∷ inside)
    × (function_with_name name ≡ Some f) × AreCalled inside xs × (accepts_argument_count f (argument_count xs) ≡ false)

-- an optional sign before the number of an offset
pub data IsOptionalOffsetSign : List TokenAtColumn → Type 0 where
  unsigned : IsOptionalOffsetSign []
  minus : (c : ℕ) → IsOptionalOffsetSign (sign_token_at_column Minus c ∷ [])
  plus : (c : ℕ) → IsOptionalOffsetSign (sign_token_at_column Plus c ∷ [])

-- the tokens between an opening bracket and the number of the first or second offset
pub data AreTokensBeforeOffsetNumber : List TokenAtColumn → Type 0 where
  first : {ts : List TokenAtColumn} → IsOptionalOffsetSign ts → AreTokensBeforeOffsetNumber ts
  second : {ts us : List TokenAtColumn} {down : ℤ} (c : ℕ) → TokensDenoteOffset ts down → IsOptionalOffsetSign us
      → AreTokensBeforeOffsetNumber (ts ++ sign_token_at_column Comma c ∷ us)

-- the tokens end inside the brackets of a map, just before the number of an offset
abbrev pub EndsBeforeOffsetNumber : List TokenAtColumn → Type 0
EndsBeforeOffsetNumber before =
    (front inner : List TokenAtColumn) × (name : List ℕ) × (c d : ℕ)
    × (before ≡ front ++ name_token_at_column name c ∷ sign_token_at_column OpenBracket d ∷ inner)
    × AreTokensBeforeOffsetNumber inner

-- the tokens end with the number of an offset that is above 255
abbrev pub EndsWithTooFarOffset : (column : ℕ) → List TokenAtColumn → Type 0
EndsWithTooFarOffset column ts =
    (before : List TokenAtColumn) × (n : ℕ) × (ts ≡ before ++ number_token_at_column n column ∷ []) × (255 < n)
    × EndsBeforeOffsetNumber before

-- the tokens so far can continue, but not with the next token
abbrev pub IsUnexpectedToken : (column : ℕ) → (before : List TokenAtColumn) → TokenAtColumn → Type 0
IsUnexpectedToken column before next =
    (next.column ≡ column) × CanContinueToAssignment before × (CanContinueToAssignment (before ++ next ∷ []) → ⊥)

-- reading from the left reports an error of this kind at the next token, with this column
abbrev pub NextTokenShowsFault : CalcKind → (column : ℕ) → (before : List TokenAtColumn) → TokenAtColumn → Type 0
NextTokenShowsFault Expected column before next = IsUnexpectedToken column before next
NextTokenShowsFault UnknownFunction column before next =
    EndsWithUnknownFunction column (before ++ next ∷ []) × CanContinueToAssignment (before ++ next ∷ [])
NextTokenShowsFault Arguments column before next =
    EndsWithWrongArgumentCount column (before ++ next ∷ []) × CanContinueToAssignment (before ++ next ∷ [])
NextTokenShowsFault BadOffset column before next =
    EndsWithTooFarOffset column (before ++ next ∷ []) × CanContinueToAssignment (before ++ next ∷ [])
NextTokenShowsFault _ column before next = ⊥

-- no token shows an error
abbrev pub ShowsNoGrammarFault : List TokenAtColumn → Type 0
ShowsNoGrammarFault ts =
    (before rest : List TokenAtColumn) (next : TokenAtColumn) (kind : CalcKind) (column : ℕ)
    → ts ≡ before ++ next ∷ rest → NextTokenShowsFault kind column before next → ⊥

-- a token shows the error, and no earlier token shows an error
abbrev pub IsFirstFaultAtToken : List TokenAtColumn → CalcFault → Type 0
IsFirstFaultAtToken ts token_fault =
    (before rest : List TokenAtColumn) × (next : TokenAtColumn) × (ts ≡ before ++ next ∷ rest)
    × NextTokenShowsFault token_fault.kind token_fault.column before next × ShowsNoGrammarFault before

-- no token shows an error, but the list is incomplete, so more is expected at the end
abbrev pub IsFaultOfIncompleteText : (end : ℕ) → List TokenAtColumn → CalcFault → Type 0
IsFaultOfIncompleteText end ts reported = (reported ≡ token_fault Expected end) × CanContinueToAssignment ts
    × ShowsNoGrammarFault ts

-- the list does not stand for an assignment, and this is the first error that reading from the left can show
abbrev pub IsGrammarFault : (end : ℕ) → List TokenAtColumn → CalcFault → Type 0
IsGrammarFault end ts token_fault = (IsFirstFaultAtToken ts token_fault ⊎ IsFaultOfIncompleteText end ts token_fault)
    × DenotesNoAssignment ts

-- the error is an error in the grammar, or memory ran out
abbrev pub IsGrammarFaultOrMemory : (end : ℕ) → List TokenAtColumn → CalcFault → Type 0
IsGrammarFaultOrMemory end ts token_fault = (token_fault ≡ out_of_memory_calc_fault) ⊎ IsGrammarFault end ts token_fault

-- the error is the first error in the text's tokens, or an error in the grammar if they have none, or memory ran out
abbrev pub IsFaultOfAssignmentText : (text : List ℕ) → CalcFault → Type 0
IsFaultOfAssignmentText text token_fault =
    (token_fault ≡ out_of_memory_calc_fault)
    ⊎ MatchResult (token_list_of_text text) (λ ts. IsGrammarFault (length text + 1) ts token_fault) (λ first. token_fault ≡ first)
