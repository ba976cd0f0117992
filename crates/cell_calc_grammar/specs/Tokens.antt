-- Splitting an assignment into tokens (operators: r.mapcalc manual; limits and errors: profile).
use Rattle.std.specs.Prelude.{◌≡◌, ◌⊎◌, ℕ, zero, suc, ◌+◌, ◌-◌, Bool, ◌++◌, ◌||◌, ◌==◌, nat_le, nat_lt, List, [], ◌∷◌, length, take, map, find, codes, bytes_eq, nat_eq, Option, Result, Ok, Err, if◌then◌else◌}
use Rattle.std.specs.List.{prefix_len, list_all, list_any, starts_with}
use Rattle.std.specs.Option.{option_map, option_map_or, ok_or}
use Rattle.cell_core_values.specs.Letters.{byte}
use Rattle.cell_core_values.specs.Name.{is_name_byte, starts_like_name}
use Rattle.cell_core_values.specs.Blanks.{is_blank}
use Rattle.cell_core_values.specs.Digits.{is_digit, value_of_digits}
use Rattle.cell_calc_grammar.specs.declared.calc_fault.CalcFault.{CalcFault}
use Rattle.cell_calc_grammar.specs.declared.calc_fault.CalcKind.{CalcKind}
use Rattle.cell_calc_grammar.specs.declared.calc_fault.CalcKind.TheVariants.{BadByte, BadNumber, FloatNumber, TooLong, BadName, Memory}
use Rattle.cell_calc_grammar.specs.declared.token.TokenAtColumn.{TokenAtColumn}
use Rattle.cell_calc_grammar.specs.declared.token.Sign.{Sign}
use Rattle.cell_calc_grammar.specs.declared.token.Sign.TheVariants as sign
use Rattle.cell_calc_grammar.specs.declared.token.Token.{Token}
use Rattle.cell_calc_grammar.specs.declared.token.Token.TheVariants as token

-- an error at a column
abbrev pub token_fault : CalcKind → ℕ → CalcFault
token_fault kind column = record { kind = kind; column = column }

-- the error of running out of memory, which has no column
abbrev pub out_of_memory_calc_fault : CalcFault
out_of_memory_calc_fault = token_fault Memory 0

-- the reported error is the expected one, or memory ran out
abbrev pub IsExpectedOrMemoryFault : {T : Type 0} → Result T CalcFault → CalcFault → Type 0
IsExpectedOrMemoryFault wanted reported = (reported ≡ out_of_memory_calc_fault) ⊎ (wanted ≡ Err reported)

-- the signs of three bytes
abbrev pub three_byte_signs : List (List ℕ × Sign)
three_byte_signs = (codes "&&&", sign.KnownAnd) ∷ (codes "|||", sign.KnownOr) ∷ []

-- the signs of two bytes
abbrev pub two_byte_signs : List (List ℕ × Sign)
two_byte_signs =
    (codes "&&", sign.And) ∷ (codes "||", sign.Or) ∷ (codes "<=", sign.LessEqual) ∷ (codes ">=", sign.GreaterEqual)
    ∷ (codes "==", sign.Equal) ∷ (codes "!=", sign.NotEqual) ∷ []

-- the signs of one byte
abbrev pub one_byte_signs : List (List ℕ × Sign)
one_byte_signs =
    (codes "+", sign.Plus) ∷ (codes "-", sign.Minus) ∷ (codes "*", sign.Star) ∷ (codes "/", sign.Slash)
    ∷ (codes "%", sign.Percent) ∷ (codes "<", sign.Less) ∷ (codes ">", sign.Greater) ∷ (codes "!", sign.Exclamation)
    ∷ (codes "?", sign.Question) ∷ (codes ":", sign.Colon) ∷ (codes "(", sign.OpenParenthesis) ∷ (codes ")", sign.CloseParenthesis)
    ∷ (codes "[", sign.OpenBracket) ∷ (codes "]", sign.CloseBracket) ∷ (codes ",", sign.Comma) ∷ (codes "=", sign.Assign) ∷ []

-- all signs and their spellings
abbrev pub all_signs_with_spellings : List (List ℕ × Sign)
all_signs_with_spellings = three_byte_signs ++ (two_byte_signs ++ one_byte_signs)

-- the sign that these bytes spell
abbrev pub sign_of_bytes : List ℕ → Option Sign
sign_of_bytes bytes = option_map (λ s. s.1) (find (λ s. bytes_eq s.0 bytes) all_signs_with_spellings)

-- the byte is a point or an exponent, as in numbers that are not whole
abbrev pub is_point_or_exponent_byte : ℕ → Bool
is_point_or_exponent_byte b = (b == byte (codes ".") || b == byte (codes "e")) || b == byte (codes "E")

-- the error of a number that does not consist of digits
abbrev pub fault_kind_of_invalid_number : List ℕ → CalcKind
fault_kind_of_invalid_number bytes = if list_any is_point_or_exponent_byte bytes then FloatNumber else BadNumber

-- a name, which may have at most 64 bytes
abbrev pub checked_name_token : ℕ → List ℕ → Result Token CalcFault
checked_name_token column bytes = if nat_le (length bytes) 64 then Ok (token.Name bytes) else Err
    (token_fault BadName column)

-- a number, which may be at most the largest category
abbrev pub checked_number_token : ℕ → List ℕ → Result Token CalcFault
checked_number_token column digits =
    if nat_le (value_of_digits digits) 2147483647 then Ok (token.Number (value_of_digits digits)) else Err (token_fault BadNumber column)

-- a word: a name if it starts with a letter or an underscore, otherwise a number
unfoldable pub name_or_number_token : ℕ → List ℕ → Result Token CalcFault
name_or_number_token column bytes =
    if starts_like_name bytes then checked_name_token column bytes
    else (if list_all is_digit bytes then checked_number_token column bytes
    else Err (token_fault (fault_kind_of_invalid_number bytes) column))

-- a sign, or an error for any other bytes
abbrev pub sign_token : ℕ → List ℕ → Result Token CalcFault
sign_token column bytes = ok_or (option_map token.Sign (sign_of_bytes bytes)) (token_fault BadByte column)

-- the token that the bytes of a piece spell
abbrev pub token_of_bytes : ℕ → List ℕ → Result Token CalcFault
token_of_bytes column bytes = if list_all is_name_byte bytes then name_or_number_token column bytes else sign_token
    column bytes

-- the length of the longest sign at the start of the text, or 1 if there is none
unfoldable pub sign_length_at_start : List ℕ → ℕ
sign_length_at_start text = option_map_or length (find (starts_with nat_eq text) (map (λ s. s.0) (three_byte_signs ++ two_byte_signs))) 1

-- the length of the first piece of a text: the longest run of letters, digits, underscores and points, or a sign
unfoldable pub first_token_length : List ℕ → ℕ
first_token_length text =
    let run = prefix_len is_name_byte text in
    if nat_lt 0 run then run else sign_length_at_start text

-- a piece of a text and the column of its first byte
pub record TextPieceAtColumn : Type 0 where
  pub column : ℕ
  pub bytes : List ℕ

-- the piece with these bytes at this column
abbrev pub token_bytes_at_column : ℕ → List ℕ → TextPieceAtColumn
token_bytes_at_column column bytes = record { column = column; bytes = bytes }

-- the pieces of a text that begins at a column and whose first `begun` bytes belong to the previous piece
unfoldable pub token_bytes_of_text : ℕ → ℕ → List ℕ → List TextPieceAtColumn
token_bytes_of_text begun column [] = []
token_bytes_of_text (suc begun) column (b ∷ bs) = token_bytes_of_text begun (column + 1) bs
token_bytes_of_text zero column (b ∷ bs) =
    if is_blank b then token_bytes_of_text zero (column + 1) bs
    else token_bytes_at_column column (take (first_token_length (b ∷ bs)) (b ∷ bs))
    ∷ token_bytes_of_text (first_token_length (b ∷ bs) - 1) (column + 1) bs

-- the token with its column, or its error
abbrev pub token_with_column : ℕ → Result Token CalcFault → Result TokenAtColumn CalcFault
token_with_column column (Ok t) = Ok (record { token = t; column = column })
token_with_column column (Err f) = Err f

-- the token of a piece that follows `count` tokens, or its error; the expression is too long if there are already 1000
-- tokens
abbrev pub next_token : ℕ → TextPieceAtColumn → Result TokenAtColumn CalcFault
next_token count piece =
    if nat_lt count 1000 then token_with_column piece.column (token_of_bytes piece.column piece.bytes)
    else Err (token_fault TooLong piece.column)

-- a token followed by others, or the first error
abbrev pub token_then_tokens : Result TokenAtColumn CalcFault → Result (List TokenAtColumn) CalcFault
    → Result (List TokenAtColumn) CalcFault
token_then_tokens (Ok t) (Ok ts) = Ok (t ∷ ts)
token_then_tokens (Ok t) (Err f) = Err f
token_then_tokens (Err f) following = Err f

-- the tokens of pieces that follow `count` tokens, or the first error
unfoldable pub tokens_of_text_pieces : ℕ → List TextPieceAtColumn → Result (List TokenAtColumn) CalcFault
tokens_of_text_pieces count [] = Ok []
tokens_of_text_pieces count (piece ∷ following) = token_then_tokens (next_token count piece)
    (tokens_of_text_pieces (count + 1) following)

-- the tokens of a text, with columns counted from 1, or its first error
unfoldable pub token_list_of_text : List ℕ → Result (List TokenAtColumn) CalcFault
token_list_of_text text = tokens_of_text_pieces 0 (token_bytes_of_text 0 1 text)
