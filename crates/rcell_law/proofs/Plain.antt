-- The tokens of a text have no error of memory.
use Rattle.std.proofs.Common.{◌≡◌, ℕ, ◌+◌, Bool, true, false, List, [], ◌∷◌, Option, Some, None, Result, Ok, Err}
use Rattle.std.specs.Prelude.{nat_le, nat_lt, length, if◌then◌else◌}
use Rattle.std.specs.List.{list_all, list_any}
use Rattle.std.specs.Option.{option_map, ok_or}
use Rattle.cell_core_values.specs.Name.{is_name_byte, starts_like_name}
use Rattle.cell_core_values.specs.Digits.{is_digit, value_of_digits}
use Rattle.cell_calc_grammar.specs.declared.calc_fault.CalcFault.{CalcFault}
use Rattle.cell_calc_grammar.specs.declared.calc_fault.CalcKind.TheVariants.{BadByte, BadNumber, FloatNumber, TooLong, BadName, Memory}
use Rattle.cell_calc_grammar.specs.declared.token.TokenAtColumn.{TokenAtColumn}
use Rattle.cell_calc_grammar.specs.declared.token.Sign.{Sign}
use Rattle.cell_calc_grammar.specs.declared.token.Token.{Token}
use Rattle.cell_calc_grammar.specs.declared.token.Token.TheVariants as token
use Rattle.cell_calc_grammar.specs.Tokens.{token_fault, is_point_or_exponent_byte, fault_kind_of_invalid_number, checked_name_token, checked_number_token, name_or_number_token, sign_of_bytes, sign_token, token_of_bytes, TextPieceAtColumn, token_bytes_of_text, token_with_column, next_token, token_then_tokens, tokens_of_text_pieces, token_list_of_text}

-- a value, or an error other than an error of memory
abbrev pub IsPlain : {A : Type 0} → Result A CalcFault → Type 0
IsPlain (Ok x) = Unit {0}
IsPlain (Err reported) = reported.kind ≡ Memory → ⊥

plain_if : {A : Type 0} (b : Bool) (x y : Result A CalcFault) → IsPlain x → IsPlain y → IsPlain (if b then x else y)
plain_if true x y h g = h
plain_if false x y h g = g

not_whole_kind : (b : Bool) → (if b then FloatNumber else BadNumber) ≡ Memory → ⊥
not_whole_kind true e = cc
not_whole_kind false e = cc

plain_word : (column : ℕ) (bytes : List ℕ) → IsPlain (name_or_number_token column bytes)
unfolding name_or_number_token
plain_word column bytes =
    plain_if (starts_like_name bytes) (checked_name_token column bytes) (if list_all is_digit bytes then checked_number_token column bytes else Err (token_fault (fault_kind_of_invalid_number bytes) column))
    (plain_if (nat_le (length bytes) 64) (Ok (token.Name bytes)) (Err (token_fault BadName column)) tt (λ e. cc))
    (plain_if (list_all is_digit bytes) (checked_number_token column bytes)
    (Err (token_fault (fault_kind_of_invalid_number bytes) column))
    (plain_if (nat_le (value_of_digits bytes) 2147483647) (Ok (token.Number (value_of_digits bytes))) (Err (token_fault BadNumber column)) tt (λ e. cc))
    (not_whole_kind (list_any is_point_or_exponent_byte bytes)))

plain_sign : (column : ℕ) (s : Option Sign) → IsPlain (ok_or (option_map token.Sign s) (token_fault BadByte column))
plain_sign column (Some s) = tt
plain_sign column None = λ e. cc

plain_token : (column : ℕ) (bytes : List ℕ) → IsPlain (token_of_bytes column bytes)
plain_token column bytes = plain_if (list_all is_name_byte bytes) (name_or_number_token column bytes) (sign_token column bytes) (plain_word column bytes) (plain_sign column (sign_of_bytes bytes))

plain_placed : (column : ℕ) (t : Result Token CalcFault) → IsPlain t → IsPlain (token_with_column column t)
plain_placed column (Ok t) h = tt
plain_placed column (Err reported) h = h

plain_next : (count : ℕ) (piece : TextPieceAtColumn) → IsPlain (next_token count piece)
plain_next count piece =
    plain_if (nat_lt count 1000) (token_with_column piece.column (token_of_bytes piece.column piece.bytes)) (Err (token_fault TooLong piece.column))
    (plain_placed piece.column (token_of_bytes piece.column piece.bytes) (plain_token piece.column piece.bytes))
    (λ e. cc)

plain_before : (t : Result TokenAtColumn CalcFault) (following : Result (List TokenAtColumn) CalcFault) → IsPlain t → IsPlain following → IsPlain (token_then_tokens t following)
plain_before (Ok t) (Ok ts) h g = tt
plain_before (Ok t) (Err reported) h g = g
plain_before (Err reported) following h g = h

plain_tokens : (count : ℕ) (ps : List TextPieceAtColumn) → IsPlain (tokens_of_text_pieces count ps)
unfolding tokens_of_text_pieces
plain_tokens count [] = tt
plain_tokens count (piece ∷ following) = plain_before (next_token count piece) (tokens_of_text_pieces (count + 1) following) (plain_next count piece) (plain_tokens (count + 1) following)

pub plain_list : (text : List ℕ) → IsPlain (token_list_of_text text)
unfolding token_list_of_text
plain_list text = plain_tokens 0 (token_bytes_of_text 0 1 text)
