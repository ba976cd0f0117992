-- How a text spells its tokens (r.mapcalc manual; the limits are our own choice).
use Rattle.std.specs.Prelude.{◌≡◌, ℕ, ◌+◌, ◌<◌, ◌≤◌, Bool, false, ◌||◌, IsTrue, List, [], ◌∷◌, ◌++◌, length, Some, Ok, ◌↔◌}
use Rattle.std.specs.List.{list_all}
use Rattle.std.specs.Option.{is_some}
use Rattle.cell_core_values.specs.Name.{is_name, is_name_byte}
use Rattle.cell_core_values.specs.Blanks.{is_blank}
use Rattle.cell_core_values.specs.Digits.{is_digit, value_of_digits}
use Rattle.cell_calc_grammar.specs.Tokens.{sign_of_bytes, token_list_of_text}
use Rattle.cell_calc_grammar.specs.declared.token.TokenAtColumn.{TokenAtColumn}
use Rattle.cell_calc_grammar.specs.declared.token.Token.{Token}
use Rattle.cell_calc_grammar.specs.declared.token.Token.TheVariants.{Number, Name, Sign}

-- the bytes spell the token: a number in digits, with optional leading zeros; a name as it is; a sign as its own bytes
abbrev pub SpellsToken : List ℕ → Token → Type 0
SpellsToken bytes (Number n) = (0 < length bytes) × IsTrue (list_all is_digit bytes) × (value_of_digits bytes ≡ n) × (n ≤ 2147483647)
SpellsToken bytes (Name name) = (bytes ≡ name) × IsTrue (is_name name)
SpellsToken bytes (Sign s) = sign_of_bytes bytes ≡ Some s

-- the bytes are a word (letters, digits, underscores and points) or a sign
abbrev pub is_word_or_sign : List ℕ → Bool
is_word_or_sign bytes = list_all is_name_byte bytes || is_some (sign_of_bytes bytes)

-- no prefix of the following text continues the word or sign that these bytes spell
abbrev pub IsLongestToken : (bytes text : List ℕ) → Type 0
IsLongestToken bytes text = (more rest : List ℕ) → text ≡ more ++ rest → 0 < length more → is_word_or_sign (bytes ++ more) ≡ false

-- a text, beginning at a column, spells these tokens: each is at its column and as long as possible, and only blanks
-- are between them
pub data TextSpellsTokens : ℕ → List ℕ → List TokenAtColumn → Type 0 where
  ends : {column : ℕ} → TextSpellsTokens column [] []
  blank : {column b : ℕ} {text : List ℕ} {tokens : List TokenAtColumn} →
      IsTrue (is_blank b) → TextSpellsTokens (column + 1) text tokens → TextSpellsTokens column (b ∷ text) tokens
  token : {column : ℕ} {text : List ℕ} {tokens : List TokenAtColumn} (t : Token) (bytes : List ℕ) →
      SpellsToken bytes t → IsLongestToken bytes text → TextSpellsTokens (column + length bytes) text tokens →
      TextSpellsTokens column (bytes ++ text) (record { token = t; column = column } ∷ tokens)

-- a text spells exactly one list of at most 1000 tokens
abbrev pub TextSpellsOneTokenList : Type 0
TextSpellsOneTokenList = (text : List ℕ) (ts : List TokenAtColumn) → (token_list_of_text text ≡ Ok ts) ↔ (TextSpellsTokens 1 text ts × (length ts ≤ 1000))
