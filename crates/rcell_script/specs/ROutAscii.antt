-- r.out.ascii and its options (r.out.ascii manual).
use Rattle.std.specs.Prelude.{ℕ, ◌≡◌, List, [], ◌∷◌, All, Some, codes}
use Rattle.cell_ascii_meaning.specs.GridWords.{usual_null_text}
use Rattle.cell_core_values.specs.Words.{words_of_line}
use Rattle.cell_core_values.specs.Name.{is_name, place_of_name}
use Rattle.rcell_script.specs.NullText.{is_grid_null_text}
use Rattle.rcell_script.specs.Options.{IsOptionWord, values_of_key_in_words, SpellsOptionalValue, SpellsValueOrDefault}
use Rattle.rcell_script.specs.Options.{SpellsItselfIfValid}

-- r.out.ascii: a known input; null is by default an asterisk
pub record SpellsOutAsciiCommand (known : List (List ℕ)) (line : List ℕ) (place : ℕ) (null_text : List ℕ) : Type 0 where
  pub words : List (List ℕ)
  pub named : words_of_line line ≡ codes "r.out.ascii" ∷ words
  pub each : All (IsOptionWord [] (codes "input" ∷ codes "null_value" ∷ [])) words
  pub input : List ℕ
  pub input_is : SpellsOptionalValue (SpellsItselfIfValid is_name) (values_of_key_in_words (codes "input") words)
      (Some input)
  pub read : place_of_name input known ≡ Some place
  pub null_is : SpellsValueOrDefault usual_null_text (SpellsItselfIfValid is_grid_null_text)
      (values_of_key_in_words (codes "null_value") words) null_text
