-- r.reclass and its options (r.reclass manual).
use Rattle.std.specs.Prelude.{ℕ, ◌≡◌, List, [], ◌∷◌, All, Some, None, codes}
use Rattle.cell_core_values.specs.Words.{words_of_line}
use Rattle.cell_core_values.specs.Name.{is_name, place_of_name}
use Rattle.rcell_script.specs.Options.{IsOptionWord, values_of_key_in_words, SpellsOptionalValue, SpellsItselfIfValid}

-- the options are these flags, a known map as `input` and a new map as `output`
pub record OptionsAreFlagsInputAndOutput (flags : List ℕ) (known words : List (List ℕ)) (place : ℕ)
    (target : List ℕ) : Type 0 where
  pub each : All (IsOptionWord flags (codes "input" ∷ codes "output" ∷ [])) words
  pub input : List ℕ
  pub input_is : SpellsOptionalValue (SpellsItselfIfValid is_name) (values_of_key_in_words (codes "input") words)
      (Some input)
  pub read : place_of_name input known ≡ Some place
  pub output_is : SpellsOptionalValue (SpellsItselfIfValid is_name) (values_of_key_in_words (codes "output") words)
      (Some target)
  pub made : place_of_name target known ≡ None

-- r.reclass; its rules are on the lines after it
pub record SpellsReclassCommand (known : List (List ℕ)) (line : List ℕ) (place : ℕ) (target : List ℕ) : Type 0 where
  pub words : List (List ℕ)
  pub named : words_of_line line ≡ codes "r.reclass" ∷ words
  pub maps : OptionsAreFlagsInputAndOutput [] known words place target
