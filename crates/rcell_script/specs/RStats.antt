-- r.stats and its options (r.stats manual; `after`: profile).
use Rattle.std.specs.Prelude.{ℕ, ◌≡◌, Bool, true, false, List, [], ◌∷◌, length, All, Some, None, if◌then◌else◌, codes}
use Rattle.cell_ascii_meaning.specs.GridWords.{usual_null_text}
use Rattle.cell_core_values.specs.Words.{words_of_line}
use Rattle.cell_core_values.specs.Letters.{byte}
use Rattle.cell_stats_combinations.specs.ComboText.{SpellsCombination}
use Rattle.cell_stats_combinations.specs.declared.skip.Skip.{Skip}
use Rattle.cell_stats_combinations.specs.declared.skip.Skip.TheVariants.{Nothing, AnyNull, AllNull}
use Rattle.rcell_script.specs.InputPlaces.{places_of_map_names}
use Rattle.rcell_script.specs.NullText.{is_table_null_text}
use Rattle.rcell_script.specs.Options.{IsOptionWord, words_contain_flag, values_of_key_in_words, SpellsOptionalValue, SpellsValueOrDefault, SpellsItselfIfValid, SpellsMapNames, separator_in_option}
use Rattle.rcell_script.specs.declared.command.StatsOptions.{StatsOptions}

-- which combinations are left out: `-n` overrides `-N`
abbrev pub skip_of_null_flags : Bool → Bool → Skip
skip_of_null_flags no_null no_all_null = if no_null then AnyNull else (if no_all_null then AllNull else Nothing)

-- r.stats: known maps as `input`, and one cell per map in `after`; by default, fields are separated by a space, and
-- null is `*`; `-1` excludes `-c` and `after`
pub record SpellsStatsCommand (known : List (List ℕ)) (line : List ℕ) (places : List ℕ)
    (options : StatsOptions) : Type 0 where
  pub words : List (List ℕ)
  pub named : words_of_line line ≡ codes "r.stats" ∷ words
  pub each : All (IsOptionWord (codes "clnN1") (codes "input" ∷ codes "separator" ∷ codes "null_value" ∷ codes "after" ∷ [])) words
  pub inputs : List (List ℕ)
  pub inputs_are : SpellsOptionalValue SpellsMapNames (values_of_key_in_words (codes "input") words) (Some inputs)
  pub read : places_of_map_names known inputs ≡ Some places
  pub skip : skip_of_null_flags (words_contain_flag (codes "n") words) (words_contain_flag (codes "N") words)
      ≡ options.skip
  pub labels : words_contain_flag (codes "l") words ≡ options.labels
  pub counts : words_contain_flag (codes "c") words ≡ options.counts
  pub cells : words_contain_flag (codes "1") words ≡ options.cells
  pub separator : SpellsValueOrDefault (byte (codes " ")) (λ value b. separator_in_option value ≡ Some b) (values_of_key_in_words (codes "separator") words) options.separator
  pub null_text : SpellsValueOrDefault usual_null_text (SpellsItselfIfValid is_table_null_text) (values_of_key_in_words (codes "null_value") words) options.null_text
  pub after : SpellsOptionalValue (λ value cells. (length cells ≡ length places) × SpellsCombination value cells) (values_of_key_in_words (codes "after") words) options.after
  pub together : options.cells ≡ true → (options.counts ≡ false) × (options.after ≡ None)
