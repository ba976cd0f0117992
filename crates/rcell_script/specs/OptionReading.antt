-- Reads the words after a command in order, up to the first error (order of errors: profile).
use Rattle.std.specs.Prelude.{ℕ, Bool, false, ◌&&◌, ◌||◌, ◌==◌, nat_lt, List, [], ◌∷◌, map, length, Option, Some, None, is_some, Result, Ok, Err, if◌then◌else◌, bytes_eq, codes}
use Rattle.std.specs.Borrow.{Bor}
use Rattle.std.specs.List.{list_all}
use Rattle.std.specs.Option.{ok_or}
use Rattle.cell_core_values.specs.Answers.{EqualsUnlessOutOfMemory, ◌>>=◌}
use Rattle.cell_core_values.specs.Words.{parts_between_commas, texts_around_equals_sign}
use Rattle.cell_core_values.specs.Letters.{byte, is_byte_in_text}
use Rattle.cell_core_values.specs.Name.{is_name}
use Rattle.rcell_script.specs.NullText.{is_grid_null_text, is_table_null_text}
use Rattle.rcell_script.specs.Options.{are_flag_letters, separator_in_option}
use Rattle.rcell_script.specs.declared.option_fault.OptionFault.{OptionFault}
use Rattle.rcell_script.specs.declared.option_fault.OptionFault.TheVariants.{BadOption, BadName, Memory}
use Rattle.rcell_script.specs.declared.options.Flags.{Flags}
use Rattle.rcell_script.specs.declared.options.CommandWithOptions.{CommandWithOptions}
use Rattle.rcell_script.specs.declared.options.CommandWithOptions.TheVariants.{Clump, Stats, OutAscii}
use Rattle.rcell_script.specs.declared.options.OptionKey.{OptionKey}
use Rattle.rcell_script.specs.declared.options.OptionKey.TheVariants.{Input, Inputs, Output, Separator, NullText, TableNullText, After}

-- the result is the specified reading, unless memory ran out
abbrev pub IsOptionReadingUnlessMemory : {A : Type 0} → Result A OptionFault → Result A OptionFault → Type 0
IsOptionReadingUnlessMemory answer reading = EqualsUnlessOutOfMemory Memory (λ x. x) answer reading

-- borrowed texts as values
abbrev pub values_of_borrowed_texts : List (Bor (List ℕ)) → List (List ℕ)
values_of_borrowed_texts words = map (λ word. word.now) words

-- ---- commands

-- the flags of a command
abbrev pub flag_letters_of_command : CommandWithOptions → List ℕ
flag_letters_of_command Clump = codes "d"
flag_letters_of_command Stats = codes "clnN1"
flag_letters_of_command _ = []

-- the keys of a command, with their meanings
abbrev pub option_keys_of_command : CommandWithOptions → List (List ℕ × OptionKey)
option_keys_of_command Stats = (codes "input", Inputs) ∷ (codes "separator", Separator) ∷ (codes "null_value", TableNullText) ∷ (codes "after", After) ∷ []
option_keys_of_command OutAscii = (codes "input", Input) ∷ (codes "null_value", NullText) ∷ []
option_keys_of_command _ = (codes "input", Input) ∷ (codes "output", Output) ∷ []

-- the meaning of a text among these keys
abbrev pub option_key_in_list : List (List ℕ × OptionKey) → List ℕ → Option OptionKey
option_key_in_list [] text = None
option_key_in_list (k ∷ ks) text = if bytes_eq text k.0 then Some k.1 else option_key_in_list ks text

-- the meaning of a text among the keys of a command
abbrev pub option_key_by_name : CommandWithOptions → List ℕ → Option OptionKey
option_key_by_name form text = option_key_in_list (option_keys_of_command form) text

-- ---- values

-- the name of one map, which cannot contain a comma
abbrev pub map_name_in_option : List ℕ → Result (List ℕ) OptionFault
map_name_in_option value = if is_name value then Ok value else Err BadName

-- the texts, if all are names
abbrev pub texts_if_all_are_map_names : List (List ℕ) → Result (List (List ℕ)) OptionFault
texts_if_all_are_map_names values_of_borrowed_texts = if list_all is_name values_of_borrowed_texts then Ok
    values_of_borrowed_texts else Err BadName

-- the names of at most 16 maps
abbrev pub map_names_in_option_value : List (List ℕ) → Result (List (List ℕ)) OptionFault
map_names_in_option_value values_of_borrowed_texts = if nat_lt 16
    (length values_of_borrowed_texts) then Err BadOption else texts_if_all_are_map_names values_of_borrowed_texts

-- the null text of a grid, as an option's value
abbrev pub grid_null_text_in_option : List ℕ → Result (List ℕ) OptionFault
grid_null_text_in_option value = if is_grid_null_text value then Ok value else Err BadOption

-- the null text of a table, as an option's value
abbrev pub table_null_text_in_option : List ℕ → Result (List ℕ) OptionFault
table_null_text_in_option value = if is_table_null_text value then Ok value else Err BadOption

-- ---- the options so far

-- the options in a command's words
pub record GivenOptions : Type 0 where
  pub flags : Flags
  pub input : Option (List ℕ)
  pub inputs : Option (List (List ℕ))
  pub output : Option (List ℕ)
  pub separator : Option ℕ
  pub null_text : Option (List ℕ)
  pub table_null_text : Option (List ℕ)
  pub after : Option (List ℕ)

-- no flag is given
abbrev pub empty_flags : Flags
empty_flags = record { labels = false; counts = false; cells = false; no_null = false; no_all_null = false; corners = false }

-- no option is given
abbrev pub empty_options : GivenOptions
empty_options =
    record { flags = empty_flags; input = None; inputs = None; output = None; separator = None; null_text = None; table_null_text = None; after = None }

-- a line per cell is asked for, together with counts or `after`, which exclude it
abbrev pub has_conflicting_options : GivenOptions → Bool
has_conflicting_options given = given.flags.cells && (given.flags.counts || is_some given.after)

-- adds the flags with these letters; a flag may be repeated
abbrev pub flags_with_letters : Flags → List ℕ → Flags
flags_with_letters flags letters =
    record {
      labels = flags.labels || is_byte_in_text letters (byte (codes "l"));
      counts = flags.counts || is_byte_in_text letters (byte (codes "c"));
      cells = flags.cells || is_byte_in_text letters (byte (codes "1"));
      no_null = flags.no_null || is_byte_in_text letters (byte (codes "n"));
      no_all_null = flags.no_all_null || is_byte_in_text letters (byte (codes "N"));
      corners = flags.corners || is_byte_in_text letters (byte (codes "d"));
    }

-- adds the flags after a dash
abbrev pub options_with_dash_flags : CommandWithOptions → GivenOptions → List ℕ → Result GivenOptions OptionFault
options_with_dash_flags form given letters = if are_flag_letters (flag_letters_of_command form) letters then Ok (record given { flags = flags_with_letters given.flags letters }) else Err BadOption

-- a key that is given twice is a bad option
abbrev pub result_unless_key_given_twice : {X O : Type 0} → Option X → Result O OptionFault → Result O OptionFault
result_unless_key_given_twice (Some old) options = Err BadOption
result_unless_key_given_twice None options = options

-- adds the value of a key
abbrev pub options_with_key_value : GivenOptions → OptionKey → List ℕ → Result GivenOptions OptionFault
options_with_key_value given Input value = result_unless_key_given_twice given.input (do
  input ← map_name_in_option value
  Ok (record given { input = Some input }))
options_with_key_value given Inputs value = result_unless_key_given_twice given.inputs (do
  inputs ← map_names_in_option_value (parts_between_commas value)
  Ok (record given { inputs = Some inputs }))
options_with_key_value given Output value = result_unless_key_given_twice given.output (do
  output ← map_name_in_option value
  Ok (record given { output = Some output }))
options_with_key_value given Separator value = result_unless_key_given_twice given.separator (do
  separator ← ok_or (separator_in_option value) BadOption
  Ok (record given { separator = Some separator }))
options_with_key_value given NullText value = result_unless_key_given_twice given.null_text (do
  text ← grid_null_text_in_option value
  Ok (record given { null_text = Some text }))
options_with_key_value given TableNullText value = result_unless_key_given_twice given.table_null_text (do
  text ← table_null_text_in_option value
  Ok (record given { table_null_text = Some text }))
options_with_key_value given After value = result_unless_key_given_twice given.after
    (Ok (record given { after = Some value }))

-- adds the value of a key, if the command has this key
abbrev pub options_with_known_key_value : GivenOptions → Option OptionKey → List ℕ → Result GivenOptions OptionFault
options_with_known_key_value given None value = Err BadOption
options_with_known_key_value given (Some key) value = options_with_key_value given key value

-- adds a key and its value; any other word is a bad option
abbrev pub options_with_key_value_pair : CommandWithOptions → GivenOptions → Option (List ℕ × List ℕ)
    → Result GivenOptions OptionFault
options_with_key_value_pair form given None = Err BadOption
options_with_key_value_pair form given (Some pair) = options_with_known_key_value given
    (option_key_by_name form pair.0) pair.1

-- adds flags after a dash, or a key and its value
abbrev pub options_with_word : CommandWithOptions → GivenOptions → List ℕ → Result GivenOptions OptionFault
options_with_word form given [] = Err BadOption
options_with_word form given (b ∷ bs) = if b == byte (codes "-") then options_with_dash_flags form given bs else options_with_key_value_pair form given (texts_around_equals_sign (b ∷ bs))

-- adds the options of all words, or returns the error in the first word that has one
abbrev pub options_with_words : CommandWithOptions → GivenOptions → List (List ℕ) → Result GivenOptions OptionFault
options_with_words form given [] = Ok given
options_with_words form given (w ∷ ws) = do
  more ← options_with_word form given w
  options_with_words form more ws

-- the options that the words after a command specify
abbrev pub options_in_words : CommandWithOptions → List (List ℕ) → Result GivenOptions OptionFault
options_in_words form words = options_with_words form empty_options words
