-- Which options the words after a command spell, in any order: flags after a dash, and keys with their values (r.stats,
-- r.clump, r.reclass and r.out.ascii manuals; limits: profile).
use Rattle.std.specs.Prelude.{ℕ, ◌≡◌, ◌≤◌, ◌⊎◌, Bool, true, not, ◌&&◌, ◌==◌, List, [], ◌∷◌, length, Option, Some, None, is_some, unwrap_or, if◌then◌else◌, bytes_eq, codes}
use Rattle.std.specs.List.{list_all, list_any, flat_map, filter_map}
use Rattle.std.specs.Option.{option_and_then}
use Rattle.cell_core_values.specs.Words.{parts_between_commas, texts_around_equals_sign}
use Rattle.cell_core_values.specs.Letters.{byte, is_byte_in_text}
use Rattle.cell_core_values.specs.Name.{is_byte_between, is_name}

-- the letters after a dash
abbrev pub letters_after_dash : List ℕ → List ℕ
letters_after_dash [] = []
letters_after_dash (b ∷ bs) = if b == byte (codes "-") then bs else []

-- at least one letter, and each is one of the flags
abbrev pub are_flag_letters : List ℕ → List ℕ → Bool
are_flag_letters flags letters = not (length letters == 0) && list_all (is_byte_in_text flags) letters

-- the value that a word specifies for a key: the text after the key and an equals sign
abbrev pub value_of_key_in_word : List ℕ → List ℕ → Option (List ℕ)
value_of_key_in_word key word = option_and_then (λ pair. if bytes_eq pair.0 key then Some pair.1 else None)
    (texts_around_equals_sign word)

-- a word contains flags of a command, or one of its keys and a value
abbrev pub IsOptionWord : List ℕ → List (List ℕ) → List ℕ → Type 0
IsOptionWord flags keys word =
    (are_flag_letters flags (letters_after_dash word) ≡ true) ⊎ (list_any
    (λ key. is_some (value_of_key_in_word key word)) keys ≡ true)

-- the words contain the flag
abbrev pub words_contain_flag : List ℕ → List (List ℕ) → Bool
words_contain_flag flag words = is_byte_in_text (flat_map letters_after_dash words) (byte flag)

-- the values that words specify for a key
abbrev pub values_of_key_in_words : List ℕ → List (List ℕ) → List (List ℕ)
values_of_key_in_words key words = filter_map (value_of_key_in_word key) words

-- without a result there is no value; otherwise there is exactly one value, which spells the result
abbrev pub SpellsOptionalValue : {X : Type 0} → (List ℕ → X → Type 0) → List (List ℕ) → Option X → Type 0
SpellsOptionalValue Spells values None = values ≡ []
SpellsOptionalValue Spells values (Some x) = (value : List ℕ) × (values ≡ value ∷ []) × Spells value x

-- the result is the default if there is no value; otherwise there is exactly one value, which spells the result
abbrev pub SpellsValueOrDefault : {X : Type 0} → X → (List ℕ → X → Type 0) → List (List ℕ) → X → Type 0
SpellsValueOrDefault {X} usual Spells values x = (given : Option X) × SpellsOptionalValue Spells values given
    × (unwrap_or given usual ≡ x)

-- a value spells itself, if it passes the test
abbrev pub SpellsItselfIfValid : (List ℕ → Bool) → List ℕ → List ℕ → Type 0
SpellsItselfIfValid test value text = (value ≡ text) × (test value ≡ true)

-- a value spells the names of at most 16 maps, separated by commas
abbrev pub SpellsMapNames : List ℕ → List (List ℕ) → Type 0
SpellsMapNames value names = (parts_between_commas value ≡ names) × (list_all is_name names ≡ true)
    × (length names ≤ 16)

-- the byte, if it is one printable ASCII character other than a space
abbrev pub only_byte_if_printable : List ℕ → Option ℕ
only_byte_if_printable [] = None
only_byte_if_printable (b ∷ []) = if is_byte_between (byte (codes "!")) (byte (codes "~")) b then Some b else None
only_byte_if_printable (b ∷ c ∷ bs) = None

-- the byte between the fields of a line: `pipe`, `comma`, `space`, `tab` or a printable character
abbrev pub separator_in_option : List ℕ → Option ℕ
separator_in_option value =
    if bytes_eq value (codes "pipe") then Some (byte (codes "|"))
    else (if bytes_eq value (codes "comma") then Some (byte (codes ","))
    else (if bytes_eq value (codes "space") then Some (byte (codes " "))
    else (if bytes_eq value (codes "tab") then Some (byte (codes "\t")) else only_byte_if_printable value)))
