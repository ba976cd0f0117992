-- The options that words spell together are the options read from the words one after another.
use Rattle.std.proofs.lemmas.Grind.{common_steps}
use Rattle.std.proofs.Common.{◌≡◌, ℕ, Bool, true, false, cond, List, [], ◌∷◌, map, length, All, Option, Some, None, Result, Ok, Err, refl, ap, sym, ◌∙◌, subst, rules, arith}
use Rattle.std.specs.Prelude.{◌==◌, ◌&&◌, not, bytes_eq}
use Rattle.std.specs.Cmp.Lexicographic.{bytes_decides}
use Rattle.std.specs.List.{flat_map, filter_map}
use Rattle.std.specs.Option.{option_map, option_and_then, ok_or}
use Rattle.std.proofs.lemmas.Bool.{eqb-true, le-ltb}
use Rattle.cell_core_values.specs.Words.{parts_between_commas, texts_around_equals_sign}
use Rattle.cell_core_values.specs.Name.{is_name}
use Rattle.rcell_script.specs.NullText.{is_grid_null_text, is_table_null_text}
use Rattle.rcell_script.specs.Options.{letters_after_dash, value_of_key_in_word, IsOptionWord, values_of_key_in_words, SpellsOptionalValue, SpellsItselfIfValid, SpellsMapNames, separator_in_option}
use Rattle.rcell_script.specs.OptionReading.{GivenOptions, flag_letters_of_command, option_keys_of_command, option_key_in_list, option_key_by_name, map_name_in_option, map_names_in_option_value, grid_null_text_in_option, table_null_text_in_option, empty_flags, empty_options, flags_with_letters, options_in_words}
use Rattle.rcell_script.specs.declared.option_fault.OptionFault.{OptionFault}
use Rattle.rcell_script.specs.declared.option_fault.OptionFault.TheVariants.{BadOption, BadName}
use Rattle.rcell_script.specs.declared.options.CommandWithOptions.{CommandWithOptions}
use Rattle.rcell_script.specs.declared.options.CommandWithOptions.TheVariants.{Reclass, Clump, Stats, OutAscii}
use Rattle.rcell_script.specs.declared.options.OptionKey.{OptionKey}
use Rattle.rcell_script.specs.declared.options.OptionKey.TheVariants.{Input, Inputs, Output, Separator, NullText, TableNullText, After}
use Rattle.rcell_script.proofs.NullTextLemmas.{and_true as both}
use Rattle.rcell_script.proofs.OptionLemmas.{tag, value_for, setting_in, key_values, IsWord, Extends, More, listed, separated, kept, words-read, read-words}

-- ---- the keys of a command, by their texts

-- the text of a key in this list
abbrev pub text_of : OptionKey → List (List ℕ × OptionKey) → Option (List ℕ)
text_of key [] = None
text_of key (k ∷ ks) = cond (tag key == tag k.1) (Some k.0) (text_of key ks)

-- no key in this list has this number
abbrev no_tag : ℕ → List (List ℕ × OptionKey) → Bool
no_tag n [] = true
no_tag n (k ∷ ks) = not (n == tag k.1) && no_tag n ks

-- no key in this list has this text
abbrev no_text : List ℕ → List (List ℕ × OptionKey) → Bool
no_text t [] = true
no_text t (k ∷ ks) = not (bytes_eq t k.0) && no_text t ks

-- a text whose first character is not a dash
abbrev is_plain : List ℕ → Bool
is_plain [] = false
is_plain (b ∷ bs) = not (b == 45)

-- the texts do not begin with a dash, and no key or text occurs twice
abbrev are_apart : List (List ℕ × OptionKey) → Bool
are_apart [] = true
are_apart (k ∷ ks) = is_plain k.0 && (no_tag (tag k.1) ks && (no_text k.0 ks && are_apart ks))

keys-apart : (form : CommandWithOptions) → are_apart (option_keys_of_command form) ≡ true
keys-apart Reclass = refl
keys-apart Clump = refl
keys-apart Stats = refl
keys-apart OutAscii = refl

-- the value of a pair whose text is the text of the key
abbrev pair_value : Option (List ℕ) → List ℕ → List ℕ → Option (List ℕ)
pair_value None t v = None
pair_value (Some text) t v = cond (bytes_eq t text) (Some v) None

abbrev pair_setting : List (List ℕ × OptionKey) → List ℕ → List ℕ → Option (OptionKey × List ℕ)
pair_setting ks t v = option_map (λ key. (key, v)) (option_key_in_list ks t)

no_tag-none : (ks : List (List ℕ × OptionKey)) (key : OptionKey) (t v : List ℕ) → no_tag (tag key) ks ≡ true
    → value_for key (pair_setting ks t v) ≡ None
no_tag-none [] key t v h = refl
no_tag-none (k ∷ ks) key t v h = by (λ rest. no_tag-none ks key t v rest) (bytes_eq t k.0) (tag key == tag k.1) refl refl h
  where
    by : (no_tag (tag key) ks ≡ true → value_for key (pair_setting ks t v) ≡ None) → (text same : Bool)
        → bytes_eq t k.0 ≡ text → (tag key == tag k.1) ≡ same → (not same && no_tag (tag key) ks) ≡ true
        → value_for key (pair_setting (k ∷ ks) t v) ≡ None
    by others text true e s h = cc
    by others true false e s h = rw (e, s) refl
    by others false false e s h = rw e (others h)

no_text-none : (ks : List (List ℕ × OptionKey)) (key : OptionKey) (t v : List ℕ) → no_text t ks ≡ true
    → pair_value (text_of key ks) t v ≡ None
no_text-none [] key t v h = refl
no_text-none (k ∷ ks) key t v h = by (λ rest. no_text-none ks key t v rest) (tag key == tag k.1) (bytes_eq t k.0) refl refl h
  where
    by : (no_text t ks ≡ true → pair_value (text_of key ks) t v ≡ None) → (same text : Bool)
        → (tag key == tag k.1) ≡ same → bytes_eq t k.0 ≡ text → (not text && no_text t ks) ≡ true
        → pair_value (text_of key (k ∷ ks)) t v ≡ None
    by others same true s e h = cc
    by others true false s e h = rw (s, e) refl
    by others false false s e h = rw s (others h)

-- the value of a key is the value that the pair gives to the key's text
pair-value : (ks : List (List ℕ × OptionKey)) (key : OptionKey) (t v : List ℕ) → are_apart ks ≡ true
    → value_for key (pair_setting ks t v) ≡ pair_value (text_of key ks) t v
pair-value [] key t v h = refl
pair-value (k ∷ ks) key t v h = by (λ rest. pair-value ks key t v rest) (tag key == tag k.1) (bytes_eq t k.0) refl refl
  where
    plain : (is_plain k.0 ≡ true) × ((no_tag (tag k.1) ks && (no_text k.0 ks && are_apart ks)) ≡ true)
    plain = both (is_plain k.0) (no_tag (tag k.1) ks && (no_text k.0 ks && are_apart ks)) h

    tags : (no_tag (tag k.1) ks ≡ true) × ((no_text k.0 ks && are_apart ks) ≡ true)
    tags = both (no_tag (tag k.1) ks) (no_text k.0 ks && are_apart ks) plain.1

    texts : (no_text k.0 ks ≡ true) × (are_apart ks ≡ true)
    texts = both (no_text k.0 ks) (are_apart ks) tags.1

    by : (are_apart ks ≡ true → value_for key (pair_setting ks t v) ≡ pair_value (text_of key ks) t v)
        → (same text : Bool) → (tag key == tag k.1) ≡ same → bytes_eq t k.0 ≡ text
        → value_for key (pair_setting (k ∷ ks) t v) ≡ pair_value (text_of key (k ∷ ks)) t v
    by others true true s e = rw (s, e) (rw s refl)
    by others true false s e = search (rules, tag, eqb-true, no_tag-none)
    by others false true s e =
        let other : no_text t ks ≡ true = ap (λ x. no_text x ks) ((bytes_decides t k.0).0 e) ∙ texts.0 in
        rw (s, e) (rw s (sym (no_text-none ks key t v other)))
    by others false false s e = rw (s, e) (others texts.1)

-- the texts of the keys of a command
abbrev pub option_texts : CommandWithOptions → List (List ℕ)
option_texts form = map (λ k. k.0) (option_keys_of_command form)

-- ---- a word

abbrev setting_of : CommandWithOptions → Option (List ℕ × List ℕ) → Option (OptionKey × List ℕ)
setting_of form pair = option_and_then (λ pair. option_map (λ key. (key, pair.1)) (option_key_by_name form pair.0)) pair

-- the value that a word gives to a key's text, if the key has a text
abbrev slot_value : Option (List ℕ) → List ℕ → Option (List ℕ)
slot_value None word = None
slot_value (Some text) word = value_of_key_in_word text word

abbrev first_value : List ℕ → Option (List ℕ × List ℕ) → Option (List ℕ)
first_value text pair = option_and_then (λ pair. cond (bytes_eq pair.0 text) (Some pair.1) None) pair

-- a word that begins with a dash gives no value to a key
dash-none : (text bs : List ℕ) → is_plain text ≡ true → value_of_key_in_word text (45 ∷ bs) ≡ None
dash-none text bs plain = search rules

-- the text of a key does not begin with a dash
text-plain : (ks : List (List ℕ × OptionKey)) (key : OptionKey) (text : List ℕ) → are_apart ks ≡ true
    → text_of key ks ≡ Some text → is_plain text ≡ true
text-plain [] key text h e = cc
text-plain (k ∷ ks) key text h e = by (λ apart f. text-plain ks key text apart f) (tag key == tag k.1) refl e
  where
    plain : (is_plain k.0 ≡ true) × ((no_tag (tag k.1) ks && (no_text k.0 ks && are_apart ks)) ≡ true)
    plain = both (is_plain k.0) (no_tag (tag k.1) ks && (no_text k.0 ks && are_apart ks)) h

    rest : are_apart ks ≡ true
    rest = (both (no_text k.0 ks) (are_apart ks) (both (no_tag (tag k.1) ks) (no_text k.0 ks && are_apart ks) plain.1).1).1

    by : (are_apart ks ≡ true → text_of key ks ≡ Some text → is_plain text ≡ true) → (same : Bool)
        → (tag key == tag k.1) ≡ same → cond same (Some k.0) (text_of key ks) ≡ Some text → is_plain text ≡ true
    by others true s f = let is : k.0 ≡ text = cc in ap is_plain (sym is) ∙ plain.0
    by others false s f = others rest f

-- the value that a word gives to a key is the value that the word gives to the key's text
word-value : (form : CommandWithOptions) (key : OptionKey) (o : Option (List ℕ))
    → text_of key (option_keys_of_command form) ≡ o
    → (word : List ℕ)
    → value_for key (setting_in form word) ≡ slot_value o word
word-value form key None e [] = refl
word-value form key (Some text) e [] = refl
word-value form key o e (b ∷ bs) = by (b == 45) refl
  where
    none : (o : Option (List ℕ)) → text_of key (option_keys_of_command form) ≡ o → b ≡ 45 → None ≡ slot_value o (b ∷ bs)
    none None e d = refl
    none (Some text) e d = sym (ap (λ x. value_of_key_in_word text (x ∷ bs)) d ∙ dash-none text bs (text-plain (option_keys_of_command form) key text (keys-apart form) e))

    pair : (o : Option (List ℕ)) → text_of key (option_keys_of_command form) ≡ o → (p : Option (List ℕ × List ℕ))
        → texts_around_equals_sign (b ∷ bs) ≡ p
        → value_for key (setting_of form p) ≡ slot_value o (b ∷ bs)
    pair None e None q = refl
    pair (Some text) e None q = sym (ap (first_value text) q)
    pair None e (Some p) q = pair-value (option_keys_of_command form) key p.0 p.1 (keys-apart form) ∙ ap (λ o. pair_value o p.0 p.1) e
    pair (Some text) e (Some p) q = pair-value (option_keys_of_command form) key p.0 p.1 (keys-apart form) ∙ ap (λ o. pair_value o p.0 p.1) e ∙ sym (ap (first_value text) q)

    by : (dash : Bool) → (b == 45) ≡ dash
        → value_for key (cond dash None (setting_of form (texts_around_equals_sign (b ∷ bs)))) ≡ slot_value o (b ∷ bs)
    by true d = none o e (eqb-true b 45 d)
    by false d = pair o e (texts_around_equals_sign (b ∷ bs)) refl

-- ---- all words

filter_map-same : (f g : List ℕ → Option (List ℕ)) → ((x : List ℕ) → f x ≡ g x) → (xs : List (List ℕ))
    → filter_map f xs ≡ filter_map g xs
filter_map-same f g same [] = refl
filter_map-same f g same (x ∷ xs) = rw (same x, filter_map-same f g same xs) refl

abbrev nothing : List ℕ → Option (List ℕ)
nothing word = None

filter_map-none : (xs : List (List ℕ)) → filter_map nothing xs ≡ []
filter_map-none [] = refl
filter_map-none (x ∷ xs) = filter_map-none xs

-- the values that words give to a key's text, if the key has a text
abbrev pub slot_values : Option (List ℕ) → List (List ℕ) → List (List ℕ)
slot_values None words = []
slot_values (Some text) words = values_of_key_in_words text words

-- the values that words give to a key of a command
abbrev pub slots_of : CommandWithOptions → OptionKey → List (List ℕ) → List (List ℕ)
slots_of form key words = slot_values (text_of key (option_keys_of_command form)) words

slots : (form : CommandWithOptions) (key : OptionKey) (words : List (List ℕ))
    → key_values form key words ≡ slots_of form key words
slots form key words = by (text_of key (option_keys_of_command form)) refl
  where
    by : (o : Option (List ℕ)) → text_of key (option_keys_of_command form) ≡ o
        → key_values form key words ≡ slot_values o words
    by None e = filter_map-same (λ word. value_for key (setting_in form word)) nothing (word-value form key None e) words ∙ filter_map-none words
    by (Some text) e = filter_map-same (λ word. value_for key (setting_in form word)) (value_of_key_in_word text) (word-value form key (Some text) e) words

each-option : (form : CommandWithOptions) (words : List (List ℕ)) → All (IsWord form) words
    → All (IsOptionWord (flag_letters_of_command form) (option_texts form)) words
each-option form words each i d within = search rules

each-word : (form : CommandWithOptions) (words : List (List ℕ))
    → All (IsOptionWord (flag_letters_of_command form) (option_texts form)) words → All (IsWord form) words
each-word form words each i d within = grind (arith, common_steps)

-- ---- values

to-optional : {X : Type 0} (read : List ℕ → Result X OptionFault) (Spells : List ℕ → X → Type 0)
    → ((value : List ℕ) (x : X) → read value ≡ Ok x → Spells value x)
    → (values : List (List ℕ)) (new : Option X) → Extends read values None new → SpellsOptionalValue Spells values new
to-optional read Spells spells [] None e = refl
to-optional read Spells spells [] (Some x) e = cc
to-optional read Spells spells (value ∷ []) None e = absurd e
to-optional read Spells spells (value ∷ []) (Some x) e = (value, refl, spells value x e)
to-optional read Spells spells (value ∷ other ∷ values) new e = absurd e

from-optional : {X : Type 0} (read : List ℕ → Result X OptionFault) (Spells : List ℕ → X → Type 0)
    → ((value : List ℕ) (x : X) → Spells value x → read value ≡ Ok x)
    → (values : List (List ℕ)) (new : Option X) → SpellsOptionalValue Spells values new → Extends read values None new
from-optional read Spells reads values None e = subst (λ vs. Extends read vs None None) (sym e) refl
from-optional read Spells reads values (Some x) (value, is, spells) = subst (λ vs. Extends read vs None (Some x)) (sym is) (reads value x spells)

text-spelled : (test : List ℕ → Bool) (fault : OptionFault) (value text : List ℕ)
    → ◌≡◌ {A = Result (List ℕ) OptionFault} (cond (test value) (Ok value) (Err fault)) (Ok text)
    → SpellsItselfIfValid test value text
text-spelled test fault value text e = search rules

spelled-text : (test : List ℕ → Bool) (fault : OptionFault) (value text : List ℕ) → SpellsItselfIfValid test value text
    → ◌≡◌ {A = Result (List ℕ) OptionFault} (cond (test value) (Ok value) (Err fault)) (Ok text)
spelled-text test fault value text (same, good) = rw good (ap Ok same)

names-spelled : (value : List ℕ) (names : List (List ℕ)) → map_names_in_option_value (parts_between_commas value)
    ≡ Ok names
    → SpellsMapNames value names
names-spelled value names e = search rules

spelled-names : (value : List ℕ) (names : List (List ℕ)) → SpellsMapNames value names
    → map_names_in_option_value (parts_between_commas value) ≡ Ok names
spelled-names value names (same, good, few) = rw (same, le-ltb 16 (length names) few, good) refl

separator-spelled : (value : List ℕ) (b : ℕ) → separated value ≡ Ok b → separator_in_option value ≡ Some b
separator-spelled value b e = search rules

-- the value read for a key is the value that its words spell
to-slots : {X : Type 0} (form : CommandWithOptions) (key : OptionKey) (words : List (List ℕ)) (read : List ℕ
    → Result X OptionFault)
    (Spells : List ℕ → X → Type 0) → ((value : List ℕ) (x : X) → read value ≡ Ok x → Spells value x) → (new : Option X)
    → Extends read (key_values form key words) None new
    → SpellsOptionalValue Spells (slots_of form key words) new
to-slots form key words read Spells spells new e = search (rules, slots, to-optional)

-- the value that the words of a key spell is the value read for it
from-slots : {X : Type 0} (form : CommandWithOptions) (key : OptionKey) (words : List (List ℕ)) (read : List ℕ
    → Result X OptionFault)
    (Spells : List ℕ → X → Type 0) → ((value : List ℕ) (x : X) → Spells value x → read value ≡ Ok x) → (new : Option X)
    → SpellsOptionalValue Spells (slots_of form key words) new
    → Extends read (key_values form key words) None new
from-slots form key words read Spells reads new e = search (rules, from-optional, slots)

abbrev IsSeparator : List ℕ → ℕ → Type 0
IsSeparator value b = separator_in_option value ≡ Some b

abbrev IsKept : List ℕ → List ℕ → Type 0
IsKept value text = value ≡ text

-- the options that words spell together
pub record AreOptions (form : CommandWithOptions) (words : List (List ℕ)) (given : GivenOptions) : Type 0 where
  pub each : All (IsOptionWord (flag_letters_of_command form) (option_texts form)) words
  pub flags : flags_with_letters empty_flags (flat_map letters_after_dash words) ≡ given.flags
  pub input : SpellsOptionalValue (SpellsItselfIfValid is_name) (slots_of form Input words) given.input
  pub inputs : SpellsOptionalValue SpellsMapNames (slots_of form Inputs words) given.inputs
  pub output : SpellsOptionalValue (SpellsItselfIfValid is_name) (slots_of form Output words) given.output
  pub separator : SpellsOptionalValue (λ value b. separator_in_option value
      ≡ Some b) (slots_of form Separator words) given.separator
  pub null_text : SpellsOptionalValue (SpellsItselfIfValid is_grid_null_text)
      (slots_of form NullText words) given.null_text
  pub table_null_text : SpellsOptionalValue (SpellsItselfIfValid is_table_null_text) (slots_of form TableNullText words) given.table_null_text
  pub after : SpellsOptionalValue (λ value text. value ≡ text) (slots_of form After words) given.after

-- the options read from the words one after another are those that the words spell together
pub options-sound : (form : CommandWithOptions) (words : List (List ℕ)) (given : GivenOptions)
    → options_in_words form words ≡ Ok given
    → AreOptions form words given
options-sound form words given e =
    let s = words-read form words given e in
    let name = text-spelled is_name BadName in
    let null = text-spelled is_grid_null_text BadOption in
    let table_null = text-spelled is_table_null_text BadOption in
    record {
      each = each-option form words s.0;
      flags = s.1.flags;
      input = to-slots form Input words map_name_in_option (SpellsItselfIfValid is_name) name _ s.1.input;
      inputs = to-slots form Inputs words listed SpellsMapNames names-spelled _ s.1.inputs;
      output = to-slots form Output words map_name_in_option (SpellsItselfIfValid is_name) name _ s.1.output;
      separator = to-slots form Separator words separated IsSeparator separator-spelled _ s.1.separator;
      null_text = to-slots form NullText words grid_null_text_in_option
          (SpellsItselfIfValid is_grid_null_text) null _ s.1.null_text;
      table_null_text =
          to-slots form TableNullText words table_null_text_in_option
          (SpellsItselfIfValid is_table_null_text) table_null _
          s.1.table_null_text;
      after = to-slots form After words kept IsKept (λ value text f. cc) _ s.1.after;
    }

pub options-complete : (form : CommandWithOptions) (words : List (List ℕ)) (given : GivenOptions)
    → AreOptions form words given
    → options_in_words form words ≡ Ok given
options-complete form words given are =
    let name = spelled-text is_name BadName in
    let null = spelled-text is_grid_null_text BadOption in
    let table_null = spelled-text is_table_null_text BadOption in
    let more : More form words empty_options given = record {
      flags = are.flags;
      input = from-slots form Input words map_name_in_option (SpellsItselfIfValid is_name) name _ are.input;
      inputs = from-slots form Inputs words listed SpellsMapNames spelled-names _ are.inputs;
      output = from-slots form Output words map_name_in_option (SpellsItselfIfValid is_name) name _ are.output;
      separator = from-slots form Separator words separated IsSeparator (λ value b e. ap (λ o. ok_or o BadOption) e) _
          are.separator;
      null_text = from-slots form NullText words grid_null_text_in_option
          (SpellsItselfIfValid is_grid_null_text) null _ are.null_text;
      table_null_text =
          from-slots form TableNullText words table_null_text_in_option
          (SpellsItselfIfValid is_table_null_text) table_null _
          are.table_null_text;
      after = from-slots form After words kept IsKept (λ value text e. ap Ok e) _ are.after;
    } in
    read-words form words given (each-word form words are.each) more
