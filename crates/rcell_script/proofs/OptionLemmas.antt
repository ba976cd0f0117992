-- The options of the words after a command, read one after another and all together.
use Rattle.std.proofs.Common.{◌≡◌, ℕ, suc, Bool, true, false, cond, List, [], ◌∷◌, ◌++◌, All, Option, Some, None, Result, Ok, Err, inl, inr, refl, ap, sym, ◌∙◌, subst, arith, rules}
use Rattle.std.specs.Prelude.{◌⊎◌, ◌==◌, ◌||◌, is_some}
use Rattle.std.specs.List.{flat_map, cons_option, filter_map}
use Rattle.std.specs.Option.{option_map, option_and_then, ok_or}
use Rattle.std.proofs.Math.Bool.{or_assoc, or-false}
use Rattle.std.proofs.lemmas.List.Elements.{All-nil, All-cons}
use Rattle.std.proofs.lemmas.List.Folds.{list_any-append}
use Rattle.cell_core_values.specs.Answers.{◌>>=◌}
use Rattle.cell_core_values.specs.Words.{parts_between_commas, texts_around_equals_sign}
use Rattle.cell_core_values.specs.Letters.{is_byte_in_text}
use Rattle.rcell_script.specs.Options.{letters_after_dash, are_flag_letters, separator_in_option}
use Rattle.rcell_script.specs.OptionReading.{GivenOptions, flag_letters_of_command, option_key_by_name, map_name_in_option, map_names_in_option_value, grid_null_text_in_option, table_null_text_in_option, empty_options, flags_with_letters, options_with_dash_flags, result_unless_key_given_twice, options_with_key_value, options_with_known_key_value, options_with_key_value_pair, options_with_word, options_with_words, options_in_words}
use Rattle.rcell_script.specs.declared.option_fault.OptionFault.{OptionFault}
use Rattle.rcell_script.specs.declared.option_fault.OptionFault.TheVariants.{BadOption}
use Rattle.rcell_script.specs.declared.options.Flags.{Flags}
use Rattle.rcell_script.specs.declared.options.CommandWithOptions.{CommandWithOptions}
use Rattle.rcell_script.specs.declared.options.OptionKey.{OptionKey}
use Rattle.rcell_script.specs.declared.options.OptionKey.TheVariants.{Input, Inputs, Output, Separator, NullText, TableNullText, After}

-- ---- words, by the keys of a command

-- the number that stands for a key
abbrev pub tag : OptionKey → ℕ
tag Input = 0
tag Inputs = 1
tag Output = 2
tag Separator = 3
tag NullText = 4
tag TableNullText = 5
tag After = 6

-- the value of a setting, if the setting has this key
abbrev pub value_for : OptionKey → Option (OptionKey × List ℕ) → Option (List ℕ)
value_for key None = None
value_for key (Some setting) = cond (tag key == tag setting.0) (Some setting.1) None

-- the key of the command and the value after the equals sign, in a word that does not begin with a dash
abbrev pub setting_in : CommandWithOptions → List ℕ → Option (OptionKey × List ℕ)
setting_in form [] = None
setting_in form (b ∷ bs) = cond (b == 45) None (option_and_then (λ pair. option_map (λ key. (key, pair.1)) (option_key_by_name form pair.0)) (texts_around_equals_sign (b ∷ bs)))

-- the values that words give to a key of a command
abbrev pub key_values : CommandWithOptions → OptionKey → List (List ℕ) → List (List ℕ)
key_values form key words = filter_map (λ word. value_for key (setting_in form word)) words

-- a word is flags of the command, or a key of the command with a value
abbrev pub IsWord : CommandWithOptions → List ℕ → Type 0
IsWord form word = (are_flag_letters (flag_letters_of_command form) (letters_after_dash word)
    ≡ true) ⊎ (is_some (setting_in form word) ≡ true)

-- ---- flags

of_flags-same : (labels labels' counts counts' cells cells' no_null no_null' no_all_null no_all_null' corners corners' : Bool)
    → labels ≡ labels' → counts ≡ counts' → cells ≡ cells' → no_null ≡ no_null' → no_all_null ≡ no_all_null'
    → corners ≡ corners'
    → ◌≡◌ {A = Flags} (record { labels = labels; counts = counts; cells = cells; no_null = no_null; no_all_null = no_all_null; corners = corners })
    (record { labels = labels'; counts = counts'; cells = cells'; no_null = no_null'; no_all_null = no_all_null'; corners = corners' })
of_flags-same labels labels' counts counts' cells cells' no_null no_null' no_all_null no_all_null' corners corners' a b c d e f = rw (a, b, c, d, e, f) refl

-- no letters change no flags
flags_with_letters-none : (flags : Flags) → flags_with_letters flags [] ≡ flags
flags_with_letters-none flags =
    of_flags-same _ _ _ _ _ _ _ _ _ _ _ _ (or-false flags.labels) (or-false flags.counts) (or-false flags.cells) (or-false flags.no_null) (or-false flags.no_all_null) (or-false flags.corners)

one_flag : (given : Bool) (a b : List ℕ) (flag : ℕ)
    → (given || is_byte_in_text (a ++ b) flag) ≡ ((given || is_byte_in_text a flag) || is_byte_in_text b flag)
one_flag given a b flag = ap (λ t. given || t) (list_any-append (λ letter. letter == flag) a b) ∙ sym (or_assoc given (is_byte_in_text a flag) (is_byte_in_text b flag))

-- letters followed by further letters set the flags of both
flags_with_letters-append : (flags : Flags) (a b : List ℕ)
    → flags_with_letters flags (a ++ b) ≡ flags_with_letters (flags_with_letters flags a) b
flags_with_letters-append flags a b =
    of_flags-same _ _ _ _ _ _ _ _ _ _ _ _ (one_flag flags.labels a b _) (one_flag flags.counts a b _) (one_flag flags.cells a b _) (one_flag flags.no_null a b _) (one_flag flags.no_all_null a b _) (one_flag flags.corners a b _)

abbrev pub listed : List ℕ → Result (List (List ℕ)) OptionFault
listed value = map_names_in_option_value (parts_between_commas value)

abbrev pub separated : List ℕ → Result ℕ OptionFault
separated value = ok_or (separator_in_option value) BadOption

abbrev pub kept : List ℕ → Result (List ℕ) OptionFault
kept value = Ok value

-- ---- one key

-- a key's value after some further values: at most one value, and none if the key already had one
abbrev pub Extends : {X : Type 0} → (List ℕ → Result X OptionFault) → List (List ℕ) → Option X → Option X → Type 0
Extends read [] old new = old ≡ new
Extends read (value ∷ []) None None = ⊥
Extends read (value ∷ []) None (Some x) = read value ≡ Ok x
Extends read (value ∷ []) (Some x) new = ⊥
Extends read (value ∷ other ∷ values) old new = ⊥

-- a key's value after a word that may contain a value for the key
abbrev Steps : {X : Type 0} → (List ℕ → Result X OptionFault) → Option (List ℕ) → Option X → Option X → Type 0
Steps read None old mid = old ≡ mid
Steps read (Some value) None None = ⊥
Steps read (Some value) None (Some x) = read value ≡ Ok x
Steps read (Some value) (Some x) mid = ⊥

joined : {X : Type 0} (read : List ℕ → Result X OptionFault) (value : Option (List ℕ)) (values : List (List ℕ)) (old mid new : Option X)
    → Steps read value old mid → Extends read values mid new → Extends read (cons_option value values) old new
joined read None values old mid new s e = subst (λ o. Extends read values o new) (sym s) e
joined read (Some value) values None None new s e = absurd s
joined read (Some value) [] None (Some x) None s e = cc
joined read (Some value) [] None (Some x) (Some y) s e = let same : x ≡ y = cc in s ∙ ap Ok same
joined read (Some value) (other ∷ []) None (Some x) new s e = absurd e
joined read (Some value) (other ∷ more ∷ values) None (Some x) new s e = absurd e
joined read (Some value) values (Some x) mid new s e = absurd s

-- a value read for a key, with the values after it
record First {X : Type 0} (read : List ℕ → Result X OptionFault) (value : List ℕ) (values : List (List ℕ)) (old new : Option X) : Type 0 where
  given : X
  none : old ≡ None
  is : read value ≡ Ok given
  rest : Extends read values (Some given) new

first : {X : Type 0} (read : List ℕ → Result X OptionFault) (value : List ℕ) (values : List (List ℕ)) (old new : Option X) → Extends read (value ∷ values) old new → First read value values old new
first read value [] None None e = absurd e
first read value [] None (Some x) e = record { given = x; none = refl; is = e; rest = refl }
first read value [] (Some x) new e = absurd e
first read value (other ∷ values) old new e = absurd e

-- a value that is accepted is added to the options
taken : {X : Type 0} (read : List ℕ → Result X OptionFault) (value : List ℕ) (old : Option X) (with : X → GivenOptions) (mid : GivenOptions) (P : GivenOptions → Type 0)
    → result_unless_key_given_twice old (read value >>= (λ x. Ok (with x))) ≡ Ok mid → ((x : X) → Steps read (Some value) old (Some x) → P (with x)) → P mid
taken read value (Some x) with mid P e adds = cc
taken read value None with mid P e adds = by (read value) refl e
  where
    by : (r : _) → read value ≡ r → (r >>= (λ x. Ok (with x))) ≡ Ok mid → P mid
    by (Err kind) is f = cc
    by (Ok x) is f = let same : with x ≡ mid = cc in subst P same (adds x is)

take-value : {X : Type 0} (read : List ℕ → Result X OptionFault) (value : List ℕ) (old : Option X) (with : X → GivenOptions) (x : X) → old ≡ None → read value ≡ Ok x
    → result_unless_key_given_twice old (read value >>= (λ x. Ok (with x))) ≡ Ok (with x)
take-value read value old with x none is = rw (none, is) refl

-- ---- one word

-- the key and the value of a pair, if the command has the key
abbrev setting_of : CommandWithOptions → Option (List ℕ × List ℕ) → Option (OptionKey × List ℕ)
setting_of form pair = option_and_then (λ p. option_map (λ key. (key, p.1)) (option_key_by_name form p.0)) pair

-- the options that a word adds by its letters and its setting
record Adds (letters : List ℕ) (setting : Option (OptionKey × List ℕ)) (old mid : GivenOptions) : Type 0 where
  flags : flags_with_letters old.flags letters ≡ mid.flags
  input : Steps map_name_in_option (value_for Input setting) old.input mid.input
  inputs : Steps listed (value_for Inputs setting) old.inputs mid.inputs
  output : Steps map_name_in_option (value_for Output setting) old.output mid.output
  separator : Steps separated (value_for Separator setting) old.separator mid.separator
  null_text : Steps grid_null_text_in_option (value_for NullText setting) old.null_text mid.null_text
  table_null_text : Steps table_null_text_in_option (value_for TableNullText setting) old.table_null_text
      mid.table_null_text
  after : Steps kept (value_for After setting) old.after mid.after

value-sound : (given mid : GivenOptions) (key : OptionKey) (value : List ℕ)
    → options_with_key_value given key value ≡ Ok mid
    → Adds [] (Some (key, value)) given mid
value-sound given mid Input value e =
    taken map_name_in_option value given.input (λ x. record given { input = Some x }) mid (Adds [] (Some (Input, value)) given) e (λ x is. search (rules, flags_with_letters-none))
value-sound given mid Inputs value e =
    taken listed value given.inputs (λ x. record given { inputs = Some x }) mid (Adds [] (Some (Inputs, value)) given) e (λ x is. search (rules, flags_with_letters-none))
value-sound given mid Output value e =
    taken map_name_in_option value given.output (λ x. record given { output = Some x }) mid (Adds [] (Some (Output, value)) given) e (λ x is. search (rules, flags_with_letters-none))
value-sound given mid Separator value e =
    taken separated value given.separator (λ x. record given { separator = Some x }) mid (Adds [] (Some (Separator, value)) given) e (λ x is. search (rules, flags_with_letters-none))
value-sound given mid NullText value e =
    taken grid_null_text_in_option value given.null_text (λ x. record given { null_text = Some x }) mid (Adds [] (Some (NullText, value)) given) e (λ x is. search (rules, flags_with_letters-none))
value-sound given mid TableNullText value e =
    taken table_null_text_in_option value given.table_null_text (λ x. record given { table_null_text = Some x }) mid (Adds [] (Some (TableNullText, value)) given) e (λ x is. search (rules, flags_with_letters-none))
value-sound given mid After value e =
    taken kept value given.after (λ x. record given { after = Some x }) mid (Adds [] (Some (After, value)) given) e (λ x is. search (rules, flags_with_letters-none))

-- a word that is read, with the options before and after it
abbrev IsRead : CommandWithOptions → List ℕ → GivenOptions → GivenOptions → Type 0
IsRead form word given mid = IsWord form word × Adds (letters_after_dash word) (setting_in form word) given mid

word-pair : (form : CommandWithOptions) (given mid : GivenOptions) (pair : Option (List ℕ × List ℕ))
    → options_with_key_value_pair form given pair ≡ Ok mid
    → (setting : OptionKey × List ℕ) × (setting_of form pair ≡ Some setting) × Adds [] (Some setting) given mid
word-pair form given mid None e = cc
word-pair form given mid (Some p) e = by (option_key_by_name form p.0) refl e
  where
    by : (key : Option OptionKey) → option_key_by_name form p.0 ≡ key
        → options_with_known_key_value given key p.1 ≡ Ok mid
        → (setting : OptionKey × List ℕ) × (setting_of form (Some p) ≡ Some setting) × Adds [] (Some setting) given mid
    by None k f = cc
    by (Some key) k f = ((key, p.1), ap (option_map (λ key. (key, p.1))) k, value-sound given mid key p.1 f)

-- a word that is read, given whether its first byte is a dash
abbrev IsReadBy : CommandWithOptions → List ℕ → GivenOptions → GivenOptions → Bool → Option (OptionKey × List ℕ)
    → Type 0
IsReadBy form bs given mid dash setting = ((are_flag_letters (flag_letters_of_command form) (cond dash bs []) ≡ true) ⊎ (is_some (cond dash None setting) ≡ true)) × Adds (cond dash bs []) (cond dash None setting) given mid

word-sound : (form : CommandWithOptions) (given mid : GivenOptions) (word : List ℕ)
    → options_with_word form given word ≡ Ok mid
    → IsRead form word given mid
word-sound form given mid [] e = cc
word-sound form given mid (b ∷ bs) e = by (b == 45) refl e
  where
    by : (dash : Bool) → (b == 45) ≡ dash
        → cond dash (options_with_dash_flags form given bs) (options_with_key_value_pair form given
        (texts_around_equals_sign (b ∷ bs))) ≡ Ok mid
        → IsReadBy form bs given mid (b == 45) (setting_of form (texts_around_equals_sign (b ∷ bs)))
    by true d f = search rules
    by false d f =
        let s = word-pair form given mid (texts_around_equals_sign (b ∷ bs)) f in
        subst (λ dash. IsReadBy form bs given mid dash (setting_of form (texts_around_equals_sign (b ∷ bs)))) (sym d)
        (subst (λ (o : Option (OptionKey × List ℕ)). IsReadBy form bs given mid false o) (sym s.1) (inr refl, s.2))

-- ---- all words

-- the options after some letters and some values of keys
pub record Whole (letters : List ℕ) (values : OptionKey → List (List ℕ)) (old new : GivenOptions) : Type 0 where
  pub flags : flags_with_letters old.flags letters ≡ new.flags
  pub input : Extends map_name_in_option (values Input) old.input new.input
  pub inputs : Extends listed (values Inputs) old.inputs new.inputs
  pub output : Extends map_name_in_option (values Output) old.output new.output
  pub separator : Extends separated (values Separator) old.separator new.separator
  pub null_text : Extends grid_null_text_in_option (values NullText) old.null_text new.null_text
  pub table_null_text : Extends table_null_text_in_option (values TableNullText) old.table_null_text new.table_null_text
  pub after : Extends kept (values After) old.after new.after

-- the options after some words
abbrev pub More : CommandWithOptions → List (List ℕ) → GivenOptions → GivenOptions → Type 0
More form words old new = Whole (flat_map letters_after_dash words) (λ key. key_values form key words) old new

one-more : (form : CommandWithOptions) (word : List ℕ) (words : List (List ℕ)) (old mid new : GivenOptions)
    → Adds (letters_after_dash word) (setting_in form word) old mid → More form words mid new
    → More form (word ∷ words) old new
one-more form word words old mid new adds more = record {
  flags = flags_with_letters-append old.flags (letters_after_dash word) (flat_map letters_after_dash words) ∙ ap (λ fs. flags_with_letters fs (flat_map letters_after_dash words)) adds.flags ∙ more.flags;
  input = joined map_name_in_option (value_for Input (setting_in form word)) (key_values form Input words) old.input mid.input new.input adds.input more.input;
  inputs = joined listed (value_for Inputs (setting_in form word)) (key_values form Inputs words) old.inputs mid.inputs new.inputs adds.inputs more.inputs;
  output = joined map_name_in_option (value_for Output (setting_in form word)) (key_values form Output words) old.output mid.output new.output adds.output more.output;
  separator = joined separated (value_for Separator (setting_in form word)) (key_values form Separator words) old.separator mid.separator new.separator adds.separator more.separator;
  null_text = joined grid_null_text_in_option (value_for NullText (setting_in form word)) (key_values form NullText words) old.null_text mid.null_text new.null_text adds.null_text more.null_text;
  table_null_text = joined table_null_text_in_option (value_for TableNullText (setting_in form word)) (key_values form TableNullText words) old.table_null_text mid.table_null_text new.table_null_text adds.table_null_text more.table_null_text;
  after = joined kept (value_for After (setting_in form word)) (key_values form After words) old.after mid.after new.after adds.after more.after;
}

words-sound : (form : CommandWithOptions) (words : List (List ℕ)) (old new : GivenOptions)
    → options_with_words form old words ≡ Ok new
    → All (IsWord form) words × More form words old new
words-sound form [] old new e =
    let same : old ≡ new = cc in
    (All-nil (IsWord form), subst (λ g. More form [] old g) same (record { flags = flags_with_letters-none old.flags; input = refl; inputs = refl; output = refl; separator = refl; null_text = refl; table_null_text = refl; after = refl }))
words-sound form (word ∷ words) old new e = by (λ mid f. words-sound form words mid new f) (options_with_word form old word) refl e
  where
    by : ((mid : GivenOptions) → options_with_words form mid words ≡ Ok new → All (IsWord form) words
        × More form words mid new)
        → (read : Result GivenOptions OptionFault) → options_with_word form old word ≡ read
        → (read >>= (λ more. options_with_words form more words)) ≡ Ok new
        → All (IsWord form) (word ∷ words) × More form (word ∷ words) old new
    by others (Err kind) r f = cc
    by others (Ok mid) r f =
        let is = word-sound form old mid word r in
        let rest = others mid f in
        (All-cons (IsWord form) word words is.0 rest.0, one-more form word words old mid new is.1 rest.1)

-- a value for a key, followed by the options of the words after it
given-first : {X : Type 0} (read : List ℕ → Result X OptionFault) (value : List ℕ) (values : List (List ℕ)) (old new : Option X) (with : X → GivenOptions) (P : GivenOptions → Type 0)
    → Extends read (value ∷ values) old new → ((x : X) → Extends read values (Some x) new → P (with x))
    → (mid : GivenOptions) × (result_unless_key_given_twice old (read value >>= (λ x. Ok (with x))) ≡ Ok mid) × P mid
given-first read value values old new with P e rest =
    let v = first read value values old new e in
    (with v.given, take-value read value old with v.given v.none v.is, rest v.given v.rest)

value-complete : (letters : List ℕ) (values : OptionKey → List (List ℕ)) (old new : GivenOptions) (key : OptionKey)
    (value : List ℕ)
    → Whole letters (λ other. cons_option (value_for other (Some (key, value))) (values other)) old new
    → (mid : GivenOptions) × (options_with_key_value old key value ≡ Ok mid) × Whole letters values mid new
value-complete letters values old new Input value whole =
    given-first map_name_in_option value (values Input) old.input new.input (λ x. record old { input = Some x }) (λ mid. Whole letters values mid new) whole.input (λ x rest. search rules)
value-complete letters values old new Inputs value whole =
    given-first listed value (values Inputs) old.inputs new.inputs (λ x. record old { inputs = Some x }) (λ mid. Whole letters values mid new) whole.inputs (λ x rest. search rules)
value-complete letters values old new Output value whole =
    given-first map_name_in_option value (values Output) old.output new.output (λ x. record old { output = Some x }) (λ mid. Whole letters values mid new) whole.output (λ x rest. search rules)
value-complete letters values old new Separator value whole =
    given-first separated value (values Separator) old.separator new.separator (λ x. record old { separator = Some x }) (λ mid. Whole letters values mid new) whole.separator (λ x rest. search rules)
value-complete letters values old new NullText value whole =
    given-first grid_null_text_in_option value (values NullText) old.null_text new.null_text (λ x. record old { null_text = Some x }) (λ mid. Whole letters values mid new) whole.null_text (λ x rest. search rules)
value-complete letters values old new TableNullText value whole =
    given-first table_null_text_in_option value (values TableNullText) old.table_null_text new.table_null_text (λ x. record old { table_null_text = Some x }) (λ mid. Whole letters values mid new) whole.table_null_text (λ x rest. search rules)
value-complete letters values old new After value whole =
    given-first kept value (values After) old.after new.after (λ x. record old { after = Some x }) (λ mid. Whole letters values mid new) whole.after (λ x rest. search rules)

abbrev setting_with : Option OptionKey → List ℕ → Option (OptionKey × List ℕ)
setting_with key value = option_map (λ key. (key, value)) key

pair-complete : (form : CommandWithOptions) (letters : List ℕ) (values : OptionKey → List (List ℕ)) (old new : GivenOptions) (pair : Option (List ℕ × List ℕ)) → is_some (setting_of form pair) ≡ true
    → Whole letters (λ other. cons_option (value_for other (setting_of form pair)) (values other)) old new
    → (mid : GivenOptions) × (options_with_key_value_pair form old pair ≡ Ok mid) × Whole letters values mid new
pair-complete form letters values old new None some whole = cc
pair-complete form letters values old new (Some p) some whole = by (option_key_by_name form p.0) refl some whole
  where
    by : (key : Option OptionKey) → option_key_by_name form p.0 ≡ key → is_some (setting_with key p.1) ≡ true
        → Whole letters (λ other. cons_option (value_for other (setting_with key p.1)) (values other)) old new
        → (mid : GivenOptions) × (options_with_known_key_value old (option_key_by_name form p.0) p.1 ≡ Ok mid)
        × Whole letters values mid new
    by None k some whole = cc
    by (Some key) k some whole = search (rules, value-complete)

flags-complete : (form : CommandWithOptions) (word letters : List ℕ) (values : OptionKey
    → List (List ℕ)) (old new : GivenOptions)
    → are_flag_letters (flag_letters_of_command form) word ≡ true → Whole (word ++ letters) values old new
    → (mid : GivenOptions) × (options_with_dash_flags form old word ≡ Ok mid) × Whole letters values mid new
flags-complete form word letters values old new good whole =
    (record old { flags = flags_with_letters old.flags word }, rw good refl, record { flags = sym (flags_with_letters-append old.flags word letters) ∙ whole.flags; input = whole.input; inputs = whole.inputs; output = whole.output; separator = whole.separator; null_text = whole.null_text; table_null_text = whole.table_null_text; after = whole.after })

abbrev setting_by : CommandWithOptions → List ℕ → Bool → Option (OptionKey × List ℕ)
setting_by form word dash = cond dash None (setting_of form (texts_around_equals_sign word))

word-complete : (form : CommandWithOptions) (letters : List ℕ) (values : OptionKey
    → List (List ℕ)) (old new : GivenOptions) (word : List ℕ)
    → IsWord form word
    → Whole (letters_after_dash word ++ letters) (λ key. cons_option (value_for key (setting_in form word)) (values key)) old new → (mid : GivenOptions) × (options_with_word form old word ≡ Ok mid) × Whole letters values mid new
word-complete form letters values old new [] (inl good) whole = cc
word-complete form letters values old new [] (inr some) whole = cc
word-complete form letters values old new (b ∷ bs) is whole = by (b == 45) refl is whole
  where
    by : (dash : Bool) → (b == 45) ≡ dash
        → (are_flag_letters (flag_letters_of_command form) (cond dash bs [])
        ≡ true) ⊎ (is_some (setting_by form (b ∷ bs) dash) ≡ true)
        → Whole (cond dash bs [] ++ letters) (λ key. cons_option (value_for key (setting_by form (b ∷ bs) dash)) (values key)) old new → (mid : GivenOptions) × (options_with_word form old (b ∷ bs) ≡ Ok mid) × Whole letters values mid new
    by true d (inl good) whole = search (rules, flags-complete)
    by true d (inr some) whole = cc
    by false d (inl good) whole = cc
    by false d (inr some) whole = search (rules, pair-complete)

-- options, made of their parts
abbrev of_fields : Flags → Option (List ℕ) → Option (List (List ℕ)) → Option (List ℕ) → Option ℕ → Option (List ℕ) → Option (List ℕ) → Option (List ℕ) → GivenOptions
of_fields flags input inputs output separator null_text table_null_text after = record { flags = flags; input = input; inputs = inputs; output = output; separator = separator; null_text = null_text; table_null_text = table_null_text; after = after }

same-options : (old new : GivenOptions) → Whole [] (λ key. []) old new → old ≡ new
same-options old new more =
    let flags = sym (flags_with_letters-none old.flags) ∙ more.flags in
    let same : of_fields old.flags old.input old.inputs old.output old.separator old.null_text old.table_null_text old.after
    ≡ of_fields new.flags new.input new.inputs new.output new.separator new.null_text new.table_null_text new.after = cc in
    same

words-complete : (form : CommandWithOptions) (words : List (List ℕ)) (old new : GivenOptions) → All (IsWord form) words
    → More form words old new → options_with_words form old words ≡ Ok new
words-complete form [] old new each more = ap Ok (same-options old new more)
words-complete form (word ∷ words) old new each more =
    let first_is : IsWord form word = each 0 word (omega arith) in
    let m = word-complete form (flat_map letters_after_dash words) (λ key. key_values form key words) old new word first_is more in
    let rest = words-complete form words m.0 new (λ i d within. each (suc i) d (omega (arith, within))) m.2 in
    ap (λ r. r >>= (λ mid. options_with_words form mid words)) m.1 ∙ rest

-- words that are read without an error give their options
pub words-read : (form : CommandWithOptions) (words : List (List ℕ)) (given : GivenOptions)
    → options_in_words form words ≡ Ok given
    → All (IsWord form) words × More form words empty_options given
words-read form words given e = words-sound form words empty_options given e

pub read-words : (form : CommandWithOptions) (words : List (List ℕ)) (given : GivenOptions) → All (IsWord form) words
    → More form words empty_options given → options_in_words form words ≡ Ok given
read-words form words given each more = words-complete form words empty_options given each more
