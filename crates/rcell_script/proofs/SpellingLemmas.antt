-- The reading of a line without an error, and what the line spells.
use Rattle.std.proofs.Common.{◌≡◌, ℕ, ◌≤◌, Bool, true, false, cond, List, [], ◌∷◌, length, Option, Some, None, Result, Ok, Err, inl, inr, codes, refl, ap, sym, ◌∙◌, subst, rules}
use Rattle.std.specs.Prelude.{◌⊎◌, ◌&&◌, ◌||◌, is_some, bytes_eq, unwrap_or}
use Rattle.std.specs.Cmp.Lexicographic.{bytes_decides}
use Rattle.std.specs.List.{flat_map}
use Rattle.std.proofs.lemmas.Bool.{ltb-false}
use Rattle.cell_ascii_meaning.specs.Header.{usual_null_text}
use Rattle.cell_core_values.specs.Name.{place_of_name}
use Rattle.cell_stats_combinations.specs.Combinations.{Combination}
use Rattle.cell_stats_combinations.specs.ComboText.{SpellsCombination}
use Rattle.cell_stats_combinations.proofs.ReadingLemmas.{combinations-are-read}
use Rattle.cell_core_values.specs.Answers.{◌>>=◌}
use Rattle.cell_core_values.specs.Words.{words_of_line}
use Rattle.rcell_script.specs.Commands.{meaning_of_single_line_command, meaning_of_reclass_head, meaning_by_command_name, meaning_of_line_words, is_mapcalc_line, IsLineMeaning, clump_command_of_words, IsMapcalcLineMeaning, out_ascii_command_of_words, reclass_input_and_output, combination_in_after_option, stats_options_of_given_options, stats_command_of_words}
use Rattle.rcell_script.specs.ScriptFaults.{option_result_as_script_result}
use Rattle.rcell_script.specs.Skipped.{IsSkippedLine}
use Rattle.rcell_script.specs.Options.{letters_after_dash, values_of_key_in_words, SpellsOptionalValue, SpellsMapNames}
use Rattle.rcell_script.specs.Maps.{input_place_and_output_name, input_map_place, input_map_places}
use Rattle.rcell_script.specs.InputPlaces.{places_of_map_names}
use Rattle.rcell_script.specs.OptionReading.{GivenOptions, has_conflicting_options, empty_flags, flags_with_letters}
use Rattle.rcell_script.specs.OptionReading.{options_in_words}
use Rattle.rcell_script.specs.RClump.{joining_of_corner_flag, SpellsClumpCommand}
use Rattle.rcell_script.specs.RStats.{skip_of_null_flags, SpellsStatsCommand}
use Rattle.rcell_script.specs.RReclass.{SpellsReclassCommand}
use Rattle.rcell_script.specs.ROutAscii.{SpellsOutAsciiCommand}
use Rattle.rcell_script.specs.CommandSpelling.{SpellsCommand}
use Rattle.rcell_script.specs.declared.script_fault.ScriptKind.{ScriptKind}
use Rattle.rcell_script.specs.declared.script_fault.ScriptKind.TheVariants.{UnknownCommand}
use Rattle.rcell_script.specs.declared.heads.ScriptLineMeaning.{ScriptLineMeaning}
use Rattle.rcell_script.specs.declared.heads.ScriptLineMeaning.TheVariants.{Skipped, Whole, Opened}
use Rattle.rcell_script.specs.declared.option_fault.OptionFault.{OptionFault}
use Rattle.rcell_script.specs.declared.options.CommandWithOptions.TheVariants as form
use Rattle.rcell_script.specs.declared.command.Command.{Command}
use Rattle.rcell_script.specs.declared.command.Command.TheVariants.{Mapcalc, Reclass, Clump, Stats, OutAscii}
use Rattle.rcell_script.specs.declared.command.StatsOptions.{StatsOptions}
use Rattle.rcell_script.specs.declared.options.Flags.{Flags}
use Rattle.cell_stats_combinations.specs.declared.skip.Skip.{Skip}
use Rattle.rcell_script.proofs.OptionLaw.{AreOptions, options-sound, options-complete}
use Rattle.rcell_script.proofs.SkippedLemmas.{say_nothing, say_nothing-trimmed}

-- a choice of two values equals one of them, depending on the test
either : {A : Type 0} (b : Bool) (x y z : A) → cond b x y ≡ z → ((b ≡ true) × (x ≡ z)) ⊎ ((b ≡ false) × (y ≡ z))
either true x y z e = inl (refl, e)
either false x y z e = inr (refl, e)

named : (name text : List ℕ) → bytes_eq name text ≡ true → name ≡ text
named name text e = (bytes_decides name text).0 e

-- ---- options

-- the flags in the words
abbrev flags_in : List (List ℕ) → Flags
flags_in words = flags_with_letters empty_flags (flat_map letters_after_dash words)

-- the source map and the target name of r.reclass and r.clump
record Maker (known : List (List ℕ)) (given : GivenOptions) (place : ℕ) (target : List ℕ) : Type 0 where
  input : List ℕ
  input_is : given.input ≡ Some input
  read : place_of_name input known ≡ Some place
  output_is : given.output ≡ Some target
  made : place_of_name target known ≡ None

input_place_and_output_name-sound : (known : List (List ℕ)) (given : GivenOptions) (maps : ℕ × List ℕ)
    → input_place_and_output_name known given ≡ Ok maps
    → Maker known given maps.0 maps.1
input_place_and_output_name-sound known given maps e = search rules

input_place_and_output_name-complete : (known : List (List ℕ)) (given : GivenOptions) (place : ℕ) (target : List ℕ)
    → Maker known given place target → input_place_and_output_name known given ≡ Ok (place, target)
input_place_and_output_name-complete known given place target maps = rw
    (maps.input_is, maps.output_is, maps.read, maps.made) refl

-- a step that follows a result without an error
record Went {A B E : Type 0} (next : A → Result B E) (first : Result A E) (last : B) : Type 0 where
  value : A
  is : first ≡ Ok value
  goes : next value ≡ Ok last

went : {A B E : Type 0} (next : A → Result B E) (first : Result A E) (last : B) → (first >>= next) ≡ Ok last
    → Went next first last
went next (Ok value) last e = record { value = value; is = refl; goes = e }
went next (Err kind) last e = cc

-- a result without an error in a script is a result without an error
option_result_as_script_result-ok : {A : Type 0} (r : Result A OptionFault) (x : A)
    → option_result_as_script_result r ≡ Ok x → r ≡ Ok x
option_result_as_script_result-ok (Ok y) x e = let same : y ≡ x = cc in ap Ok same
option_result_as_script_result-ok (Err fault) x e = cc

-- ---- r.reclass

reclass-sound : (known : List (List ℕ)) (line : List ℕ) (words : List (List ℕ)) (maps : ℕ × List ℕ)
    → words_of_line line ≡ codes "r.reclass" ∷ words
    → reclass_input_and_output known words ≡ Ok maps → SpellsReclassCommand known line maps.0 maps.1
reclass-sound known line words maps is e = search (
  rules,
  went,
  options-sound,
  input_place_and_output_name-sound,
  named,
  codes,
)

-- the options that r.reclass and r.clump accept
abbrev maker_given : List (List ℕ) → List ℕ → List ℕ → GivenOptions
maker_given words input target =
    record { flags = flags_in words; input = Some input; inputs = None; output = Some target; separator = None; null_text = None; table_null_text = None; after = None }

reclass-complete : (known : List (List ℕ)) (line : List ℕ) (place : ℕ) (target : List ℕ) (s : SpellsReclassCommand known line place target) → reclass_input_and_output known s.words ≡ Ok (place, target)
reclass-complete known line place target s =
    let m = s.maps in
    let are : AreOptions form.Reclass s.words (maker_given s.words m.input target) = record {
      each = m.each;
      flags = refl;
      input = m.input_is;
      inputs = refl;
      output = m.output_is;
      separator = refl;
      null_text = refl;
      table_null_text = refl;
      after = refl;
    } in
    ap (λ r. r >>= input_place_and_output_name known) (options-complete form.Reclass s.words
    (maker_given s.words m.input target) are)
    ∙ input_place_and_output_name-complete known (maker_given s.words m.input target) place target (record { input = m.input; input_is = refl; read = m.read; output_is = refl; made = m.made })

-- ---- r.clump

clump-sound : (known : List (List ℕ)) (line : List ℕ) (words : List (List ℕ)) (command : Command)
    → words_of_line line ≡ codes "r.clump" ∷ words
    → clump_command_of_words known words ≡ Ok command → SpellsCommand known line command
clump-sound known line words command is e = search (
  rules,
  went,
  options-sound,
  input_place_and_output_name-sound,
  named,
  codes,
)

clump-complete : (known : List (List ℕ)) (line : List ℕ) (place : ℕ) (target : List ℕ) (joining : _) (s : SpellsClumpCommand known line place target joining) → clump_command_of_words known s.words ≡ Ok (Clump place target joining)
clump-complete known line place target joining s =
    let m = s.maps in
    let are : AreOptions form.Clump s.words (maker_given s.words m.input target) = record {
      each = m.each;
      flags = refl;
      input = m.input_is;
      inputs = refl;
      output = m.output_is;
      separator = refl;
      null_text = refl;
      table_null_text = refl;
      after = refl;
    } in
    ap (λ r. r >>= (λ given. input_place_and_output_name known given >>= (λ maps. Ok (Clump maps.0 maps.1 (joining_of_corner_flag given.flags.corners))))) (options-complete form.Clump s.words (maker_given s.words m.input target) are)
    ∙ ap (λ r. r >>= (λ maps. Ok (Clump maps.0 maps.1 (joining_of_corner_flag (flags_in s.words).corners))))
    (input_place_and_output_name-complete known (maker_given s.words m.input target) place target (record { input = m.input; input_is = refl; read = m.read; output_is = refl; made = m.made }))
    ∙ ap (λ j. Ok (Clump place target j)) s.joining_is

-- ---- r.stats

-- the values of `after` spell a combination
abbrev IsAfter : ℕ → List (List ℕ) → Option Combination → Type 0
IsAfter width values after = SpellsOptionalValue (λ value cells. (length cells ≡ width) × SpellsCombination value cells) values after

abbrev IsGivenText : List (List ℕ) → Option (List ℕ) → Type 0
IsGivenText values text = SpellsOptionalValue (λ value text. value ≡ text) values text

after-sound : (width : ℕ) (values : List (List ℕ)) (text : Option (List ℕ)) (after : Option Combination)
    → IsGivenText values text → combination_in_after_option width text ≡ Ok after → IsAfter width values after
after-sound width values None None none e = none
after-sound width values None (Some combination) none e = let f : None ≡ Some combination = cc in cc
after-sound width values (Some text) after (value, is, same) e = search (rules, combinations-are-read)

-- without a text there is no combination
after-none : (width : ℕ) (text : Option (List ℕ)) (after : Option Combination) → is_some text ≡ false
    → combination_in_after_option width text ≡ Ok after → after ≡ None
after-none width None None e f = refl
after-none width None (Some combination) e f = let g : None ≡ Some combination = cc in cc
after-none width (Some text) after e f = cc

-- the text of `after`, which spells the combination
record AfterText (width : ℕ) (values : List (List ℕ)) (after : Option Combination) : Type 0 where
  text : Option (List ℕ)
  is : IsGivenText values text
  read : combination_in_after_option width text ≡ Ok after
  none : after ≡ None → is_some text ≡ false

after-complete : (width : ℕ) (values : List (List ℕ)) (after : Option Combination) → IsAfter width values after
    → AfterText width values after
after-complete width values None none = record { text = None; is = none; read = refl; none = λ e. refl }
after-complete width values (Some combination) (value, is, spells) = record { text = Some value; is = (value, is, refl); read = rw ((combinations-are-read width value combination).1 spells) refl; none = λ e. cc }

-- with the flag for cells, neither counts nor a combination is given
torn-no : (cells counts some : Bool) → (cells && (counts || some)) ≡ false → cells ≡ true
    → (counts ≡ false) × (some ≡ false)
torn-no true false false e c = (refl, refl)
torn-no true true some e c = cc
torn-no true false true e c = cc
torn-no false counts some e c = cc

no-torn : (cells counts some : Bool) → (cells ≡ true → (counts ≡ false) × (some ≡ false))
    → (cells && (counts || some)) ≡ false
no-torn false counts some h = refl
no-torn true counts some h = let b = h refl in rw (b.0, b.1) refl

-- the inputs at these places
record Placed (known : List (List ℕ)) (given : GivenOptions) (places : List ℕ) : Type 0 where
  inputs : List (List ℕ)
  inputs_are : given.inputs ≡ Some inputs
  read : places_of_map_names known inputs ≡ Some places
  together : has_conflicting_options given ≡ false

input_map_places-sound : (known : List (List ℕ)) (given : GivenOptions) (places : List ℕ)
    → input_map_places known given ≡ Ok places
    → Placed known given places
input_map_places-sound known given places e = search rules

input_map_places-complete : (known : List (List ℕ)) (given : GivenOptions) (inputs : List (List ℕ)) (places : List ℕ)
    → given.inputs ≡ Some inputs → has_conflicting_options given ≡ false
    → places_of_map_names known inputs ≡ Some places
    → input_map_places known given ≡ Ok places
input_map_places-complete known given inputs places i t p = rw (i, t, p) refl

abbrev stats_at : GivenOptions → List ℕ → Result Command ScriptKind
stats_at given places = do
  after ← combination_in_after_option (length places) given.after
  Ok (Stats places (stats_options_of_given_options given after))

abbrev stats_with : List (List ℕ) → GivenOptions → Result Command ScriptKind
stats_with known given = do
  places ← option_result_as_script_result (input_map_places known given)
  stats_at given places

stats-sound : (known : List (List ℕ)) (line : List ℕ) (words : List (List ℕ)) (command : Command)
    → words_of_line line ≡ codes "r.stats" ∷ words
    → stats_command_of_words known words ≡ Ok command → SpellsCommand known line command
stats-sound known line words command is e =
    let w = went (stats_with known) (option_result_as_script_result (options_in_words form.Stats words)) command e in
    let v = went (stats_at w.value) (option_result_as_script_result (input_map_places known w.value)) command w.goes in
    let with_places = input_map_places-sound known w.value v.value (option_result_as_script_result-ok (input_map_places known w.value) v.value v.is) in
    let u = went (λ after. Ok (Stats v.value (stats_options_of_given_options w.value after))) (combination_in_after_option (length v.value) w.value.after) command v.goes in
    let are = options-sound form.Stats words w.value (option_result_as_script_result-ok
    (options_in_words form.Stats words) w.value w.is) in
    let same : Stats v.value (stats_options_of_given_options w.value u.value) ≡ command = let g = u.goes in cc in
    subst (λ c. SpellsCommand known line c) same (record {
      words = words;
      named = is;
      each = are.each;
      inputs = with_places.inputs;
      inputs_are = subst (λ o. SpellsOptionalValue SpellsMapNames (values_of_key_in_words (codes "input") words) o) with_places.inputs_are are.inputs;
      read = with_places.read;
      skip = ap (λ (flags : Flags). skip_of_null_flags flags.no_null flags.no_all_null) are.flags;
      labels = ap (λ (flags : Flags). flags.labels) are.flags;
      counts = ap (λ (flags : Flags). flags.counts) are.flags;
      cells = ap (λ (flags : Flags). flags.cells) are.flags;
      separator = (w.value.separator, are.separator, refl);
      null_text = (w.value.table_null_text, are.table_null_text, refl);
      after = after-sound (length v.value) (values_of_key_in_words
          (codes "after") words) w.value.after u.value are.after u.is;
      together = λ cells. let t = torn-no w.value.flags.cells w.value.flags.counts (is_some w.value.after) with_places.together cells in
          (t.0, after-none (length v.value) w.value.after u.value t.1 u.is);
    })

stats-read : (known words : List (List ℕ)) (given : GivenOptions) (places : List ℕ) (after : Option Combination)
    → options_in_words form.Stats words ≡ Ok given → input_map_places known given ≡ Ok places
    → combination_in_after_option (length places) given.after ≡ Ok after
    → stats_command_of_words known words ≡ Ok (Stats places (stats_options_of_given_options given after))
stats-read known words given places after o p a = search rules

printed-same : (options : StatsOptions) (skip : Skip) (labels counts cells : Bool) (separator : ℕ) (null_text : List ℕ) → skip ≡ options.skip → labels ≡ options.labels → counts ≡ options.counts
    → cells ≡ options.cells → separator ≡ options.separator → null_text ≡ options.null_text
    → ◌≡◌ {A = StatsOptions} (record { skip = skip; labels = labels; counts = counts; cells = cells; separator = separator; null_text = null_text; after = options.after }) options
printed-same options skip labels counts cells separator null_text a b c d e f = rw (a, b, c, d, e, f) refl

stats-complete : (known : List (List ℕ)) (line places : List ℕ) (options : StatsOptions) (s : SpellsStatsCommand known line places options) → stats_command_of_words known s.words ≡ Ok (Stats places options)
stats-complete known line places options s =
    let t = after-complete (length places) (values_of_key_in_words (codes "after") s.words) options.after s.after in
    let flags = flags_in s.words in
    let given : GivenOptions = record { flags = flags; input = None; inputs = Some s.inputs; output = None; separator = s.separator.0; null_text = None; table_null_text = s.null_text.0; after = t.text } in
    let are : AreOptions form.Stats s.words given = record {
      each = s.each;
      flags = refl;
      input = refl;
      inputs = s.inputs_are;
      output = refl;
      separator = s.separator.1;
      null_text = refl;
      table_null_text = s.null_text.1;
      after = t.is;
    } in
    let torn = no-torn flags.cells flags.counts (is_some t.text) (λ cells. let b = s.together (sym s.cells ∙ cells) in (s.counts ∙ b.0, t.none b.1)) in
    let read = stats-read known s.words given places options.after (options-complete form.Stats s.words given are) (input_map_places-complete known given s.inputs places refl torn s.read) t.read in
    read ∙ ap (λ o. Ok (Stats places o)) (printed-same options _ _ _ _ _ _ s.skip s.labels s.counts s.cells s.separator.2 s.null_text.2)

-- ---- r.out.ascii

-- the input at this place
record Found (known : List (List ℕ)) (given : GivenOptions) (place : ℕ) : Type 0 where
  input : List ℕ
  input_is : given.input ≡ Some input
  read : place_of_name input known ≡ Some place

input_map_place-sound : (known : List (List ℕ)) (given : GivenOptions) (place : ℕ)
    → input_map_place known given ≡ Ok place
    → Found known given place
input_map_place-sound known given place e = search rules

input_map_place-complete : (known : List (List ℕ)) (given : GivenOptions) (input : List ℕ) (place : ℕ)
    → given.input ≡ Some input → place_of_name input known ≡ Some place → input_map_place known given ≡ Ok place
input_map_place-complete known given input place i p = rw (i, p) refl

out_ascii-sound : (known : List (List ℕ)) (line : List ℕ) (words : List (List ℕ)) (command : Command)
    → words_of_line line ≡ codes "r.out.ascii" ∷ words
    → out_ascii_command_of_words known words ≡ Ok command → SpellsCommand known line command
out_ascii-sound known line words command is e = search (rules, went, input_map_place-sound, options-sound, named, codes)

out_ascii-complete : (known : List (List ℕ)) (line : List ℕ) (place : ℕ) (null_text : List ℕ) (s : SpellsOutAsciiCommand known line place null_text) → out_ascii_command_of_words known s.words ≡ Ok (OutAscii place null_text)
out_ascii-complete known line place null_text s =
    let given : GivenOptions = record { flags = flags_in s.words; input = Some s.input; inputs = None; output = None; separator = None; null_text = s.null_is.0; table_null_text = None; after = None } in
    let are : AreOptions form.OutAscii s.words given = record {
      each = s.each;
      flags = refl;
      input = s.input_is;
      inputs = refl;
      output = refl;
      separator = refl;
      null_text = s.null_is.1;
      table_null_text = refl;
      after = refl;
    } in
    ap (λ r. r >>= (λ given. input_map_place known given >>= (λ place. Ok (OutAscii place (unwrap_or given.null_text usual_null_text))))) (options-complete form.OutAscii s.words given are)
    ∙ ap (λ r. r >>= (λ place. Ok (OutAscii place (unwrap_or s.null_is.0 usual_null_text)))) (input_map_place-complete known given s.input place refl s.read)
    ∙ ap (λ n. Ok (OutAscii place n)) s.null_is.2

-- ---- r.mapcalc

-- ---- lines

-- the meaning of a line, by its kind
abbrev pub Says : List (List ℕ) → List ℕ → ScriptLineMeaning → Type 0
Says known line Skipped = IsSkippedLine line
Says known line (Whole command) = SpellsCommand known line command
Says known line (Opened place target) = SpellsReclassCommand known line place target

whole-sound : (known : List (List ℕ)) (line : List ℕ) (head : ScriptLineMeaning) (read : Result Command ScriptKind)
    → meaning_of_single_line_command read ≡ Ok head
    → ((command : Command) → read ≡ Ok command → SpellsCommand known line command) → Says known line head
whole-sound known line head (Err kind) e spells = cc
whole-sound known line head (Ok command) e spells = let same : Whole command ≡ head = cc in subst (λ h. Says known line h) same (spells command refl)

opened-sound : (known : List (List ℕ)) (line : List ℕ) (head : ScriptLineMeaning) (read : Result (ℕ
    × List ℕ) ScriptKind)
    → meaning_of_reclass_head read ≡ Ok head
    → ((maps : ℕ × List ℕ) → read ≡ Ok maps → SpellsReclassCommand known line maps.0 maps.1) → Says known line head
opened-sound known line head (Err kind) e spells = cc
opened-sound known line head (Ok maps) e spells = let same : Opened maps.0 maps.1 ≡ head = cc in subst (λ h. Says known line h) same (spells maps refl)

renamed : (line w name : List ℕ) (ws : List (List ℕ)) → words_of_line line ≡ w ∷ ws → bytes_eq w name ≡ true
    → words_of_line line ≡ name ∷ ws
renamed line w name ws is e = is ∙ ap (λ n. n ∷ ws) (named w name e)

named-sound : (known : List (List ℕ)) (line : List ℕ) (w : List ℕ) (ws : List (List ℕ)) (head : ScriptLineMeaning)
    → words_of_line line ≡ w ∷ ws → meaning_by_command_name known w ws ≡ Ok head → Says known line head
named-sound known line w ws head is e =
    by (bytes_eq w (codes "r.stats")) (bytes_eq w (codes "r.out.ascii")) (bytes_eq w (codes "r.clump")) (bytes_eq w (codes "r.reclass")) refl refl refl refl e
  where
    by : (stats out_ascii clump reclass : Bool) → bytes_eq w (codes "r.stats") ≡ stats
        → bytes_eq w (codes "r.out.ascii") ≡ out_ascii
        → bytes_eq w (codes "r.clump") ≡ clump → bytes_eq w (codes "r.reclass") ≡ reclass
        → cond stats (meaning_of_single_line_command (stats_command_of_words known ws))
        (cond out_ascii (meaning_of_single_line_command (option_result_as_script_result
        (out_ascii_command_of_words known ws)))
        (cond clump (meaning_of_single_line_command (option_result_as_script_result (clump_command_of_words known ws))) (cond reclass (meaning_of_reclass_head (option_result_as_script_result (reclass_input_and_output known ws))) (Err UnknownCommand)))) ≡ Ok head
        → Says known line head
    by true out_ascii clump reclass s o c r f =
        whole-sound known line head (stats_command_of_words known ws) f (λ command g. stats-sound known line ws command (renamed line w (codes "r.stats") ws is s) g)
    by false true clump reclass s o c r f =
        whole-sound known line head (option_result_as_script_result (out_ascii_command_of_words known ws)) f (λ command g. out_ascii-sound known line ws command (renamed line w (codes "r.out.ascii") ws is o) (option_result_as_script_result-ok (out_ascii_command_of_words known ws) command g))
    by false false true reclass s o c r f =
        whole-sound known line head (option_result_as_script_result (clump_command_of_words known ws)) f (λ command g. clump-sound known line ws command (renamed line w (codes "r.clump") ws is c) (option_result_as_script_result-ok (clump_command_of_words known ws) command g))
    by false false false true s o c r f =
        opened-sound known line head (option_result_as_script_result (reclass_input_and_output known ws)) f (λ maps g. reclass-sound known line ws maps (renamed line w (codes "r.reclass") ws is r) (option_result_as_script_result-ok (reclass_input_and_output known ws) maps g))
    by false false false false s o c r f = cc

nothing-sound : (known : List (List ℕ)) (line : List ℕ) (head : ScriptLineMeaning) (ws : List (List ℕ))
    → words_of_line line ≡ ws
    → say_nothing ws ≡ true → ◌≡◌ {A = Result ScriptLineMeaning ScriptKind} (Ok Skipped) (Ok head)
    → Says known line head
nothing-sound known line head ws is e f = search (rules, say_nothing-trimmed, say_nothing)

words-sound : (known : List (List ℕ)) (line : List ℕ) (head : ScriptLineMeaning) (ws : List (List ℕ))
    → words_of_line line ≡ ws
    → meaning_of_line_words known ws ≡ Ok head → Says known line head
words-sound known line head [] is e = nothing-sound known line head [] is refl e
words-sound known line head (w ∷ ws) is e = search (rules, either, nothing-sound, named-sound)

mapcalc-sound : (known : List (List ℕ)) (line : List ℕ) (head : ScriptLineMeaning) (ws : List (List ℕ))
    → words_of_line line ≡ ws
    → is_mapcalc_line ws ≡ true → IsMapcalcLineMeaning known line (Ok head) → Says known line head
mapcalc-sound known line head [] is m h = cc
mapcalc-sound known line head (w ∷ ws) is m (inr (fault, reported, other, e)) = cc
mapcalc-sound known line head (w ∷ ws) is m (inl (a, assigned, e)) = search rules

-- a line that is read without an error means what was read
pub head-says : (known : List (List ℕ)) (line : List ℕ) (head : ScriptLineMeaning) → IsLineMeaning known line (Ok head)
    → (length line ≤ 65535) × Says known line head
head-says known line head h = search (rules, mapcalc-sound, words-sound, ltb-false)

-- a line whose first word is not `r.mapcalc` is read by its words
other-head : (known : List (List ℕ)) (line : List ℕ) (head : Result ScriptLineMeaning ScriptKind) (ws : List (List ℕ))
    → length line ≤ 65535 → words_of_line line ≡ ws → is_mapcalc_line ws ≡ false
    → meaning_of_line_words known ws ≡ head → IsLineMeaning known line head
other-head known line head ws s is m e = search rules

nothing-mapcalc : (ws : List (List ℕ)) → say_nothing ws ≡ true → is_mapcalc_line ws ≡ false
nothing-mapcalc [] e = refl
nothing-mapcalc (w ∷ ws) e = search rules

nothing-head : (known : List (List ℕ)) (ws : List (List ℕ)) → say_nothing ws ≡ true
    → meaning_of_line_words known ws ≡ Ok Skipped
nothing-head known [] e = refl
nothing-head known (w ∷ ws) e = rw e refl

-- a line is read as what it means
pub says-head : (known : List (List ℕ)) (line : List ℕ) (head : ScriptLineMeaning) → length line ≤ 65535
    → Says known line head
    → IsLineMeaning known line (Ok head)
says-head known line Skipped s says =
    let e : say_nothing (words_of_line line) ≡ true = say_nothing-trimmed line ∙ says in
    other-head known line (Ok Skipped) (words_of_line line) s refl (nothing-mapcalc (words_of_line line) e) (nothing-head known (words_of_line line) e)
says-head known line (Whole (Mapcalc target bound)) s says = search rules
says-head known line (Whole (Reclass place target rules)) s says = absurd says
says-head known line (Whole (Clump place target joining)) s says =
    other-head known line (Ok (Whole (Clump place target joining))) (codes "r.clump" ∷ says.words) s says.named refl (ap (λ r. meaning_of_single_line_command (option_result_as_script_result r)) (clump-complete known line place target joining says))
says-head known line (Whole (Stats places options)) s says = search (rules, other-head, codes, named, stats-complete)
says-head known line (Whole (OutAscii place null_text)) s says =
    other-head known line (Ok (Whole (OutAscii place null_text))) (codes "r.out.ascii" ∷ says.words) s says.named refl (ap (λ r. meaning_of_single_line_command (option_result_as_script_result r)) (out_ascii-complete known line place null_text says))
says-head known line (Opened place target) s says = search (rules, other-head, codes, named, reclass-complete)
