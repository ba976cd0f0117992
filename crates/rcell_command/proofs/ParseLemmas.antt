-- The values that clap finds among words whose first word does not begin with a hyphen.
use Rattle.std.proofs.Common.{◌≡◌, ◌&&◌, ◌≤◌, nat_le, ◌∷◌, ◌++◌, ◌∙◌, ap, ap₂, sym, Bool, List, []}
use Rattle.std.proofs.Common.{Some, None, true, false, not, refl, is_some, length, codes, drop, arith}
use Rattle.std.specs.List.{fold, list_all}
use Rattle.std.specs.Str.{bytes_eq}
use Rattle.std.proofs.lemmas.Bool.Decides.{nat_tests}
use Rattle.std.proofs.lemmas.List.{append_assoc, append-nil}
use Rattle.clap.specs.Lexer.{long_of, short_of, usize_max}
use Rattle.clap.specs.Walk.{Row, Rule, Text, Walk, finished, idle, nothing_held, positional, walk, walk_from, walked}
use Rattle.clap.specs.Simple.{Shape, built, entered}
use Rattle.clap.specs.Takes.{default_passes, entered_passes, is_valid, settle_passes, takes, turn_passes, walk_passes}
use Rattle.clap.specs.Words.{all_of, first_of, is_simple, matches_of}
use Rattle.clap.specs.declared.builder.value_parser.Reading.TheVariants.{AsWritten}
use Rattle.clap.specs.declared.parser.matches.ValueSource.TheVariants.{CommandLine}
use Rattle.rcell_command.specs.CommandWords.{begins_with_hyphen, is_valid_command_line}
use Rattle.rcell_command.specs.parts.ClapWords.{clap_command_line}

-- the rules of the command, which do not depend on the program's name
abbrev rules : List Rule
rules = (built (clap_command_line [])).top.rules

abbrev first_row : Text → Row
first_row first = record {
  id = codes "FIRST";
  values = first ∷ [];
  count = None;
  source = Some CommandLine;
  reading = AsWritten;
}

abbrev rest_row : List Text → Row
rest_row rest = record {
  id = codes "REST";
  values = rest;
  count = None;
  source = Some CommandLine;
  reading = AsWritten;
}

-- the state of the walk after the first word
abbrev after_first : Text → Walk
after_first first = record {
  held = record { rows = []; pending = Some (codes "FIRST", first ∷ []); skip = 0 };
  waiting = idle;
  position = 2;
  is_trailing = true;
  stopped = None;
}

-- the state of the walk after the first word and some further words
abbrev at_rest : Text → List Text → Walk
at_rest first rest = record {
  held = record { rows = first_row first ∷ []; pending = Some (codes "REST", rest); skip = 0 };
  waiting = positional;
  position = 2;
  is_trailing = true;
  stopped = None;
}

not_dashes : (word : Text) → begins_with_hyphen word ≡ false → bytes_eq word (45 ∷ 45 ∷ []) ≡ false
not_dashes [] plain = refl
not_dashes (byte ∷ rest) plain = rw plain refl

no_long : (word : Text) → begins_with_hyphen word ≡ false → long_of word ≡ None
no_long [] plain = refl
no_long (byte ∷ rest) plain = rw plain refl

no_short : (word : Text) → begins_with_hyphen word ≡ false → short_of word ≡ None
no_short [] plain = refl
no_short (byte ∷ rest) plain = rw plain refl

pub is_simple_line : (program : Text) → is_simple (clap_command_line program) ≡ true
is_simple_line program = refl

apart : {X : Type 0} → false ≡ true → X
apart bad = cc

pub by_contradiction : (b : Bool) → (b ≡ true → ⊥) → b ≡ false
by_contradiction true impossible = elim (impossible refl) [ ]
by_contradiction false impossible = refl

plain_of : (b : Bool) → not b ≡ true → b ≡ false
plain_of true good = apart good
plain_of false good = refl

first_walked : (word : Text) → begins_with_hyphen word ≡ false
    → walked rules [] (walk_from nothing_held) word ≡ after_first word
unfolding walked
first_walked word plain = rw (not_dashes word plain, no_long word plain, no_short word plain) refl

second_walked : (first word : Text) → walked rules [] (after_first first) word ≡ at_rest first (word ∷ [])
unfolding walked
second_walked first word = refl

word_walked : (first : Text) (rest : List Text) (word : Text) → walked rules [] (at_rest first rest) word
    ≡ at_rest first (rest ++ word ∷ [])
unfolding walked
word_walked first rest word = refl

words_walked : (first : Text) (rest words : List Text) → fold (walked rules []) (at_rest first rest) words
    ≡ at_rest first (rest ++ words)
words_walked first rest [] = ap (at_rest first) (sym (append-nil rest))
words_walked first rest (word ∷ words) =
    ap (λ w. fold (walked rules []) w words) (word_walked first rest word)
    ∙ words_walked first (rest ++ word ∷ []) words ∙ ap (at_rest first) (append_assoc rest (word ∷ []) words)

walk_is : (first second : Text) (rest : List Text) → begins_with_hyphen first ≡ false
    → walk rules [] nothing_held (first ∷ second ∷ rest) ≡ at_rest first (second ∷ rest)
walk_is first second rest plain =
    ap (λ w. fold (walked rules []) (walked rules [] w second) rest) (first_walked first plain)
    ∙ ap (λ w. fold (walked rules []) w rest) (second_walked first second) ∙ words_walked first (second ∷ []) rest

matches_are : (program own first second : Text) (rest : List Text) → begins_with_hyphen first ≡ false
    → matches_of (clap_command_line program) (own ∷ first ∷ second ∷ rest) ≡ first_row first
    ∷ rest_row (second ∷ rest) ∷ []
matches_are program own first second rest plain = ap (λ w. finished rules w.held) (walk_is first second rest plain)

-- the words that clap finds are all words after the first, in order
pub words_asked : (program : Text) (words : List Text) (first : Text) (rest : List Text)
    → is_valid_command_line (drop 1 words) ≡ true
    → first_of (codes "FIRST") (matches_of (clap_command_line program) words) ≡ Some first
    → all_of (codes "REST") (matches_of (clap_command_line program) words) ≡ Some rest → drop 1 words ≡ first ∷ rest
words_asked program [] first rest good one others = apart good
words_asked program (own ∷ []) first rest good one others = apart good
words_asked program (own ∷ word ∷ []) first rest good one others = apart good
words_asked program (own ∷ word ∷ second ∷ words) first rest good one others =
    let are = matches_are program own word second words (plain_of _ good) in
    let rows = matches_of (clap_command_line program) (own ∷ word ∷ second ∷ words) in
    let first_is : first_of (codes "FIRST") rows ≡ Some word =
    ap (first_of (codes "FIRST")) are in
    let rest_is : all_of (codes "REST") rows ≡ Some (second ∷ words) =
    ap (all_of (codes "REST")) are in
    cc

-- clap finds all words if there are enough of them
pub words_found : (program : Text) (words : List Text) → is_valid_command_line (drop 1 words) ≡ true
    → (is_some (first_of (codes "FIRST") (matches_of (clap_command_line program) words)) ≡ true)
    × (is_some (all_of (codes "REST") (matches_of (clap_command_line program) words)) ≡ true)
words_found program [] good = apart good
words_found program (own ∷ []) good = apart good
words_found program (own ∷ word ∷ []) good = apart good
words_found program (own ∷ word ∷ second ∷ words) good =
    let are = matches_are program own word second words (plain_of _ good) in
    (ap (λ rows. is_some (first_of (codes "FIRST") rows)) are, ap (λ rows. is_some (all_of (codes "REST") rows)) are)

-- ---- the words that clap accepts

all_pass : (words : List Text) → list_all (λ word. true) words ≡ true
all_pass [] = refl
all_pass (word ∷ words) = all_pass words

module _ (program : Text) where
  abbrev shape : Shape
  shape = (built (clap_command_line program)).top

  rest_passes : (first : Text) (rest words : List Text) → walk_passes shape [] (at_rest first rest) words ≡ true
  unfolding walk_passes
  rest_passes first rest [] = refl
  rest_passes first rest (word ∷ words) =
      let turn : turn_passes shape [] (at_rest first rest) word ≡ true = refl in
      ap₂ (λ a b. a && b) turn (ap (λ w. walk_passes shape [] w words) (word_walked first rest word)
      ∙ rest_passes first (rest ++ word ∷ []) words)

  -- the condition on the end of the walk under which the words are accepted
  abbrev ends : List Text → Walk → Bool
  ends words end = entered_passes (built (clap_command_line program)) end.stopped
      && (walk_passes shape [] (walk_from nothing_held) words
      && (settle_passes rules shape.args_override_self end.held
      && (list_all default_passes rules && is_valid shape (finished rules end.held)
      (is_some (entered (built (clap_command_line program)) end.stopped)))))

  taken_by_end : (own : Text) (words : List Text) → ends words (walk rules [] nothing_held words) ≡ true
      → takes (clap_command_line program) (own ∷ words) ≡ true
  taken_by_end own words good = good

  walk_passed : (first second : Text) (rest : List Text) → begins_with_hyphen first ≡ false
      → walk_passes shape [] (walk_from nothing_held) (first ∷ second ∷ rest) ≡ true
  unfolding walk_passes
  walk_passed first second rest plain =
      let one : turn_passes shape [] (walk_from nothing_held) first ≡ true =
      rw (not_dashes first plain, no_long first plain, no_short first plain) refl in
      let two : turn_passes shape [] (after_first first) second ≡ true = refl in
      let others : (turn_passes shape [] (after_first first) second
      && walk_passes shape [] (walked rules [] (after_first first) second) rest) ≡ true =
      ap₂ (λ a b. a && b) two
      (ap (λ w. walk_passes shape [] w rest) (second_walked first second) ∙ rest_passes first (second ∷ []) rest) in
      ap₂ (λ a b. a && b) one
      (ap (λ w. turn_passes shape [] w second && walk_passes shape [] (walked rules [] w second) rest)
      (first_walked first plain) ∙ others)

  -- two words or more are accepted if the first does not begin with a hyphen
  pub words_taken : (words : List Text) → length words ≤ usize_max → is_valid_command_line (drop 1 words) ≡ true
      → takes (clap_command_line program) words ≡ true
  words_taken [] few good = apart good
  words_taken (own ∷ []) few good = apart good
  words_taken (own ∷ word ∷ []) few good = apart good
  words_taken (own ∷ word ∷ second ∷ words) few good =
      let plain : begins_with_hyphen word ≡ false = plain_of _ good in
      let one : nat_le 1 (length (second ∷ words)) ≡ true = grind (arith, nat_tests) in
      let most : nat_le (length (second ∷ words)) usize_max ≡ true = grind (arith, nat_tests) in
      let end : ends (word ∷ second ∷ words) (at_rest word (second ∷ words)) ≡ true =
      rw (walk_passed word second words plain, one, most, all_pass words) refl in
      taken_by_end own (word ∷ second ∷ words)
      (ap (ends (word ∷ second ∷ words)) (walk_is word second words plain) ∙ end)
