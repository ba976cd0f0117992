-- The command line as it is defined for clap.
use Rattle.std.specs.Prelude.{◌≡◌, List, ◌∷◌, true, Some, codes, drop, is_some, option_map}
use Rattle.clap.specs.Lexer.{usize_max}
use Rattle.clap.specs.Words.{App, Rule, Text, first_value, found_of, matched_of, new_app}
use Rattle.clap.specs.Words.{new_rule, raw_values, with_rule}
use Rattle.clap.specs.declared.builder.action.ArgAction.TheVariants.{Set, Append}
use Rattle.clap.specs.declared.builder.range.ValueRange.{ValueRange}
use Rattle.clap.specs.declared.parser.matches.ArgMatches.{ArgMatches}
use Rattle.rcell_command.specs.CommandWords.{is_valid_command_line}

-- the first word; the words after it may begin with hyphens
abbrev pub first_word_rule : Rule
first_word_rule = record (new_rule (codes "FIRST")) { required = true; action = Some Set; trailing_var_arg = true }

-- one or more words
abbrev pub one_or_more_words : ValueRange
one_or_more_words = record { start_inclusive = 1; end_inclusive = usize_max }

-- the words after the first
abbrev pub remaining_words_rule : Rule
remaining_words_rule = record (new_rule (codes "REST")) {
  required = true;
  action = Some Append;
  range = Some one_or_more_words;
}

-- the command line of the program with this name: one word, and then one or more words
abbrev pub clap_command_line : Text → App
clap_command_line program = with_rule (with_rule (new_app program) first_word_rule) remaining_words_rule

-- if there are enough words, clap finds all words after the program's own name, in order
pub record ClapFindsAllWords (words : List Text) (matches : ArgMatches) : Type 0 where
  pub all : (first : Text) (rest : List Text) → is_valid_command_line (drop 1 words) ≡ true
      → first_value (found_of matches) (codes "FIRST") ≡ Some first
      → option_map raw_values (matched_of (found_of matches) (codes "REST")) ≡ Some rest
      → drop 1 words ≡ first ∷ rest
  pub some : is_valid_command_line (drop 1 words) ≡ true → (is_some (first_value (found_of matches) (codes "FIRST"))
      ≡ true)
      × (is_some (option_map raw_values (matched_of (found_of matches) (codes "REST"))) ≡ true)
