-- Words of a command line, words of grids, and calls that returned no value.
use Rattle.std.proofs.Common.{Result, Ok, Err, MatchResult, if◌then◌else◌, Bor, Bool, List, ℕ, ◌≡◌, ◌||◌, ◌+◌, ◌<◌}
use Rattle.std.proofs.Common.{◌∷◌, ◌++◌, [], ◌∙◌, ap, true, false, refl, not, nat_lt, length, drop, arith}
use Rattle.std.proofs.Common.{get_or}
use Rattle.std.specs.List.{slice_index_or}
use Rattle.std.proofs.lemmas.Bool.Decides.{nat_tests}
use Rattle.std.proofs.lemmas.List.{drop_more}
use Rattle.clap.specs.Walk.{Text, texts}
use Rattle.rcell_command.proofs.ProcessLemmas.{text_at}
use Rattle.rcell_command.specs.CommandWords.{begins_with_hyphen, has_word_starting_with_hyphen, is_valid_command_line}
use Rattle.rcell_program.specs.CommandLine.{place_of_first_bad_grid_word, words_of_grid_names_and_paths}
use Rattle.rcell_program.specs.CommandLine.{is_grid_argument, words_are_usage_error}

pub or_true : (b : Bool) → (b || true) ≡ true
or_true true = refl
or_true false = refl

apart : {X : Type 0} → false ≡ true → X
apart bad = cc

from_not : (b c : Bool) → not b ≡ c → b ≡ not c
from_not true c is = ap not is
from_not false c is = ap not is

-- fewer than two words, or a first word that begins with a hyphen, are a misuse
pub too_few : (words : List Text) → is_valid_command_line words ≡ false → words_are_usage_error words ≡ true
too_few [] bad = refl
too_few (word ∷ []) bad = or_true (has_word_starting_with_hyphen (word ∷ []))
too_few (first ∷ word ∷ words) bad =
    let flagged : begins_with_hyphen first ≡ true = from_not _ false bad in
    rw flagged refl

-- a later word that begins with a hyphen is a misuse
pub flagged : (first : Text) (rest : List Text) → has_word_starting_with_hyphen rest ≡ true
    → words_are_usage_error (first ∷ rest) ≡ true
flagged first rest is =
    ap (λ some. (begins_with_hyphen first || some) || nat_lt (length (first ∷ rest)) 2) is
    ∙ ap (λ some. some || nat_lt (length (first ∷ rest)) 2) (or_true (begins_with_hyphen first))

pub well_used : (first : Text) (rest : List Text) → is_valid_command_line (first ∷ rest) ≡ true
    → has_word_starting_with_hyphen rest ≡ false
    → words_are_usage_error (first ∷ rest) ≡ false
well_used first [] good plain = apart good
well_used first (word ∷ words) good plain =
    let first_plain : begins_with_hyphen first ≡ false = from_not _ true good in
    let enough : nat_lt (length (first ∷ word ∷ words)) 2 ≡ false = grind (arith, nat_tests) in
    rw (first_plain, plain, enough) refl

pub when_ok : {X : Type 0} (ok : Bool) {z : X} (x y : X) → true ≡ ok → z ≡ (if ok then x else y) → z ≡ x
when_ok true x y taken is = is
when_ok false x y taken is = cc

-- a result that reports an error comes from a call that failed
pub made_reported : {T E F : Type 0} {Q : E → Type 0} {P : Type 0} (r : Result T E) (y : F)
    → MatchResult r (λ x. ◌≡◌ {A = Result T F} (Err y) (Ok x)) Q → ((e : E) → Q e → P) → P
made_reported (Ok x) y is f = cc
made_reported (Err e) y is f = f e is

pub grid_words_more : (names paths : List Text) (name path : Text) → length names ≡ length paths
    → words_of_grid_names_and_paths (names ++ name ∷ []) (paths ++ path ∷ [])
    ≡ words_of_grid_names_and_paths names paths ++ (name ++ 61 ∷ path) ∷ []
grid_words_more [] [] name path same = refl
grid_words_more [] (p ∷ ps) name path same = cc
grid_words_more (n ∷ ns) [] name path same = cc
grid_words_more (n ∷ ns) (p ∷ ps) name path same =
    ap (λ rest. (n ++ 61 ∷ p) ∷ rest) (grid_words_more ns ps name path (omega arith))

pub first_bad_next : (place : ℕ) (words : List (Bor Text)) (i : ℕ) (word : Bor Text) → i < length words
    → is_grid_argument (slice_index_or words i word).now ≡ true
    → place_of_first_bad_grid_word place (texts (drop i words))
    ≡ place_of_first_bad_grid_word (place + 1) (texts (drop (i + 1) words))
first_bad_next place words i word within good =
    ap (λ left. place_of_first_bad_grid_word place (texts left)) (drop_more words i word within) ∙ rw good refl

-- the text of a word at a place is the text at that place
pub word_at : (words : List (Bor Text)) (i : ℕ) (word : Bor Text) (none : Text) → word ≡ slice_index_or words i word →
    i < length words → word.now ≡ get_or (texts words) i none
word_at words i word none is within = ap (λ (w : Bor Text). w.now) is ∙ text_at words i word none within
