use Rattle.std.proofs.Common.{Bor, refl, ap, sym, ◌≡◌, ◌∙◌, ◌∷◌, List, drop, false, map, option_map, true}
use Rattle.std.specs.String.{string_bytes}
use Rattle.std.proofs.lemmas.Result.{err_from_is_err_and}
use Rattle.clap.specs.Walk.{Text, texts}
use Rattle.rcell_command.specs.CommandWords.{has_word_starting_with_hyphen, is_valid_command_line}
use Rattle.rcell_program.specs.CommandLine.{place_of_first_bad_grid_word, grid_names_in_arguments}
use Rattle.rcell_program.specs.CommandLine.{grid_paths_in_arguments, words_are_usage_error}
use Rattle.rcell_program.specs.CommandLine.{refusal_of_words, script_path_in_arguments}
use Rattle.rcell_program.specs.declared.refusal.Refusal.TheVariants.{GridWord}
use Rattle.rcell_program.proofs.WordLemmas.{flagged, too_few, well_used}
use Rattle.rcell_program.proofs.command_words.read_request_words.Goals as goal

-- if no word of a script and its grids begins with a hyphen, only a bad grid word is rejected
used_well : (words : List Text) (script : Text) (grids : List Text) → words ≡ script ∷ grids
    → is_valid_command_line words ≡ true
    → false ≡ has_word_starting_with_hyphen grids → refusal_of_words words ≡ option_map (λ place. GridWord place)
    (place_of_first_bad_grid_word 2 grids)
used_well words script grids all good plain =
    let none : words_are_usage_error (script ∷ grids) ≡ false =
    well_used script grids (ap is_valid_command_line (sym all) ∙ good) (sym plain) in
    ap refusal_of_words all ∙ rw none refl

pub returns-in-Err-clause-refused : goal.returns-in-Err-clause-refused
returns-in-Err-clause-refused c = λ other.
    let is = c.in-Err.ensures.refused other in
    rw (too_few (drop 1 (map string_bytes c.args.words.now)) is.1, is.0) refl

pub returns-then-has_word_starting_with_hyphen-clause-refused :
    goal.returns-then-has_word_starting_with_hyphen-clause-refused
returns-then-has_word_starting_with_hyphen-clause-refused c = λ other.
    let script = c.in-Ok.found.0.now in
    let grids = c.as_slice-grids.result.now in
    let all = c.in-Ok.ensures.found
    ∙ ap (λ (lent : List (Bor Text)). script ∷ texts lent) (sym c.as_slice-grids.ensures.value) in
    let misuse = ap words_are_usage_error all
    ∙ flagged script (texts grids) (sym c.has_word_starting_with_hyphen.ensures
    ∙ c.if-has_word_starting_with_hyphen.true) in
    rw misuse refl

pub returns-in_err-names-clause-refused : goal.returns-in_err-names-clause-refused
returns-in_err-names-clause-refused c =
    let script = c.in-Ok.found.0.now in
    let grids = c.as_slice-grids.result.now in
    let all = c.in-Ok.ensures.found
    ∙ ap (λ (lent : List (Bor Text)). script ∷ texts lent) (sym c.as_slice-grids.ensures.value) in
    let are = used_well (drop 1 (map string_bytes c.args.words.now)) script (texts grids) all c.in-Ok.ensures.good
    (sym c.if-has_word_starting_with_hyphen.false ∙ c.has_word_starting_with_hyphen.ensures) in
    let p = err_from_is_err_and c.from_residual.result c.from_residual.ensures.1 in
    rw (p.1, p.2) (λ other. are ∙ c.in_err-names.ensures.bad other)

pub returns-clause-asked : goal.returns-clause-asked
returns-clause-asked c =
    let script = c.in-Ok.found.0.now in
    let all = c.in-Ok.ensures.found
    ∙ ap (λ (lent : List (Bor Text)). script ∷ texts lent) (sym c.as_slice-grids.ensures.value) in
    all ∙ ap (λ (grids : List Text). script ∷ grids) (sym c.in_ok-names.ensures.words)

pub returns-clause-refused : goal.returns-clause-refused
returns-clause-refused c =
    let script = c.in-Ok.found.0.now in
    let grids = c.as_slice-grids.result.now in
    let all = c.in-Ok.ensures.found
    ∙ ap (λ (lent : List (Bor Text)). script ∷ texts lent) (sym c.as_slice-grids.ensures.value) in
    used_well (drop 1 (map string_bytes c.args.words.now)) script (texts grids) all c.in-Ok.ensures.good
    (sym c.if-has_word_starting_with_hyphen.false ∙ c.has_word_starting_with_hyphen.ensures)
    ∙ ap (option_map (λ place. GridWord place)) c.in_ok-names.ensures.good

pub returns-clause-request : goal.returns-clause-request
returns-clause-request c =
    let script = c.in-Ok.found.0.now in
    let all = c.in-Ok.ensures.found
    ∙ ap (λ (lent : List (Bor Text)). script ∷ texts lent) (sym c.as_slice-grids.ensures.value) in
    record {
      of_script = sym (ap script_path_in_arguments all);
      of_names = c.in_ok-names.ensures.parts.0 ∙ sym (ap grid_names_in_arguments all);
      of_paths = c.in_ok-names.ensures.parts.1 ∙ sym (ap grid_paths_in_arguments all);
    }
