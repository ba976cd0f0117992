use Rattle.std.proofs.lemmas.Result.{err_from_is_err_and}
use Rattle.std.proofs.Common.{Bor, Option, Some, false, arith, rules, refl, drop, map}
use Rattle.std.proofs.Common.{ap, ap₂, sym, ◌≡◌, ◌∙◌, ◌++◌, ◌∷◌, [], ◌+◌, ◌<◌, take, length, vec_len, List, ℕ, is_ok}
use Rattle.std.specs.List.{slice_index_or}
use Rattle.std.specs.Option.{option_map}
use Rattle.std.proofs.lemmas.List.{drop_all, drop_more, length-map, map-append, take_all, take_more}
use Rattle.clap.specs.Walk.{Text, texts}
use Rattle.rcell_program.specs.declared.refusal.Refusal.{Refusal}
use Rattle.rcell_program.specs.declared.refusal.Refusal.TheVariants.{GridWord, Memory}
use Rattle.rcell_program.specs.CommandLine.{place_of_first_bad_grid_word, grid_name_in_argument, grid_path_in_argument}
use Rattle.rcell_program.specs.CommandLine.{words_of_grid_names_and_paths}
use Rattle.rcell_program.specs.CommandLine.{is_grid_argument}
use Rattle.rcell_program.proofs.WordLemmas.{first_bad_next, grid_words_more, when_ok, made_reported}
use borrow.Author.Count.{falls}
use Rattle.rcell_program.proofs.command_words.grid_names_and_paths.Goals as goal

first_bad_here : (place : ℕ) (words : List (Bor Text)) (i : ℕ) (word : Bor Text) → i < length words → is_grid_argument (slice_index_or words i word).now ≡ false
    → place_of_first_bad_grid_word place (texts (drop i words)) ≡ Some place
first_bad_here place words i word within bad = ap (λ left. place_of_first_bad_grid_word place (texts left)) (drop_more words i word within) ∙ rw bad refl

refused_here : {bad : Option ℕ} {first place : ℕ} {refusal : Refusal} → bad ≡ Some first → place ≡ first → refusal ≡ GridWord place
    → option_map (λ place. GridWord place) bad ≡ Some refusal
refused_here is at reported = rw (is, reported, at) refl

one_more : (index : ℕ) → index + 2 + 1 ≡ index + 1 + 2
one_more index = omega arith

one_more_of : (f : Text → Text) (made before more : List Text) (x word : Text) → made ≡ map f before → x ≡ f word →
    more ≡ before ++ word ∷ []
    → made ++ x ∷ [] ≡ map f more
one_more_of f made before more x word is made_of next =
    ap (λ front. front ++ x ∷ []) is ∙ ap (λ last. map f before ++ last ∷ []) made_of ∙ sym (map-append f before (word
    ∷ [])) ∙ sym (ap (map f) next)

pub returns-in_err-name-clause-bad : goal.returns-in_err-name-clause-bad
returns-in_err-name-clause-bad c =
    let bad = c.in_err-name.ensures.bad in
    let p = err_from_is_err_and c.from_residual.result c.from_residual.ensures.1 in
    let place : c.saturating_add-place.result ≡ c.loop-word.word-index + 2 = omega arith in
    rw (p.1, p.2) (λ other.
    let reported = bad other in
    refused_here (c.loop-word.invariant.good ∙ first_bad_here (c.loop-word.word-index + 2) c.args.words.now c.loop-word.word-index _ c.loop-word-test.true reported.0) place reported.1)

pub returns-in_err-map_err-clause-bad : goal.returns-in_err-map_err-clause-bad
returns-in_err-map_err-clause-bad c =
    let p = err_from_is_err_and c.from_residual-in_err-map_err.result c.from_residual-in_err-map_err.ensures.1 in
    rw (p.1, p.2) (made_reported c.push.result _ c.in_err-map_err.ensures.cases
    (λ e h. let made : c.in_err-map_err.field-0.0 ≡ Memory = search rules in λ other. absurd (other made)))

pub returns-in_err-map_err-2-clause-bad : goal.returns-in_err-map_err-2-clause-bad
returns-in_err-map_err-2-clause-bad c =
    let p = err_from_is_err_and c.from_residual-in_err-map_err-2.result c.from_residual-in_err-map_err-2.ensures.1 in
    rw (p.1, p.2) (made_reported c.push-in-loop-word.result _ c.in_err-map_err-2.ensures.cases
    (λ e h. let made : c.in_err-map_err-2.field-0.0 ≡ Memory = search rules in λ other. absurd (other made)))

pub loop-word-init : goal.loop-word-init
loop-word-init c =
    record {
      paths = c.new-names.ensures.len ∙ sym c.new-paths.ensures.len;
      place = refl;
      good = refl;
      named = c.new-names.ensures.items;
      pathed = ap texts c.new-paths.ensures.items;
      words = ap₂ words_of_grid_names_and_paths c.new-names.ensures.items (ap texts c.new-paths.ensures.items);
    }

pub loop-word-smaller : goal.loop-word-smaller
loop-word-smaller c = falls _ c.loop-word.word-index c.loop-word-test.true

pub loop-word-preserved : goal.loop-word-preserved
loop-word-preserved c =
    let names = c.loop-word.names in
    let paths = c.loop-word.paths in
    let name = c.in_ok-name.name in
    let path = c.in_ok-name.path.now in
    let is = c.loop-word.invariant in
    let named = c.in_ok-map_err.ensures.variant in
    let pathed = c.in_ok-map_err-2.ensures.variant in
    let names_are = when_ok (is_ok c.push.result) (names.items ++ name ∷ []) names.items named c.push.ensures.items in
    let items_are = when_ok (is_ok c.push-in-loop-word.result) (paths.items ++ c.in_ok-name.path ∷ []) paths.items pathed c.push-in-loop-word.ensures.items in
    let paths_are = ap texts items_are ∙ map-append _ paths.items _ in
    let before : length names.items ≡ length (texts paths.items) = sym names.ok.0 ∙ is.paths ∙ paths.ok.0 ∙ sym (length-map _ _) in
    let next = ap texts (take_more c.args.words.now c.loop-word.word-index _ c.loop-word-test.true) ∙ map-append _
    (take c.loop-word.word-index c.args.words.now) _ in
    let words_are : texts (take (c.loop-word.word-index + 1) c.args.words.now) ≡ texts (take c.loop-word.word-index c.args.words.now) ++ (name ++ 61 ∷ path) ∷ [] =
    ap texts (take_more c.args.words.now c.loop-word.word-index _ c.loop-word-test.true) ∙ map-append _ (take c.loop-word.word-index c.args.words.now) _
    ∙ ap (λ word. texts (take c.loop-word.word-index c.args.words.now) ++ word ∷ []) c.in_ok-name.ensures.cut in
    record {
      paths = when_ok (is_ok c.push.result) (vec_len names + 1) (vec_len names) named c.push.ensures.len ∙ ap (λ n. n + 1) is.paths
          ∙ sym (when_ok (is_ok c.push-in-loop-word.result) (vec_len paths + 1) (vec_len paths) pathed c.push-in-loop-word.ensures.len);
      place = search rules;
      good = is.good ∙ first_bad_next (c.loop-word.word-index + 2) c.args.words.now c.loop-word.word-index _ c.loop-word-test.true c.in_ok-name.ensures.good
          ∙ ap (λ place. place_of_first_bad_grid_word place (texts (drop (c.loop-word.word-index + 1) c.args.words.now))) (one_more c.loop-word.word-index);
      named = names_are ∙ one_more_of grid_name_in_argument _ _ _ _ _ is.named c.in_ok-name.ensures.parts.0 next;
      pathed = paths_are ∙ one_more_of grid_path_in_argument _ _ _ _ _ is.pathed c.in_ok-name.ensures.parts.1 next;
      words = ap₂ words_of_grid_names_and_paths names_are paths_are ∙ grid_words_more _ _ name path before
          ∙ ap (λ (words : List Text). words ++ (name ++ 61 ∷ path) ∷ []) is.words ∙ sym words_are;
    }

pub returns : goal.returns
returns c = record {
  words = c.loop-word.invariant.words ∙ ap texts (take_all c.loop-word.word-index c.args.words.now c.loop-word-test.false);
  paths = c.loop-word.invariant.paths;
  parts =
      let all = ap texts (take_all c.loop-word.word-index c.args.words.now c.loop-word-test.false) in (
        c.loop-word.invariant.named ∙ ap (map grid_name_in_argument) all,
        c.loop-word.invariant.pathed
            ∙ ap (map grid_path_in_argument) all,
      );
  good = c.loop-word.invariant.good ∙ ap (λ left. place_of_first_bad_grid_word (c.loop-word.word-index + 2) (texts left)) (drop_all c.loop-word.word-index c.args.words.now c.loop-word-test.false);
  bad = tt;
}
