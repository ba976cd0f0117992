use Rattle.std.proofs.Common.{rules, ◌≡◌, ◌∙◌, ◌≤◌, ap, sym, codes, is_some, length, map, subst}
use Rattle.std.specs.String.{string_bytes}
use Rattle.std.proofs.lemmas.List.{length-map}
use Rattle.clap.specs.Lexer.{usize_max}
use Rattle.clap.specs.Words.{all_of, first_of, found_of, is_simple, matches_of, rows_of, takes}
use Rattle.clap.proofs.WalkLemmas.{first_value-rows, raw_values-rows}
use Rattle.rcell_command.specs.parts.ClapWords.{clap_command_line}
use Rattle.rcell_command.proofs.ParseLemmas.{by_contradiction, is_simple_line, words_asked, words_found, words_taken}
use Rattle.rcell_command.proofs.arguments.words_matched_by_clap.Goals as goal

pub returns-in-Ok-try_get_matches_from-clause-found : goal.returns-in-Ok-try_get_matches_from-clause-found
returns-in-Ok-try_get_matches_from-clause-found g c =
    let words = map string_bytes c.args.words.now in
    let program = c.args.program.now in
    let found = found_of c.in-Ok-try_get_matches_from.matches in
    let line = c.in-Ok.ensures in
    let rows_are : rows_of found ≡ matches_of (clap_command_line program) words =
    (c.in-Ok-try_get_matches_from.ensures.matches (ap is_simple line ∙ is_simple_line program)).0
    ∙ ap (λ a. matches_of a words) line in
    let first_is = first_value-rows found (codes "FIRST") ∙ ap (first_of (codes "FIRST")) rows_are in
    let rest_is = raw_values-rows found (codes "REST") ∙ ap (all_of (codes "REST")) rows_are in
    record {
      all = λ first rest good one others.
          words_asked program words first rest good (sym first_is ∙ one) (sym rest_is ∙ others);
      some = λ good.
          let both = words_found program words good in (ap is_some first_is ∙ both.0, ap is_some rest_is ∙ both.1);
    }

pub returns-in-Err-try_get_matches_from-clause-misuse : goal.returns-in-Err-try_get_matches_from-clause-misuse
returns-in-Err-try_get_matches_from-clause-misuse g c = λ other.
    let words = map string_bytes c.args.words.now in
    let program = c.args.program.now in
    let fits : length c.args.words.now ≤ usize_max = search rules in
    let few : length words ≤ usize_max = subst (λ n. n ≤ usize_max)
    (sym (length-map c.args.words.now string_bytes)) fits in (
      c.error_of_clap_kind.ensures.usage other,
      by_contradiction _ (λ good.
          let taken = ap (λ a. takes a words) c.in-Ok.ensures ∙ words_taken program words few good in
          other (c.error_of_clap_kind.ensures.memory (c.kind.ensures
          ∙ c.in-Err-try_get_matches_from.ensures.passes taken))),
    )
