use Rattle.std.proofs.Common.{◌≡◌, ◌≢◌, ℕ, List, length, Option, Ok, Err, ap, sym, ◌∙◌}
use Rattle.std.proofs.lemmas.Result.{err_from_is_err_and}
use Rattle.cell_core_values.specs.Answers.{◌>>=◌}
use Rattle.rcell_script.specs.Maps.{input_map_places}
use Rattle.rcell_script.specs.OptionReading.{GivenOptions, values_of_borrowed_texts, options_in_words}
use Rattle.rcell_script.specs.declared.option_fault.OptionFault.{OptionFault}
use Rattle.rcell_script.specs.declared.option_fault.OptionFault.TheVariants as option
use Rattle.rcell_script.specs.declared.options.CommandWithOptions.TheVariants as form
use Rattle.rcell_script.specs.Commands.{combination_in_after_option, stats_options_of_given_options}
use Rattle.rcell_script.specs.Commands.{stats_command_of_words}
use Rattle.rcell_script.specs.ScriptFaults.{script_kind_of_option_fault}
use Rattle.rcell_script.specs.declared.command.Command.TheVariants.{Stats}
use Rattle.rcell_script.specs.declared.script_fault.ScriptKind.{ScriptKind}
use Rattle.rcell_script.specs.declared.script_fault.ScriptKind.TheVariants as script
use Rattle.rcell_script.proofs.FaultLemmas.{reported}
use Rattle.rcell_script.proofs.r_stats.stats_command_of_words.Goals as goal

-- an error in the names of a table's maps is the error of r.stats
places_reported : (known words : List (List ℕ)) (given : GivenOptions) (fault : OptionFault) (kind : ScriptKind)
    → options_in_words form.Stats words ≡ Ok given → kind ≡ script_kind_of_option_fault fault → kind ≢ script.Memory
    → (fault ≢ option.Memory → input_map_places known given ≡ Err fault) → stats_command_of_words known words ≡ Err kind
places_reported known words given fault kind options same other fails =
    rw options (ap (λ r. r >>= (λ places. combination_in_after_option (length places) given.after >>= (λ after. Ok (Stats places (stats_options_of_given_options given after)))))
    (reported (input_map_places known given) fault kind same other fails))

-- an error in the combination of `after` is the error of r.stats
after_reported : (known words : List (List ℕ)) (given : GivenOptions) (places : List ℕ) (width : ℕ)
    (after : Option (List ℕ))
    (kind : ScriptKind) → options_in_words form.Stats words ≡ Ok given → input_map_places known given ≡ Ok places
    → width ≡ length places → after ≡ given.after → combination_in_after_option width after ≡ Err kind
    → stats_command_of_words known words ≡ Err kind
after_reported known words given places width after kind options is count same fails =
    let at : combination_in_after_option (length places) given.after ≡ Err kind =
    ap (combination_in_after_option (length places)) (sym same)
    ∙ ap (λ n. combination_in_after_option n after) (sym count) ∙ fails in
    rw (options, is) (ap (λ r. r >>= (λ after. Ok (Stats places (stats_options_of_given_options given after)))) at)

pub returns-in_err-places-clause-command : goal.returns-in_err-places-clause-command
returns-in_err-places-clause-command c =
    let e = c.from_residual-in_err-places in
    let p = err_from_is_err_and e.result e.ensures.1 in
    rw p.1 (λ other. places_reported c.args.known.now (values_of_borrowed_texts c.args.words.now) _ _ _
    c.in_ok-options.ensures p.2 other
    c.in_err-places.ensures.places)

pub returns-in_err-after-clause-command : goal.returns-in_err-after-clause-command
returns-in_err-after-clause-command c =
    let e = c.from_residual-in_err-after in
    let p = err_from_is_err_and e.result e.ensures.1 in
    rw (p.1, p.2) (λ other. after_reported c.args.known.now (values_of_borrowed_texts c.args.words.now) _ _ _ _ _
    c.in_ok-options.ensures
    c.in_ok-places.ensures.places (ap length c.as_slice.ensures) c.after_text.ensures
    (c.in_err-after.ensures.after other))
