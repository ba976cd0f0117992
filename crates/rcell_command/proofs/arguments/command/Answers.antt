use Rattle.std.proofs.Common.{rules, ap, ap₂, ◌≡◌, ◌∙◌, Option, Some, None}
use Rattle.std.specs.Option.{IsSomeAnd}
use Rattle.std.proofs.lemmas.Result.{IfOk-weaker}
use Rattle.clap.specs.Words.{rule_of, with_rule}
use Rattle.rcell_command.specs.parts.ClapWords.{one_or_more_words, first_word_rule, remaining_words_rule}
use Rattle.rcell_command.proofs.arguments.command.Goals as goal

some_is : {T : Type 0} (o : Option T) (x : T) → IsSomeAnd o (λ y. y ≡ x) → o ≡ Some x
some_is (Some y) x is = ap (λ z. Some z) is
some_is None x is = elim is [ ]

pub returns : goal.returns
returns c =
    let first_is : rule_of c.action-first.result ≡ first_word_rule = search rules in
    let range_is : c.num_args.result.num_vals ≡ Some one_or_more_words = some_is _ _ c.num_args.ensures.1 in
    let rest_is : rule_of c.action-rest.result ≡ remaining_words_rule = search rules in
    let first_added = c.in_ok-arg.ensures.shape (search rules) ∙ ap₂ with_rule c.new-3.ensures.app first_is in
    IfOk-weaker c.arg-2.result _ _ (λ r h. h.shape (search rules) ∙ ap₂ with_rule first_added rest_is) c.arg-2.ensures
