use Rattle.std.proofs.Common.{Ok, sym, ap, ◌∙◌}
use Rattle.cell_calc_language.proofs.Faults.{first_fault_of_text}
use Rattle.std.proofs.Common.{sym, subst}
use Rattle.cell_calc_language.proofs.Grammatical.{spelled_categories}
use Rattle.cell_calc_grammar.specs.Token.{NumberTokensAreCategories}
use Rattle.cell_calc_language.proofs.assignment.parse.Goals as goal

pub returns-clause-fault : goal.returns-clause-fault
returns-clause-fault c =
    first_fault_of_text c.args.text.now c.deref.result.now (c.in_ok-found.ensures.ok ∙ ap (λ ts. Ok ts) (sym c.deref.ensures.value)) c.assignment_of_tokens.result c.assignment_of_tokens.ensures.fault

pub assignment_of_tokens-requires : goal.assignment_of_tokens-requires
assignment_of_tokens-requires c = subst NumberTokensAreCategories (sym c.deref.ensures.value) (spelled_categories c.in_ok-found.ensures.spelled)
