use Rattle.cell_calc_grammar.proofs.OnlyLemmas.{is_list}
use Rattle.cell_calc_grammar.proofs.SpellingLemmas.{are_few, are_spelled}
use Rattle.cell_calc_grammar.proofs.tokens.text_spells_one_token_list.Goals as goal

pub returns : goal.returns
returns c = λ text ts. (λ is. (are_spelled text ts is, are_few text ts is), λ spelled. is_list text ts spelled.0 spelled.1)
