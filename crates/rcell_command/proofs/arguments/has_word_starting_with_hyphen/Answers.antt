use Rattle.std.proofs.Common.{◌∙◌}
use Rattle.rcell_command.proofs.WordLemmas.{hyphens_of_texts}
use Rattle.rcell_command.proofs.arguments.has_word_starting_with_hyphen.Goals as goal

pub returns : goal.returns
returns c = c.any_word_starts_with_hyphen.ensures ∙ hyphens_of_texts c.args.words.now
