use Rattle.cell_calc_grammar.proofs.Complete.{read_all}
use Rattle.cell_calc_grammar.proofs.Sound.{sound_all}
use Rattle.cell_calc_grammar.proofs.law.reading_agrees_with_grammar.Goals as goal

pub returns : goal.returns
returns c = λ ts a. (sound_all ts a, read_all ts a)
