use Rattle.cell_ascii_reading.proofs.MapLemmas.{chain}
use Rattle.cell_ascii_reading.proofs.scanner.Scanner.read_word.Goals as goal

pub returns-in-Err-clause-word : goal.returns-in-Err-clause-word
returns-in-Err-clause-word g c = chain _ _ _ _ _ _ c.word.invariant.word c.in-Err.ensures.word
