use Rattle.rcell_script.proofs.NullTextLemmas.{IsValidNullText-given}
use Rattle.rcell_script.proofs.null_text.NullText.bytes.Goals as goal

pub returns-clause-text : goal.returns-clause-text
returns-clause-text c = rw (← c.self.view_is) (IsValidNullText-given _ c.self.invariant)
