use Rattle.cell_ascii_law.proofs.HeaderReadLemmas.{headers_agree}
use Rattle.cell_ascii_law.proofs.law.read_header_is_denoted_header.Goals as goal

pub returns : goal.returns
returns c = headers_agree
