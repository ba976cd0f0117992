use Rattle.cell_ascii_law.proofs.WritingLawLemmas.{writing_is_read}
use Rattle.cell_ascii_law.proofs.written_law.written_text_denotes_its_map.Goals as goal

pub returns : goal.returns
returns c = writing_is_read
