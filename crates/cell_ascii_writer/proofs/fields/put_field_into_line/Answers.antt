use Rattle.cell_ascii_writer.proofs.ByteLemmas.{stored}
use Rattle.cell_ascii_writer.proofs.fields.put_field_into_line.Goals as goal

pub returns-clause-text : goal.returns-clause-text
returns-clause-text c = stored c.args.line.now c.args.at c.args.field.bytes c.args.field.size c.requires.room c.requires.few
