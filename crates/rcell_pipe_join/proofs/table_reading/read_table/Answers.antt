use Rattle.std.proofs.Common.{◌∙◌}
use Rattle.rcell_pipe_join.proofs.TableLemmas.{no-zero}
use Rattle.rcell_pipe_join.proofs.table_reading.read_table.Goals as goal

pub returns-clause-some : goal.returns-clause-some
returns-clause-some g c =
    no-zero c.in_ok-entries.entries.items c.in_ok-few.few.counts.items
    (c.in_ok-entries.ensures.counts ∙ c.as_slice.ensures.value) c.in_ok-few.ensures.some
