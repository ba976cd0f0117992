use Rattle.cell_clumps.proofs.RowNumberLemmas.{numbers_are, numbers_wide}
use Rattle.cell_clumps.proofs.kept_labels.RowClumpLabels.write_clump_numbers_of_row.Goals as goal

pub write_clump_numbers_of_runs-requires-clause-wide : goal.write_clump_numbers_of_runs-requires-clause-wide
write_clump_numbers_of_runs-requires-clause-wide c =
    let table = c.args.table.now in
    let view = rw c.in-Runs.is at c.self.view_is in
    let same = numbers_wide table c.deref.result.now in
    let runs = c.deref.ensures.value in
    let wide = c.requires.wide in
    cc

pub returns-in-Runs : goal.returns-in-Runs
returns-in-Runs c =
    let table = c.args.table.now in
    let view = rw c.in-Runs.is at c.self.view_is in
    let same = numbers_are table c.deref.result.now in
    let runs = c.deref.ensures.value in
    let written = c.write_clump_numbers_of_runs.ensures in
    cc
