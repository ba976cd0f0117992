use Rattle.std.proofs.Common.{ap}
use Rattle.cell_stats_combinations.specs.Combinations.{all_combinations}
use Rattle.cell_stats.specs.CategoryTables.{TableValue}
use Rattle.cell_stats.proofs.TableLemmas.{IsTable-listed, one_table_kept, table_is}
use Rattle.cell_stats.proofs.WidthLemmas.{table-wide}
use Rattle.cell_stats.proofs.tallying.tally.Goals as goal

pub of-requires-clause-ascending : goal.of-requires-clause-ascending
of-requires-clause-ascending c = c.in_ok-entries.ensures.ascending

pub of-requires-clause-wide : goal.of-requires-clause-wide
of-requires-clause-wide c =
    let maps = c.args.shelf.now.maps in
    let picks = c.args.picks.now in
    let region = c.args.shelf.now.region in
    let counted = c.in_ok-entries.ensures in
    let table = IsTable-listed _ (all_combinations maps picks region.rows region.cols) c.in_ok-entries.entries.items counted.ascending counted.counts counted.no_zero in
    table-wide maps picks _ region.rows region.cols c.in_ok-entries.entries.items table

pub returns-clause-table : goal.returns-clause-table
returns-clause-table c =
    let maps = c.args.shelf.now.maps in
    let picks = c.args.picks.now in
    let skip = c.args.skip in
    let region = c.args.shelf.now.region in
    let counted = c.in_ok-entries.ensures in
    let table = IsTable-listed skip (all_combinations maps picks region.rows region.cols) c.in_ok-entries.entries.items counted.ascending counted.counts counted.no_zero in
    rw c.of.ensures table

pub returns-clause-only : goal.returns-clause-only
returns-clause-only c = λ pairs table. one_table_kept _ _ _ _ table (returns-clause-table c)

pub returns-clause-value : goal.returns-clause-value
returns-clause-value c = table_is _ _ _ (returns-clause-table c)

pub returns-clause-width : goal.returns-clause-width
returns-clause-width c = ap (λ (t : TableValue). t.width) c.of.ensures
