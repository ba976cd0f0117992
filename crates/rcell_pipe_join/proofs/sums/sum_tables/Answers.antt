use Rattle.std.proofs.Common.{sym, subst}
use Rattle.cell_stats_combinations.specs.Listed.{NoEntryCountIsZero, ListedCountsFitInSixtyFourBits}
use Rattle.rcell_pipe_join.specs.TableEntries.{tables_as_values}
use Rattle.rcell_pipe_join.proofs.SumLemmas.{joined-fits, joined-some, sums-are}
use Rattle.rcell_pipe_join.proofs.sums.sum_tables.Goals as goal

pub sorted_entries_with_summed_counts-requires-clause-fits : goal.sorted_entries_with_summed_counts-requires-clause-fits
sorted_entries_with_summed_counts-requires-clause-fits c =
    subst ListedCountsFitInSixtyFourBits (sym c.in_ok-all.ensures)
    (joined-fits (tables_as_values c.args.tables.items) c.requires.few)

pub sorted_entries_with_summed_counts-requires-clause-no_zero :
    goal.sorted_entries_with_summed_counts-requires-clause-no_zero
sorted_entries_with_summed_counts-requires-clause-no_zero c =
    subst NoEntryCountIsZero (sym c.in_ok-all.ensures) (joined-some
    (tables_as_values c.args.tables.items) c.requires.some)

pub returns : goal.returns
returns c =
    let sums = c.sorted_entries_with_summed_counts.ensures in
    sums-are (tables_as_values c.args.tables.items) c.in_ok-all.all.items
    c.sorted_entries_with_summed_counts.result.items
    c.in_ok-all.ensures
    sums.ascending sums.no_zero sums.counts
