use Rattle.rcell.proofs.TableLemmas.{cells_stats, table_stats}
use Rattle.rcell.proofs.tables.write_stats.Goals as goal

pub tally-requires-clause-width : goal.tally-requires-clause-width
tally-requires-clause-width g c = (c.requires.some, c.requires.most)

pub write_table-requires-clause-width : goal.write_table-requires-clause-width
write_table-requires-clause-width g c = c.in-Ok-tally.ensures.width

pub returns-then-options-clause-ok : goal.returns-then-options-clause-ok
returns-then-options-clause-ok g c =
    let same = cells_stats c.args.shelf.now c.args.places.now c.args.options.now c.table_format_of_stats_options-format.result c.if-options.true c.table_format_of_stats_options-format.ensures in
    rw (← same) c.write_line_for_each_cell.ensures

pub returns-clause-ok : goal.returns-clause-ok
returns-clause-ok g c =
    let same = table_stats c.args.shelf.now c.args.places.now c.args.options.now c.table_format_of_stats_options-format.result _ _ c.if-options.false c.table_format_of_stats_options-format.ensures c.combination_to_continue_after-after.ensures c.in-Ok-tally.ensures.value in
    rw (← same) c.write_table.ensures
