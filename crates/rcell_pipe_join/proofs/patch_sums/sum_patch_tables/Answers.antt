use Rattle.std.proofs.Common.{sym, subst}
use Rattle.rcell_pipe_join.specs.PatchTables.{patch_tables_as_values}
use Rattle.rcell_pipe_join.specs.parts.TableCounts.{AreListedSumsOfGroups, AreListedSumsOfPatchTables, CanBeSummed}
use Rattle.rcell_pipe_join.proofs.GroupLemmas.{listed-sums, number-can-be-summed}
use Rattle.rcell_pipe_borders.proofs.NumberingLemmas.{if-ok}
use Rattle.rcell_pipe_join.proofs.patch_sums.sum_patch_tables.Goals as goal

pub sums_of_groups-requires : goal.sums_of_groups-requires
sums_of_groups-requires c = λ n.
    subst CanBeSummed (sym (c.in_ok-groups.ensures n))
    (number-can-be-summed c.args.numbering.now (patch_tables_as_values c.args.tables.items) n c.requires.some
    c.requires.few)

pub returns : goal.returns
returns c =
    let groups = c.in_ok-groups.groups.entries in
    let tables = patch_tables_as_values c.args.tables.items in
    if-ok (λ sums. AreListedSumsOfGroups groups sums.numbers.items sums.entries.items)
    (λ sums. AreListedSumsOfPatchTables c.args.numbering.now tables sums.numbers.items sums.entries.items)
    c.sums_of_groups.result
    (λ sums. listed-sums c.args.numbering.now tables groups sums.numbers.items sums.entries.items
    c.in_ok-groups.ensures)
    c.sums_of_groups.ensures
