use Rattle.std.proofs.Common.{◌≡◌, ◌++◌, flat_map, length}
use Rattle.std.specs.Vec.Iter.{into_iter_items, into_iter_len}
use Rattle.rcell_pipe_join.specs.TableEntries.{tables_as_values}
use Rattle.rcell_pipe_join.proofs.sums.entries_of_all_tables.Given as goal

abbrev pub invariant-loop-table : goal.invariant-loop-table
invariant-loop-table l =
    let left = into_iter_items l.table-iterator in
    record {
      so : l.all.items ++ flat_map (λ t. t) (tables_as_values left)
          ≡ flat_map (λ t. t) (tables_as_values l.fn.tables.items);
      len : into_iter_len l.table-iterator ≡ length left;
    }
