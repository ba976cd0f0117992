use Rattle.std.proofs.Common.{◌≡◌, ◌++◌, ℕ, Option, flat_map, length, map}
use Rattle.std.specs.Vec.Iter.{into_iter_items, into_iter_len}
use Rattle.rcell_pipe_join.specs.PatchTables.{entries_of_number, patch_tables_as_values}
use Rattle.rcell_pipe_join.specs.parts.TableCounts.{entries_in_groups}
use Rattle.rcell_pipe_join.proofs.patch_sums.groups_of_tables.Given as goal

abbrev pub invariant-loop-table : goal.invariant-loop-table
invariant-loop-table l =
    let left = into_iter_items l.table-iterator in
    record {
      so : (n : Option ℕ) → entries_in_groups n l.groups.entries
          ++ flat_map (λ entries. entries) (map (entries_of_number l.numbering n) (patch_tables_as_values left))
          ≡ flat_map (λ entries. entries)
          (map (entries_of_number l.numbering n) (patch_tables_as_values l.fn.tables.items));
      len : into_iter_len l.table-iterator ≡ length left;
    }
