use Rattle.std.proofs.Common.{◌≡◌, ◌++◌, ℕ, Option, flat_map, length}
use Rattle.std.specs.Vec.Iter.{into_iter_items, into_iter_len}
use Rattle.rcell_pipe_join.specs.PatchTables.{entries_of_number, others_of_number}
use Rattle.rcell_pipe_join.specs.parts.TableCounts.{entries_in_groups}
use Rattle.rcell_pipe_join.proofs.patch_sums.add_table.Given as goal

abbrev pub invariant-loop-entry : goal.invariant-loop-entry
invariant-loop-entry l =
    let left = into_iter_items l.entry-iterator in
    record {
      so : (n : Option ℕ) → entries_in_groups n l.groups.entries
          ++ flat_map (λ entry. others_of_number l.numbering l.table.tile n entry.0 entry.1) left
          ≡ entries_in_groups n l.fn.groups.entries
          ++ entries_of_number l.numbering n (l.table.tile, l.fn.table.entries.items);
      len : into_iter_len l.entry-iterator ≡ length left;
    }
