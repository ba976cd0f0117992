use Rattle.std.proofs.Common.{◌≡◌, ◌++◌, map, take}
use Rattle.rcell_pipe_join.proofs.patch_sums.push_number_of_entries.Given as goal

abbrev pub invariant-loop-entry : goal.invariant-loop-entry
invariant-loop-entry l = l.numbers.items ≡ l.fn.numbers.items ++ map (λ entry. l.number) (take l.entry-index l.entries)
