use Rattle.std.proofs.Common.{◌≡◌, drop}
use Rattle.rcell_pipe_join.specs.PatchTables.{patches_are_known}
use Rattle.rcell_pipe_join.proofs.patch_tables.patches_are_known.Given as goal

abbrev pub invariant-loop-entry : goal.invariant-loop-entry
invariant-loop-entry l = patches_are_known l.numbering l.tile (drop l.entry-index l.entries)
    ≡ patches_are_known l.numbering l.tile l.entries
