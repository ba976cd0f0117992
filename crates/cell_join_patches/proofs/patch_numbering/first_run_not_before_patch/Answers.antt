use Rattle.std.proofs.Common.{rules}
use Rattle.std.proofs.lemmas.List.Sorted.{IsPartitionPoint-from_clause}
use Rattle.cell_join_patches.specs.parts.RunsBefore.{run_is_before_patch}
use Rattle.cell_join_patches.proofs.NumberLemmas.{runs-partitioned}
use Rattle.cell_join_patches.proofs.patch_numbering.first_run_not_before_patch.Goals as goal

pub returns : goal.returns
returns c =
    IsPartitionPoint-from_clause (run_is_before_patch c.args.tile c.args.patch) c.args.runs.now c.partition_point.result
    c.partition_point.ensures.partitioned
    (runs-partitioned c.args.runs.now c.args.tile c.args.patch c.requires) (search rules)
