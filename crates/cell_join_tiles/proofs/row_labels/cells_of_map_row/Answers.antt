use Rattle.std.proofs.Common.{rules, of_calls, leb, arith}
use Rattle.std.proofs.lemmas.Bool.{leb-true, leb-false}
use Rattle.std.proofs.lemmas.Fn.{always_returns_same}
use Rattle.std.proofs.lemmas.List.Sorted.{IsPartitionedBy-leb}
use Rattle.cell_join_tiles.proofs.row_labels.cells_of_map_row.Goals as goal

pub returns-clause-before : goal.returns-clause-before
returns-clause-before c = λ i lt.
    let ends = c.args.ends.now in
    let clump = c.args.clump in
    let point = c.partition_point.ensures.partitioned (λ end. leb end clump) (always_returns_same _ _ _ (λ a r f k. search (rules, of_calls))) (IsPartitionedBy-leb (λ end. end) ends clump c.requires) in
    leb-true _ _ (point.0 i 0 (omega arith) lt)

pub returns-clause-after : goal.returns-clause-after
returns-clause-after c = λ i le lt.
    let ends = c.args.ends.now in
    let clump = c.args.clump in
    let point = c.partition_point.ensures.partitioned (λ end. leb end clump) (always_returns_same _ _ _ (λ a r f k. search (rules, of_calls))) (IsPartitionedBy-leb (λ end. end) ends clump c.requires) in
    leb-false _ _ (point.1 i 0 le lt)
