use Rattle.std.proofs.Common.{◌+◌, ◌<◌, ◌^◌, ℕ, arith}
use Rattle.cell_stats_combinations.specs.Listed.{listed_count_of_combination}
use Rattle.cell_stats_counts.proofs.counting.add_combination_count.Goals as goal

part : (paired listed gathered count : ℕ) → paired + listed + gathered + count < 2 ^ 64 → gathered + count < 2 ^ 64
part paired listed gathered count all = omega arith

pub add_to_count_of_combination-requires-clause-fits : goal.add_to_count_of_combination-requires-clause-fits
add_to_count_of_combination-requires-clause-fits c =
    part _ (listed_count_of_combination c.args.cells.now c.args.entries.now.items) _ c.args.count
    (c.requires.fits c.args.cells.now)
