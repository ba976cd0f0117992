use Rattle.std.proofs.Common.{◌≡◌, sum, take}
use Rattle.rcell_pipe_borders.proofs.border_checks.patch_count_of_rows.Given as goal

abbrev pub invariant-loop-count : goal.invariant-loop-count
invariant-loop-count l = l.patches ≡ sum (take l.count-index l.begun)
