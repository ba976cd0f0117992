use Rattle.std.proofs.Common.{◌≡◌, false}
use Rattle.std.proofs.lemmas.List.Sorted.{All-permutation}
use Rattle.cell_calc_language.specs.CellOperators.{is_null}
use Rattle.cell_calc_modes.proofs.modes.most_frequent.Goals as goal

pub category_of_longest_run-requires-clause-known : goal.category_of_longest_run-requires-clause-known
category_of_longest_run-requires-clause-known c = All-permutation (λ cell. is_null cell
    ≡ false) _ _ c.sort_unstable.ensures.permutation c.requires

pub returns : goal.returns
returns c = c.category_of_longest_run.ensures _ c.sort_unstable.ensures.permutation
