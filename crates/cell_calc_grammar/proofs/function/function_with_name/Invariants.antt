use Rattle.std.proofs.Common.{◌≡◌, drop}
use Rattle.cell_calc_grammar.specs.Function.{function_with_name, function_named_among}
use Rattle.cell_calc_grammar.proofs.Named.{entries}
use Rattle.cell_calc_grammar.proofs.function.function_with_name.Given as goal

abbrev pub invariant-loop-text : goal.invariant-loop-text
invariant-loop-text l = function_with_name l.name ≡ function_named_among
    (entries (drop l.text-index l.text-items)) l.name
