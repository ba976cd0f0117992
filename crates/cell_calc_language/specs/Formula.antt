-- Expressions over indices of maps.
use Rattle.std.specs.Prelude.{ℕ}
use Rattle.cell_calc_grammar.specs.Tree.{Tree, Trees}
pub use Rattle.cell_calc_grammar.specs.Tree.{Number, Map, Negated, Not, Binary, Call, NoTrees, Then, argument_count}

-- an expression whose maps are indices
abbrev pub Formula : Type 0
Formula = Tree ℕ

-- arguments whose maps are indices
abbrev pub ArgumentFormulas : Type 0
ArgumentFormulas = Trees ℕ
