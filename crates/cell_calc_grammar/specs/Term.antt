-- Expressions whose maps are names.
use Rattle.std.specs.Prelude.{ℕ, List}
use Rattle.cell_calc_grammar.specs.declared.map_name.MapNameAtColumn.{MapNameAtColumn}
use Rattle.cell_calc_grammar.specs.Tree.{Tree, Trees}
pub use Rattle.cell_calc_grammar.specs.Tree.{Number, Map, Negated, Not, Binary, Call, NoTrees, Then, argument_count}

-- an expression whose maps are names
abbrev pub Term : Type 0
Term = Tree MapNameAtColumn

-- arguments whose maps are names
abbrev pub ArgumentTerms : Type 0
ArgumentTerms = Trees MapNameAtColumn

-- a map name at a column
abbrev pub map_name_at_column : (name : List ℕ) (column : ℕ) → MapNameAtColumn
map_name_at_column n c = record { name = n; column = c }
