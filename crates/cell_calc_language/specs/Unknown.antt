-- The first map name of an expression, in the order of the text, that is not in a list of names (profile).
use Rattle.std.specs.Prelude.{ℕ, ℤ, List, Option, Some, None}
use Rattle.cell_core_values.specs.Name.{place_of_name}
use Rattle.cell_calc_grammar.specs.declared.map_name.MapNameAtColumn.{MapNameAtColumn}
use Rattle.cell_calc_grammar.specs.Tree.{fold_maps}
use Rattle.cell_calc_grammar.specs.Term.{Term}

-- the first column if there is one, otherwise the second column
abbrev pub first_or_second_column : Option ℕ → Option ℕ → Option ℕ
first_or_second_column None b = b
first_or_second_column (Some c) b = Some c

-- the column, unless the name has an index
abbrev pub column_of_name_without_place : Option ℕ → ℕ → Option ℕ
column_of_name_without_place None c = Some c
column_of_name_without_place (Some i) c = None

-- the column of a map name that is not in the list
abbrev pub unknown_map_column : List (List ℕ) → MapNameAtColumn → ℤ → ℤ → Option ℕ
unknown_map_column names m down right = column_of_name_without_place (place_of_name m.name names) m.column

-- the column of the first map name that is not in the list
abbrev pub first_unknown : List (List ℕ) → Term → Option ℕ
first_unknown names e = fold_maps (unknown_map_column names) None first_or_second_column e
