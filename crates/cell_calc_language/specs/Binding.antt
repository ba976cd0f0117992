-- The names of maps and their indices (profile).
use Rattle.std.specs.Prelude.{◌≡◌, ℕ, List, Some, ◌⊎◌}
use Rattle.std.specs.Option.{unwrap_or}
use Rattle.cell_core_values.specs.Name.{place_of_name}
use Rattle.cell_calc_language.specs.Formula.{Formula}
use Rattle.cell_calc_grammar.specs.declared.calc_fault.CalcFault.{CalcFault}
use Rattle.cell_calc_grammar.specs.declared.calc_fault.CalcKind.TheVariants.{UnknownMap, Memory}
use Rattle.cell_calc_grammar.specs.declared.map_name.MapNameAtColumn.{MapNameAtColumn}
use Rattle.cell_calc_grammar.specs.Tree.{with_leaves}
use Rattle.cell_calc_grammar.specs.Term.{Term}
use Rattle.cell_calc_language.specs.Unknown.{first_unknown}

-- the index of a map's name
abbrev pub place_of_map_name : List (List ℕ) → MapNameAtColumn → ℕ
place_of_map_name names m = unwrap_or (place_of_name m.name names) 0

-- the expression with each map name replaced by the map's index
abbrev pub formula_of_term : List (List ℕ) → Term → Formula
formula_of_term names e = with_leaves (place_of_map_name names) e

-- the error is an unknown map name in the expression, or memory ran out
abbrev pub IsBindingFault : List (List ℕ) → Term → CalcFault → Type 0
IsBindingFault names e fault =
    (fault ≡ record { kind = Memory; column = 0 }) ⊎ ((fault.kind ≡ UnknownMap) × (first_unknown names e ≡ Some fault.column))
