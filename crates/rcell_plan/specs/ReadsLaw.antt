-- What the reads of an expression guarantee, and that its value depends on the position only through its calls.
use Rattle.std.specs.Prelude.{ℕ, ◌≡◌, ◌<◌, false, List, [], ◌∷◌, All}
use Rattle.cell_core.specs.Grid.{Grid}
use Rattle.cell_calc_language.specs.Applied.{PositionAndGridSize}
use Rattle.cell_calc_language.specs.Formula.{Formula}
use Rattle.cell_calc_language.specs.Reach.{rows_read_above_by_formula, rows_read_below_by_formula}
use Rattle.cell_calc_language.specs.Value.{value}
use Rattle.rcell_plan.specs.HaloParts.{columns_read_left_by_formula, columns_read_right_by_formula, calls}
use Rattle.rcell_plan.specs.HaloParts.{value_seen_from}
use Rattle.rcell_plan.specs.LocalLaw.{is_position_function}
use Rattle.rcell_script.specs.declared.statement.Statement.{Statement}
use Rattle.rcell_plan.specs.declared.needs.Margin.{Margin}
use Rattle.rcell_plan.specs.declared.needs.MapNeed.{MapNeed}
use Rattle.rcell_plan.specs.Plans.{maps_read_by_expression, plans_of_statements, needs_of_given_maps}

-- how far an expression reads the map at index `i`
abbrev pub reach_in_map_at_place : Formula → ℕ → Margin
reach_in_map_at_place f i = record {
  up = rows_read_above_by_formula i f;
  down = rows_read_below_by_formula i f;
  left = columns_read_left_by_formula i f;
  right = columns_read_right_by_formula i f;
}

-- the reads of an expression list each map with exactly the expression's reach in it
abbrev pub ExpressionReadsMatchReach : Type 0
ExpressionReadsMatchReach = (f : Formula) → All (λ n. n.margin ≡ reach_in_map_at_place f n.place)
    (maps_read_by_expression f)

-- map indices ascend, and are all above `place`
abbrev pub NeedPlacesAscendAbovePlace : ℕ → List MapNeed → Type 0
NeedPlacesAscendAbovePlace place [] = Unit {0}
NeedPlacesAscendAbovePlace place (n ∷ ns) = (place < n.place) × NeedPlacesAscendAbovePlace n.place ns

-- map indices ascend, so each map occurs once
abbrev pub NeedPlacesAscend : List MapNeed → Type 0
NeedPlacesAscend [] = Unit {0}
NeedPlacesAscend (n ∷ ns) = NeedPlacesAscendAbovePlace n.place ns

-- each plan lists its maps once each, in the order of their indices
abbrev pub PlansListMapsInOrder : Type 0
PlansListMapsInOrder = (count : ℕ) (statements : List Statement)
    → All (λ p. NeedPlacesAscend p.reads × NeedPlacesAscend p.needs)
    (plans_of_statements (needs_of_given_maps count) statements)

-- an expression without calls of row(), col(), nrows() and ncols() has the same value whatever position these report
abbrev pub ExpressionWithoutPositionIgnoresPosition : Type 0
ExpressionWithoutPositionIgnoresPosition = (f : Formula) → calls is_position_function f ≡ false
    → (maps : List Grid) (here reported : PositionAndGridSize)
    → value_seen_from f maps here reported ≡ value f maps here
