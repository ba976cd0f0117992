-- Maps of values that depend only on categories.
use Rattle.std.proofs.Common.{◌≡◌, ◌<◌, ℕ, List, [], length, map, get_or, ap, ◌∙◌, arith, Option, Some, None}
use Rattle.std.specs.Prelude.{IfSome, slice_get}
use Rattle.std.proofs.lemmas.List.{get_or-map}
use Rattle.cell_core.specs.Grid.{Grid, CellValue, cell_at, row_at, RowsFillRegion, empty_category_labels}
use Rattle.cell_calc_language.specs.Formula.{Formula}
use Rattle.cell_calc.specs.ByCategory.{DependsOnlyOnCategory, formula_value_for_first_map_cell}
use Rattle.cell_calc.specs.RowValues.{at}
use Rattle.cell_calc.proofs.CategoryValues.{value_by_category}
use Rattle.cell_calc_categories.specs.MapValues.{MapHasExpressionValues}
use Rattle.cell_calc_categories.specs.parts.ValueTables.{rows_with_function_applied}

-- a cell of a changed map is the function of the old cell
changed_at : (f : CellValue → CellValue) (m made : Grid) (r c : ℕ) → RowsFillRegion m.region m.rows
    → made.rows ≡ rows_with_function_applied f m.rows
    → r < m.region.rows → c < m.region.cols → cell_at made r c ≡ f (cell_at m r c)
changed_at f m made r c filled rows lr lc =
    let below : r < length m.rows = omega (arith, filled.count, lr) in
    let wide : c < length (row_at m r) = omega (arith, filled.width r [] below, lc) in
    ap (λ l. at (get_or l r []) c) rows
    ∙ ap (λ l. at l c) (get_or-map (λ row. map f row) m.rows r [] [] below)
    ∙ get_or-map f (row_at m r) c None None wide

pub values_of_map : (f : Formula) (m made : Grid) → RowsFillRegion m.region m.rows → made.region ≡ m.region
    → made.labels ≡ empty_category_labels
    → made.rows ≡ rows_with_function_applied (formula_value_for_first_map_cell m.region f) m.rows
    → DependsOnlyOnCategory f
    → (maps : List Grid) → slice_get maps 0 ≡ Some m → MapHasExpressionValues f m.region maps made
values_of_map f m made filled region labels rows is maps first = record {
  region = region;
  labels = labels;
  cells = λ r c lr lc. changed_at (formula_value_for_first_map_cell m.region f) m made r c filled rows lr lc
      ∙ value_by_category f m.region m maps r c first is;
}

-- an implication carries over to the value in a Some
pub if_some : {X : Type 0} (P Q : X → Type 0) (o : Option X) → ((x : X) → P x → Q x) → IfSome o P → IfSome o Q
if_some P Q None then h = h
if_some P Q (Some x) then h = then x h
