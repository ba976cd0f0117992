-- Maps of values, computed tile by tile with a halo.
use Rattle.std.proofs.Common.{◌≡◌, ℕ, pos, ◌+◌, ◌-◌, ◌<◌, ◌≤◌, min, List, ◌∷◌, Some, refl, ap, sym, ◌∙◌, arith}
use Rattle.cell_core_values.specs.Region.{RegionValue}
use Rattle.cell_core.specs.Grid.{Grid, CellValue}
use Rattle.cell_calc_grammar.specs.declared.function.Function.{Function}
use Rattle.cell_calc_grammar.specs.declared.function.Function.TheVariants.{Row, Column}
use Rattle.cell_calc_language.specs.Applied.{PositionAndGridSize, grid_position, negated_cell, logical_negation_of_cell, operator_value, call_result}
use Rattle.cell_calc_language.proofs.Fit.{fit_number}
use Rattle.cell_calc_language.specs.Formula.{Formula, Number, Map, Negated, Not, Binary, Call, ArgumentFormulas}
use Rattle.cell_calc_language.specs.Formula.{NoTrees, Then}
use Rattle.cell_calc_language.specs.Value.{value, argument_values}
use Rattle.rcell_plan.specs.HaloParts.{value_seen_from, values_seen_from}
use Rattle.cell_join_numbers.specs.Parts.{Rectangle}
use Rattle.rcell_plan.specs.ReachParts.{reach_of}
use Rattle.rcell_plan.proofs.HaloReachLemmas.{its-reach-is-enough, position_in}
use Rattle.rcell_plan.specs.TileLaw.{tile_rectangle_with_halo, HaloedTileHasFullMapValues}
use Rattle.rcell_plan.specs.TileLaw.{placed, all_placed, call_rewritten_for_tile}

inside : (total first n up down i rows : ℕ)
    → rows ≡ min total (first + n + down) - (first - up) → first + n ≤ total → first ≤ i → i < first + n
    → i - (first - up) < rows
inside total first n up down i rows is fits from to = omega (arith, fits, from, to, is)

pub tiles-make-the-map : HaloedTileHasFullMapValues
tiles-make-the-map f whole tile r is no_rows no_cols x y are_x are_y row col holds =
    let h = tile_rectangle_with_halo f whole r in
    let reach = reach_of f in
    let row_in : row < whole.region.rows = omega (arith, holds.high, holds.above) in
    let col_in : col < whole.region.cols = omega (arith, holds.wide, holds.left) in
    let row_inside = inside whole.region.rows r.top r.rows reach.up reach.down row tile.region.rows is.rows
    holds.high holds.below holds.above in
    let col_inside = inside whole.region.cols r.left r.cols reach.left reach.right col tile.region.cols is.cols
    holds.wide holds.right holds.left in
    let here : grid_position tile.region (row - h.top) (col - h.left) ≡ position_in h row col =
    λ i. record { rows = is.rows i; cols = is.cols i; row = row - h.top; col = col - h.left } in
    are_y.cells (row - h.top) (col - h.left) row_inside col_inside ∙ ap (value f tile.maps) here
    ∙ its-reach-is-enough f whole.maps tile.maps whole.region r is.filled is.cells no_rows no_cols row col holds
    ∙ sym (are_x.cells row col row_in col_in)

-- ---- an expression that is placed in a region is given the position of the cell there

module _ (region : RegionValue) (r : Rectangle) (maps : List Grid) (row col : ℕ)
    (below : r.top ≤ row) (right : r.left ≤ col) (rows : row < 2147483647) (cols : col < 2147483647) where
  abbrev here : PositionAndGridSize
  here = position_in r row col

  abbrev there : PositionAndGridSize
  there = grid_position region row col

  called : (f : Function) (xs : ArgumentFormulas)
      → value (call_rewritten_for_tile region r f xs) maps here ≡ call_result f there (argument_values xs maps here)
  called Row xs =
      let on : row - r.top + 1 + r.top ≡ row + 1 = omega (arith, below) in
      fit_number (row - r.top + 1 + r.top) (omega (arith, on, rows)) ∙ ap (λ n. Some (pos n)) on
  called Column xs =
      let on : col - r.left + 1 + r.left ≡ col + 1 = omega (arith, right) in
      fit_number (col - r.left + 1 + r.left) (omega (arith, on, cols)) ∙ ap (λ n. Some (pos n)) on
  called f xs = refl

  mutual
    pub placed-reported : (f : Formula) → value (placed region r f) maps here ≡ value_seen_from f maps here there
    placed-reported (Number n) = refl
    placed-reported (Map i down right) = refl
    placed-reported (Negated a) = ap negated_cell (placed-reported a)
    placed-reported (Not a) = ap logical_negation_of_cell (placed-reported a)
    placed-reported (Binary op a b) =
        ap (λ x. operator_value op x (value (placed region r b) maps here)) (placed-reported a)
        ∙ ap (operator_value op (value_seen_from a maps here there)) (placed-reported b)
    placed-reported (Call f xs) = called f (all_placed region r xs) ∙ ap (call_result f there) (all-read xs)

    all-read : (xs : ArgumentFormulas) → argument_values (all_placed region r xs) maps here ≡ values_seen_from xs maps here there
    all-read NoTrees = refl
    all-read (Then a xs) =
        ap (λ (x : CellValue). x ∷ argument_values (all_placed region r xs) maps here) (placed-reported a)
        ∙ ap (λ (l : List CellValue). value_seen_from a maps here there ∷ l) (all-read xs)
