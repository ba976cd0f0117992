-- An expression placed in a tile has the full map's value within the margin that its reads leave.
use Rattle.std.proofs.Common.{◌≡◌, ℕ, ℤ, pos, ◌-◌, ◌<◌, ◌≤◌, ◌+ℤ◌, Bool, false, List, [], ◌∷◌, ◌++◌, refl, ap, sym}
use Rattle.std.proofs.Common.{subst, ◌∙◌, arith}
use Rattle.std.specs.Prelude.{All, slice_get}
use Rattle.std.proofs.lemmas.List.Elements.{All-head, All-weaker}
use Rattle.cell_core.specs.Grid.{Grid, CellValue}
use Rattle.cell_core.specs.Shelf.{ShelfValue}
use Rattle.cell_calc_grammar.specs.declared.step.Step.{Step}
use Rattle.cell_calc_grammar.specs.declared.step.Step.TheVariants as step
use Rattle.cell_calc_grammar.specs.Postfix.{postfix, postfix_all}
use Rattle.cell_calc_language.specs.Applied.{PositionAndGridSize, grid_position, negated_cell, logical_negation_of_cell}
use Rattle.cell_calc_language.specs.Applied.{operator_value, call_result}
use Rattle.cell_calc_language.specs.Formula.{Formula, Number, Map, Negated, Not, Binary, Call, ArgumentFormulas}
use Rattle.cell_calc_language.specs.Formula.{NoTrees, Then, argument_count}
use Rattle.cell_calc_language.specs.Offsets.{cell_of_optional_map}
use Rattle.cell_calc_language.specs.Value.{value, argument_values}
use Rattle.rcell_plan.specs.declared.needs.MapNeed.{MapNeed}
use Rattle.rcell_plan.specs.HaloParts.{value_seen_from, values_seen_from}
use Rattle.rcell_plan.specs.Plans.{map_read_by_step, maps_read_by_expression}
use Rattle.rcell_plan.proofs.HaloReachLemmas.{position_in}
use Rattle.rcell_plan.proofs.JoinedLemmas.{all_left, all_right, Splits}
use Rattle.rcell_plan.proofs.ReadLemmas.{reads_of_steps}
use Rattle.rcell_plan.proofs.TileLemmas.{placed-reported}
use Rattle.rcell_tile.specs.declared.halo_margins.HaloMargin.{HaloMargin}
use Rattle.rcell_tile.specs.ClumpDependence.{map_depends_on_clump}
use Rattle.rcell_tile.specs.HaloMargins.{margin_of_map_at_place}
use Rattle.rcell_tile.specs.TileMaps.{full_region}
use Rattle.rcell_tile.specs.TilePlaces.{TilePlaceValue}
use Rattle.rcell_tile.specs.TileRuns.{expression_in_tile}
use Rattle.rcell_tile.proofs.AgreeLemmas.{ShelvesAgreeInTile, MarginFits, IsWithinMargin, same-cell, rows_of}
use Rattle.rcell_tile.proofs.AgreeLemmas.{columns_of, rows-are, columns-are}
use Rattle.rcell_tile.proofs.LimitLemmas.{leads, within-maps}
use Rattle.rcell_tile.proofs.MarginLemmas.{LeavesRead, leaves-splits}

-- ---- an expression that reads the same cells in two places

-- a step reads the same cell of both lists of maps
abbrev ReadsSameCell : (part whole : List Grid) (here there : PositionAndGridSize) → Step ℕ → Type 0
ReadsSameCell part whole here there (step.Map i down right) =
    cell_of_optional_map (slice_get part i) (pos here.row +ℤ down) (pos here.col +ℤ right)
    ≡ cell_of_optional_map (slice_get whole i) (pos there.row +ℤ down) (pos there.col +ℤ right)
ReadsSameCell part whole here there (step.Number n) = Unit {0}
ReadsSameCell part whole here there step.Negated = Unit {0}
ReadsSameCell part whole here there step.Not = Unit {0}
ReadsSameCell part whole here there (step.Binary op) = Unit {0}
ReadsSameCell part whole here there (step.Call f n) = Unit {0}

module _ (part whole : List Grid) (here there : PositionAndGridSize) where
  abbrev Same : Step ℕ → Type 0
  Same s = ReadsSameCell part whole here there s

  mutual
    value-there : (f : Formula) → All Same (postfix f) → value_seen_from f part here there ≡ value f whole there
    value-there (Number n) h = refl
    value-there (Map i down right) h = All-head Same (step.Map i down right) [] h
    value-there (Negated a) h = ap negated_cell (value-there a (all_left Same (postfix a) (step.Negated ∷ []) h))
    value-there (Not a) h = ap logical_negation_of_cell (value-there a (all_left Same (postfix a) (step.Not ∷ []) h))
    value-there (Binary op a b) h =
        let rest = all_right Same (postfix a) (postfix b ++ step.Binary op ∷ []) h in
        let first = value-there a (all_left Same (postfix a) (postfix b ++ step.Binary op ∷ []) h) in
        let second = value-there b (all_left Same (postfix b) (step.Binary op ∷ []) rest) in
        ap (λ v. operator_value op v (value_seen_from b part here there)) first
        ∙ ap (λ v. operator_value op (value a whole there) v) second
    value-there (Call f xs) h =
        ap (λ vs. call_result f there vs)
        (values-there xs (all_left Same (postfix_all xs) (step.Call f (argument_count xs) ∷ []) h))

    values-there : (xs : ArgumentFormulas) → All Same (postfix_all xs)
        → values_seen_from xs part here there ≡ argument_values xs whole there
    values-there NoTrees h = refl
    values-there (Then a xs) h =
        let first = value-there a (all_left Same (postfix a) (postfix_all xs) h) in
        let rest = values-there xs (all_right Same (postfix a) (postfix_all xs) h) in
        ap (λ (v : CellValue). v ∷ values_seen_from xs part here there) first
        ∙ ap (λ (vs : List CellValue). value a whole there ∷ vs) rest

-- ---- an expression in a tile

-- a read whose map does not depend on an r.clump, and to which the made margin leaves the map's margin
pub record IsReadInTile (clumps : List Bool) (known : List HaloMargin) (made : HaloMargin) (n : MapNeed) : Type 0 where
  pub leaves : LeavesRead known made n
  pub plain : map_depends_on_clump clumps n.place ≡ false

read-splits : (clumps : List Bool) (known : List HaloMargin) (made : HaloMargin)
    → Splits (IsReadInTile clumps known made)
read-splits clumps known made a b same h =
    let both = leaves-splits known made a b same h.leaves in (
      record { leaves = both.0; plain = h.plain },
      record {
        leaves = both.1;
        plain = subst (λ (place : ℕ). map_depends_on_clump clumps place ≡ false) same h.plain;
      },
    )

module _ (p : TilePlaceValue) (clumps : List Bool) (known : List HaloMargin) (part whole : ShelfValue)
    (h : ShelvesAgreeInTile p clumps known part whole) (made : HaloMargin) (made_fits : MarginFits p made)
    (row col : ℕ) (row_in : row < p.rows) (col_in : col < p.cols) (within : IsWithinMargin p made row col) where
  abbrev there : PositionAndGridSize
  there = grid_position (full_region p part.region) row col

  row-from : p.outer.top ≤ row
  row-from = (within-maps (rows_of p) made.up made.down row made_fits.rows within.rows row_in).0

  col-from : p.outer.left ≤ col
  col-from = (within-maps (columns_of p) made.left made.right col made_fits.cols within.cols col_in).0

  read-same : (i : ℕ) (down right : ℤ)
      → All (IsReadInTile clumps known made) (map_read_by_step (step.Map i down right))
      → ReadsSameCell part.maps whole.maps (position_in p.outer row col) there (step.Map i down right)
  read-same i down right all =
      let margin = margin_of_map_at_place known i in
      let read = All-head (IsReadInTile clumps known made) _ [] all in
      let leaves = read.leaves in
      let maps = h.maps i read.plain in
      same-cell p part.region whole.region h.outer_rows h.outer_cols h.full_rows h.full_cols margin
      (slice_get part.maps i) (slice_get whole.maps i) maps
      (pos (row - p.outer.top) +ℤ down) (pos (col - p.outer.left) +ℤ right) (pos row +ℤ down) (pos col +ℤ right)
      (leads (rows_of p) (rows-are p h.valid) margin.up margin.down maps.fits.rows made.up made.down _ _ row
      leaves.up leaves.down within.rows row-from down (omega arith) (omega arith))
      (leads (columns_of p) (columns-are p h.valid) margin.left margin.right maps.fits.cols made.left made.right _ _
      col leaves.left leaves.right within.cols col-from right (omega arith) (omega arith))

  step-same : (s : Step ℕ) → All (IsReadInTile clumps known made) (map_read_by_step s)
      → ReadsSameCell part.maps whole.maps (position_in p.outer row col) there s
  step-same (step.Map i down right) all = read-same i down right all
  step-same (step.Number n) all = tt
  step-same step.Negated all = tt
  step-same step.Not all = tt
  step-same (step.Binary op) all = tt
  step-same (step.Call f n) all = tt

  -- within a margin that its reads leave, the expression in the tile has the full map's value
  pub same-value : (f : Formula) → All (IsReadInTile clumps known made) (maps_read_by_expression f)
      → value (expression_in_tile p part.region f) part.maps (position_in p.outer row col)
      ≡ value f whole.maps (grid_position whole.region row col)
  same-value f reads =
      placed-reported (full_region p part.region) p.outer part.maps row col row-from col-from
      (omega (arith, row_in, h.valid.rows_most)) (omega (arith, col_in, h.valid.cols_most)) f
      ∙ value-there part.maps whole.maps (position_in p.outer row col) there f
      (All-weaker (λ s. All (IsReadInTile clumps known made) (map_read_by_step s))
      (ReadsSameCell part.maps whole.maps (position_in p.outer row col) there) step-same (postfix f)
      (reads_of_steps (IsReadInTile clumps known made) (read-splits clumps known made) (postfix f) reads))
      ∙ (λ i. value f whole.maps (record {
        rows = sym h.full_rows i;
        cols = sym h.full_cols i;
        row = row;
        col = col;
      }))
