-- Statements preserve that the maps of a tile agree with the full maps within their margins.
use Rattle.std.proofs.Common.{◌≡◌, ℕ, zero, suc, pos, ◌-◌, Bool, true, false, List, [], ◌∷◌, ◌++◌, length}
use Rattle.std.proofs.Common.{Option, Some, None, refl, ap, sym, subst, ◌∙◌, arith}
use Rattle.std.specs.Prelude.{All, slice_get, if◌then◌else◌}
use Rattle.std.specs.List.{list_any}
use Rattle.std.proofs.lemmas.Bool.{or_parts}
use Rattle.std.proofs.lemmas.List.Elements.{All-nil, All-cons, All-head, All-weaker}
use Rattle.cell_core_values.specs.Region.{RegionValue}
use Rattle.cell_core.specs.Grid.{Grid, RowsFillRegion}
use Rattle.cell_core.specs.Shelf.{ShelfValue}
use Rattle.cell_cats.specs.Rule.{RuleValue, new_category}
use Rattle.cell_cats.specs.Reclass.{reclassed_map}
use Rattle.cell_calc_language.specs.Formula.{Formula}
use Rattle.cell_calc_language.specs.Offsets.{cell_of_optional_map}
use Rattle.cell_calc_language.specs.Value.{value}
use Rattle.rcell.specs.After.{IsShelfAfterCommand}
use Rattle.rcell.specs.Making.{IsMapOfExpressionValues, shelf_with_map_at_end}
use Rattle.rcell_script.specs.declared.command.Command.{Command}
use Rattle.rcell_script.specs.declared.command.Command.TheVariants.{Mapcalc, Reclass, Clump, Stats, OutAscii}
use Rattle.rcell_script.specs.declared.statement.Statement.{Statement}
use Rattle.rcell_plan.specs.declared.needs.MapNeed.{MapNeed}
use Rattle.rcell_plan.specs.Needs.{need_of_own_cell, no_margin}
use Rattle.rcell_plan.specs.NeedsLaw.{IsShelfAfterStatements}
use Rattle.rcell_plan.specs.Plans.{maps_read_by_expression, maps_read_by_command}
use Rattle.rcell_plan.proofs.LawLemmas.{length-more, of_map, reclass_cell, reclass_of_region}
use Rattle.rcell_plan.proofs.MapLemmas.{fills}
use Rattle.rcell_tile.specs.declared.halo_margins.HaloFault.{HaloFault}
use Rattle.rcell_tile.specs.declared.halo_margins.HaloFaultKind.{HaloFaultKind}
use Rattle.rcell_tile.specs.declared.halo_margins.HaloFaultKind.TheVariants.{TooSmall, Labels}
use Rattle.rcell_tile.specs.declared.halo_margins.HaloMargin.{HaloMargin}
use Rattle.rcell_tile.specs.ClumpDependence.{map_depends_on_clump, made_map_depends_on_clump}
use Rattle.rcell_tile.specs.ClumpDependence.{clump_dependence_after_command, clump_dependence_after_statements}
use Rattle.rcell_tile.specs.HaloMargins.{no_halo_margin, margin_of_map_at_place, margin_after_reads}
use Rattle.rcell_tile.specs.HaloMargins.{read_exceeds_margin}
use Rattle.rcell_tile.specs.HaloMargins.{margins_after_command, halo_fault_of_command, fault_at_line_or_next}
use Rattle.rcell_tile.specs.HaloMargins.{first_fault_with_margins, command_prints_labels, margins_after_statements}
use Rattle.rcell_tile.specs.TileMaps.{map_with_null_halo}
use Rattle.rcell_tile.specs.TilePlaces.{TilePlaceValue}
use Rattle.rcell_tile.specs.TileRuns.{RunShelvesValue, IsTileShelfAfterCommand, IsOuterShelfAfterCommand}
use Rattle.rcell_tile.specs.TileRuns.{AreShelvesAfterStatements, expression_in_tile}
use Rattle.rcell_tile.proofs.AgreeLemmas.{rows_of, columns_of, MarginFits, FillsIfMap, IsWithinMargin, LeavesMargin}
use Rattle.rcell_tile.proofs.AgreeLemmas.{MapsAgreeInTile, MapsAgreeUnlessClump, ShelvesAgreeInTile}
use Rattle.rcell_tile.proofs.ExpressionLemmas.{same-value}
use Rattle.rcell_tile.proofs.LimitLemmas.{within-maps, within-left}
use Rattle.rcell_tile.proofs.MarginLemmas.{LeavesRead, reads-leave, reads-fit}

-- ---- one more map

-- the flags, the margins and the maps at each index, with one more at the end
module _ (R : Bool → HaloMargin → Option Grid → Option Grid → Type 0) (b : Bool) (made : HaloMargin) (m n : Grid)
    (new : R b made (Some m) (Some n)) (none : R false no_halo_margin None None) where
  grown : (known : List HaloMargin) (clumps : List Bool) (x y : List Grid) → length clumps ≡ length known
      → length x ≡ length known → length y ≡ length known
      → ((place : ℕ) → R (map_depends_on_clump clumps place) (margin_of_map_at_place known place) (slice_get x place)
      (slice_get y place))
      → (place : ℕ) → R (map_depends_on_clump (clumps ++ b ∷ []) place)
      (margin_of_map_at_place (known ++ made ∷ []) place) (slice_get (x ++ m ∷ []) place)
      (slice_get (y ++ n ∷ []) place)
  grown [] [] [] [] cs xs ys h zero = new
  grown [] [] [] [] cs xs ys h (suc place) = none
  grown (k ∷ known) (c ∷ clumps) (a ∷ x) (d ∷ y) cs xs ys h zero = h zero
  grown (k ∷ known) (c ∷ clumps) (a ∷ x) (d ∷ y) cs xs ys h (suc place) =
      grown known clumps x y (omega (arith, cs)) (omega (arith, xs)) (omega (arith, ys)) (λ i. h (suc i)) place
  grown known clumps x y cs xs ys h place = absurd (let no : ⊥ = omega (arith, cs, xs, ys) in no)

none-passes : {X : Type 0} (p : X → Bool) (xs : List X) → list_any p xs ≡ false → All (λ x. p x ≡ false) xs
none-passes p [] e = All-nil (λ x. p x ≡ false)
none-passes p (x ∷ xs) e =
    let both = or_parts (p x) (list_any p xs) e in
    All-cons (λ x. p x ≡ false) x xs both.0 (none-passes p xs both.1)

-- the read's map depends on an r.clump
abbrev reads_clump : List Bool → MapNeed → Bool
reads_clump clumps n = map_depends_on_clump clumps n.place

module _ (p : TilePlaceValue) (clumps : List Bool) (known : List HaloMargin) (part whole : ShelfValue)
    (h : ShelvesAgreeInTile p clumps known part whole) (none_fits : MarginFits p no_halo_margin) where
  nothing-agrees : MapsAgreeInTile p part.region whole.region no_halo_margin None None
  nothing-agrees = record {
    part_fills = tt;
    whole_fills = tt;
    fits = none_fits;
    agree = λ row col row_in col_in within. refl;
  }

  with-maps : (target : List ℕ) (depends : Bool) (made : HaloMargin) (m n : Grid)
      → MapsAgreeUnlessClump p part.region whole.region depends made (Some m) (Some n)
      → ShelvesAgreeInTile p (clumps ++ depends ∷ []) (known ++ made ∷ []) (shelf_with_map_at_end part target m)
      (shelf_with_map_at_end whole target n)
  with-maps target depends made m n new = record {
    valid = h.valid;
    outer_rows = h.outer_rows;
    outer_cols = h.outer_cols;
    full_rows = h.full_rows;
    full_cols = h.full_cols;
    clump_count = length-more clumps depends ∙ ap suc h.clump_count ∙ sym (length-more known made);
    part_count = length-more part.maps m ∙ ap suc h.part_count ∙ sym (length-more known made);
    whole_count = length-more whole.maps n ∙ ap suc h.whole_count ∙ sym (length-more known made);
    maps = grown (MapsAgreeUnlessClump p part.region whole.region) depends made m n new (λ e. nothing-agrees) known
        clumps part.maps whole.maps h.clump_count h.part_count h.whole_count h.maps;
  }

  module _ (halo : HaloMargin) (halo_fits : MarginFits p halo) where
    made-fits : (reads : List MapNeed) → list_any (reads_clump clumps) reads ≡ false
        → MarginFits p (margin_after_reads known halo reads)
    made-fits reads plain =
        reads-fit known p halo reads halo_fits
        (All-weaker (λ n. reads_clump clumps n ≡ false) (λ n. MarginFits p (margin_of_map_at_place known n.place))
        (λ n is. (h.maps n.place is).fits) reads (none-passes (reads_clump clumps) reads plain))

    -- ---- r.mapcalc

    values-agree : (f : Formula) (m n : Grid)
        → IsMapOfExpressionValues (expression_in_tile p part.region f) part m → IsMapOfExpressionValues f whole n
        → list_any (read_exceeds_margin known) (maps_read_by_expression f) ≡ false
        → list_any (reads_clump clumps) (maps_read_by_expression f) ≡ false
        → MapsAgreeInTile p part.region whole.region (margin_after_reads known halo (maps_read_by_expression f))
        (Some m) (Some n)
    values-agree f m n are_m are_n no_fault plain =
        let reads = maps_read_by_expression f in
        let made = margin_after_reads known halo reads in
        let fit = made-fits reads plain in
        let leaves = reads-leave known halo reads no_fault in
        let plain_reads = none-passes (reads_clump clumps) reads plain in
        record {
          part_fills = fills (expression_in_tile p part.region f) part m are_m;
          whole_fills = fills f whole n are_n;
          fits = fit;
          agree = λ row col row_in col_in within.
              let high = within-maps (rows_of p) made.up made.down row fit.rows within.rows row_in in
              let wide = within-maps (columns_of p) made.left made.right col fit.cols within.cols col_in in
              let outer_rows = h.outer_rows in
              let outer_cols = h.outer_cols in
              let full_rows = h.full_rows in
              let full_cols = h.full_cols in
              are_m.cells (row - p.outer.top) (col - p.outer.left) (omega (arith, high.0, high.1, outer_rows))
              (omega (arith, wide.0, wide.1, outer_cols))
              ∙ (λ i. value (expression_in_tile p part.region f) part.maps (record {
                rows = outer_rows i;
                cols = outer_cols i;
                row = row - p.outer.top;
                col = col - p.outer.left;
              }))
              ∙ same-value p clumps known part whole h made fit row col row_in col_in within f
              (λ i d lt. record { leaves = leaves i d lt; plain = plain_reads i d lt })
              ∙ sym (are_n.cells row col (omega (arith, row_in, full_rows)) (omega (arith, col_in, full_cols)));
        }

    -- ---- r.reclass

    own-cell : (place row col : ℕ)
        → list_any (read_exceeds_margin known) (need_of_own_cell place ∷ []) ≡ false
        → IsWithinMargin p (margin_after_reads known halo (need_of_own_cell place ∷ [])) row col
        → IsWithinMargin p (margin_of_map_at_place known place) row col
    own-cell place row col no_fault within =
        let made = margin_after_reads known halo (need_of_own_cell place ∷ []) in
        let margin = margin_of_map_at_place known place in
        let leaves : LeavesMargin made no_margin margin = All-head (LeavesRead known made) (need_of_own_cell place) []
        (reads-leave known halo (need_of_own_cell place ∷ []) no_fault) in
        record {
          rows = within-left (rows_of p) margin.up margin.down made.up made.down row leaves.up leaves.down within.rows;
          cols = within-left (columns_of p) margin.left margin.right made.left made.right col leaves.left leaves.right
              within.cols;
        }

    reclass-fills : (region : RegionValue) (rules : List RuleValue) (g : Grid) (o : Option Grid) → o ≡ Some g
        → FillsIfMap region o → RowsFillRegion region (reclassed_map rules g).rows
    reclass-fills region rules g o is filled =
        let given : RowsFillRegion region g.rows = subst (FillsIfMap region) is filled in
        (reclass_of_region region rules (record g { region = region }) (record {
          region_is = refl;
          filled = given;
        })).filled

    classes-agree : (place : ℕ) (rules : List RuleValue) (g k : Grid) → slice_get part.maps place ≡ Some g
        → slice_get whole.maps place ≡ Some k
        → list_any (read_exceeds_margin known) (need_of_own_cell place ∷ []) ≡ false
        → list_any (reads_clump clumps) (need_of_own_cell place ∷ []) ≡ false
        → MapsAgreeInTile p part.region whole.region (margin_after_reads known halo (need_of_own_cell place ∷ []))
        (Some (reclassed_map rules g)) (Some (reclassed_map rules k))
    classes-agree place rules g k g_is k_is no_fault plain =
        let reads = need_of_own_cell place ∷ [] in
        let given = h.maps place (All-head (λ n. reads_clump clumps n ≡ false) (need_of_own_cell place) []
        (none-passes (reads_clump clumps) reads plain)) in
        record {
          part_fills = reclass-fills part.region rules g (slice_get part.maps place) g_is given.part_fills;
          whole_fills = reclass-fills whole.region rules k (slice_get whole.maps place) k_is given.whole_fills;
          fits = made-fits reads plain;
          agree = λ row col row_in col_in within.
              let z = pos (row - p.outer.top) in
              let w = pos (col - p.outer.left) in
              reclass_cell rules g z w
              ∙ ap (new_category rules) (sym (ap (λ o. cell_of_optional_map o z w) g_is)
              ∙ given.agree row col row_in col_in (own-cell place row col no_fault within)
              ∙ ap (λ o. cell_of_optional_map o (pos row) (pos col)) k_is)
              ∙ sym (reclass_cell rules k (pos row) (pos col));
        }

    -- ---- one statement

    same-shelves : (flags : List Bool) (after : List HaloMargin) (next other z w : ShelfValue) → next ≡ z → other ≡ w
        → ShelvesAgreeInTile p flags after z w → ShelvesAgreeInTile p flags after next other
    same-shelves flags after next other z w first second agree =
        subst (λ (s : ShelfValue). ShelvesAgreeInTile p flags after s other) (sym first)
        (subst (λ (s : ShelfValue). ShelvesAgreeInTile p flags after z s) (sym second) agree)

    no-read-exceeds : (command : Command) → halo_fault_of_command known command ≡ None
        → list_any (read_exceeds_margin known) (maps_read_by_command command) ≡ false
    no-read-exceeds command none = by (command_prints_labels command) (list_any (read_exceeds_margin known)
        (maps_read_by_command command)) none
      where
        by : (a b : Bool) → (if a then Some Labels else (if b then Some TooSmall else None)) ≡ None → b ≡ false
        by true b e = cc
        by false true e = cc
        by false false e = refl

    agree-after : (command : Command) (next other : ShelfValue) → halo_fault_of_command known command ≡ None
        → IsTileShelfAfterCommand p part command next → IsShelfAfterCommand whole command other
        → ShelvesAgreeInTile p (clump_dependence_after_command clumps command)
        (margins_after_command halo known command) next other
    agree-after (Mapcalc target f) next other none u v =
        let depends = made_map_depends_on_clump clumps (Mapcalc target f) in
        let no_fault = no-read-exceeds (Mapcalc target f) none in
        same-shelves (clump_dependence_after_command clumps (Mapcalc target f))
        (margins_after_command halo known (Mapcalc target f)) next other
        (shelf_with_map_at_end part target u.0) (shelf_with_map_at_end whole target v.0) u.1.1 v.1.1
        (with-maps target depends (margin_after_reads known halo (maps_read_by_expression f)) u.0 v.0
        (λ plain. values-agree f u.0 v.0 u.1.0 v.1.0 no_fault plain))
    agree-after (Reclass place target rules) next other none u v =
        let g = of_map (slice_get part.maps place) u in
        let k = of_map (slice_get whole.maps place) v in
        let depends = made_map_depends_on_clump clumps (Reclass place target rules) in
        let no_fault = no-read-exceeds (Reclass place target rules) none in
        same-shelves (clump_dependence_after_command clumps (Reclass place target rules))
        (margins_after_command halo known (Reclass place target rules)) next other
        (shelf_with_map_at_end part target (reclassed_map rules g.0))
        (shelf_with_map_at_end whole target (reclassed_map rules k.0)) g.1.1 k.1.1
        (with-maps target depends (margin_after_reads known halo (need_of_own_cell place ∷ []))
        (reclassed_map rules g.0) (reclassed_map rules k.0)
        (λ plain. classes-agree place rules g.0 k.0 g.1.0 k.1.0 no_fault plain))
    agree-after (Clump place target joining) next other none u v =
        let m = map_with_null_halo p part.region u.0 in
        same-shelves (clump_dependence_after_command clumps (Clump place target joining))
        (margins_after_command halo known (Clump place target joining)) next other
        (shelf_with_map_at_end part target m) (shelf_with_map_at_end whole target v.0) u.1.1 v.1.1
        (with-maps target true no_halo_margin m v.0 (λ e. cc))
    agree-after (Stats places options) next other none u v = same-shelves clumps known next other part whole u v h
    agree-after (OutAscii place null_text) next other none u v = same-shelves clumps known next other part whole u v h

-- ---- all statements

no-fault : (line : ℕ) (o : Option HaloFaultKind) (next : Option HaloFault) → fault_at_line_or_next line o next ≡ None
    → (o ≡ None) × (next ≡ None)
no-fault line None next e = (refl, e)
no-fault line (Some kind) next e = cc

-- the relation after statements, and the place of the tile
pub record RunAgreesInTile (p : TilePlaceValue) (clumps : List Bool) (known : List HaloMargin)
    (after : RunShelvesValue) (whole : ShelfValue) : Type 0 where
  pub place : after.place ≡ Some p
  pub shelves : ShelvesAgreeInTile p clumps known after.outer whole

module _ (p : TilePlaceValue) (halo : HaloMargin) (halo_fits : MarginFits p halo)
    (none_fits : MarginFits p no_halo_margin) where
  -- after the statements, the shelves of the tile and of the full maps agree within the margins
  pub agree-after-statements : (clumps : List Bool) (known : List HaloMargin) (part after : RunShelvesValue)
      (whole other : ShelfValue) (statements : List Statement) → part.place ≡ Some p
      → ShelvesAgreeInTile p clumps known part.outer whole → first_fault_with_margins halo known statements ≡ None
      → AreShelvesAfterStatements part statements after → IsShelfAfterStatements whole statements other
      → RunAgreesInTile p (clump_dependence_after_statements clumps statements)
      (margins_after_statements halo known statements) after other
  agree-after-statements clumps known part after whole other [] place_is h none u v = record {
    place = subst (λ (s : RunShelvesValue). s.place ≡ Some p) u place_is;
    shelves = subst (λ (s : RunShelvesValue). ShelvesAgreeInTile p clumps known s.outer other) u
        (subst (λ (s : ShelfValue). ShelvesAgreeInTile p clumps known part.outer s) v h);
  }
  agree-after-statements clumps known part after whole other (s ∷ ss) place_is h none u v =
      let next = u.0 in
      let faults = no-fault s.line (halo_fault_of_command known s.command)
      (first_fault_with_margins halo (margins_after_command halo known s.command) ss) none in
      let step : IsTileShelfAfterCommand p part.outer s.command next.outer =
      subst (λ (o : Option TilePlaceValue). IsOuterShelfAfterCommand o part.outer s.command next.outer) place_is
      u.1.0.outer in
      agree-after-statements (clump_dependence_after_command clumps s.command)
      (margins_after_command halo known s.command) next after v.0 other ss (u.1.0.place ∙ place_is)
      (agree-after p clumps known part.outer whole h none_fits halo halo_fits s.command next.outer v.0 faults.0 step
      v.1.0) faults.1 u.1.1 v.1.1
