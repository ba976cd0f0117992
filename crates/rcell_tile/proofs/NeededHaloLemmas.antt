-- A tile in which each statement can run has the planned halo.
use Rattle.std.proofs.Common.{◌≡◌, ℕ, zero, suc, ◌+◌, ◌<◌, ◌≤◌, max, Bool, true, false, ◌||◌, ◌⊎◌, inl, inr}
use Rattle.std.proofs.Common.{List, [], ◌∷◌, ◌++◌, length, Option, Some, None, replicate, refl, ap, sym, subst, ◌∙◌}
use Rattle.std.proofs.Common.{eqb, arith}
use Rattle.std.specs.Prelude.{All, if◌then◌else◌}
use Rattle.std.specs.List.{list_any}
use Rattle.std.proofs.lemmas.Bool.{or_parts, eqb-true}
use Rattle.std.proofs.lemmas.List.Elements.{All-nil, All-cons, All-head, All-tail}
use Rattle.rcell_script.specs.FittingScripts.{StatementsFitKnownMaps}
use Rattle.rcell_script.specs.KnownMaps.{known_names_after_command}
use Rattle.rcell_script.specs.declared.command.Command.{Command}
use Rattle.rcell_script.specs.declared.command.Command.TheVariants.{Mapcalc, Reclass, Clump, Stats, OutAscii}
use Rattle.rcell_script.specs.declared.statement.Statement.{Statement}
use Rattle.rcell_plan.specs.declared.needs.Margin.{Margin}
use Rattle.rcell_plan.specs.declared.needs.MapNeed.{MapNeed}
use Rattle.rcell_plan.specs.Needs.{no_margin, margin_covering_both_margins, sum_of_margins}
use Rattle.rcell_plan.specs.Plans.{maps_read_by_command, plan_of_statement, plans_of_statements, needs_after_command}
use Rattle.rcell_plan.specs.Plans.{needs_of_given_maps}
use Rattle.rcell_tile.specs.declared.halo_margins.HaloFault.{HaloFault}
use Rattle.rcell_tile.specs.declared.halo_margins.HaloFaultKind.TheVariants.{TooSmall, Labels}
use Rattle.rcell_tile.specs.declared.halo_margins.HaloMargin.{HaloMargin}
use Rattle.rcell_tile.specs.ClumpDependence.{map_depends_on_clump, clump_dependence_after_command}
use Rattle.rcell_tile.specs.HaloMargins.{halo_margin, no_halo_margin, limit_of_side, exceeds_limit, limit_after_read}
use Rattle.rcell_tile.specs.HaloMargins.{smaller_limit, exceeds_margin, margin_after_read, smaller_margin}
use Rattle.rcell_tile.specs.HaloMargins.{margin_of_map_at_place, margin_after_reads, read_exceeds_margin}
use Rattle.rcell_tile.specs.HaloMargins.{margins_after_command, command_prints_labels}
use Rattle.rcell_tile.specs.HaloMargins.{fault_at_line_or_next, first_fault_with_margins}
use Rattle.rcell_tile.specs.PlannedHalo.{halo_of_map_at_place, halo_of_read, halo_of_reads, halos_after_statement}
use Rattle.rcell_tile.specs.PlannedHalo.{halo_of_statements, planned_halo, TileHasHalo, NoStatementPrintsLabels}
use Rattle.rcell_tile.specs.PlannedHalo.{ClumpMapsAreReadAtOwnCell, PlannedHaloIsNeeded}
use Rattle.rcell_tile.specs.TilePlaces.{TilePlaceValue}
use Rattle.rcell_tile.proofs.PlannedHaloLemmas.{Contains, IsContained, contains-own-cell, IsOwnCellIfClump, AreLeft}
use Rattle.rcell_tile.proofs.PlannedHaloLemmas.{given-left, left-at-place, next-left, same-count, count-given}
use Rattle.rcell_tile.proofs.ReadPlaceLemmas.{IsKnown, known-reads}

-- ---- one side

contains-both : (limit : Option ℕ) (m n : ℕ) → Contains limit m → Contains limit n → Contains limit (max m n)
contains-both None m n h k = refl
contains-both (Some limit) m n h k = grind arith

contains-sum : (limit : Option ℕ) (m n : ℕ) → Contains limit m → Contains (limit_after_read limit m) n
    → Contains limit (n + m)
contains-sum None m n h k = refl
contains-sum (Some limit) m n h k = grind arith

contains-nothing : (n : ℕ) → Contains (Some 0) n → n ≡ 0
contains-nothing n h = grind arith

side-ends : (ends : Bool) (count n : ℕ) → Contains (limit_of_side ends count) n → (ends ≡ true) ⊎ (n ≤ count)
side-ends true count n h = inl refl
side-ends false count n h = inr (grind arith)

nothing-left : (limit : Option ℕ) (n : ℕ) → smaller_limit limit (limit_after_read (Some 0) n) ≡ Some 0
nothing-left None n = ap Some (omega arith)
nothing-left (Some limit) n = ap Some (omega arith)

nothing-stays : (limit : Option ℕ) → smaller_limit (Some 0) limit ≡ Some 0
nothing-stays None = refl
nothing-stays (Some limit) = ap Some (omega arith)

-- ---- all sides

contained-parts : (margin : HaloMargin) (reach : Margin) → exceeds_margin margin reach ≡ false
    → IsContained margin reach
contained-parts margin reach e =
    let both = or_parts (exceeds_limit margin.up reach.up || exceeds_limit margin.down reach.down)
    (exceeds_limit margin.left reach.left || exceeds_limit margin.right reach.right) e in
    let rows = or_parts (exceeds_limit margin.up reach.up) (exceeds_limit margin.down reach.down) both.0 in
    let cols = or_parts (exceeds_limit margin.left reach.left) (exceeds_limit margin.right reach.right) both.1 in
    record { up = rows.0; down = rows.1; left = cols.0; right = cols.1 }

contained-none : (margin : HaloMargin) → IsContained margin no_margin
contained-none margin = record {
  up = contains-own-cell margin.up;
  down = contains-own-cell margin.down;
  left = contains-own-cell margin.left;
  right = contains-own-cell margin.right;
}

contained-both : (margin : HaloMargin) (a b : Margin) → IsContained margin a → IsContained margin b
    → IsContained margin (margin_covering_both_margins a b)
contained-both margin a b h k = record {
  up = contains-both margin.up a.up b.up h.up k.up;
  down = contains-both margin.down a.down b.down h.down k.down;
  left = contains-both margin.left a.left b.left h.left k.left;
  right = contains-both margin.right a.right b.right h.right k.right;
}

contained-sum : (margin : HaloMargin) (halo reach : Margin) → IsContained margin halo
    → IsContained (margin_after_read margin halo) reach → IsContained margin (sum_of_margins reach halo)
contained-sum margin halo reach h k = record {
  up = contains-sum margin.up halo.up reach.up h.up k.up;
  down = contains-sum margin.down halo.down reach.down h.down k.down;
  left = contains-sum margin.left halo.left reach.left h.left k.left;
  right = contains-sum margin.right halo.right reach.right h.right k.right;
}

-- without a margin, only the cell itself is read
only-own-cell : (reach : Margin) → IsContained no_halo_margin reach → reach ≡ no_margin
only-own-cell reach h =
    let up = contains-nothing reach.up h.up in
    let down = contains-nothing reach.down h.down in
    let left = contains-nothing reach.left h.left in
    let right = contains-nothing reach.right h.right in
    λ i. record { up = up i; down = down i; left = left i; right = right i }

none-plus : (n : ℕ) → n ≡ 0 + n
none-plus n = omega arith

sum-of-none : (halo : Margin) → halo ≡ sum_of_margins no_margin halo
sum-of-none halo = λ i. record {
  up = none-plus halo.up i;
  down = none-plus halo.down i;
  left = none-plus halo.left i;
  right = none-plus halo.right i;
}

none-left : (margin : HaloMargin) (reach : Margin)
    → smaller_margin margin (margin_after_read no_halo_margin reach) ≡ no_halo_margin
none-left margin reach = λ i. record {
  up = nothing-left margin.up reach.up i;
  down = nothing-left margin.down reach.down i;
  left = nothing-left margin.left reach.left i;
  right = nothing-left margin.right reach.right i;
}

none-stays : (margin : HaloMargin) → smaller_margin no_halo_margin margin ≡ no_halo_margin
none-stays margin = λ i. record {
  up = nothing-stays margin.up i;
  down = nothing-stays margin.down i;
  left = nothing-stays margin.left i;
  right = nothing-stays margin.right i;
}

halo-of-tile : (p : TilePlaceValue) (halo : Margin) → IsContained (halo_margin p) halo → TileHasHalo p halo
halo-of-tile p halo h = record {
  up = side p.outer.top 0 _ _ (side-ends (eqb p.outer.top 0) _ halo.up h.up);
  down = side _ p.rows _ _ (side-ends (eqb (p.outer.top + p.outer.rows) p.rows) _ halo.down h.down);
  left = side p.outer.left 0 _ _ (side-ends (eqb p.outer.left 0) _ halo.left h.left);
  right = side _ p.cols _ _ (side-ends (eqb (p.outer.left + p.outer.cols) p.cols) _ halo.right h.right);
}
  where
    side : (a b n count : ℕ) → (eqb a b ≡ true) ⊎ (n ≤ count) → (a ≡ b) ⊎ (n ≤ count)
    side a b n count (inl e) = inl (eqb-true a b e)
    side a b n count (inr le) = inr le

-- ---- known maps

module _ (halo : HaloMargin) where
  -- maps that depend on an r.clump have no margin, and the tile's halo contains the halo of each map
  abbrev AreContained : List Bool → List HaloMargin → List Margin → Type 0
  AreContained [] [] [] = Unit {0}
  AreContained (c ∷ clumps) (m ∷ known) (h ∷ halos) =
      ((c ≡ true → m ≡ no_halo_margin) × IsContained halo h) × AreContained clumps known halos
  AreContained clumps known halos = ⊥

  given-contained : (count : ℕ)
      → AreContained (replicate count false) (replicate count halo) (replicate count no_margin)
  given-contained zero = tt
  given-contained (suc count) = (((λ e. cc), contained-none halo), given-contained count)

  contained-more : (clumps : List Bool) (known : List HaloMargin) (halos : List Margin) (b : Bool)
      (made : HaloMargin) (h : Margin) → AreContained clumps known halos
      → (b ≡ true → made ≡ no_halo_margin) × IsContained halo h
      → AreContained (clumps ++ b ∷ []) (known ++ made ∷ []) (halos ++ h ∷ [])
  contained-more [] [] [] b made h are new = (new, tt)
  contained-more (c ∷ clumps) (m ∷ known) (k ∷ halos) b made h are new =
      (are.0, contained-more clumps known halos b made h are.1 new)
  contained-more clumps known halos b made h are new = absurd are

  contained-at-place : (clumps : List Bool) (known : List HaloMargin) (halos : List Margin)
      → AreContained clumps known halos → (place : ℕ) → place < length known
      → (map_depends_on_clump clumps place ≡ true → margin_of_map_at_place known place ≡ no_halo_margin)
      × IsContained halo (halo_of_map_at_place halos place)
  contained-at-place [] [] [] are place lt = absurd (let no : ⊥ = omega (arith, lt) in no)
  contained-at-place (c ∷ clumps) (m ∷ known) (k ∷ halos) are zero lt = are.0
  contained-at-place (c ∷ clumps) (m ∷ known) (k ∷ halos) are (suc place) lt =
      contained-at-place clumps known halos are.1 place (omega (arith, lt))
  contained-at-place clumps known halos are place lt = absurd are

  module _ (clumps : List Bool) (known : List HaloMargin) (halos : List Margin)
      (left : AreLeft halo clumps known halos) (are : AreContained clumps known halos) where
    -- ---- a command's reads

    read-contained : (n : MapNeed) → IsKnown (length known) n → read_exceeds_margin known n ≡ false
        → IsOwnCellIfClump clumps n × IsContained halo (halo_of_read halos n)
    read-contained n lt e = by (map_depends_on_clump clumps n.place) refl
      where
        of_map : Margin
        of_map = halo_of_map_at_place halos n.place

        at_place : (map_depends_on_clump clumps n.place ≡ true → margin_of_map_at_place known n.place ≡ no_halo_margin)
            × IsContained halo of_map
        at_place = contained-at-place clumps known halos are n.place lt

        within : IsContained (margin_of_map_at_place known n.place) n.margin
        within = contained-parts (margin_of_map_at_place known n.place) n.margin e

        by : (b : Bool) → map_depends_on_clump clumps n.place ≡ b
            → (b ≡ true → n.margin ≡ no_margin) × IsContained halo (sum_of_margins n.margin of_map)
        by true is =
            let own = only-own-cell n.margin
            (subst (λ (m : HaloMargin). IsContained m n.margin) (at_place.0 is) within) in (
              λ yes. own,
              subst (λ (r : Margin). IsContained halo (sum_of_margins r of_map)) (sym own)
                  (subst (IsContained halo) (sum-of-none of_map) at_place.1),
            )
        by false is = (
          λ yes. cc,
          contained-sum halo of_map n.margin at_place.1
              (subst (λ (m : HaloMargin). IsContained m n.margin)
              (left-at-place halo clumps known halos left n.place lt is) within),
        )

    reads-contained : (reads : List MapNeed) → All (IsKnown (length known)) reads
        → list_any (read_exceeds_margin known) reads ≡ false
        → All (IsOwnCellIfClump clumps) reads × IsContained halo (halo_of_reads halos reads)
    reads-contained [] lt e = (All-nil (IsOwnCellIfClump clumps), contained-none halo)
    reads-contained (n ∷ ns) lt e =
        let both = or_parts (read_exceeds_margin known n) (list_any (read_exceeds_margin known) ns) e in
        let first = read-contained n (All-head (IsKnown (length known)) n ns lt) both.0 in
        let rest = reads-contained ns (All-tail (IsKnown (length known)) n ns lt) both.1 in (
          All-cons (IsOwnCellIfClump clumps) n ns first.0 rest.0,
          contained-both halo (halo_of_read halos n) (halo_of_reads halos ns) first.1 rest.1,
        )

    -- ---- the made map

    stays-none : (reads : List MapNeed) → margin_after_reads known no_halo_margin reads ≡ no_halo_margin
    stays-none [] = refl
    stays-none (n ∷ ns) =
        ap (λ (m : HaloMargin). margin_after_reads known m ns)
        (none-stays (margin_after_read (margin_of_map_at_place known n.place) n.margin)) ∙ stays-none ns

    made-none : (margin : HaloMargin) (reads : List MapNeed) → All (IsKnown (length known)) reads
        → list_any (λ n. map_depends_on_clump clumps n.place) reads ≡ true
        → margin_after_reads known margin reads ≡ no_halo_margin
    made-none margin [] lt e = cc
    made-none margin (n ∷ ns) lt e =
        by (map_depends_on_clump clumps n.place) refl e
        (λ m. made-none m ns (All-tail (IsKnown (length known)) n ns lt))
      where
        by : (b : Bool) → map_depends_on_clump clumps n.place ≡ b
            → (b || list_any (λ n. map_depends_on_clump clumps n.place) ns) ≡ true
            → ((m : HaloMargin) → list_any (λ n. map_depends_on_clump clumps n.place) ns ≡ true
            → margin_after_reads known m ns ≡ no_halo_margin)
            → margin_after_reads known (smaller_margin margin
            (margin_after_read (margin_of_map_at_place known n.place) n.margin)) ns ≡ no_halo_margin
        by true is any behind =
            let none = (contained-at-place clumps known halos are n.place
            (All-head (IsKnown (length known)) n ns lt)).0 is in
            ap (λ (m : HaloMargin). margin_after_reads known (smaller_margin margin (margin_after_read m n.margin)) ns)
            none
            ∙ ap (λ (m : HaloMargin). margin_after_reads known m ns) (none-left margin n.margin) ∙ stays-none ns
        by false is any behind = behind _ any

    next-contained : (needs : List (List MapNeed)) (line : ℕ) (command : Command)
        → All (IsKnown (length known)) (maps_read_by_command command)
        → IsContained halo (halo_of_reads halos (maps_read_by_command command))
        → AreContained (clump_dependence_after_command clumps command) (margins_after_command halo known command)
        (halos_after_statement halos (plan_of_statement needs (record { line = line; command = command })))
    next-contained needs line (Mapcalc target f) lt inside =
        contained-more clumps known halos _ _ _ are
        (made-none halo (maps_read_by_command (Mapcalc target f)) lt, inside)
    next-contained needs line (Reclass place target rules) lt inside =
        contained-more clumps known halos _ _ _ are
        (made-none halo (maps_read_by_command (Reclass place target rules)) lt, inside)
    next-contained needs line (Clump place target joining) lt inside =
        contained-more clumps known halos true _ no_margin are ((λ e. refl), contained-none halo)
    next-contained needs line (Stats places options) lt inside = are
    next-contained needs line (OutAscii place null_text) lt inside = are

  -- ---- all statements

  fault-parts : (line : ℕ) (labels exceeds : Bool) (next : Option HaloFault)
      → fault_at_line_or_next line (if labels then Some Labels else (if exceeds then Some TooSmall else None)) next
      ≡ None
      → (labels ≡ false) × ((exceeds ≡ false) × (next ≡ None))
  fault-parts line true exceeds next e = cc
  fault-parts line false true next e = cc
  fault-parts line false false next e = (refl, (refl, e))

  -- what is needed to run statements over known maps
  record AreNeeded (needs : List (List MapNeed)) (clumps : List Bool) (halos : List Margin)
      (statements : List Statement) : Type 0 where
    labels : NoStatementPrintsLabels statements
    own_cells : ClumpMapsAreReadAtOwnCell clumps statements
    inside : IsContained halo (halo_of_statements halos (plans_of_statements needs statements))

  needed : (names : List (List ℕ)) (needs : List (List MapNeed)) (clumps : List Bool) (known : List HaloMargin)
      (halos : List Margin) (statements : List Statement) → AreLeft halo clumps known halos
      → AreContained clumps known halos → length names ≡ length known → StatementsFitKnownMaps names statements
      → first_fault_with_margins halo known statements ≡ None → AreNeeded needs clumps halos statements
  needed names needs clumps known halos [] left are count fits e = record {
    labels = All-nil (λ s. command_prints_labels s.command ≡ false);
    own_cells = tt;
    inside = contained-none halo;
  }
  needed names needs clumps known halos (s ∷ ss) left are count fits e =
      let reads = maps_read_by_command s.command in
      let plan = plan_of_statement needs s in
      let parts = fault-parts s.line (command_prints_labels s.command) (list_any (read_exceeds_margin known) reads)
      (first_fault_with_margins halo (margins_after_command halo known s.command) ss) e in
      let lt = subst (λ n. All (IsKnown n) reads) count (known-reads names s.command fits.0) in
      let here = reads-contained clumps known halos left are reads lt parts.1.0 in
      let rest = needed (known_names_after_command names s.command) (needs_after_command needs s.command)
      (clump_dependence_after_command clumps s.command) (margins_after_command halo known s.command)
      (halos_after_statement halos plan) ss (next-left halo clumps known halos left needs s.line s.command lt)
      (next-contained clumps known halos left are needs s.line s.command lt here.1)
      (same-count halo names known s.command count) fits.1 parts.1.1 in
      record {
        labels = All-cons (λ s. command_prints_labels s.command ≡ false) s ss parts.0 rest.labels;
        own_cells = (here.0, rest.own_cells);
        inside = contained-both halo (halo_of_reads halos reads)
            (halo_of_statements (halos_after_statement halos plan)
            (plans_of_statements (needs_after_command needs s.command) ss)) here.1 rest.inside;
      }

pub needed-halo : PlannedHaloIsNeeded
needed-halo p names statements fits e =
    let halo = halo_margin p in
    let count = length names in
    let all = needed halo names (needs_of_given_maps count) (replicate count false) (replicate count halo)
    (replicate count no_margin) statements (given-left halo count) (given-contained halo count)
    (count-given count halo) fits e in
    record {
      fits = fits;
      labels = all.labels;
      clumps = all.own_cells;
      halo = halo-of-tile p (planned_halo count statements) all.inside;
    }
