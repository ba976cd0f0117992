-- A tile with the planned halo can run the script: what is left of its halo after a map's halo contains each read.
use Rattle.std.proofs.Common.{◌≡◌, ℕ, zero, suc, ◌+◌, ◌<◌, ◌≤◌, max, Bool, true, false, ◌||◌, ◌⊎◌, inl, inr}
use Rattle.std.proofs.Common.{List, [], ◌∷◌, ◌++◌, length, Option, Some, None, replicate, refl, ap, sym, subst, ◌∙◌}
use Rattle.std.proofs.Common.{eqb, arith}
use Rattle.std.specs.Prelude.{All}
use Rattle.std.specs.List.{list_any}
use Rattle.std.proofs.lemmas.Bool.{or_from, or_parts}
use Rattle.std.proofs.lemmas.List.Elements.{All-nil, All-cons, All-head, All-tail}
use Rattle.std.proofs.lemmas.List.Folds.{list_any_none}
use Rattle.rcell_script.specs.FittingScripts.{StatementsFitKnownMaps}
use Rattle.rcell_script.specs.KnownMaps.{known_names_after_command}
use Rattle.rcell_script.specs.declared.command.Command.{Command}
use Rattle.rcell_script.specs.declared.command.Command.TheVariants.{Mapcalc, Reclass, Clump, Stats, OutAscii}
use Rattle.rcell_script.specs.declared.statement.Statement.{Statement}
use Rattle.rcell_plan.specs.declared.needs.Margin.{Margin}
use Rattle.rcell_plan.specs.declared.needs.MapNeed.{MapNeed}
use Rattle.rcell_plan.specs.Needs.{no_margin, margin_covering_both_margins, sum_of_margins}
use Rattle.rcell_plan.specs.Plans.{maps_read_by_command, plan_of_statement, plans_of_statements, needs_after_command}
use Rattle.rcell_plan.specs.Plans.{needs_of_given_maps}
use Rattle.rcell_plan.proofs.LawLemmas.{length-more}
use Rattle.rcell_tile.specs.declared.halo_margins.HaloMargin.{HaloMargin}
use Rattle.rcell_tile.specs.ClumpDependence.{map_depends_on_clump}
use Rattle.rcell_tile.specs.ClumpDependence.{clump_dependence_after_command}
use Rattle.rcell_tile.specs.HaloMargins.{halo_margin, limit_of_side, exceeds_limit, limit_after_read, smaller_limit}
use Rattle.rcell_tile.specs.HaloMargins.{exceeds_margin, margin_after_read, smaller_margin, margin_of_map_at_place}
use Rattle.rcell_tile.specs.HaloMargins.{margin_after_reads, read_exceeds_margin, margins_after_command}
use Rattle.rcell_tile.specs.HaloMargins.{command_prints_labels, halo_fault_of_command, first_fault_with_margins}
use Rattle.rcell_tile.specs.HaloMargins.{fault_at_line_or_next, command_is_clump}
use Rattle.rcell_tile.specs.PlannedHalo.{halo_of_map_at_place, halo_of_read, halo_of_reads, halos_after_statement}
use Rattle.rcell_tile.specs.PlannedHalo.{halo_of_statements, planned_halo, TileHasHalo, NoStatementPrintsLabels}
use Rattle.rcell_tile.specs.PlannedHalo.{ClumpMapsAreReadAtOwnCell, PlannedHaloIsEnough}
use Rattle.rcell_tile.specs.TilePlaces.{TilePlaceValue}
use Rattle.rcell_tile.specs.TileRunLaw.{NoStatementIsClump}
use Rattle.rcell_tile.proofs.TileCoverLemmas.{NoMapDependsOnClump, none-made}
use Rattle.rcell_tile.proofs.ReadPlaceLemmas.{IsKnown, known-reads}

-- ---- one side

-- the limit contains a read n cells away
abbrev pub Contains : Option ℕ → ℕ → Type 0
Contains limit n = exceeds_limit limit n ≡ false

contains-less : (limit : Option ℕ) (m n : ℕ) → m ≤ n → Contains limit n → Contains limit m
contains-less None m n le h = refl
contains-less (Some limit) m n le h = grind arith

contains-rest : (limit : Option ℕ) (m n : ℕ) → Contains limit (n + m) → Contains (limit_after_read limit m) n
contains-rest None m n h = refl
contains-rest (Some limit) m n h = grind arith

pub contains-own-cell : (limit : Option ℕ) → Contains limit 0
contains-own-cell None = refl
contains-own-cell (Some limit) = grind arith

side-contains : (ends : Bool) (count n : ℕ) → (ends ≡ true) ⊎ (n ≤ count) → Contains (limit_of_side ends count) n
side-contains true count n h = refl
side-contains false count n (inl e) = cc
side-contains false count n (inr le) = grind arith

rest-of-none : (limit : Option ℕ) → limit ≡ limit_after_read limit 0
rest-of-none None = refl
rest-of-none (Some limit) = ap Some (omega arith)

-- what is left after a halo, and after another halo and a read
smaller-rest : (limit : Option ℕ) (h k n : ℕ)
    → smaller_limit (limit_after_read limit h) (limit_after_read (limit_after_read limit k) n)
    ≡ limit_after_read limit (max h (n + k))
smaller-rest None h k n = refl
smaller-rest (Some limit) h k n = ap Some (omega arith)

-- ---- all sides

-- the margin contains a read within `reach`
pub record IsContained (margin : HaloMargin) (reach : Margin) : Type 0 where
  pub up : Contains margin.up reach.up
  pub down : Contains margin.down reach.down
  pub left : Contains margin.left reach.left
  pub right : Contains margin.right reach.right

is-within : (margin : HaloMargin) (reach : Margin) → IsContained margin reach → exceeds_margin margin reach ≡ false
is-within margin reach h =
    or_from (exceeds_limit margin.up reach.up || exceeds_limit margin.down reach.down)
    (exceeds_limit margin.left reach.left || exceeds_limit margin.right reach.right)
    (or_from (exceeds_limit margin.up reach.up) (exceeds_limit margin.down reach.down) h.up h.down)
    (or_from (exceeds_limit margin.left reach.left) (exceeds_limit margin.right reach.right) h.left h.right)

own-cell-within : (margin : HaloMargin) → exceeds_margin margin no_margin ≡ false
own-cell-within margin = is-within margin no_margin (record {
  up = contains-own-cell margin.up;
  down = contains-own-cell margin.down;
  left = contains-own-cell margin.left;
  right = contains-own-cell margin.right;
})

first-contained : (margin : HaloMargin) (a b : Margin) → IsContained margin (margin_covering_both_margins a b)
    → IsContained margin a
first-contained margin a b h = record {
  up = contains-less margin.up a.up (max a.up b.up) (omega arith) h.up;
  down = contains-less margin.down a.down (max a.down b.down) (omega arith) h.down;
  left = contains-less margin.left a.left (max a.left b.left) (omega arith) h.left;
  right = contains-less margin.right a.right (max a.right b.right) (omega arith) h.right;
}

second-contained : (margin : HaloMargin) (a b : Margin) → IsContained margin (margin_covering_both_margins a b)
    → IsContained margin b
second-contained margin a b h = record {
  up = contains-less margin.up b.up (max a.up b.up) (omega arith) h.up;
  down = contains-less margin.down b.down (max a.down b.down) (omega arith) h.down;
  left = contains-less margin.left b.left (max a.left b.left) (omega arith) h.left;
  right = contains-less margin.right b.right (max a.right b.right) (omega arith) h.right;
}

rest-contained : (margin : HaloMargin) (reach halo : Margin) → IsContained margin (sum_of_margins reach halo)
    → IsContained (margin_after_read margin halo) reach
rest-contained margin reach halo h = record {
  up = contains-rest margin.up halo.up reach.up h.up;
  down = contains-rest margin.down halo.down reach.down h.down;
  left = contains-rest margin.left halo.left reach.left h.left;
  right = contains-rest margin.right halo.right reach.right h.right;
}

after-nothing : (margin : HaloMargin) → margin ≡ margin_after_read margin no_margin
after-nothing margin = λ i. record {
  up = rest-of-none margin.up i;
  down = rest-of-none margin.down i;
  left = rest-of-none margin.left i;
  right = rest-of-none margin.right i;
}

after-both : (margin : HaloMargin) (h k reach : Margin)
    → smaller_margin (margin_after_read margin h) (margin_after_read (margin_after_read margin k) reach)
    ≡ margin_after_read margin (margin_covering_both_margins h (sum_of_margins reach k))
after-both margin h k reach = λ i. record {
  up = smaller-rest margin.up h.up k.up reach.up i;
  down = smaller-rest margin.down h.down k.down reach.down i;
  left = smaller-rest margin.left h.left k.left reach.left i;
  right = smaller-rest margin.right h.right k.right reach.right i;
}

max-none : (a : ℕ) → max a 0 ≡ a
max-none a = omega arith

none-max : (a : ℕ) → max 0 a ≡ a
none-max a = omega arith

max-assoc : (a b c : ℕ) → max (max a b) c ≡ max a (max b c)
max-assoc a b c = omega arith

covering-none : (a : Margin) → margin_covering_both_margins a no_margin ≡ a
covering-none a = λ i. record {
  up = max-none a.up i;
  down = max-none a.down i;
  left = max-none a.left i;
  right = max-none a.right i;
}

none-covering : (a : Margin) → margin_covering_both_margins no_margin a ≡ a
none-covering a = λ i. record {
  up = none-max a.up i;
  down = none-max a.down i;
  left = none-max a.left i;
  right = none-max a.right i;
}

covering-assoc : (a b c : Margin) → margin_covering_both_margins (margin_covering_both_margins a b) c
    ≡ margin_covering_both_margins a (margin_covering_both_margins b c)
covering-assoc a b c = λ i. record {
  up = max-assoc a.up b.up c.up i;
  down = max-assoc a.down b.down c.down i;
  left = max-assoc a.left b.left c.left i;
  right = max-assoc a.right b.right c.right i;
}

-- the halo of the tile contains each halo that the tile has
halo-contains : (p : TilePlaceValue) (halo : Margin) → TileHasHalo p halo → IsContained (halo_margin p) halo
halo-contains p halo h = record {
  up = side-contains (eqb p.outer.top 0) _ halo.up (side p.outer.top 0 _ _ h.up);
  down = side-contains (eqb (p.outer.top + p.outer.rows) p.rows) _ halo.down (side _ p.rows _ _ h.down);
  left = side-contains (eqb p.outer.left 0) _ halo.left (side p.outer.left 0 _ _ h.left);
  right = side-contains (eqb (p.outer.left + p.outer.cols) p.cols) _ halo.right (side _ p.cols _ _ h.right);
}
  where
    side : (a b n count : ℕ) → (a ≡ b) ⊎ (n ≤ count) → (eqb a b ≡ true) ⊎ (n ≤ count)
    side a b n count (inl e) = inl (grind arith)
    side a b n count (inr le) = inr le

-- ---- known maps

-- a map that depends on an r.clump is read at the cell itself
abbrev pub IsOwnCellIfClump : List Bool → MapNeed → Type 0
IsOwnCellIfClump known n = map_depends_on_clump known n.place ≡ true → n.margin ≡ no_margin

module _ (halo : HaloMargin) where
  -- each map's margin is what its halo leaves of the tile's halo, unless the map depends on an r.clump
  abbrev pub AreLeft : List Bool → List HaloMargin → List Margin → Type 0
  AreLeft [] [] [] = Unit {0}
  AreLeft (c ∷ clumps) (m ∷ known) (h ∷ halos) = (c ≡ false → m ≡ margin_after_read halo h)
      × AreLeft clumps known halos
  AreLeft clumps known halos = ⊥

  pub given-left : (count : ℕ) → AreLeft (replicate count false) (replicate count halo) (replicate count no_margin)
  given-left zero = tt
  given-left (suc count) = (λ e. after-nothing halo, given-left count)

  left-more : (clumps : List Bool) (known : List HaloMargin) (halos : List Margin) (b : Bool) (made : HaloMargin)
      (h : Margin) → AreLeft clumps known halos → (b ≡ false → made ≡ margin_after_read halo h)
      → AreLeft (clumps ++ b ∷ []) (known ++ made ∷ []) (halos ++ h ∷ [])
  left-more [] [] [] b made h are new = (new, tt)
  left-more (c ∷ clumps) (m ∷ known) (k ∷ halos) b made h are new =
      (are.0, left-more clumps known halos b made h are.1 new)
  left-more clumps known halos b made h are new = absurd are

  pub left-at-place : (clumps : List Bool) (known : List HaloMargin) (halos : List Margin) → AreLeft clumps known halos
      → (place : ℕ) → place < length known → map_depends_on_clump clumps place ≡ false
      → margin_of_map_at_place known place ≡ margin_after_read halo (halo_of_map_at_place halos place)
  left-at-place [] [] [] are place lt e = absurd (let no : ⊥ = omega (arith, lt) in no)
  left-at-place (c ∷ clumps) (m ∷ known) (k ∷ halos) are zero lt e = are.0 e
  left-at-place (c ∷ clumps) (m ∷ known) (k ∷ halos) are (suc place) lt e =
      left-at-place clumps known halos are.1 place (omega (arith, lt)) e
  left-at-place clumps known halos are place lt e = absurd are

  module _ (clumps : List Bool) (known : List HaloMargin) (halos : List Margin) (are : AreLeft clumps known halos)
    where
      -- ---- a command's reads

      read-within : (n : MapNeed) → IsKnown (length known) n → IsOwnCellIfClump clumps n
          → IsContained halo (halo_of_read halos n) → read_exceeds_margin known n ≡ false
      read-within n lt own inside = by (map_depends_on_clump clumps n.place) refl
        where
          margin : HaloMargin
          margin = margin_of_map_at_place known n.place

          by : (b : Bool) → map_depends_on_clump clumps n.place ≡ b → exceeds_margin margin n.margin ≡ false
          by true e = subst (λ (reach : Margin). exceeds_margin margin reach ≡ false) (sym (own e))
              (own-cell-within margin)
          by false e =
              let of_map = halo_of_map_at_place halos n.place in
              subst (λ (m : HaloMargin). exceeds_margin m n.margin ≡ false)
              (sym (left-at-place clumps known halos are n.place lt e))
              (is-within (margin_after_read halo of_map) n.margin (rest-contained halo n.margin of_map inside))

      reads-within : (reads : List MapNeed) → All (IsKnown (length known)) reads → All (IsOwnCellIfClump clumps) reads
          → IsContained halo (halo_of_reads halos reads) → All (λ n. read_exceeds_margin known n ≡ false) reads
      reads-within [] lt own inside = All-nil (λ n. read_exceeds_margin known n ≡ false)
      reads-within (n ∷ ns) lt own inside =
          let first = halo_of_read halos n in
          let rest = halo_of_reads halos ns in
          All-cons (λ n. read_exceeds_margin known n ≡ false) n ns
          (read-within n (All-head (IsKnown (length known)) n ns lt) (All-head (IsOwnCellIfClump clumps) n ns own)
          (first-contained halo first rest inside))
          (reads-within ns (All-tail (IsKnown (length known)) n ns lt) (All-tail (IsOwnCellIfClump clumps) n ns own)
          (second-contained halo first rest inside))

      no-fault-of-command : (command : Command) → command_prints_labels command ≡ false
          → All (IsKnown (length known)) (maps_read_by_command command)
          → All (IsOwnCellIfClump clumps) (maps_read_by_command command)
          → IsContained halo (halo_of_reads halos (maps_read_by_command command))
          → halo_fault_of_command known command ≡ None
      no-fault-of-command command no_labels lt own inside =
          let none = list_any_none (read_exceeds_margin known) (maps_read_by_command command)
          (reads-within (maps_read_by_command command) lt own inside) in
          rw (no_labels, none) refl

      -- ---- the made map

      abbrev IsPlain : MapNeed → Type 0
      IsPlain n = map_depends_on_clump clumps n.place ≡ false

      plain-reads : (reads : List MapNeed) → list_any (λ n. map_depends_on_clump clumps n.place) reads ≡ false
          → All IsPlain reads
      plain-reads [] e = All-nil IsPlain
      plain-reads (n ∷ ns) e =
          let both = or_parts (map_depends_on_clump clumps n.place)
          (list_any (λ n. map_depends_on_clump clumps n.place) ns) e in
          All-cons IsPlain n ns both.0 (plain-reads ns both.1)

      left-after-reads : (h : Margin) (reads : List MapNeed) → All (IsKnown (length known)) reads → All IsPlain reads
          → margin_after_reads known (margin_after_read halo h) reads
          ≡ margin_after_read halo (margin_covering_both_margins h (halo_of_reads halos reads))
      left-after-reads h [] lt plain = ap (margin_after_read halo) (sym (covering-none h))
      left-after-reads h (n ∷ ns) lt plain =
          let of_map = halo_of_map_at_place halos n.place in
          let left = left-at-place clumps known halos are n.place (All-head (IsKnown (length known)) n ns lt)
          (All-head IsPlain n ns plain) in
          ap (λ (m : HaloMargin). margin_after_reads known (smaller_margin (margin_after_read halo h)
          (margin_after_read m n.margin)) ns) left
          ∙ ap (λ (m : HaloMargin). margin_after_reads known m ns) (after-both halo h of_map n.margin)
          ∙ left-after-reads (margin_covering_both_margins h (halo_of_read halos n)) ns
          (All-tail (IsKnown (length known)) n ns lt) (All-tail IsPlain n ns plain)
          ∙ ap (margin_after_read halo) (covering-assoc h (halo_of_read halos n) (halo_of_reads halos ns))

      made-left : (reads : List MapNeed) → All (IsKnown (length known)) reads
          → list_any (λ n. map_depends_on_clump clumps n.place) reads ≡ false
          → margin_after_reads known halo reads ≡ margin_after_read halo (halo_of_reads halos reads)
      made-left reads lt plain =
          ap (λ (m : HaloMargin). margin_after_reads known m reads) (after-nothing halo)
          ∙ left-after-reads no_margin reads lt (plain-reads reads plain)
          ∙ ap (margin_after_read halo) (none-covering (halo_of_reads halos reads))

      -- the margins after a statement
      pub next-left : (needs : List (List MapNeed)) (line : ℕ) (command : Command)
          → All (IsKnown (length known)) (maps_read_by_command command)
          → AreLeft (clump_dependence_after_command clumps command) (margins_after_command halo known command)
          (halos_after_statement halos (plan_of_statement needs (record { line = line; command = command })))
      next-left needs line (Mapcalc target f) lt =
          left-more clumps known halos _ _ _ are (made-left (maps_read_by_command (Mapcalc target f)) lt)
      next-left needs line (Reclass place target rules) lt =
          left-more clumps known halos _ _ _ are (made-left (maps_read_by_command (Reclass place target rules)) lt)
      next-left needs line (Clump place target joining) lt =
          left-more clumps known halos true _ no_margin are (λ e. cc)
      next-left needs line (Stats places options) lt = are
      next-left needs line (OutAscii place null_text) lt = are

  pub same-count : (names : List (List ℕ)) (known : List HaloMargin) (command : Command) → length names ≡ length known
      → length (known_names_after_command names command) ≡ length (margins_after_command halo known command)
  same-count names known (Mapcalc target f) e = length-more names target ∙ ap suc e ∙ sym (length-more known _)
  same-count names known (Reclass place target rules) e =
      length-more names target ∙ ap suc e ∙ sym (length-more known _)
  same-count names known (Clump place target joining) e =
      length-more names target ∙ ap suc e ∙ sym (length-more known _)
  same-count names known (Stats places options) e = e
  same-count names known (OutAscii place null_text) e = e

  -- ---- all statements

  no-fault : (names : List (List ℕ)) (needs : List (List MapNeed)) (clumps : List Bool) (known : List HaloMargin)
      (halos : List Margin) (statements : List Statement) → AreLeft clumps known halos
      → length names ≡ length known → StatementsFitKnownMaps names statements → NoStatementPrintsLabels statements
      → ClumpMapsAreReadAtOwnCell clumps statements
      → IsContained halo (halo_of_statements halos (plans_of_statements needs statements))
      → first_fault_with_margins halo known statements ≡ None
  no-fault names needs clumps known halos [] are count fits labels own inside = refl
  no-fault names needs clumps known halos (s ∷ ss) are count fits labels own inside =
      let reads = maps_read_by_command s.command in
      let plan = plan_of_statement needs s in
      let first = halo_of_reads halos reads in
      let rest = halo_of_statements (halos_after_statement halos plan)
      (plans_of_statements (needs_after_command needs s.command) ss) in
      let lt = subst (λ n. All (IsKnown n) reads) count (known-reads names s.command fits.0) in
      let here = no-fault-of-command clumps known halos are s.command
      (All-head (λ s. command_prints_labels s.command ≡ false) s ss labels) lt own.0
      (first-contained halo first rest inside) in
      ap (λ o. fault_at_line_or_next s.line o (first_fault_with_margins halo
      (margins_after_command halo known s.command) ss)) here
      ∙ no-fault (known_names_after_command names s.command) (needs_after_command needs s.command)
      (clump_dependence_after_command clumps s.command) (margins_after_command halo known s.command)
      (halos_after_statement halos plan) ss (next-left clumps known halos are needs s.line s.command lt)
      (same-count names known s.command count) fits.1
      (All-tail (λ s. command_prints_labels s.command ≡ false) s ss labels) own.1
      (second-contained halo first rest inside)

-- ---- scripts without r.clump

plain-is-no-clump : (known : List Bool) (reads : List MapNeed) → NoMapDependsOnClump known
    → All (IsOwnCellIfClump known) reads
plain-is-no-clump known [] plain = All-nil (IsOwnCellIfClump known)
plain-is-no-clump known (n ∷ ns) plain =
    All-cons (IsOwnCellIfClump known) n ns (λ depends. absurd (let no : ⊥ = never (plain n.place) depends in no))
    (plain-is-no-clump known ns plain)
  where
    never : {b : Bool} → b ≡ false → b ≡ true → ⊥
    never plain depends = cc

-- without r.clump, no read is of a map that depends on one
pub no-clump-is-read : (known : List Bool) (statements : List Statement) → NoStatementIsClump statements
    → NoMapDependsOnClump known → ClumpMapsAreReadAtOwnCell known statements
no-clump-is-read known [] no_clump plain = tt
no-clump-is-read known (s ∷ ss) no_clump plain = (
  plain-is-no-clump known (maps_read_by_command s.command) plain,
  no-clump-is-read (clump_dependence_after_command known s.command) ss
      (All-tail (λ s. command_is_clump s.command ≡ false) s ss no_clump)
      (none-made known s.command (All-head (λ s. command_is_clump s.command ≡ false) s ss no_clump) plain),
)

-- ---- the law

pub count-given : (n : ℕ) (halo : HaloMargin) → n ≡ length (replicate n halo)
count-given zero halo = refl
count-given (suc n) halo = ap suc (count-given n halo)

pub planned-halo : PlannedHaloIsEnough
planned-halo p names statements can =
    let halo = halo_margin p in
    let count = length names in
    no-fault halo names (needs_of_given_maps count) (replicate count false) (replicate count halo)
    (replicate count no_margin) statements (given-left halo count) (count-given count halo) can.fits can.labels
    can.clumps (halo-contains p (planned_halo count statements) can.halo)
