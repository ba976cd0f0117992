-- A map that depends on an r.clump has no margin above the tile.
use Rattle.std.proofs.Common.{◌≡◌, ℕ, zero, suc, ◌-◌, min, Bool, true, false, ◌||◌, List, [], ◌∷◌, ◌++◌, length}
use Rattle.std.proofs.Common.{Option, Some, None, replicate, refl, ap, sym, ◌∙◌, arith}
use Rattle.std.specs.List.{list_any}
use Rattle.std.specs.Prelude.{if◌then◌else◌}
use Rattle.std.proofs.lemmas.Bool.{false≢true}
use Rattle.std.proofs.lemmas.List.{length-replicate}
use Rattle.rcell_script.specs.declared.command.Command.{Command}
use Rattle.rcell_script.specs.declared.statement.Statement.{Statement}
use Rattle.rcell_plan.specs.declared.needs.MapNeed.{MapNeed}
use Rattle.rcell_plan.specs.Plans.{maps_read_by_command, command_makes_map}
use Rattle.rcell_plan.proofs.LawLemmas.{length-more}
use Rattle.rcell_tile.specs.declared.halo_margins.HaloMargin.{HaloMargin}
use Rattle.rcell_tile.specs.ClumpDependence.{map_depends_on_clump, made_map_depends_on_clump}
use Rattle.rcell_tile.specs.ClumpDependence.{clump_dependence_after_command, clump_dependence_after_statements}
use Rattle.rcell_tile.specs.HaloMargins.{smaller_limit, limit_after_read, smaller_margin, margin_after_read}
use Rattle.rcell_tile.specs.HaloMargins.{margin_of_map_at_place, margin_after_reads, command_is_clump, no_halo_margin}
use Rattle.rcell_tile.specs.HaloMargins.{margin_of_made_map, margins_after_command, margins_after_statements}
use Rattle.rcell_tile.proofs.TileCoverLemmas.{none-given}

-- the margin has no rows above the tile
abbrev pub HasNoRowsAbove : HaloMargin → Type 0
HasNoRowsAbove margin = margin.up ≡ Some 0

-- each map that depends on an r.clump has no margin above the tile
pub record ClumpsHaveNoMargin (clumps : List Bool) (known : List HaloMargin) : Type 0 where
  pub count : length clumps ≡ length known
  pub none : (place : ℕ) → map_depends_on_clump clumps place ≡ true
      → HasNoRowsAbove (margin_of_map_at_place known place)

-- ---- the margin after reads

smaller-zero : (a b : Option ℕ) → a ≡ Some 0 → smaller_limit a b ≡ Some 0
smaller-zero a b is = ap (λ (o : Option ℕ). smaller_limit o b) is ∙ by b
  where
    by : (b : Option ℕ) → smaller_limit (Some 0) b ≡ Some 0
    by None = refl
    by (Some n) = let least : min 0 n ≡ 0 = omega arith in ap (λ (k : ℕ). Some k) least

zero-smaller : (a b : Option ℕ) → b ≡ Some 0 → smaller_limit a b ≡ Some 0
zero-smaller a b is = ap (λ (o : Option ℕ). smaller_limit a o) is ∙ by a
  where
    by : (a : Option ℕ) → smaller_limit a (Some 0) ≡ Some 0
    by None = refl
    by (Some n) = let least : min n 0 ≡ 0 = omega arith in ap (λ (k : ℕ). Some k) least

zero-left : (a : Option ℕ) (n : ℕ) → a ≡ Some 0 → limit_after_read a n ≡ Some 0
zero-left a n is =
    let least : 0 - n ≡ 0 = omega arith in
    ap (λ (o : Option ℕ). limit_after_read o n) is ∙ ap (λ (k : ℕ). Some k) least

module _ (clumps : List Bool) (known : List HaloMargin) (h : ClumpsHaveNoMargin clumps known) where
  none-stays : (margin : HaloMargin) (reads : List MapNeed) → HasNoRowsAbove margin
      → HasNoRowsAbove (margin_after_reads known margin reads)
  none-stays margin [] is = is
  none-stays margin (n ∷ ns) is =
      none-stays (smaller_margin margin (margin_after_read (margin_of_map_at_place known n.place) n.margin)) ns
      (smaller-zero margin.up (limit_after_read (margin_of_map_at_place known n.place).up n.margin.up) is)

  abbrev margin_after_need : HaloMargin → MapNeed → HaloMargin
  margin_after_need margin n =
      smaller_margin margin (margin_after_read (margin_of_map_at_place known n.place) n.margin)

  none-after-need : (margin : HaloMargin) (n : MapNeed) (ns : List MapNeed) (others : Bool)
      → (others ≡ true → HasNoRowsAbove (margin_after_reads known (margin_after_need margin n) ns))
      → (map_depends_on_clump clumps n.place || others) ≡ true
      → HasNoRowsAbove (margin_after_reads known (margin_after_need margin n) ns)
  none-after-need margin n ns others rest = by (map_depends_on_clump clumps n.place) refl
    where
      by : (b : Bool) → map_depends_on_clump clumps n.place ≡ b → (b || others) ≡ true
          → HasNoRowsAbove (margin_after_reads known (margin_after_need margin n) ns)
      by true is one = none-stays (margin_after_need margin n) ns
          (zero-smaller margin.up (limit_after_read (margin_of_map_at_place known n.place).up n.margin.up)
          (zero-left (margin_of_map_at_place known n.place).up n.margin.up (h.none n.place is)))
      by false is one = rest one

  none-after-reads : (margin : HaloMargin) (reads : List MapNeed)
      → list_any (λ n. map_depends_on_clump clumps n.place) reads ≡ true
      → HasNoRowsAbove (margin_after_reads known margin reads)
  none-after-reads margin [] one = absurd (false≢true one)
  none-after-reads margin (n ∷ ns) one =
      none-after-need margin n ns (list_any (λ n. map_depends_on_clump clumps n.place) ns)
      (none-after-reads (margin_after_need margin n) ns) one

  -- ---- one statement

  none-made : (halo : HaloMargin) (command : Command) → made_map_depends_on_clump clumps command ≡ true
      → HasNoRowsAbove (margin_of_made_map halo known command)
  none-made halo command = by (command_is_clump command)
    where
      by : (b : Bool)
          → (b || list_any (λ n. map_depends_on_clump clumps n.place) (maps_read_by_command command)) ≡ true
          → HasNoRowsAbove (if b then no_halo_margin else margin_after_reads known halo (maps_read_by_command command))
      by true one = refl
      by false one = none-after-reads halo (maps_read_by_command command) one

one-more : (b : Bool) (made : HaloMargin) → (b ≡ true → HasNoRowsAbove made) → (clumps : List Bool)
    (known : List HaloMargin) → length clumps ≡ length known
    → ((place : ℕ) → map_depends_on_clump clumps place ≡ true → HasNoRowsAbove (margin_of_map_at_place known place))
    → (place : ℕ) → map_depends_on_clump (clumps ++ b ∷ []) place ≡ true
    → HasNoRowsAbove (margin_of_map_at_place (known ++ made ∷ []) place)
one-more b made new [] [] count h zero is = new is
one-more b made new [] [] count h (suc place) is = absurd (false≢true is)
one-more b made new (c ∷ clumps) (k ∷ known) count h zero is = h zero is
one-more b made new (c ∷ clumps) (k ∷ known) count h (suc place) is =
    one-more b made new clumps known (omega (arith, count)) (λ i. h (suc i)) place is
one-more b made new clumps known count h place is = absurd (let no : ⊥ = omega (arith, count) in no)

none-after-command : (halo : HaloMargin) (clumps : List Bool) (known : List HaloMargin) (command : Command)
    → ClumpsHaveNoMargin clumps known
    → ClumpsHaveNoMargin (clump_dependence_after_command clumps command) (margins_after_command halo known command)
none-after-command halo clumps known command h = by (command_makes_map command)
  where
    by : (b : Bool) → ClumpsHaveNoMargin (if b then clumps ++ made_map_depends_on_clump clumps command ∷ [] else clumps)
        (if b then known ++ margin_of_made_map halo known command ∷ [] else known)
    by false = h
    by true =
        let depends = made_map_depends_on_clump clumps command in
        let made = margin_of_made_map halo known command in
        record {
          count = length-more clumps depends ∙ ap suc h.count ∙ sym (length-more known made);
          none = one-more depends made (none-made clumps known h halo command) clumps known h.count h.none;
        }

-- ---- all statements

pub clumps-have-no-margin : (halo : HaloMargin) (clumps : List Bool) (known : List HaloMargin)
    (statements : List Statement) → ClumpsHaveNoMargin clumps known
    → ClumpsHaveNoMargin (clump_dependence_after_statements clumps statements)
    (margins_after_statements halo known statements)
clumps-have-no-margin halo clumps known [] h = h
clumps-have-no-margin halo clumps known (s ∷ ss) h =
    clumps-have-no-margin halo (clump_dependence_after_command clumps s.command)
    (margins_after_command halo known s.command) ss (none-after-command halo clumps known s.command h)

-- none of the given maps depends on an r.clump
pub given-maps-depend-on-none : (count : ℕ) (known : List HaloMargin) → count ≡ length known
    → ClumpsHaveNoMargin (replicate count false) known
given-maps-depend-on-none count known is = record {
  count = length-replicate count false ∙ is;
  none = λ place depends. absurd (false≢true (sym (none-given count place) ∙ depends));
}
