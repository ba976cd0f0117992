-- Statements that print no labels write the same text over maps that differ only in their labels.
use Rattle.std.proofs.Common.{◌≡◌, ℕ, false, List, [], ◌∷◌, ◌++◌, map, Option, Some, None, IsSome, refl, ap, sym, ◌∙◌}
use Rattle.std.proofs.Common.{subst, arith}
use Rattle.std.specs.Prelude.{slice_get, flat_map, if◌then◌else◌, All}
use Rattle.std.specs.Option.{option_map, option_map_or}
use Rattle.std.proofs.lemmas.List.{map-append}
use Rattle.std.proofs.lemmas.List.Elements.{All-head, All-tail}
use Rattle.std.proofs.lemmas.Option.{slice_get-map, same_Some}
use Rattle.cell_core_values.specs.Region.{RegionValue}
use Rattle.cell_core.specs.Grid.{Grid, CellValue, cell_at, empty_category_labels}
use Rattle.cell_core.specs.Shelf.{ShelfValue}
use Rattle.cell_calc_language.specs.Formula.{Formula}
use Rattle.cell_calc_language.specs.Value.{value}
use Rattle.cell_calc_language.specs.Applied.{PositionAndGridSize, grid_position}
use Rattle.cell_ascii_meaning.specs.Writing.{grid_text}
use Rattle.cell_ascii_law.specs.WrittenLaw.{map_without_labels}
use Rattle.cell_cats.specs.Rule.{RuleValue}
use Rattle.cell_cats.specs.Reclass.{reclassed_map, reclassed_rows}
use Rattle.cell_clumps.specs.declared.clump.Joining.{Joining}
use Rattle.cell_clumps.specs.Clumps.{Position, cell_at_position, AreCellsConnected, IsFirstCellOfClump, HasClumpNumber}
use Rattle.cell_clumps.specs.Clumps.{IsClumpMapOf}
use Rattle.cell_stats_combinations.specs.LeftOut.{kept_cells}
use Rattle.cell_stats_combinations.specs.Combinations.{all_combinations}
use Rattle.cell_stats.specs.CategoryTables.{table_of_cells}
use Rattle.cell_stats.specs.TableText.{table_entries_to_print}
use Rattle.rcell_script.specs.declared.command.Command.{Command}
use Rattle.rcell_script.specs.declared.command.Command.TheVariants.{Mapcalc, Reclass, Clump, Stats, OutAscii}
use Rattle.rcell_script.specs.declared.command.StatsOptions.{StatsOptions}
use Rattle.rcell_script.specs.declared.statement.Statement.{Statement}
use Rattle.rcell.specs.Making.{IsMapOfExpressionValues, IsMapOfClumpNumbers, MapExistsAndSatisfiesRelation}
use Rattle.rcell.specs.Making.{shelf_with_map_at_end}
use Rattle.rcell.specs.After.{IsShelfAfterCommand}
use Rattle.rcell.specs.Output.{StatementsWriteTextAndLeaveShelf, command_output_text, table_format_of_stats_options}
use Rattle.rcell.specs.Output.{stats_text}
use Rattle.rcell.specs.Output.{out_ascii_text}
use Rattle.rcell_law.specs.ReadAgain.{shelf_without_labels, command_prints_labels, StatementsPrintNoLabels}
use Rattle.rcell_law.specs.ReadAgain.{LabelsChangeOnlyPrintedLabels}
use Rattle.rcell_law.proofs.BareLemmas.{combinations_bare, grid_text_bare, value_bare, line_bare, pair_bare}

-- shelves whose maps differ only in their labels
pub record AreAlike (a b : ShelfValue) : Type 0 where
  pub region : a.region ≡ b.region
  pub names : a.names ≡ b.names
  pub maps : map map_without_labels a.maps ≡ map map_without_labels b.maps

pub AreAlike-sym : (a b : ShelfValue) → AreAlike a b → AreAlike b a
AreAlike-sym a b h = record { region = sym h.region; names = sym h.names; maps = sym h.maps }

bare_twice : (maps : List Grid) → map map_without_labels maps ≡ map map_without_labels (map map_without_labels maps)
bare_twice [] = refl
bare_twice (m ∷ maps) = ap (λ (ms : List Grid). map_without_labels m ∷ ms) (bare_twice maps)

pub bare_alike : (shelf : ShelfValue) → AreAlike shelf (shelf_without_labels shelf)
bare_alike shelf = record { region = refl; names = refl; maps = bare_twice shelf.maps }

-- ---- the output of a command

module _ (a b : ShelfValue) (alike : AreAlike a b) where
  same_rows : a.region.rows ≡ b.region.rows
  same_rows = ap (λ (r : RegionValue). r.rows) alike.region

  same_cols : a.region.cols ≡ b.region.cols
  same_cols = ap (λ (r : RegionValue). r.cols) alike.region

  same_combinations : (places : List ℕ)
      → all_combinations a.maps places a.region.rows a.region.cols
      ≡ all_combinations b.maps places b.region.rows b.region.cols
  same_combinations places =
      combinations_bare a.maps places a.region.rows a.region.cols
      ∙ (λ i. all_combinations (alike.maps i) places (same_rows i) (same_cols i))
      ∙ sym (combinations_bare b.maps places b.region.rows b.region.cols)

  same_value : (f : Formula) (s : PositionAndGridSize) → value f a.maps s ≡ value f b.maps s
  same_value f s = value_bare f a.maps s ∙ ap (λ (ms : List Grid). value f ms s) alike.maps
      ∙ sym (value_bare f b.maps s)

  same_stats : (places : List ℕ) (options : StatsOptions) → options.labels ≡ false
      → stats_text a places options ≡ stats_text b places options
  same_stats places options none =
      λ i. if options.cells then flat_map (λ k. line_bare (table_format_of_stats_options options) none a.maps b.maps
      places
      k i)
      (kept_cells options.skip (same_combinations places i))
      else flat_map (λ pair. pair_bare (table_format_of_stats_options options) none a.maps b.maps places pair i)
      (table_entries_to_print options.after (table_of_cells options.skip (same_combinations places i)))

  same_grid_text : (place : ℕ) (null_text : List ℕ)
      → out_ascii_text a place null_text ≡ out_ascii_text b place null_text
  same_grid_text place null_text =
      grid_text_bare null_text a.maps place
      ∙ ap (λ (ms : List Grid). option_map_or (grid_text null_text) (slice_get ms place) []) alike.maps
      ∙ sym (grid_text_bare null_text b.maps place)

  same_text : (c : Command) → command_prints_labels c ≡ false → command_output_text a c ≡ command_output_text b c
  same_text (Stats places options) none = same_stats places options none
  same_text (OutAscii place null_text) none = same_grid_text place null_text
  same_text _ none = refl

-- ---- clumps do not depend on labels

module _ (j : Joining) (m n : Grid) (same : m.rows ≡ n.rows) where
  cell_same : (p : Position) → cell_at_position m p ≡ cell_at_position n p
  cell_same p = ap (λ (rows : List (List CellValue)). cell_at (record m { rows = rows }) p.row p.col) same

  joined_same : (p q : Position) → AreCellsConnected j m p q → AreCellsConnected j n p q
  joined_same p q h = record {
    category = h.category;
    others = h.others;
    leads = h.leads;
    alike = subst (λ (rows : List (List CellValue)). All
        (λ s. cell_at (record m { rows = rows }) s.row s.col ≡ Some h.category) (p ∷ h.others)) same h.alike;
  }

module _ (j : Joining) (m n : Grid) (same : m.rows ≡ n.rows) where
  first_same : (p : Position) → IsFirstCellOfClump j m p → IsFirstCellOfClump j n p
  first_same p h = record {
    category = subst IsSome (cell_same j m n same p) h.category;
    none_before = λ q before joined. h.none_before q before (joined_same j n m (sym same) q p joined);
  }

module _ (j : Joining) (m n : Grid) (same : m.rows ≡ n.rows) where
  number_same : (p : Position) (k : ℕ) → HasClumpNumber j m p k → HasClumpNumber j n p k
  number_same p k h = record {
    first = h.first;
    is_first = first_same j m n same h.first h.is_first;
    joined = joined_same j m n same h.first p h.joined;
    firsts = h.firsts;
    up_to = record {
      in_order = h.up_to.in_order;
      exactly = λ q. (
        λ within. let both = (h.up_to.exactly q).0 within in (first_same j m n same q both.0, both.1),
        λ both. (h.up_to.exactly q).1 (first_same j n m (sym same) q both.0, both.1),
      );
    };
    count = h.count;
  }

  clumping_same : m.region ≡ n.region → (numbers : Grid) → IsClumpMapOf j m numbers → IsClumpMapOf j n numbers
  clumping_same region numbers h = record {
    region = h.region ∙ region;
    labels = h.labels;
    nulls = λ p none. h.nulls p (cell_same j m n same p ∙ none);
    numbered = λ p some.
        let given = h.numbered p (subst IsSome (sym (cell_same j m n same p)) some) in
        (given.0, number_same p given.0 given.1, given.2);
    same = λ p q some other.
        let given = h.same p q (subst IsSome (sym (cell_same j m n same p)) some)
        (subst IsSome (sym (cell_same j m n same q)) other) in
        (λ e. joined_same j m n same p q (given.0 e), λ joined. given.1 (joined_same j n m (sym same) p q joined));
  }

-- ---- the shelf after a command

abbrev AlikeAfter : ShelfValue → Command → ShelfValue → Type 0
AlikeAfter b c x = (y : ShelfValue) × (IsShelfAfterCommand b c y × AreAlike x y)

module _ (a b : ShelfValue) (alike : AreAlike a b) where
  with_alike : (target : List ℕ) (x y : Grid) → map_without_labels x ≡ map_without_labels y
      → AreAlike (shelf_with_map_at_end a target x) (shelf_with_map_at_end b target y)
  with_alike target x y same = record {
    region = alike.region;
    names = ap (λ (names : List (List ℕ)). names ++ target ∷ []) alike.names;
    maps = map-append map_without_labels a.maps (x ∷ []) ∙ (λ i. alike.maps i ++ same i ∷ [])
        ∙ sym (map-append map_without_labels b.maps (y ∷ []));
  }

  -- the maps at a place are equal without labels
  same_places : (place : ℕ)
      → option_map map_without_labels (slice_get a.maps place) ≡ option_map map_without_labels (slice_get b.maps place)
  same_places place =
      sym (slice_get-map map_without_labels a.maps place) ∙ ap (λ (ms : List Grid). slice_get ms place) alike.maps
      ∙ slice_get-map map_without_labels b.maps place

  values_alike : (bound : Formula) (made : Grid) → IsMapOfExpressionValues bound a made
      → IsMapOfExpressionValues bound b made
  values_alike bound made h =
      let rows = same_rows a b alike in
      let cols = same_cols a b alike in
      record {
        region = h.region ∙ alike.region;
        filled = h.filled;
        labels = h.labels;
        cells = λ r c high wide.
            h.cells r c (omega (arith, rows, high)) (omega (arith, cols, wide))
            ∙ same_value a b alike bound (grid_position a.region r c)
            ∙ ap (λ (e : RegionValue). value bound b.maps (grid_position e r c)) alike.region;
      }

  classes_alike : (target : List ℕ) (rules : List RuleValue) (x : ShelfValue) (o other : Option Grid)
      → option_map map_without_labels o ≡ option_map map_without_labels other
      → MapExistsAndSatisfiesRelation (λ m. x ≡ shelf_with_map_at_end a target (reclassed_map rules m)) o
      → (y : ShelfValue) × (MapExistsAndSatisfiesRelation (λ m. y
      ≡ shelf_with_map_at_end b target (reclassed_map rules m)) other
      × AreAlike x y)
  classes_alike target rules x None other same h = absurd h
  classes_alike target rules x (Some m) None same h = cc
  classes_alike target rules x (Some m) (Some n) same h =
      let bares : map_without_labels m ≡ map_without_labels n = same_Some (map_without_labels m)
      (map_without_labels n) same in
      let made : map_without_labels (reclassed_map rules m) ≡ map_without_labels (reclassed_map rules n) =
      ap (λ (g : Grid). record {
        region = g.region;
        rows = reclassed_rows rules g.rows;
        labels = empty_category_labels;
      }) bares in (
        shelf_with_map_at_end b target (reclassed_map rules n),
        (
          refl,
          subst (λ (s : ShelfValue). AreAlike s (shelf_with_map_at_end b target (reclassed_map rules n))) (sym h)
              (with_alike target (reclassed_map rules m) (reclassed_map rules n) made),
        ),
      )

  numbers_alike : (joining : Joining) (made : Grid) (o other : Option Grid)
      → option_map map_without_labels o ≡ option_map map_without_labels other
      → MapExistsAndSatisfiesRelation (λ m. IsMapOfClumpNumbers joining m made) o
      → MapExistsAndSatisfiesRelation (λ m. IsMapOfClumpNumbers joining m made) other
  numbers_alike joining made None other same h = absurd h
  numbers_alike joining made (Some m) None same h = cc
  numbers_alike joining made (Some m) (Some n) same h =
      let bares : map_without_labels m ≡ map_without_labels n = same_Some (map_without_labels m)
      (map_without_labels n) same in
      record {
        filled = h.filled;
        clumping = clumping_same joining m n (ap (λ (g : Grid). g.rows) bares)
            (ap (λ (g : Grid). g.region) bares) made h.clumping;
      }

  after_alike : (c : Command) (x : ShelfValue) → IsShelfAfterCommand a c x → AlikeAfter b c x
  after_alike (Mapcalc target bound) x h =
      let made = h.0 in (
        shelf_with_map_at_end b target made,
        (
          (made, (values_alike bound made h.1.0, refl)),
          subst (λ (s : ShelfValue). AreAlike s (shelf_with_map_at_end b target made)) (sym h.1.1)
              (with_alike target made made refl),
        ),
      )
  after_alike (Reclass place target rules) x h = classes_alike target rules x (slice_get a.maps place)
      (slice_get b.maps place) (same_places place) h
  after_alike (Clump place target joining) x h =
      let made = h.0 in (
        shelf_with_map_at_end b target made,
        (
          (
            made,
            (
              numbers_alike joining made (slice_get a.maps place) (slice_get b.maps place)
                  (same_places place) h.1.0,
              refl,
            ),
          ),
          subst (λ (s : ShelfValue). AreAlike s (shelf_with_map_at_end b target made)) (sym h.1.1)
              (with_alike target made made refl),
        ),
      )
  after_alike (Stats places options) x h = (b, (refl, subst (λ (s : ShelfValue). AreAlike s b) (sym h) alike))
  after_alike (OutAscii place null_text) x h = (b, (refl, subst (λ (s : ShelfValue). AreAlike s b) (sym h) alike))

-- statements write the same text, and leave shelves that differ only in labels
pub executes_alike : (statements : List Statement) → StatementsPrintNoLabels statements → (a b : ShelfValue)
    → AreAlike a b
    → (text : List ℕ) (x : ShelfValue) → StatementsWriteTextAndLeaveShelf a statements text x
    → (y : ShelfValue) × (StatementsWriteTextAndLeaveShelf b statements text y × AreAlike x y)
executes_alike [] none a b alike text x h = (b, ((h.0, refl), subst (λ (s : ShelfValue). AreAlike s b) (sym h.1) alike))
executes_alike (s ∷ ss) none a b alike text x (next, (rest, (step, (others, is)))) =
    let first = All-head (λ (s : Statement). command_prints_labels s.command ≡ false) s ss none in
    let after = after_alike a b alike s.command next step in
    let more = executes_alike ss
    (All-tail (λ (s : Statement). command_prints_labels s.command
    ≡ false) s ss none) next after.0 after.1.1 rest x others in (
      more.0,
      (
        (
          after.0,
          (
            rest,
            (after.1.0, (more.1.0, is ∙ ap (λ (t : List ℕ). t ++ rest) (same_text a b alike s.command first))),
          ),
        ),
        more.1.1,
      ),
    )

pub labels_change_only_printed_labels : LabelsChangeOnlyPrintedLabels
labels_change_only_printed_labels shelf statements none text = (
  λ h. let there = executes_alike statements none shelf (shelf_without_labels shelf) (bare_alike shelf) text h.0 h.1 in
      (there.0, there.1.0),
  λ h. let there = executes_alike statements none (shelf_without_labels shelf) shelf
      (AreAlike-sym shelf (shelf_without_labels shelf) (bare_alike shelf)) text h.0 h.1 in (there.0, there.1.0),
)
