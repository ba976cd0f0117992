-- The maps that statements make and write exist.
use Rattle.std.proofs.Common.{◌≡◌, ℕ, ◌+◌, ◌<◌, List, [], ◌∷◌, ◌++◌, length, get_or}
use Rattle.std.proofs.Common.{Option, Some, refl, ap, sym, ◌∙◌, subst, arith}
use Rattle.std.specs.Prelude.{slice_get, All}
use Rattle.std.proofs.lemmas.List.{length-map, length_push}
use Rattle.std.proofs.lemmas.List.Elements.{All-nil, All-cons, All-head, All-tail, All-map, All-get_or, All-push}
use Rattle.std.proofs.lemmas.Option.{slice_get-get_or}
use Rattle.cell_core.specs.Grid.{Grid, CellValue, RowsFillRegion, empty_category_labels}
use Rattle.cell_core.specs.Shelf.{ShelfValue}
use Rattle.cell_calc_language.specs.Formula.{Formula}
use Rattle.cell_calc_language.specs.Value.{value}
use Rattle.cell_calc_language.specs.Applied.{grid_position}
use Rattle.cell_cats.specs.Rule.{RuleValue}
use Rattle.cell_cats.specs.Reclass.{reclassed_map, reclassed_row}
use Rattle.cell_cats_law.proofs.ExistsLemmas.{clump_map_exists}
use Rattle.cell_cats_law.proofs.MadeLemmas.{made_map, made_filled, made_there}
use Rattle.rcell_script.specs.declared.command.Command.{Command}
use Rattle.rcell_script.specs.declared.command.Command.TheVariants.{Mapcalc, Reclass, Clump, Stats, OutAscii}
use Rattle.rcell_script.specs.FittingCommands.{CommandFitsKnownMaps}
use Rattle.rcell_script.specs.FittingScripts.{StatementsFitKnownMaps}
use Rattle.rcell_script.specs.KnownMaps.{known_names_after_command}
use Rattle.rcell_script.specs.declared.statement.Statement.{Statement}
use Rattle.rcell.specs.Making.{IsMapOfExpressionValues, IsMapOfClumpNumbers, MapExistsAndSatisfiesRelation}
use Rattle.rcell.specs.Making.{shelf_with_map_at_end}
use Rattle.rcell.specs.After.{IsShelfAfterCommand}
use Rattle.rcell.specs.Output.{StatementsWriteTextAndLeaveShelf, command_output_text}
use Rattle.rcell_law.specs.OutputExists.{FittingStatementsHaveOutput}

-- each name has a map with the shelf's region, and as many rows and columns
pub record HasMaps (shelf : ShelfValue) : Type 0 where
  pub named : length shelf.names ≡ length shelf.maps
  pub maps : All (λ m. (m.region ≡ shelf.region) × RowsFillRegion m.region m.rows) shelf.maps

-- ---- a map of values

values_exist : (bound : Formula) (shelf : ShelfValue) → (made : Grid) × IsMapOfExpressionValues bound shelf made
values_exist bound shelf =
    let at : ℕ → ℕ → CellValue = λ r c. value bound shelf.maps (grid_position shelf.region r c) in (
      made_map shelf.region at,
      record {
        region = refl;
        filled = made_filled shelf.region at;
        labels = refl;
        cells = made_there shelf.region at;
      },
    )

-- ---- a map made by rules

pub classes_filled : (rules : List RuleValue) (m : Grid) → RowsFillRegion m.region m.rows → RowsFillRegion m.region
    (reclassed_map rules m).rows
classes_filled rules m h = record {
  count = length-map m.rows (reclassed_row rules) ∙ h.count;
  width = All-map (λ (row : List CellValue). length row ≡ m.region.cols) (reclassed_row rules) m.rows
      (wide m.rows h.width);
}
  where
    wide : (rows : List (List CellValue)) → All (λ row. length row ≡ m.region.cols) rows → All
        (λ row. length (reclassed_row rules row) ≡ m.region.cols) rows
    wide [] all = All-nil (λ row. length (reclassed_row rules row) ≡ m.region.cols)
    wide (row ∷ rows) all =
        All-cons (λ row. length (reclassed_row rules row) ≡ m.region.cols) row rows
        (length-map row _ ∙ All-head (λ row. length row ≡ m.region.cols) row rows all)
        (wide rows (All-tail (λ row. length row ≡ m.region.cols) row rows all))

-- ---- the shelf after a command

with_more : (shelf : ShelfValue) (target : List ℕ) (made : Grid) → HasMaps shelf → made.region ≡ shelf.region
    → RowsFillRegion made.region made.rows → HasMaps (shelf_with_map_at_end shelf target made)
with_more shelf target made h region filled = record {
  named = length_push shelf.names target ∙ ap (λ n. n + 1) h.named ∙ sym (length_push shelf.maps made);
  maps = All-push (λ (m : Grid). (m.region ≡ shelf.region) × RowsFillRegion m.region m.rows) shelf.maps made h.maps
      (region, filled);
}

-- the map at a place exists
map_there : (shelf : ShelfValue) (place : ℕ) → HasMaps shelf → place < length shelf.names → (m : Grid) ×
    ((slice_get shelf.maps place ≡ Some m) × ((m.region ≡ shelf.region) × RowsFillRegion m.region m.rows))
map_there shelf place h lt =
    let none : Grid = record { region = shelf.region; rows = []; labels = empty_category_labels } in
    let within : place < length shelf.maps = omega (arith, lt, h.named) in (
      get_or shelf.maps place none,
      (
        slice_get-get_or shelf.maps place none within,
        All-get_or (λ (m : Grid). (m.region ≡ shelf.region)
            × RowsFillRegion m.region m.rows) shelf.maps place none within h.maps,
      ),
    )

-- a map that a command reclassifies or clumps is known
abbrev pub CanMake : List (List ℕ) → Command → Type 0
CanMake known (Reclass place target rules) = place < length known
CanMake known (Clump place target joining) = place < length known
CanMake known _ = Unit {0}

abbrev pub CanMakeAll : List (List ℕ) → List Statement → Type 0
CanMakeAll known [] = Unit {0}
CanMakeAll known (s ∷ ss) = CanMake known s.command × CanMakeAll (known_names_after_command known s.command) ss

-- the shelf after a command, with a map for each name, and with the names known then
record HasShelfAfter (shelf : ShelfValue) (c : Command) : Type 0 where
  after : ShelfValue
  is_after : IsShelfAfterCommand shelf c after
  has_maps : HasMaps after
  names : after.names ≡ known_names_after_command shelf.names c

after_exists : (shelf : ShelfValue) (c : Command) → HasMaps shelf → CanMake shelf.names c → HasShelfAfter shelf c
after_exists shelf (Mapcalc target bound) h can =
    let values = values_exist bound shelf in
    record {
      after = shelf_with_map_at_end shelf target values.0;
      is_after = (values.0, (values.1, refl));
      has_maps = with_more shelf target values.0 h values.1.region values.1.filled;
      names = refl;
    }
after_exists shelf (Reclass place target rules) h can =
    let there = map_there shelf place h can in
    let m : Grid = there.0 in
    record {
      after = shelf_with_map_at_end shelf target (reclassed_map rules m);
      is_after = subst (λ (o : Option Grid). MapExistsAndSatisfiesRelation
          (λ n. shelf_with_map_at_end shelf target (reclassed_map rules m)
          ≡ shelf_with_map_at_end shelf target (reclassed_map rules n)) o)
          (sym there.1.0) refl;
      has_maps = with_more shelf target (reclassed_map rules m) h there.1.1.0 (classes_filled rules m there.1.1.1);
      names = refl;
    }
after_exists shelf (Clump place target joining) h can =
    let there = map_there shelf place h can in
    let m : Grid = there.0 in
    let numbers = clump_map_exists joining m there.1.1.1 in
    let are : IsMapOfClumpNumbers joining m numbers.0 = record { filled = numbers.1.0; clumping = numbers.1.1 } in
    record {
      after = shelf_with_map_at_end shelf target numbers.0;
      is_after = (
        numbers.0,
        (
          subst (λ (o : Option Grid). MapExistsAndSatisfiesRelation (λ n. IsMapOfClumpNumbers joining n numbers.0) o)
              (sym there.1.0) are,
          refl,
        ),
      );
      has_maps = with_more shelf target numbers.0 h (numbers.1.1.region ∙ there.1.1.0) numbers.1.0;
      names = refl;
    }
after_exists shelf (Stats places options) h can = record { after = shelf; is_after = refl; has_maps = h; names = refl }
after_exists shelf (OutAscii place null_text) h can =
    record { after = shelf; is_after = refl; has_maps = h; names = refl }

pub executes_somehow : (statements : List Statement) (shelf : ShelfValue) → HasMaps shelf
    → CanMakeAll shelf.names statements
    → (text : List ℕ) × ((after : ShelfValue) × StatementsWriteTextAndLeaveShelf shelf statements text after)
executes_somehow [] shelf h can = ([], (shelf, (refl, refl)))
executes_somehow (s ∷ ss) shelf h can =
    let next = after_exists shelf s.command h can.0 in
    let rest = executes_somehow ss next.after next.has_maps
    (subst (λ names. CanMakeAll names ss) (sym next.names) can.1) in (
      command_output_text shelf s.command ++ rest.0,
      (
        rest.1.0,
        (next.after, (rest.0, (next.is_after, (rest.1.1, refl)))),
      ),
    )

fits_can : (known : List (List ℕ)) (c : Command) → CommandFitsKnownMaps known c → CanMake known c
fits_can known (Reclass place target rules) h = h.0
fits_can known (Clump place target joining) h = h.0
fits_can known _ h = tt

all_fit : (known : List (List ℕ)) (statements : List Statement) → StatementsFitKnownMaps known statements
    → CanMakeAll known statements
all_fit known [] h = tt
all_fit known (s ∷ ss) h = (fits_can known s.command h.0, all_fit (known_names_after_command known s.command) ss h.1)

pub fitting_statements_have_output : FittingStatementsHaveOutput
fitting_statements_have_output shelf statements named maps fits =
    executes_somehow statements shelf (record { named = named; maps = maps }) (all_fit shelf.names statements fits)
