-- Statements add maps of the shelf's region, under new names, after the maps on the shelf.
use Rattle.std.proofs.Common.{◌≡◌, ℕ, ◌+◌, List, [], ◌∷◌, ◌++◌, length, Option, Some, None, refl, ap, sym}
use Rattle.std.proofs.Common.{◌∙◌, subst, append_assoc, append-nil}
use Rattle.std.specs.Prelude.{slice_get, All}
use Rattle.std.proofs.lemmas.List.{length_push}
use Rattle.std.proofs.lemmas.List.Elements.{All-push, All-get_or}
use Rattle.std.proofs.lemmas.Option.{slice_get_within, get_or_from_slice_get}
use Rattle.cell_core_values.specs.Region.{RegionValue}
use Rattle.cell_core_values.specs.Name.{place_of_name, AreDistinctNames}
use Rattle.cell_core_values.proofs.NameLemmas.{AreDistinct-push}
use Rattle.cell_core.specs.Grid.{Grid}
use Rattle.cell_core.specs.Shelf.{ShelfValue}
use Rattle.cell_cats.specs.Rule.{RuleValue}
use Rattle.cell_cats.specs.Reclass.{reclassed_map}
use Rattle.cell_clumps.specs.declared.clump.Joining.{Joining}
use Rattle.cell_clumps.proofs.LawLemmas.{clump_map_is_unique}
use Rattle.rcell_script.specs.CommandSpelling.{SpellsCommand}
use Rattle.rcell_script.specs.declared.command.Command.{Command}
use Rattle.rcell_script.specs.declared.command.Command.TheVariants.{Mapcalc, Reclass, Clump, Stats, OutAscii}
use Rattle.rcell_script.specs.KnownMaps.{known_names_after_command}
use Rattle.rcell_script.specs.Lines.{ScriptLine, script_lines, numbered_lines}
use Rattle.rcell_script.specs.Scripts.{LinesFormStatements, none, skipped, command, reclass, IsScript}
use Rattle.rcell_script.specs.declared.statement.Statement.{Statement}
use Rattle.rcell.specs.Making.{IsMapOfClumpNumbers, MapExistsAndSatisfiesRelation, shelf_with_map_at_end}
use Rattle.rcell.specs.After.{IsShelfAfterCommand}
use Rattle.rcell.specs.Output.{StatementsWriteTextAndLeaveShelf}
use Rattle.rcell.proofs.OutputLemmas.{IsAfter-one, names_after}

-- ---- the maps that a script makes are new

abbrev pub IsNewTo : List (List ℕ) → Command → Type 0
IsNewTo known (Mapcalc target bound) = place_of_name target known ≡ None
IsNewTo known (Reclass place target rules) = place_of_name target known ≡ None
IsNewTo known (Clump place target joining) = place_of_name target known ≡ None
IsNewTo known _ = Unit {0}

abbrev pub AreNewTo : List (List ℕ) → List Statement → Type 0
AreNewTo known [] = Unit {0}
AreNewTo known (s ∷ ss) = IsNewTo known s.command × AreNewTo (known_names_after_command known s.command) ss

spelled_new : (known : List (List ℕ)) (line : List ℕ) (c : Command) → SpellsCommand known line c → IsNewTo known c
spelled_new known line (Mapcalc target bound) h = ap (λ (t : List ℕ). place_of_name t known) (sym h.target_is) ∙ h.made
spelled_new known line (Reclass place target rules) h = absurd h
spelled_new known line (Clump place target joining) h = h.maps.made
spelled_new known line _ h = tt

group_new : (known : List (List ℕ)) (lines : List ScriptLine) (statements : List Statement)
    → LinesFormStatements known lines statements
    → AreNewTo known statements
group_new known _ _ none = tt
group_new known _ _ (skipped says more) = group_new known _ _ more
group_new known _ _ (command {line} {command = c} spells more) =
    (spelled_new known line.bytes c spells, group_new _ _ _ more)
group_new known _ _ (reclass last spells rules end more) = (spells.maps.made, group_new _ _ _ more)

pub script_new : (known : List (List ℕ)) (text : List ℕ) (statements : List Statement) → IsScript known text statements
    → AreNewTo known statements
unfolding IsScript
script_new known text statements is = group_new known (numbered_lines 1 (script_lines text)) statements is.grouped

-- ---- the shelf grows

-- a shelf with distinct names, each with a map of the region
pub record IsOrdered (region : RegionValue) (shelf : ShelfValue) : Type 0 where
  pub region_is : shelf.region ≡ region
  pub named : length shelf.names ≡ length shelf.maps
  pub distinct : AreDistinctNames shelf.names
  pub one_region : All (λ m. m.region ≡ region) shelf.maps

-- a shelf with further names and maps at its end
pub record HasGrown (region : RegionValue) (shelf after : ShelfValue) : Type 0 where
  pub names : List (List ℕ)
  pub maps : List Grid
  pub names_are : after.names ≡ shelf.names ++ names
  pub maps_are : after.maps ≡ shelf.maps ++ maps
  pub ordered : IsOrdered region after

module _ (region : RegionValue) (shelf : ShelfValue) (is : IsOrdered region shelf) where
  grown_by_none : HasGrown region shelf shelf
  grown_by_none = record {
    names = [];
    maps = [];
    names_are = sym (append-nil shelf.names);
    maps_are = sym (append-nil shelf.maps);
    ordered = is;
  }

  grown_by_one : (target : List ℕ) (made : Grid) → place_of_name target shelf.names ≡ None → made.region ≡ region
      → HasGrown region shelf (shelf_with_map_at_end shelf target made)
  grown_by_one target made new same = record {
    names = target ∷ [];
    maps = made ∷ [];
    names_are = refl;
    maps_are = refl;
    ordered = record {
      region_is = is.region_is;
      named = length_push shelf.names target ∙ ap (λ n. n + 1) is.named ∙ sym (length_push shelf.maps made);
      distinct = AreDistinct-push shelf.names target is.distinct new;
      one_region = All-push (λ (m : Grid). m.region ≡ region) shelf.maps made is.one_region same;
    };
  }

  region_there : (place : ℕ) (m : Grid) → slice_get shelf.maps place ≡ Some m → m.region ≡ region
  region_there place m there =
      subst (λ (g : Grid). g.region ≡ region) (get_or_from_slice_get shelf.maps place m m there)
      (All-get_or (λ (g : Grid). g.region ≡ region) shelf.maps place m
      (slice_get_within shelf.maps place m there) is.one_region)

  grown_by_classes : (place : ℕ) (target : List ℕ) (rules : List RuleValue) (after : ShelfValue) (o : Option Grid)
      → slice_get shelf.maps place ≡ o → place_of_name target shelf.names ≡ None
      → MapExistsAndSatisfiesRelation (λ m. after ≡ shelf_with_map_at_end shelf target (reclassed_map rules m)) o
      → HasGrown region shelf after
  grown_by_classes place target rules after None there new h = absurd h
  grown_by_classes place target rules after (Some m) there new h =
      subst (HasGrown region shelf) (sym h)
      (grown_by_one target (reclassed_map rules m) new (region_there place m there))

  numbers_region : (place : ℕ) (joining : Joining) (made : Grid) (o : Option Grid) → slice_get shelf.maps place ≡ o
      → MapExistsAndSatisfiesRelation (λ m. IsMapOfClumpNumbers joining m made) o → made.region ≡ region
  numbers_region place joining made None there h = absurd h
  numbers_region place joining made (Some m) there h = h.clumping.region ∙ region_there place m there

  grown_after : (c : Command) (after : ShelfValue) → IsNewTo shelf.names c → IsShelfAfterCommand shelf c after
      → HasGrown region shelf after
  grown_after (Mapcalc target bound) after new h =
      subst (HasGrown region shelf) (sym h.1.1) (grown_by_one target h.0 new (h.1.0.region ∙ is.region_is))
  grown_after (Reclass place target rules) after new h = grown_by_classes place target rules after
      (slice_get shelf.maps place) refl new h
  grown_after (Clump place target joining) after new h =
      subst (HasGrown region shelf) (sym h.1.1)
      (grown_by_one target h.0 new (numbers_region place joining h.0 (slice_get shelf.maps place) refl h.1.0))
  grown_after (Stats places options) after new h = subst (HasGrown region shelf) (sym h) grown_by_none
  grown_after (OutAscii place null_text) after new h = subst (HasGrown region shelf) (sym h) grown_by_none

grown_twice : (region : RegionValue) (a b c : ShelfValue) → HasGrown region a b → HasGrown region b c
    → HasGrown region a c
grown_twice region a b c one other = record {
  names = one.names ++ other.names;
  maps = one.maps ++ other.maps;
  names_are = other.names_are ∙ ap (λ (ns : List (List ℕ)). ns ++ other.names) one.names_are
      ∙ append_assoc a.names one.names other.names;
  maps_are = other.maps_are ∙ ap (λ (ms : List Grid). ms ++ other.maps) one.maps_are
      ∙ append_assoc a.maps one.maps other.maps;
  ordered = other.ordered;
}

pub executes_grown : (statements : List Statement) (region : RegionValue) (shelf : ShelfValue) → IsOrdered region shelf
    → AreNewTo shelf.names statements
    → (text : List ℕ) (after : ShelfValue) → StatementsWriteTextAndLeaveShelf shelf statements text after
    → HasGrown region shelf after
executes_grown [] region shelf is new text after h = subst (HasGrown region shelf) (sym h.1)
    (grown_by_none region shelf is)
executes_grown (s ∷ ss) region shelf is new text after (next, (rest, (step, (others, same)))) =
    let first = grown_after region shelf is s.command next new.0 step in
    let names = names_after shelf s.command next step in
    grown_twice region shelf next after first
    (executes_grown ss region next first.ordered (subst (λ ns. AreNewTo ns ss) (sym names) new.1) rest after others)

-- statements leave only one shelf
pub executes_to_one : (statements : List Statement) (shelf : ShelfValue) (a b : List ℕ) (x y : ShelfValue)
    → StatementsWriteTextAndLeaveShelf shelf statements a x → StatementsWriteTextAndLeaveShelf shelf statements b y
    → x ≡ y
executes_to_one [] shelf a b x y one other = one.1 ∙ sym other.1
executes_to_one (s ∷ ss) shelf a b x y (next, (rest, (step, (others, same))))
    (next', (rest', (step', (others', same')))) =
    let here : next ≡ next' = IsAfter-one clump_map_is_unique shelf s.command next next' step step' in
    executes_to_one ss next' rest rest' x y (subst (λ (n : ShelfValue). StatementsWriteTextAndLeaveShelf n ss rest x)
    here
    others) others'
