-- An accepted script reads only maps that are known.
use Rattle.std.proofs.Common.{◌≡◌, ℕ, suc, List, [], ◌∷◌, length, refl, ap, sym, ◌∙◌, subst}
use Rattle.std.specs.Prelude.{All}
use Rattle.std.proofs.lemmas.List.{length-map}
use Rattle.std.proofs.lemmas.List.Elements.{All-nil, All-cons}
use Rattle.cell_core_values.specs.Region.{RegionValue}
use Rattle.cell_core.specs.Grid.{Grid, RowsFillRegion}
use Rattle.cell_core.specs.Shelf.{ShelfValue}
use Rattle.cell_ascii_meaning.specs.GridText.{SourceDenotesMap}
use Rattle.rcell.specs.Sources.{Named}
use Rattle.rcell_script.proofs.LookupLemmas.{place_of-within}
use Rattle.rcell_script.specs.declared.command.Command.{Command}
use Rattle.rcell_script.specs.declared.command.Command.TheVariants.{Mapcalc, Reclass, Clump, Stats, OutAscii}
use Rattle.rcell_script.specs.CommandSpelling.{SpellsCommand}
use Rattle.rcell_script.specs.Lines.{ScriptLine, script_lines, numbered_lines}
use Rattle.rcell_script.specs.Scripts.{LinesFormStatements, none, skipped, command, reclass, IsScript}
use Rattle.rcell_script.specs.declared.statement.Statement.{Statement}
use Rattle.rcell.specs.runs.Accepted.{ShelfHoldsGrids}
use Rattle.rcell.proofs.runs.AcceptedLemmas.{AllDenote}
use Rattle.rcell_law.specs.OutputExists.{AcceptedScriptsHaveOutput}
use Rattle.rcell_law.proofs.ExistLemmas.{HasMaps, CanMake, CanMakeAll, executes_somehow}

-- a command that a line spells reads a known map
spelled_can : (known : List (List ℕ)) (line : List ℕ) (c : Command) → SpellsCommand known line c → CanMake known c
spelled_can known line (Reclass place target rules) h = absurd h
spelled_can known line (Clump place target joining) h = place_of-within h.maps.input known place h.maps.read
spelled_can known line _ h = tt

group_can : (known : List (List ℕ)) (lines : List ScriptLine) (statements : List Statement)
    → LinesFormStatements known lines statements
    → CanMakeAll known statements
group_can known _ _ none = tt
group_can known _ _ (skipped says more) = group_can known _ _ more
group_can known _ _ (command {line} {command = c} spells more) =
    (spelled_can known line.bytes c spells, group_can _ _ _ more)
group_can known _ _ (reclass {place} last spells rules end more) =
    (place_of-within spells.maps.input known place spells.maps.read, group_can _ _ _ more)

pub script_can : (known : List (List ℕ)) (text : List ℕ) (statements : List Statement) → IsScript known text statements
    → CanMakeAll known statements
unfolding IsScript
script_can known text statements is = group_can known (numbered_lines 1 (script_lines text)) statements is.grouped

-- ---- the maps of grids

all_filled : (grids : List Named) (maps : List Grid) → AllDenote grids maps
    → All (λ m. RowsFillRegion m.region m.rows) maps
all_filled [] [] denote = All-nil (λ m. RowsFillRegion m.region m.rows)
all_filled (g ∷ grids) (m ∷ maps) denote =
    let h : SourceDenotesMap g.1 m = denote.0 in
    All-cons (λ m. RowsFillRegion m.region m.rows) m maps
    (subst (λ (e : RegionValue). RowsFillRegion e m.rows) (sym h.region) h.cells.shape)
    (all_filled grids maps denote.1)
all_filled _ _ denote = absurd denote

pub as_many : (grids : List Named) (maps : List Grid) → AllDenote grids maps → length grids ≡ length maps
as_many [] [] denote = refl
as_many (g ∷ grids) (m ∷ maps) denote = ap suc (as_many grids maps denote.1)
as_many _ _ denote = absurd denote

both : (region : RegionValue) (maps : List Grid) → All (λ m. m.region ≡ region) maps → All
    (λ m. RowsFillRegion m.region m.rows) maps → All (λ m. (m.region ≡ region) × RowsFillRegion m.region m.rows) maps
both region maps one other i d lt = (one i d lt, other i d lt)

pub grids_have_maps : (grids : List Named) (shelf : ShelfValue) → ShelfHoldsGrids grids shelf → HasMaps shelf
grids_have_maps grids shelf h = record {
  named = ap length h.names ∙ length-map grids (λ g. g.0) ∙ as_many grids shelf.maps h.denote;
  maps = both shelf.region shelf.maps h.one_region (all_filled grids shelf.maps h.denote);
}

pub accepted_scripts_have_output : AcceptedScriptsHaveOutput
accepted_scripts_have_output grids script shelf statements h =
    executes_somehow statements shelf (grids_have_maps grids shelf h.loaded)
    (script_can shelf.names script.bytes statements h.denoted)
