-- A command leaves only one shelf and writes only one output; outputs of consecutive parts join.
use Rattle.std.proofs.Common.{◌≡◌, ℕ, [], ◌∷◌, ◌++◌, List, Option, Some, None, refl, ap, sym, ◌∙◌, arith, subst, append_assoc}
use Rattle.std.specs.Prelude.{slice_get}
use Rattle.cell_calc_language.specs.Formula.{Formula}
use Rattle.cell_clumps.proofs.LawLemmas.{same_grid, same_rows}
use Rattle.cell_clumps.specs.ClumpLaw.{ClumpMapIsUnique}
use Rattle.cell_clumps.specs.declared.clump.Joining.{Joining}
use Rattle.cell_core.specs.Grid.{Grid}
use Rattle.cell_core_values.specs.Region.{RegionValue}
use Rattle.cell_core.specs.Shelf.{ShelfValue}
use Rattle.rcell_script.specs.declared.command.Command.{Command}
use Rattle.rcell_script.specs.declared.command.Command.TheVariants.{Mapcalc, Reclass, Clump, Stats, OutAscii}
use Rattle.rcell_script.specs.declared.statement.Statement.{Statement}
use Rattle.rcell.specs.Making.{IsMapOfExpressionValues, IsMapOfClumpNumbers, MapExistsAndSatisfiesRelation}
use Rattle.rcell.specs.Making.{shelf_with_map_at_end}
use Rattle.rcell_script.specs.KnownMaps.{known_names_after_command}
use Rattle.rcell.specs.After.{IsShelfAfterCommand}
use Rattle.rcell.specs.Output.{StatementsWriteTextAndLeaveShelf, command_output_text}
use Rattle.rcell.specs.OutputLaw.{StatementsHaveOneOutput, ScriptInPartsHasSameOutput}

-- an expression has only one map of values
IsMapOfExpressionValues-one : (bound : Formula) (shelf : ShelfValue) (a b : Grid) → IsMapOfExpressionValues bound shelf a → IsMapOfExpressionValues bound shelf b → a ≡ b
IsMapOfExpressionValues-one bound shelf a b one other =
    let region : a.region ≡ b.region = one.region ∙ sym other.region in
    let rows : a.region.rows ≡ shelf.region.rows = ap (λ (r : RegionValue). r.rows) one.region in
    let cols : a.region.cols ≡ shelf.region.cols = ap (λ (r : RegionValue). r.cols) one.region in
    same_grid a b region
    (same_rows a b one.filled other.filled region (λ r c r_lt c_lt. one.cells r c (omega arith) (omega arith) ∙ sym (other.cells r c (omega arith) (omega arith))))
    (one.labels ∙ sym other.labels)

one_of_map : (f : Grid → ShelfValue) (m : Option Grid) (a b : ShelfValue) → MapExistsAndSatisfiesRelation (λ m. a ≡ f m) m → MapExistsAndSatisfiesRelation (λ m. b ≡ f m) m → a ≡ b
one_of_map f None a b one other = absurd one
one_of_map f (Some m) a b one other = one ∙ sym other

module _ (law : ClumpMapIsUnique) where
  one_numbering : (joining : Joining) (m : Option Grid) (a b : Grid) → MapExistsAndSatisfiesRelation (λ m. IsMapOfClumpNumbers joining m a) m → MapExistsAndSatisfiesRelation (λ m. IsMapOfClumpNumbers joining m b) m → a ≡ b
  one_numbering joining None a b one other = absurd one
  one_numbering joining (Some m) a b one other = law joining m a b one.filled other.filled one.clumping other.clumping

  -- a command leaves only one shelf
  pub IsAfter-one : (shelf : ShelfValue) (command : Command) (a b : ShelfValue) → IsShelfAfterCommand shelf command a → IsShelfAfterCommand shelf command b → a ≡ b
  IsAfter-one shelf (Mapcalc target bound) a b one other =
      one.1.1 ∙ ap (λ m. shelf_with_map_at_end shelf target m) (IsMapOfExpressionValues-one bound shelf one.0 other.0 one.1.0 other.1.0) ∙ sym other.1.1
  IsAfter-one shelf (Reclass place target rules) a b one other = one_of_map _ (slice_get shelf.maps place) a b one other
  IsAfter-one shelf (Clump place target joining) a b one other =
      one.1.1 ∙ ap (λ m. shelf_with_map_at_end shelf target m) (one_numbering joining (slice_get shelf.maps place) one.0 other.0 one.1.0 other.1.0) ∙ sym other.1.1
  IsAfter-one shelf (Stats places options) a b one other = one ∙ sym other
  IsAfter-one shelf (OutAscii place null_text) a b one other = one ∙ sym other

  -- statements write only one text
  StatementsWriteTextAndLeaveShelf-one : (statements : List Statement) (shelf : ShelfValue) (a b : List ℕ) (one_after other_after : ShelfValue) → StatementsWriteTextAndLeaveShelf shelf statements a one_after → StatementsWriteTextAndLeaveShelf shelf statements b other_after → a ≡ b
  StatementsWriteTextAndLeaveShelf-one [] shelf a b one_after other_after one other = one.0 ∙ sym other.0
  StatementsWriteTextAndLeaveShelf-one (s ∷ ss) shelf a b one_after other_after one other =
      let next : one.0 ≡ other.0 = IsAfter-one shelf s.command one.0 other.0 one.1.1.0 other.1.1.0 in
      let rest : one.1.0 ≡ other.1.0 =
      StatementsWriteTextAndLeaveShelf-one ss other.0 one.1.0 other.1.0 one_after other_after (subst (λ (n : ShelfValue). StatementsWriteTextAndLeaveShelf n ss one.1.0 one_after) next one.1.1.1.0) other.1.1.1.0 in
      one.1.1.1.1 ∙ ap (λ t. command_output_text shelf s.command ++ t) rest ∙ sym other.1.1.1.1

  pub one_output : StatementsHaveOneOutput
  one_output shelf statements a b one other = StatementsWriteTextAndLeaveShelf-one statements shelf a b one.0 other.0
      one.1
      other.1

-- the output of two parts is the first part's output, then the second part's output
pub StatementsWriteTextAndLeaveShelf-append : (first second : List Statement) (shelf between after : ShelfValue) (one other : List ℕ) → StatementsWriteTextAndLeaveShelf shelf first one between → StatementsWriteTextAndLeaveShelf between second other after
    → StatementsWriteTextAndLeaveShelf shelf (first ++ second) (one ++ other) after
StatementsWriteTextAndLeaveShelf-append [] second shelf between after one other x y =
    subst (λ (t : List ℕ). StatementsWriteTextAndLeaveShelf shelf second (t ++ other) after) (sym x.0) (subst (λ (s : ShelfValue). StatementsWriteTextAndLeaveShelf s second other after) x.1 y)
StatementsWriteTextAndLeaveShelf-append (s ∷ ss) second shelf between after one other x y =
    (x.0, (x.1.0 ++ other, (x.1.1.0, (StatementsWriteTextAndLeaveShelf-append ss second x.0 between after x.1.0 other x.1.1.1.0 y, ap (λ t. t ++ other) x.1.1.1.1 ∙ append_assoc (command_output_text shelf s.command) x.1.0 other))))

-- the text is the outputs of two scripts, executed one after the other
abbrev pub Parts : (first second : List Statement) → ShelfValue → List ℕ → ShelfValue → Type 0
Parts first second shelf text after = (between : ShelfValue) × ((one other : List ℕ) × (StatementsWriteTextAndLeaveShelf shelf first one between × (StatementsWriteTextAndLeaveShelf between second other after × (text ≡ one ++ other))))

StatementsWriteTextAndLeaveShelf-split : (first second : List Statement) (shelf after : ShelfValue) (text : List ℕ) → StatementsWriteTextAndLeaveShelf shelf (first ++ second) text after → Parts first second shelf text after
StatementsWriteTextAndLeaveShelf-split [] second shelf after text x = (shelf, ([], text, ((refl, refl), (x, refl))))
StatementsWriteTextAndLeaveShelf-split (s ∷ ss) second shelf after text x =
    let y = StatementsWriteTextAndLeaveShelf-split ss second x.0 after x.1.0 x.1.1.1.0 in (
      y.0,
      (
        command_output_text shelf s.command ++ y.1.0,
        y.1.1,
        (
          (x.0, (y.1.0, (x.1.1.0, (y.1.2.0, refl)))),
          (y.1.2.1.0, x.1.1.1.1 ∙ ap (λ t. command_output_text shelf s.command ++ t) y.1.2.1.1 ∙ sym (append_assoc (command_output_text shelf s.command) y.1.0 y.1.1)),
        ),
      ),
    )

pub script_in_parts_has_same_output : ScriptInPartsHasSameOutput
script_in_parts_has_same_output shelf first second text after = (
  λ x. StatementsWriteTextAndLeaveShelf-split first second shelf after text x,
  λ y.
      subst (λ (t : List ℕ). StatementsWriteTextAndLeaveShelf shelf (first ++ second) t after) (sym y.1.2.1.1) (StatementsWriteTextAndLeaveShelf-append first second shelf y.0 after y.1.0 y.1.1 y.1.2.0 y.1.2.1.0),
)

-- a shelf made from a map has the names that every such shelf has
of_map : (f : Grid → ShelfValue) (m : Option Grid) (after : ShelfValue) (names : List (List ℕ)) → MapExistsAndSatisfiesRelation (λ m. after ≡ f m) m
    → ((m : Grid) → (f m).names ≡ names) → after.names ≡ names
of_map f None after names h are = absurd h
of_map f (Some m) after names h are = ap (λ (s : ShelfValue). s.names) h ∙ are m

-- the names after a command are the names known after it
pub names_after : (shelf : ShelfValue) (c : Command) (after : ShelfValue) → IsShelfAfterCommand shelf c after
    → after.names ≡ known_names_after_command shelf.names c
names_after shelf (Mapcalc target bound) after h = ap (λ (s : ShelfValue). s.names) h.1.1
names_after shelf (Reclass place target rules) after h =
    of_map _ (slice_get shelf.maps place) after (shelf.names ++ target ∷ []) h (λ m. refl)
names_after shelf (Clump place target joining) after h = ap (λ (s : ShelfValue). s.names) h.1.1
names_after shelf _ after h = ap (λ (s : ShelfValue). s.names) h
