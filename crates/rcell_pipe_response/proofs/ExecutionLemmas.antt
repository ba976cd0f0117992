-- Execution of one more statement.
use Rattle.std.proofs.Common.{◌≡◌, ℕ, suc, ◌+◌, ◌<◌, List, [], ◌∷◌, ◌++◌, length, take, drop, get_or, Option, Some}
use Rattle.std.proofs.Common.{None, refl, ap, sym, ◌∙◌, subst, append_assoc, append-nil, add-one, take-append-drop}
use Rattle.std.specs.Prelude.{true}
use Rattle.std.proofs.Math.Seq.{drop-cons}
use Rattle.std.proofs.lemmas.List.{take_more}
use Rattle.std.proofs.lemmas.List.Concat.{flat_map-append}
use Rattle.cell_core_devices.specs.Device.{SinkFaults}
use Rattle.cell_core_devices.specs.Blocks.{OutputBlockValue, IsTextAppendedThroughBlock}
use Rattle.cell_core_devices.proofs.BlockLemmas.{appends_none, appends_then}
use Rattle.cell_core.specs.Shelf.{ShelfValue}
use Rattle.rcell_script.specs.declared.command.Command.{Command}
use Rattle.rcell_script.specs.declared.command.Command.TheVariants.{Mapcalc, Reclass, Clump, Stats, OutAscii}
use Rattle.rcell_script.specs.declared.command.StatsOptions.{StatsOptions}
use Rattle.rcell_script.specs.KnownMaps.{known_names_after_command}
use Rattle.rcell_script.specs.declared.statement.Statement.{Statement}
use Rattle.rcell.proofs.OutputLemmas.{names_after}
use Rattle.rcell_tile.specs.TilePlaces.{TilePlaceValue}
use Rattle.rcell_tile.specs.TileRuns.{RunShelvesValue, AreShelvesAfterCommand, IsOuterShelfAfterCommand}
use Rattle.rcell_tile.specs.TileRuns.{expression_in_tile, inner_shelf, shelf_without_halo}
use Rattle.rcell_pipe_frames.specs.Frames.{OutputFrame, command_frames, StatementsGiveFrames}
use Rattle.rcell_pipe_frames.specs.FrameBytes.{frame_bytes, frames_bytes}
use Rattle.rcell_pipe_response.specs.parts.FrameExecution.{AreStatementFramesAppended, MemoryRunsOutAtStatement}
use Rattle.rcell_pipe_response.specs.parts.FrameExecution.{SinkFailsWithinStatementFrames}

-- the name of a map that a command makes is added to the names
outer-names-by : (place : Option TilePlaceValue) (shelf after : ShelfValue) (command : Command)
    → IsOuterShelfAfterCommand place shelf command after
    → after.names ≡ known_names_after_command shelf.names command
outer-names-by None shelf after command is = names_after shelf command after is
outer-names-by (Some p) shelf after (Mapcalc target bound) is =
    names_after shelf (Mapcalc target (expression_in_tile p shelf.region bound)) after is
outer-names-by (Some p) shelf after (Reclass place target rules) is =
    names_after shelf (Reclass place target rules) after is
outer-names-by (Some p) shelf after (Clump place target joining) is = ap (λ (s : ShelfValue). s.names) is.1.1
outer-names-by (Some p) shelf after (Stats places options) is = ap (λ (s : ShelfValue). s.names) is
outer-names-by (Some p) shelf after (OutAscii place null_text) is = ap (λ (s : ShelfValue). s.names) is

pub outer_names_after : (shelves : RunShelvesValue) (command : Command) (next : RunShelvesValue)
    → AreShelvesAfterCommand shelves command next
    → next.outer.names ≡ known_names_after_command shelves.outer.names command
outer_names_after shelves command next are =
    outer-names-by shelves.place shelves.outer next.outer command are.outer

-- a command that makes no map changes nothing
unchanged-by-stats : (place : Option TilePlaceValue) (shelf : ShelfValue) (places : List ℕ) (options : StatsOptions)
    → IsOuterShelfAfterCommand place shelf (Stats places options) shelf
unchanged-by-stats None shelf places options = refl
unchanged-by-stats (Some p) shelf places options = refl

pub unchanged_by_stats : (shelves : RunShelvesValue) (places : List ℕ) (options : StatsOptions)
    → AreShelvesAfterCommand shelves (Stats places options) shelves
unchanged_by_stats shelves places options =
    record { place = refl; outer = unchanged-by-stats shelves.place shelves.outer places options }

unchanged-by-out-ascii : (given : Option TilePlaceValue) (shelf : ShelfValue) (place : ℕ) (null_text : List ℕ)
    → IsOuterShelfAfterCommand given shelf (OutAscii place null_text) shelf
unchanged-by-out-ascii None shelf place null_text = refl
unchanged-by-out-ascii (Some p) shelf place null_text = refl

pub unchanged_by_out_ascii : (shelves : RunShelvesValue) (place : ℕ) (null_text : List ℕ)
    → AreShelvesAfterCommand shelves (OutAscii place null_text) shelves
unchanged_by_out_ascii shelves place null_text =
    record { place = refl; outer = unchanged-by-out-ascii shelves.place shelves.outer place null_text }

-- the maps without halo have the same names
inner-names-by : (place : Option TilePlaceValue) (shelf : ShelfValue)
    → (shelf_without_halo place shelf).names ≡ shelf.names
inner-names-by None shelf = refl
inner-names-by (Some p) shelf = refl

pub inner_names : (shelves : RunShelvesValue) → (inner_shelf shelves).names ≡ shelves.outer.names
inner_names shelves = inner-names-by shelves.place shelves.outer

-- the frames of two parts are the first part's frames, then the second part's frames
StatementsGiveFrames-append : (first second : List Statement) (shelves between after : RunShelvesValue)
    (one other : List OutputFrame) → StatementsGiveFrames shelves first one between
    → StatementsGiveFrames between second other after
    → StatementsGiveFrames shelves (first ++ second) (one ++ other) after
StatementsGiveFrames-append [] second shelves between after one other x y =
    subst (λ (t : List OutputFrame). StatementsGiveFrames shelves second (t ++ other) after) (sym x.0)
    (subst (λ (s : RunShelvesValue). StatementsGiveFrames s second other after) x.1 y)
StatementsGiveFrames-append (s ∷ ss) second shelves between after one other x y = (
  x.0,
  (
    x.1.0
        ++ other,
    (
      x.1.1.0,
      (
        StatementsGiveFrames-append ss second x.0 between after x.1.0 other x.1.1.1.0 y,
        ap (λ t. t ++ other) x.1.1.1.1
            ∙ append_assoc (command_frames (inner_shelf shelves) s.line s.command) x.1.0 other,
      ),
    ),
  ),
)

-- before any statement, no frames are given
pub given_none : {S : Type 0} {taken : S → Option (List ℕ)} {faults : S → SinkFaults} (shelves : RunShelvesValue)
    (now : S) (block : OutputBlockValue)
    → AreStatementFramesAppended taken faults shelves [] now block now block shelves
given_none shelves now block = record { frames = []; given = (refl, refl); appends = appends_none }

next_at : (statements : List Statement) (i : ℕ) (s : Statement) → i < length statements → s ≡ get_or statements i s → drop i statements ≡ s ∷ drop (i + 1) statements
next_at statements i s h read = rw add-one (drop-cons statements i s h ∙ ap (λ x. x ∷ drop (suc i) statements) (sym read))

module _ {S : Type 0} {taken : S → Option (List ℕ)} {faults : S → SinkFaults} (statements : List Statement) (i : ℕ)
    (s : Statement) (h : i < length statements) (read : s ≡ get_or statements i s) {shelves after : RunShelvesValue}
    {old was : S} {block middle : OutputBlockValue}
    (given : AreStatementFramesAppended taken faults shelves (take i statements) old block was middle after)
  where
    -- the statement at place i is executed
    pub given_more : (next : RunShelvesValue) (now : S) (new : OutputBlockValue)
        → AreShelvesAfterCommand after s.command next
        → IsTextAppendedThroughBlock taken faults was middle
        (frames_bytes (command_frames (inner_shelf after) s.line s.command)) now new
        → AreStatementFramesAppended taken faults shelves (take (i + 1) statements) old block now new next
    given_more next now new step appends =
        let more = command_frames (inner_shelf after) s.line s.command in
        let last : StatementsGiveFrames after (s ∷ []) more next =
        (next, ([], (step, ((refl, refl), sym (append-nil more))))) in
        let list : take i statements ++ s ∷ [] ≡ take (i + 1) statements = ap (λ x. take i statements ++ x ∷ []) read ∙ sym (take_more statements i s h) in
        record {
          frames = given.frames ++ more;
          given = subst (λ (l : List Statement). StatementsGiveFrames shelves l (given.frames ++ more) next) list
              (StatementsGiveFrames-append (take i statements) (s ∷ []) shelves after next given.frames more given.given
              last);
          appends = subst (λ (bytes : List ℕ). IsTextAppendedThroughBlock taken faults old block bytes now new) (sym (flat_map-append frame_bytes given.frames more)) (appends_then given.appends appends);
        }

    -- memory ran out at the statement at place i
    pub given_before : MemoryRunsOutAtStatement taken faults shelves statements old block was middle s.line
    given_before = record {
      first = take i statements;
      statement = s;
      others = drop (i + 1) statements;
      whole = ap (λ l. take i statements ++ l) (sym (next_at statements i s h read)) ∙ take-append-drop i statements;
      line_is = refl;
      after = after;
      given = given;
    }

-- the sink failed after the first i statements
pub given_within : {S : Type 0} {taken : S → Option (List ℕ)} {faults : S → SinkFaults} (statements : List Statement)
    (i : ℕ) {shelves after : RunShelvesValue} {old now : S} {block new : OutputBlockValue}
    → AreStatementFramesAppended taken faults shelves (take i statements) old block now new after
    → new.failed ≡ true → SinkFailsWithinStatementFrames taken faults shelves statements old block now new
given_within statements i {after = after} given failed = record { first = take i statements; others = drop i statements; whole = take-append-drop i statements; after = after; given = given; failed = failed }
