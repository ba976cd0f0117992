-- Execution of one more statement.
use Rattle.std.proofs.Common.{◌≡◌, ℕ, suc, ◌+◌, ◌<◌, Some, false, List, [], ◌∷◌, ◌++◌, length, take, drop, get_or, Option, refl, ap, sym, ◌∙◌, arith, subst, add-one, append-nil, length-append, take-append-drop, All}
use Rattle.std.specs.Prelude.{slice_get}
use Rattle.std.proofs.Math.Seq.{drop-cons}
use Rattle.std.proofs.lemmas.List.{take_more}
use Rattle.cell_ascii_meaning.specs.Writing.{grid_text}
use Rattle.cell_core_devices.specs.Device.{SinkFaults}
use Rattle.cell_core.specs.Grid.{Grid}
use Rattle.cell_core.specs.Shelf.{ShelfValue}
use Rattle.cell_core_devices.specs.Blocks.{OutputBlockValue, IsTextAppendedThroughBlock}
use Rattle.cell_ascii_writer.proofs.PutLemmas.{appended_put}
use Rattle.rcell_script.specs.KnownMaps.{known_names_after_command}
use Rattle.rcell_script.specs.FittingCommands.{CommandFitsKnownMaps}
use Rattle.rcell_script.specs.FittingScripts.{StatementsFitKnownMaps}
use Rattle.rcell_script.specs.declared.command.Command.{Command}
use Rattle.rcell_script.specs.declared.command.Command.TheVariants.{Stats, OutAscii}
use Rattle.rcell_script.specs.declared.statement.Statement.{Statement}
use Rattle.rcell.specs.After.{IsShelfAfterCommand}
use Rattle.rcell_script.specs.declared.command.StatsOptions.{StatsOptions}
use Rattle.rcell.specs.Output.{StatementsWriteTextAndLeaveShelf, command_output_text, stats_text}
use Rattle.rcell.specs.parts.OutputSteps.{AreFirstStatementsExecuted}
use Rattle.rcell.specs.runs.Execution.{IsStoppedBeforeStatement, IsOutputPrefixWritten}
use Rattle.rcell.specs.runs.Outcomes.{IsFullOutputWritten}
use Rattle.rcell.proofs.OutputLemmas.{StatementsWriteTextAndLeaveShelf-append}

-- the text of an r.out.ascii statement is the grid text of its map
pub grid_command : (shelf : ShelfValue) (command : Command) (place : ℕ) (text : List ℕ) (m : Grid) → command ≡ OutAscii place text → slice_get shelf.maps place ≡ Some m
    → grid_text text m ≡ command_output_text shelf command
grid_command shelf command place text m is map = rw (is, map) refl

-- the text of an r.stats statement is its table
pub stats_command : (shelf : ShelfValue) (command : Command) (places : List ℕ) (options : StatsOptions) → command ≡ Stats places options → stats_text shelf places options ≡ command_output_text shelf command
stats_command shelf command places options is = rw is refl

next_at : (statements : List Statement) (i : ℕ) (s : Statement) → i < length statements → s ≡ get_or statements i s → drop i statements ≡ s ∷ drop (i + 1) statements
next_at statements i s h read = rw add-one (drop-cons statements i s h ∙ ap (λ x. x ∷ drop (suc i) statements) (sym read))

cut_at : (statements : List Statement) (i : ℕ) (s : Statement) → i < length statements → s ≡ get_or statements i s → take i statements ++ s ∷ drop (i + 1) statements ≡ statements
cut_at statements i s h read = ap (λ l. take i statements ++ l) (sym (next_at statements i s h read)) ∙ take-append-drop i statements

module _ (statements : List Statement) (i : ℕ) (s : Statement) (h : i < length statements) (read : s ≡ get_or statements i s) where
  -- the statement at place i fits, and those after it fit the shelf that it leaves
  pub fits_more : (known next : List (List ℕ)) → StatementsFitKnownMaps known (drop i statements) → next ≡ known_names_after_command known s.command → CommandFitsKnownMaps known s.command × StatementsFitKnownMaps next (drop (i + 1) statements)
  fits_more known next fits names =
      let both : StatementsFitKnownMaps known (s ∷ drop (i + 1) statements) = subst (λ (l : List Statement). StatementsFitKnownMaps known l) (next_at statements i s h read) fits in
      (both.0, subst (λ (n : List (List ℕ)). StatementsFitKnownMaps n (drop (i + 1) statements)) (sym names) both.1)

  more : (shelf after next : ShelfValue) (text : List ℕ) → StatementsWriteTextAndLeaveShelf shelf (take i statements) text after → IsShelfAfterCommand after s.command next
      → StatementsWriteTextAndLeaveShelf shelf (take (i + 1) statements) (text
      ++ command_output_text after s.command) next
  more shelf after next text executed step =
      let last : StatementsWriteTextAndLeaveShelf after (s ∷ []) (command_output_text after s.command) next = (next, ([], (step, ((refl, refl), sym (append-nil (command_output_text after s.command)))))) in
      let list : take i statements ++ s ∷ [] ≡ take (i + 1) statements = ap (λ x. take i statements ++ x ∷ []) read ∙ sym (take_more statements i s h) in
      subst (λ (l : List Statement). StatementsWriteTextAndLeaveShelf shelf l (text
      ++ command_output_text after s.command) next) list
      (StatementsWriteTextAndLeaveShelf-append (take i statements) (s ∷ []) shelf after next text
      (command_output_text after s.command) executed last)

  module _ {shelf after : ShelfValue} {before taken : Option (List ℕ)} {start faults : SinkFaults} {old : OutputBlockValue} (executed : AreFirstStatementsExecuted shelf (take i statements) before start taken faults old after) where
    -- the statement at place i is executed, and its text is appended
    pub executed_more : {next : ShelfValue} {S : Type 0} {known : S → Option (List ℕ)} {failing : S → SinkFaults} {was now : S} {new : OutputBlockValue} → taken ≡ known was → faults ≡ failing was → IsShelfAfterCommand after s.command next
        → IsTextAppendedThroughBlock known failing was old (command_output_text after s.command) now new → AreFirstStatementsExecuted shelf (take (i + 1) statements) before start (known now) (failing now) new next
    executed_more {next} t f step appends = record {
      text = executed.text ++ command_output_text after s.command;
      executed = more shelf after next executed.text executed.executed step;
      appended = appends.adds before start executed.text (rw (t, f) at executed.appended);
    }

    -- if memory ran out at the statement at place i, the output of the statements before it is written
    pub before_at : old.failed ≡ false → old.held ≡ [] → IsStoppedBeforeStatement shelf statements before taken
        old.written s.line
    before_at good none =
        let put = appended_put executed.appended good none in
        record {
          first = take i statements;
          statement = s;
          others = drop (i + 1) statements;
          whole = cut_at statements i s h read;
          line_is = refl;
          text = executed.text;
          after = after;
          executed = executed.executed;
          taken = put.0;
          count = put.1.0;
        }

-- after the statements before place i, the sink has accepted a prefix of the output
pub executed_within : (shelf after : ShelfValue) (statements : List Statement) (i : ℕ) (before now : Option (List ℕ)) (start faults : SinkFaults) (block : OutputBlockValue)
    → AreFirstStatementsExecuted shelf (take i statements) before start now faults block after → IsOutputPrefixWritten shelf statements before now block.written
executed_within shelf after statements i before now start faults block executed = record {
  first = take i statements;
  others = drop i statements;
  whole = take-append-drop i statements;
  prefix = executed.appended.front;
  rest = executed.appended.rest;
  after = after;
  executed = subst (λ (t : List ℕ). StatementsWriteTextAndLeaveShelf shelf (take i statements) t after) (sym executed.appended.whole) executed.executed;
  taken = executed.appended.taken;
  count = executed.appended.count;
}

-- if everything was written and the flush failed, the prefix is the full output
pub done_within : (shelf : ShelfValue) (statements : List Statement) (before now : Option (List ℕ)) (written : ℕ) → IsFullOutputWritten shelf statements before now written → IsOutputPrefixWritten shelf statements before now written
done_within shelf statements before now written done = record {
  first = statements;
  others = [];
  whole = append-nil statements;
  prefix = done.text;
  rest = [];
  after = done.output.0;
  executed = subst (λ (t : List ℕ). StatementsWriteTextAndLeaveShelf shelf statements t done.output.0) (sym (append-nil done.text)) done.output.1;
  taken = done.taken;
  count = done.count;
}

got_at : (front : List Statement) (s : Statement) (back : List Statement) (d : Statement) → get_or (front ++ s ∷ back) (length front) d ≡ s
got_at [] s back d = refl
got_at (x ∷ front) s back d = got_at front s back d

-- a statement that was not begun has a line number above 0
pub row_above_or_nulls : (shelf : ShelfValue) (statements : List Statement) (before now : Option (List ℕ)) (written line : ℕ) → All (λ s. 0 < s.line) statements → IsStoppedBeforeStatement shelf statements before now written line → 0 < line
row_above_or_nulls shelf statements before now written line numbered at =
    let within : length at.first < length statements = omega (arith, ap length at.whole, length-append at.first (at.statement ∷ at.others)) in
    let here : get_or statements (length at.first) at.statement ≡ at.statement = ap (λ l. get_or l (length at.first) at.statement) (sym at.whole) ∙ got_at at.first at.statement at.others at.statement in
    let above : 0 < at.statement.line = rw here at (numbered (length at.first) at.statement within) in
    rw at.line_is above
