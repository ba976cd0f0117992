-- Properties that each line read preserves.
use Rattle.std.proofs.Common.{◌≡◌, ℕ, zero, suc, ◌<◌, IfOk, List, [], ◌∷◌, ◌++◌, All, Some, None, Result, Ok, Err, refl, ap, sym, ◌∙◌, subst, arith}
use Rattle.std.proofs.lemmas.List.Elements.{All-append}
use Rattle.cell_cats.specs.Rule.{RuleValue}
use Rattle.cell_cats.specs.declared.rules.LineKind.{LineKind}
use Rattle.cell_cats.specs.declared.rules.LineKind.TheVariants as line_kind
use Rattle.rcell_script.specs.KnownMaps.{known_names_after_command}
use Rattle.rcell_script.specs.ScriptsRead.{state_before_first_line, state_with_statement, state_after_line_meaning}
use Rattle.rcell_script.specs.ScriptsRead.{state_after_rule_line}
use Rattle.rcell_script.specs.FittingCommands.{CommandFitsKnownMaps, LineFitsKnownMaps}
use Rattle.rcell_script.specs.FittingScripts.{StatementsFitKnownMaps}
use Rattle.rcell_script.specs.ScriptFaults.{HoldsUnlessOutOfMemoryAtLine}
use Rattle.rcell_script.specs.declared.script_fault.ScriptFault.{ScriptFault}
use Rattle.rcell_script.specs.declared.script_fault.ScriptKind.{ScriptKind}
use Rattle.rcell_script.specs.declared.heads.ScriptLineMeaning.{ScriptLineMeaning}
use Rattle.rcell_script.specs.declared.heads.ScriptLineMeaning.TheVariants.{Skipped, Whole, Opened}
use Rattle.rcell_script.specs.declared.line_reading.UnfinishedReclass.{UnfinishedReclass}
use Rattle.rcell_script.specs.declared.line_reading.ScriptReadingState.{ScriptReadingState}
use Rattle.rcell_script.specs.declared.command.Command.{Command}
use Rattle.rcell_script.specs.declared.command.Command.TheVariants.{Reclass}
use Rattle.rcell_script.specs.declared.statement.Statement.{Statement}
use Rattle.rcell_script.specs.parts.Sound.{UnfinishedReclassFitsKnownMaps, known_names_after_statements}
use Rattle.rcell_script.specs.parts.Sound.{ReadingStateFitsKnownMaps}

-- one more statement makes its name known
known_after_all-more : (known : List (List ℕ)) (xs : List Statement) (s : Statement) → known_names_after_statements known (xs ++ s ∷ []) ≡ known_names_after_command (known_names_after_statements known xs) s.command
known_after_all-more known [] s = refl
known_after_all-more known (x ∷ xs) s = known_after_all-more (known_names_after_command known x.command) xs s

-- one more statement fits after statements that fit
Fits-more : (known : List (List ℕ)) (xs : List Statement) (s : Statement) → StatementsFitKnownMaps known xs → CommandFitsKnownMaps (known_names_after_statements known xs) s.command → StatementsFitKnownMaps known (xs ++ s ∷ [])
Fits-more known [] s fits command = (command, record {})
Fits-more known (x ∷ xs) s fits command = (
  fits.0,
  Fits-more (known_names_after_command known x.command) xs s fits.1
      command,
)

numbered-one : (s : Statement) → 0 < s.line → All (λ (s : Statement). 0 < s.line) (s ∷ [])
numbered-one s h zero d k = h
numbered-one s h (suc i) d k = absurd (omega arith)

pub IsSound-statement : (first : List (List ℕ)) (read : ScriptReadingState) (line : ℕ) (command : Command) → 0 < line → CommandFitsKnownMaps read.known command → ReadingStateFitsKnownMaps first read → ReadingStateFitsKnownMaps first (state_with_statement line command read)
IsSound-statement first read line command h fits sound =
    let s : Statement = record { line = line; command = command } in
    record {
      known = ap (λ names. known_names_after_command names command) sound.known
          ∙ sym (known_after_all-more first read.statements s);
      fits = Fits-more first read.statements s sound.fits (subst
          (λ names. CommandFitsKnownMaps names command) sound.known fits);
      pending = record {};
      numbered = All-append (λ (s : Statement). 0 < s.line) read.statements (s ∷ []) sound.numbered (numbered-one s h);
    }

-- the start is sound
pub IsSound-start : (known : List (List ℕ)) → ReadingStateFitsKnownMaps known (state_before_first_line known)
IsSound-start known = record { known = refl; fits = record {}; pending = record {}; numbered = λ i d h. absurd (omega arith) }

-- a sound reading stays sound when the open rules are dropped
pub IsSound-closed : (first : List (List ℕ)) (read : ScriptReadingState) → ReadingStateFitsKnownMaps first read → ReadingStateFitsKnownMaps first (record read { pending = None })
IsSound-closed first read sound = record { known = sound.known; fits = sound.fits; pending = record {}; numbered = sound.numbered }

-- a sound reading stays sound after a line outside the rules of an r.reclass
pub IsSound-head : (first : List (List ℕ)) (read more : ScriptReadingState) (line : ℕ) (head : ScriptLineMeaning) → 0 < line → LineFitsKnownMaps read.known head → state_after_line_meaning line read (Ok head) ≡ Ok more → ReadingStateFitsKnownMaps first read → ReadingStateFitsKnownMaps first more
IsSound-head first read more line Skipped h fits e sound = let same : read ≡ more = cc in subst (ReadingStateFitsKnownMaps first) same sound
IsSound-head first read more line (Whole command) h fits e sound =
    let same : state_with_statement line command read ≡ more = cc in
    subst (ReadingStateFitsKnownMaps first) same (IsSound-statement first read line command h fits sound)
IsSound-head first read more line (Opened place target) h fits e sound =
    let block : UnfinishedReclass = record { line = line; place = place; target = target; rules = [] } in
    let same : (record read { pending = Some block }) ≡ more = cc in
    subst (ReadingStateFitsKnownMaps first) same (record { known = sound.known; fits = sound.fits; pending = (fits.1, (fits.0, h)); numbered = sound.numbered })

-- a sound reading stays sound after a line among rules
pub IsSound-rule : (first : List (List ℕ)) (read more : ScriptReadingState) (line : ℕ) (block : UnfinishedReclass) (x : Result (LineKind × List RuleValue) ScriptKind) → UnfinishedReclassFitsKnownMaps read.known (Some block) → state_after_rule_line line read block x ≡ Ok more → ReadingStateFitsKnownMaps first read → ReadingStateFitsKnownMaps first more
IsSound-rule first read more line block (Err kind) fits e sound = cc
IsSound-rule first read more line block (Ok (line_kind.End, rules)) fits e sound =
    let same : state_with_statement block.line (Reclass block.place block.target block.rules) read ≡ more = cc in
    subst (ReadingStateFitsKnownMaps first) same (IsSound-statement first read block.line (Reclass block.place block.target block.rules) fits.1.1 (fits.1.0, fits.0) sound)
IsSound-rule first read more line block (Ok (line_kind.Skipped, rules)) fits e sound =
    let same : (record read { pending = Some (record block { rules = rules }) }) ≡ more = cc in
    subst (ReadingStateFitsKnownMaps first) same (record { known = sound.known; fits = sound.fits; pending = fits; numbered = sound.numbered })
IsSound-rule first read more line block (Ok (line_kind.Rule, rules)) fits e sound =
    let same : (record read { pending = Some (record block { rules = rules }) }) ≡ more = cc in
    subst (ReadingStateFitsKnownMaps first) same (record { known = sound.known; fits = sound.fits; pending = fits; numbered = sound.numbered })

-- a line that is read among rules keeps a sound reading sound
pub IsSound-rules : (read : ScriptReadingState) (line : ℕ) (block : UnfinishedReclass) (x : Result (LineKind × List RuleValue) ScriptKind) (r : Result ScriptReadingState ScriptFault) → read.pending ≡ Some block
    → HoldsUnlessOutOfMemoryAtLine (λ next. state_after_rule_line line (record read { pending = None }) block x ≡ next) r → IfOk r (λ more. (first : List (List ℕ)) → ReadingStateFitsKnownMaps first read → ReadingStateFitsKnownMaps first more)
IsSound-rules read line block x (Err fault) pending e = record {}
IsSound-rules read line block x (Ok more) pending e =
    λ first sound. IsSound-rule first (record read { pending = None }) more line block x (subst (UnfinishedReclassFitsKnownMaps read.known) pending sound.pending) e (IsSound-closed first read sound)
