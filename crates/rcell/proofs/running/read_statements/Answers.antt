use Rattle.std.proofs.Common.{◌≡◌, ◌≢◌, ◌∙◌, ℕ, List, Option, Some, None, Result, Ok, Err, refl, sym}
use Rattle.std.specs.Global.{Global}
use Rattle.std.specs.Prelude.{Vec}
use Rattle.std.specs.Option.{IsSomeAnd}
use Rattle.cell_core_devices.specs.Device.{ComingBytes}
use Rattle.cell_core_devices.specs.Supposed.{content_to_come}
use Rattle.rcell_script.specs.ReadScripts.{IsScriptFault}
use Rattle.rcell_script.specs.ScriptLaw.{TextDenotesAtMostOneScript, ScriptsHaveNoFault}
use Rattle.rcell_script.specs.Scripts.{IsScript}
use Rattle.rcell_script.specs.declared.script_fault.ScriptFault.{ScriptFault}
use Rattle.rcell_script.specs.declared.statement.Statement.{Statement}
use Rattle.rcell.specs.RunFaults.{IsInputFault}
use Rattle.rcell.specs.ScriptText.{script_text_or_fault}
use Rattle.rcell.specs.declared.run_fault.RunFault.{RunFault}
use Rattle.rcell.specs.declared.run_fault.RunFault.TheVariants.{GridTwice, GridRegion, Grid, ScriptRead, ScriptSize}
use Rattle.rcell.specs.declared.run_fault.RunFault.TheVariants.{Script, Memory, Write}
use Rattle.rcell.specs.parts.Asked.{read_state_after_reading}
use Rattle.cell_core_devices.specs.declared.source.Asked.{Asked}
use Rattle.cell_core_devices.specs.declared.source.Asked.TheVariants.{Again}
use Rattle.rcell.specs.runs.Endings.{ScriptDenotesStatements, IsFaultOfScriptSource}
use Rattle.rcell.proofs.running.read_statements.Goals as goal

-- what follows from a property of the content of a source, if it is supposed to have one
then_supposed : {P Q : ComingBytes → Type 0} (given : Option ComingBytes) → ((c : ComingBytes) → P c → Q c)
    → IsSomeAnd given P
    → IsSomeAnd given Q
then_supposed None implied is = absurd is
then_supposed (Some c) implied is = implied c is

one_text : {text other : List ℕ} {read : Result (List ℕ) RunFault} → read ≡ Ok text → read ≡ Ok other → other ≡ text
one_text bytes others = cc

not_both : {text : List ℕ} {fault : RunFault} {read : Result (List ℕ) RunFault} → read ≡ Err fault → read ≡ Ok text → ⊥
not_both refused bytes = cc

module _ (known names : List (List ℕ)) (text now : List ℕ) (script : ComingBytes) (bytes : script_text_or_fault script ≡ Ok text) (is_text : now ≡ text) (are_names : names ≡ known) where
  reads_of : (statements : List Statement) → IsScript names now statements
      → ScriptDenotesStatements known script statements
  reads_of statements denoted = record { text = text; bytes = bytes; denoted = rw (are_names, is_text) at denoted }

  only_one : TextDenotesAtMostOneScript → (a b : List Statement) → IsScript names now a
      → ScriptDenotesStatements known script b → a ≡ b
  only_one one a b denoted reads = one known text a b (rw (are_names, is_text) at denoted) (rw (one_text bytes reads.bytes) at reads.denoted)

  refused_by : (fault : ScriptFault) → IsScriptFault names now fault → IsFaultOfScriptSource known script (Script fault)
  refused_by fault is = rw bytes (fault, (rw (are_names, is_text) at is, refl))

  no_fault : ScriptsHaveNoFault → (statements : List Statement) (fault : ScriptFault) → ScriptDenotesStatements known script statements → IsScriptFault names now fault → ⊥
  no_fault none statements fault reads is =
      none known text statements fault (rw (one_text bytes reads.bytes) at reads.denoted) (rw (are_names, is_text) at is)

pub returns-in-Err-clause-read : goal.returns-in-Err-clause-read
returns-in-Err-clause-read g c = λ h some.
    then_supposed {P = λ s. IsInputFault c.in-Err.fault → script_text_or_fault s ≡ Err c.in-Err.fault}
    (content_to_come (g.R.Source.supposed c.args.script.now) h) (λ given refused. tt) (c.in-Err.ensures.answer h some)

pub returns-in-Err-clause-fault : goal.returns-in-Err-clause-fault
returns-in-Err-clause-fault g c = λ h some.
    then_supposed {P = λ s. IsInputFault c.in-Err.fault → script_text_or_fault s ≡ Err c.in-Err.fault}
    (content_to_come (g.R.Source.supposed c.args.script.now) h)
    (λ given refused input. record {
      refusal = rw (refused input) refl;
      none =
          λ statements reads. not_both (refused input) reads.bytes;
    })
    (c.in-Err.ensures.answer h some)

pub returns-in_default-clause-read : goal.returns-in_default-clause-read
returns-in_default-clause-read g c = λ h some.
    then_supposed {P = λ s. script_text_or_fault s ≡ Ok c.in-Ok.text.items}
    (content_to_come (g.R.Source.supposed c.args.script.now) h)
    (λ given bytes. tt) (c.in-Ok.ensures.answer h some)

pub returns-in_default-clause-fault : goal.returns-in_default-clause-fault
returns-in_default-clause-fault g c = λ h some.
    then_supposed {P = λ s. script_text_or_fault s ≡ Ok c.in-Ok.text.items}
    (content_to_come (g.R.Source.supposed c.args.script.now) h)
    (λ given bytes input. absurd input) (c.in-Ok.ensures.answer h some)

pub returns-in-Ok-parse_script-clause-read : goal.returns-in-Ok-parse_script-clause-read
returns-in-Ok-parse_script-clause-read g c = λ h some.
    let value = c.deref.ensures.value in
    let names = c.in-Ok-map_names_on_shelf.ensures.names in
    let denoted = c.in-Ok-parse_script.ensures.ok in
    then_supposed {P = λ s. script_text_or_fault s ≡ Ok c.in-Ok.text.items}
    (content_to_come (g.R.Source.supposed c.args.script.now) h)
    (λ given bytes. record {
      reads = reads_of _ _ _ _ given bytes value names c.in-Ok-parse_script.script denoted;
      only = λ statements. only_one _ _ _ _ given bytes value names c.text_denotes_at_most_one_script.ensures
          c.in-Ok-parse_script.script
          statements denoted;
    }) (c.in-Ok.ensures.answer h some)

pub returns-in-Ok-parse_script-clause-fault : goal.returns-in-Ok-parse_script-clause-fault
returns-in-Ok-parse_script-clause-fault g c = λ h some.
    then_supposed {P = λ s. script_text_or_fault s ≡ Ok c.in-Ok.text.items}
    (content_to_come (g.R.Source.supposed c.args.script.now) h)
    (λ given bytes. tt) (c.in-Ok.ensures.answer h some)

pub returns-clause-read : goal.returns-clause-read
returns-clause-read g c = λ h some.
    then_supposed {P = λ s. script_text_or_fault s ≡ Ok c.in-Ok.text.items}
    (content_to_come (g.R.Source.supposed c.args.script.now) h)
    (λ given bytes. tt) (c.in-Ok.ensures.answer h some)

pub returns-clause-fault : goal.returns-clause-fault
returns-clause-fault g c = λ h some.
    let value = c.deref.ensures.value in
    let names = c.in-Ok-map_names_on_shelf.ensures.names in
    then_supposed {P = λ s. script_text_or_fault s ≡ Ok c.in-Ok.text.items}
    (content_to_come (g.R.Source.supposed c.args.script.now) h)
    (λ given bytes input.
    let fault = c.in-Err-parse_script.ensures.err input in
    record {
      refusal = refused_by _ _ _ _ given bytes value names c.in-Err-parse_script.fault fault;
      none = λ statements reads. no_fault _ _ _ _ given bytes value names c.scripts_have_no_fault.ensures statements
          c.in-Err-parse_script.fault reads fault;
    }) (c.in-Ok.ensures.answer h some)

pub returns-clause-whose : goal.returns-clause-whose
returns-clause-whose g c = record { early = tt; reported = λ grids. c.in-Err-parse_script.ensures.memory }

asked_once : {X : Type 0} (r : Result X RunFault) → read_state_after_reading r ≢ Again
asked_once (Ok x) = λ same. cc
asked_once (Err (GridTwice grid)) = λ same. cc
asked_once (Err (GridRegion grid)) = λ same. cc
asked_once (Err (Grid grid fault)) = λ same. cc
asked_once (Err ScriptRead) = λ same. cc
asked_once (Err ScriptSize) = λ same. cc
asked_once (Err (Script fault)) = λ same. cc
asked_once (Err (Memory line)) = λ same. cc
asked_once (Err Write) = λ same. cc

-- the source was read to its end, to a read error, or to neither
once : {X : Type 0} (r : Result X RunFault) {asked : Asked} → asked ≡ read_state_after_reading r → asked ≢ Again
once r is = λ again. asked_once r (sym is ∙ again)

pub returns-in-Err-clause-asked : goal.returns-in-Err-clause-asked
returns-in-Err-clause-asked g c = λ going. once {X = Vec ℕ Global} (Err c.in-Err.fault) (c.in-Err.ensures.asked going)

pub returns-in_default-clause-asked : goal.returns-in_default-clause-asked
returns-in_default-clause-asked g c = λ going. once (Ok c.in-Ok.text) (c.in-Ok.ensures.asked going)

pub returns-in-Ok-parse_script-clause-asked : goal.returns-in-Ok-parse_script-clause-asked
returns-in-Ok-parse_script-clause-asked g c = λ going. once (Ok c.in-Ok.text) (c.in-Ok.ensures.asked going)

pub returns-clause-asked : goal.returns-clause-asked
returns-clause-asked g c = λ going. once (Ok c.in-Ok.text) (c.in-Ok.ensures.asked going)
