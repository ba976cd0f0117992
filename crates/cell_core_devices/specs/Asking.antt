-- How far a source was read, and the reader's knowledge about it.
use Rattle.std.specs.Prelude.{ℕ, ◌==◌, Bool, true, false, Result, Ok, Err, if◌then◌else◌}
use Rattle.cell_core_devices.specs.declared.source.Asked.{Asked}
use Rattle.cell_core_devices.specs.declared.source.Asked.TheVariants.{Going, Ended, Failed, Again}

-- the state after one more call with this result
abbrev pub progress_after_take : {E : Type 0} → Asked → Result ℕ E → Asked
progress_after_take Going (Ok n) = if n == 0 then Ended else Going
progress_after_take Going (Err e) = Failed
progress_after_take Ended answer = Again
progress_after_take Failed answer = Again
progress_after_take Again answer = Again

-- the source is in the state that its reader assumes: not ended, at a reported end, or failed
abbrev pub source_is_in_assumed_state : Asked → (ended failed : Bool) → Bool
source_is_in_assumed_state Going false false = true
source_is_in_assumed_state Ended true false = true
source_is_in_assumed_state Failed false true = true
source_is_in_assumed_state asked ended failed = false

-- a reader's knowledge about its source: whether the source is in the assumed state, so that the source was never asked
-- after its end or an `Err`; and whether the source returned an `Err`
pub record SourceKnowledge : Type 0 where
  pub sure : Bool
  pub failed : Bool

-- the knowledge after more calls, the last of which may have failed
abbrev pub source_knowledge_after_calls : Bool → SourceKnowledge → SourceKnowledge
source_knowledge_after_calls fails heard = record { sure = heard.sure; failed = fails }

-- the knowledge about a source that a reader was just given
abbrev pub knowledge_about_new_source : Asked → SourceKnowledge
knowledge_about_new_source asked = record { sure = source_is_in_assumed_state asked false false; failed = false }
