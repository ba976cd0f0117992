-- Writing a list, from its first element on.
use Rattle.std.proofs.Common.{ℕ, List, [], ◌++◌, Option}
use Rattle.cell_core_devices.specs.Device.{SinkFaults}
use Rattle.cell_core_devices.specs.Blocks.{OutputBlockValue, IsTextAppendedThroughBlock}
use Rattle.cell_core_devices.proofs.BlockLemmas.{appends_none, appends_then}

-- appending the rest completes the list that was begun at the first state
pub record Leads {S : Type 0} (taken : S → Option (List ℕ)) (faults : S → SinkFaults) (first : S) (start : OutputBlockValue) (all : List ℕ) (out : S) (block : OutputBlockValue) (rest : List ℕ) : Type 0 where
  pub on : (now : S) (new : OutputBlockValue) → IsTextAppendedThroughBlock taken faults out block rest now new → IsTextAppendedThroughBlock taken faults first start all now new

module _ {S : Type 0} {taken : S → Option (List ℕ)} {faults : S → SinkFaults} {first : S} {start : OutputBlockValue} {all : List ℕ} where
  pub leads_first : Leads taken faults first start all first start all
  leads_first = record { on = λ now new appends. appends }

  -- one more piece is appended
  pub leads_more : {out next : S} {block middle : OutputBlockValue} (piece rest : List ℕ) → Leads taken faults first start all out block (piece ++ rest) → IsTextAppendedThroughBlock taken faults out block piece next middle → Leads taken faults first start all next middle rest
  leads_more piece rest before step = record { on = λ now new appends. before.on now new (appends_then step appends) }

  -- after the last piece, the whole list is appended
  pub leads_done : {out : S} {block : OutputBlockValue} → Leads taken faults first start all out block [] → IsTextAppendedThroughBlock taken faults first start all out block
  leads_done {out} {block} before = before.on out block appends_none
