-- Output that is gathered in a block before a sink accepts it. The block remembers a failed put.
use Rattle.std.specs.Prelude.{ℕ, ◌≡◌, ◌+◌, ◌-◌, ◌^◌, ◌<◌, Bool, true, false, List, [], ◌++◌, length, min, Option, Result, Ok, Err}
use Rattle.cell_core_devices.specs.Device.{SinkFaults, faults_after_put, append_if_known}
use Rattle.cell_core_devices.specs.declared.sink.WriteFault.{WriteFault}

-- the capacity of a block in bytes
abbrev pub block_capacity : ℕ
block_capacity = 4096

-- a number of bytes, capped at the largest 64-bit number
abbrev pub capped_byte_count : ℕ → ℕ
capped_byte_count n = min n (2 ^ 64 - 1)

-- a block: the bytes that it holds, the number of bytes that the sink accepted, and whether a put failed
pub record OutputBlockValue : Type 0 where
  pub held : List ℕ
  pub written : ℕ
  pub failed : Bool

-- a block through which nothing was written
abbrev pub empty_block : OutputBlockValue
empty_block = record { held = []; written = 0; failed = false }

-- the block holds the rest of a text; or a put failed, and part of the text is lost
abbrev pub BlockHoldsRestUnlessPutFailed : Bool → List ℕ → List ℕ → Type 0
BlockHoldsRestUnlessPutFailed false held rest = held ≡ rest
BlockHoldsRestUnlessPutFailed true held rest = 0 < length rest

-- a text was appended to a sink that had accepted `before` and had the errors `start`: the sink accepted a prefix of
-- the text, and the block holds the rest or has failed
pub record IsTextAppendedToSink (before : Option (List ℕ)) (start : SinkFaults) (text : List ℕ) (now : Option (List ℕ)) (faults : SinkFaults) (block : OutputBlockValue) : Type 0 where
  pub front : List ℕ
  pub rest : List ℕ
  pub whole : front ++ rest ≡ text
  pub taken : now ≡ append_if_known before front
  pub count : block.written ≡ capped_byte_count (length front)
  pub fails : faults ≡ faults_after_put start block.failed
  pub held : BlockHoldsRestUnlessPutFailed block.failed block.held rest

-- the text was appended to any text that was appended before
pub record IsTextAppendedThroughBlock {S : Type 0} (taken : S → Option (List ℕ)) (faults : S → SinkFaults) (old : S) (block : OutputBlockValue) (text : List ℕ) (now : S) (new : OutputBlockValue) : Type 0 where
  pub adds : (before : Option (List ℕ)) (start : SinkFaults) (all : List ℕ) → IsTextAppendedToSink before start all (taken old) (faults old) block → IsTextAppendedToSink before start (all ++ text) (taken now) (faults now) new

-- the block after all its bytes were put, or after a failed put
abbrev pub block_after_put : OutputBlockValue → Result Unit WriteFault → ℕ → OutputBlockValue
block_after_put block (Ok done) all = record {
  held = [];
  written = capped_byte_count
      (block.written + all);
  failed = false;
}
block_after_put block (Err fault) all = record { held = []; written = capped_byte_count (block.written + fault.written); failed = true }

-- the error of the block, if a put failed
abbrev pub write_fault_if_failed : Bool → ℕ → Result Unit WriteFault
write_fault_if_failed false written = Ok tt
write_fault_if_failed true written = Err (record { written = written })
