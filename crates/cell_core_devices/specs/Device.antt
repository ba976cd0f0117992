-- The known state of a source and of a sink, and how each call changes it.
use Rattle.std.specs.Prelude.{ℕ, min, ⊤, ◌≡◌, ◌≤◌, ◌++◌, ◌||◌, Bool, false, true, List, [], length, take, drop, Option, Some, None, Result, MatchResult}
use Rattle.cell_core_devices.specs.declared.sink.FlushCount.{FlushCount}
use Rattle.cell_core_devices.specs.declared.sink.FlushCount.TheVariants.{Never, Once, More}
use Rattle.cell_core_devices.specs.declared.source.Asked.{Asked}

-- the bytes to come, and whether the source fails after them
pub record ComingBytes : Type 0 where
  pub bytes : List ℕ
  pub fails : Bool

-- the bytes to come after n bytes were read
abbrev pub bytes_to_come_after_reading : ComingBytes → ℕ → ComingBytes
bytes_to_come_after_reading c n = record { bytes = drop n c.bytes; fails = c.fails }

-- the buffer starts with the next n bytes; n is 0 only at the end of a source that does not fail
pub record SourceGivesBytes (c : ComingBytes) (new : Option ComingBytes) (n : ℕ) (buf : List ℕ) : Type 0 where
  pub count : n ≤ length c.bytes
  pub bytes : take n buf ≡ take n c.bytes
  pub rest : new ≡ Some (bytes_to_come_after_reading c n)
  pub end : n ≡ 0 → c.bytes ≡ []
  pub ends : n ≡ 0 → c.fails ≡ false

-- the source fails, and has no bytes left
pub record SourceFailsNow (c : ComingBytes) (new : Option ComingBytes) : Type 0 where
  pub none : c.bytes ≡ []
  pub fails : c.fails ≡ true
  pub rest : new ≡ Some c

-- the effect of a call of `take`; an unknown source stays unknown
abbrev pub IsEffectOfTake : {E : Type 0} → Option ComingBytes → Option ComingBytes → Result ℕ E → List ℕ → Type 0
IsEffectOfTake None new r buf = new ≡ None
IsEffectOfTake (Some c) new r buf = MatchResult r (λ n. SourceGivesBytes c new n buf) (λ _. SourceFailsNow c new)

-- the effect of a call of `take` on the supposed bytes to come: they are returned, or nothing is supposed afterwards
abbrev pub IsSupposedEffectOfTake : {E : Type 0} → Option ComingBytes → Option ComingBytes → Result ℕ E → List ℕ
    → Type 0
IsSupposedEffectOfTake None new r buf = new ≡ None
IsSupposedEffectOfTake (Some c) None r buf = ⊤
IsSupposedEffectOfTake (Some c) (Some d) r buf = MatchResult r (λ n. SourceGivesBytes c (Some d) n buf)
    (λ _. SourceFailsNow c (Some d))

-- the bytes after more were appended, if they are known
abbrev pub append_if_known : Option (List ℕ) → List ℕ → Option (List ℕ)
append_if_known None bs = None
append_if_known (Some xs) bs = Some (xs ++ bs)

-- the count after one more flush
abbrev pub flush_count_after_flush : FlushCount → FlushCount
flush_count_after_flush Never = Once
flush_count_after_flush Once = More
flush_count_after_flush More = More

-- whether a put failed, whether a flush failed, and how many times the sink was flushed
pub record SinkFaults : Type 0 where
  pub refused : Bool
  pub unflushed : Bool
  pub flushes : FlushCount

-- no call failed, and the sink was never flushed
abbrev pub faults_of_new_sink : SinkFaults
faults_of_new_sink = record { refused = false; unflushed = false; flushes = Never }

-- the errors after puts, one of which may have failed
abbrev pub faults_after_put : SinkFaults → Bool → SinkFaults
faults_after_put faults false = faults
faults_after_put faults true = record { refused = true; unflushed = faults.unflushed; flushes = faults.flushes }

-- the errors after one more flush, which may have failed
abbrev pub faults_after_flush : SinkFaults → Bool → SinkFaults
faults_after_flush faults false = record { refused = faults.refused; unflushed = faults.unflushed; flushes = flush_count_after_flush faults.flushes }
faults_after_flush faults true = record {
  refused = faults.refused;
  unflushed = true;
  flushes = flush_count_after_flush faults.flushes;
}

-- some put or flush failed
abbrev pub has_failed : SinkFaults → Bool
has_failed faults = faults.refused || faults.unflushed

-- a sink over memory: the bytes that it accepted, its errors, the room left, the maximum number of bytes per call, and
-- whether a flush fails
pub record MemorySinkValue : Type 0 where
  pub bytes : List ℕ
  pub faults : SinkFaults
  pub room : ℕ
  pub piece : ℕ
  pub flush_fails : Bool

-- a source over memory: its bytes to come, whether it fails after them, the maximum number of bytes per call, and how
-- far it was read
pub record MemorySourceValue : Type 0 where
  pub bytes : List ℕ
  pub fails : Bool
  pub piece : ℕ
  pub asked : Asked

-- the bytes to come from a source over memory
abbrev pub bytes_to_come_from_memory : MemorySourceValue → ComingBytes
bytes_to_come_from_memory s = record { bytes = s.bytes; fails = s.fails }

-- the number of bytes that a call moves: all bytes available, but at most a piece, and at most the room for them
abbrev pub byte_count_moved_by_call : ℕ → ℕ → ℕ → ℕ
byte_count_moved_by_call there piece room = min (min there piece) room
