-- The bytes ahead of a buffered source: the buffered bytes, then the remaining bytes of the source.
use Rattle.std.specs.Prelude.{ℕ, ◌≡◌, Bool, List, [], ◌++◌, Option, IfSome}
use Rattle.std.specs.Option.{option_map}
use Rattle.cell_core_devices.specs.Asking.{SourceKnowledge}
use Rattle.cell_core_devices.specs.Device.{ComingBytes}
pub use Rattle.cell_core_devices.specs.Supposed.{SupposedContent, content_to_come, HoldsForAgreeingContents}
pub use Rattle.cell_core_devices.specs.Supposed.{EqualBeforeAndAfterReads}

-- the buffered bytes, what decides the remaining bytes of the source, whether the source has ended, and the
-- reader's knowledge about it
pub record BytesAhead : Type 0 where
  pub buffered : List ℕ
  pub rest : SupposedContent
  pub ended : Bool
  pub heard : SourceKnowledge

-- the bytes `bs`, followed by the bytes to come
abbrev pub bytes_to_come_with_prefix : List ℕ → ComingBytes → ComingBytes
bytes_to_come_with_prefix bs c = record { bytes = bs ++ c.bytes; fails = c.fails }

-- all bytes to come for a supposed content, or `None` once the source has returned anything else
abbrev pub bytes_to_come_for_content : BytesAhead → ComingBytes → Option ComingBytes
bytes_to_come_for_content a h = option_map (bytes_to_come_with_prefix a.buffered) (content_to_come a.rest h)

-- for every supposed content with which the reads agreed: no bytes are left, and the source fails at its end exactly if
-- `fails` is true
abbrev pub IsSourceAtEndOrFailed : Bool → (ComingBytes → Option ComingBytes) → Type 0
IsSourceAtEndOrFailed fails rest = (h : ComingBytes) → IfSome (rest h) (λ c. (c.bytes ≡ []) × (c.fails ≡ fails))

-- for every supposed content: if the reads up to now agreed with it, `before` applied to the bytes that were to come
-- equals `after` applied to the bytes that are to come now
abbrev pub ScanResultsBeforeAndAfterAgree : {A : Type 0} → (ComingBytes → A) → BytesAhead → (ComingBytes → A)
    → BytesAhead → Type 0
ScanResultsBeforeAndAfterAgree before old after new = EqualBeforeAndAfterReads before
    (bytes_to_come_for_content old) after (bytes_to_come_for_content new)

-- no byte was skipped: the bytes to come are those that were to come
abbrev pub NoByteWasSkipped : BytesAhead → BytesAhead → Type 0
NoByteWasSkipped old new = ScanResultsBeforeAndAfterAgree (λ c. c) old (λ c. c) new
