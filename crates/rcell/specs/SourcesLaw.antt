-- Sources whose bytes are known agree with every content that is supposed.
use Rattle.std.specs.Prelude.{ℕ, ◌≡◌, List, Option, Some, map}
use Rattle.std.specs.Option.{IsSome}
use Rattle.cell_core_devices.specs.Device.{ComingBytes}
use Rattle.cell_core_devices.specs.Supposed.{SupposedContent, content_to_come}
use Rattle.rcell.specs.Sources.{ReadsAgreeWithContents, Named, SourcesHoldKnownContents, SourcesHoldSupposedContents}
use Rattle.rcell.specs.declared.outcome.OutcomeWithSources.{OutcomeWithSources}

-- the contents of named sources
abbrev pub contents_of_named_sources : List Named → List ComingBytes
contents_of_named_sources named = map (λ n. n.1) named

-- these bytes are to come if the sources are supposed to hold them, and the reads agreed with them
pub record SourceReadsAgreeWithContents {R : Type 0} (supposed : R → SupposedContent) (grids : List (List ℕ
    × R)) (script : R) (ran : OutcomeWithSources R)
    (named : List Named) (text : ComingBytes) : Type 0 where
  pub grids_are : SourcesHoldSupposedContents supposed (contents_of_named_sources named) grids named
  pub script_is : content_to_come (supposed script) text ≡ Some text
  pub grids_agree : ReadsAgreeWithContents supposed (contents_of_named_sources named) ran.grids.items
  pub script_agrees : IsSome (content_to_come (supposed ran.script) text)

-- if the bytes of the sources are known, the reads of a run agree with them: so what holds for supposed contents holds
-- for the known bytes
abbrev pub ReadsAgreeWithKnownBytes : {R : Type 0} → (R → Option ComingBytes) → (R → SupposedContent) → Type 0
ReadsAgreeWithKnownBytes {R = R} coming supposed =
    (grids : List (List ℕ × R)) (script : R) (ran : OutcomeWithSources R) (named : List Named) (text : ComingBytes)
    → SourcesHoldKnownContents coming grids named → coming script ≡ Some text
    → SourceReadsAgreeWithContents supposed grids script ran named text
