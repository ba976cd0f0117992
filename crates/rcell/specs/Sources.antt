-- The contents of named sources (profile).
use Rattle.std.specs.Prelude.{ℕ, ⊤, ◌≡◌, List, [], ◌∷◌, Option, Some}
use Rattle.std.specs.List.{AllZip}
use Rattle.std.specs.Option.{IsSome}
use Rattle.cell_core_devices.specs.Device.{ComingBytes}
use Rattle.cell_core_devices.specs.Supposed.{SupposedContent, content_to_come}
use Rattle.rcell.specs.declared.outcome.OutcomeWithSources.{OutcomeWithSources}

-- a name, and the bytes that its source still holds
abbrev pub Named : Type 0
Named = List ℕ × ComingBytes

-- the contents of each source are known, and `named` lists them with their names
abbrev pub SourcesHoldKnownContents : {R : Type 0} → (R → Option ComingBytes) → List (List ℕ × R) → List Named → Type 0
SourcesHoldKnownContents coming grids named = AllZip (λ g n. (g.0 ≡ n.0) × (coming g.1 ≡ Some n.1)) grids named

-- each source is supposed to hold the full content at its place, and `named` lists the bytes that then are to come,
-- with the source's name
abbrev pub SourcesHoldSupposedContents : {R : Type 0} → (R → SupposedContent) → List ComingBytes → List (List ℕ × R)
    → List Named → Type 0
SourcesHoldSupposedContents supposed [] [] [] = ⊤
SourcesHoldSupposedContents supposed (h ∷ hs) (g ∷ grids) (n ∷ named) =
    ((g.0 ≡ n.0) × (content_to_come (supposed g.1) h ≡ Some n.1)) × SourcesHoldSupposedContents supposed hs grids named
SourcesHoldSupposedContents supposed hs grids named = ⊥

-- the reads of each of these sources agreed with the content at its place; further contents are of sources that were
-- not read
abbrev pub ReadsAgreeWithContents : {R : Type 0} → (R → SupposedContent) → List ComingBytes → List R → Type 0
ReadsAgreeWithContents supposed (h ∷ hs) (source ∷ sources) = IsSome (content_to_come (supposed source) h)
    × ReadsAgreeWithContents supposed hs sources
ReadsAgreeWithContents supposed hs sources = ⊤

-- a property of the texts of the grids and the script, for all contents with which the reads of their sources agreed;
-- the sources are returned after their last reads
abbrev pub HoldsForTextsAgreeingWithReads : {R : Type 0} → (R → SupposedContent) → List (List ℕ × R) → R
    → OutcomeWithSources R
    → (List Named → ComingBytes → Type 0) → Type 0
HoldsForTextsAgreeingWithReads supposed grids script ran P =
    (named : List Named) (text : ComingBytes) (hs : List ComingBytes) (h : ComingBytes)
    → SourcesHoldSupposedContents supposed hs grids named → content_to_come (supposed script) h ≡ Some text
    → ReadsAgreeWithContents supposed hs ran.grids.items → IsSome (content_to_come (supposed ran.script) h)
    → P named text
