-- What is read from sources whose bytes are known.
use Rattle.std.proofs.Common.{◌≡◌, Option, Some, None, refl}
use Rattle.std.specs.Option.{IfSome, IsSome}
use Rattle.cell_core_devices.specs.Device.{ComingBytes}
use Rattle.cell_core_devices.specs.Supposed.{SupposedContent, content_to_come}
use Rattle.cell_core_devices.proofs.SupposedLemmas.{if_known}
use Rattle.cell_ascii_meaning.specs.CellTexts.{map_denoted_by_text}
use Rattle.cell_ascii_meaning.specs.FaultPlaces.{first_fault_of_text}
use Rattle.cell_ascii_meaning.specs.GridText.{SourceDenotesMap}
use Rattle.cell_ascii.specs.GridReaders.{EqualsReadingUnlessOutOfMemory}
use Rattle.cell_ascii.specs.KnownSources.{SupposedResultsHoldForKnownBytes}

-- a known source keeps to each supposed content
kept : (o x : Option ComingBytes) → IfSome o (λ c. x ≡ Some c) → IsSome o → IsSome x
kept None x is some = let none : ⊥ = cc in absurd none
kept (Some c) x is some = rw is refl

-- clauses about supposed contents hold for known bytes
pub known_read : {S : Type 0} (coming : S → Option ComingBytes) (supposed : S → SupposedContent)
    → ((s : S) (h : ComingBytes) → IfSome (coming s) (λ c. content_to_come (supposed s) h ≡ Some c))
    → ((s t : S) → IsSome (coming s) → IsSome (coming t)) → SupposedResultsHoldForKnownBytes coming supposed
known_read {S} coming supposed known steady =
    let rest : S → ComingBytes → Option ComingBytes = λ s. content_to_come (supposed s) in
    record {
      map = λ s t m holds. if_known coming rest known steady s t (λ c. SourceDenotesMap c m) holds;
      fault = λ s t f holds. if_known coming rest known steady s t (λ c. first_fault_of_text c ≡ Some f) holds;
      reading = λ s t r holds. if_known coming rest known steady s t (λ c. EqualsReadingUnlessOutOfMemory r
          (map_denoted_by_text c)) holds;
      reader = λ s t asked ahead back some h. back.kept h (kept (coming t) (rest t h) (known t h) (steady s t some));
    }
