-- Readings of sources whose bytes are known.
use Rattle.std.specs.Prelude.{◌≡◌, Option, Some, Result, IfSome}
use Rattle.std.specs.Option.{IsSome}
use Rattle.cell_core.specs.Grid.{Grid}
use Rattle.cell_core_devices.specs.Device.{ComingBytes}
use Rattle.cell_core_devices.specs.Supposed.{SupposedContent, content_to_come, HoldsForAgreeingContents}
use Rattle.cell_core_devices.specs.declared.source.Asked.{Asked}
use Rattle.cell_ascii_meaning.specs.CellTexts.{map_denoted_by_text}
use Rattle.cell_ascii_meaning.specs.FaultPlaces.{first_fault_of_text}
use Rattle.cell_ascii_meaning.specs.GridText.{SourceDenotesMap}
use Rattle.cell_ascii_meaning.specs.declared.grid_fault.GridFault.{GridFault}
use Rattle.cell_ascii_reading.specs.Ahead.{BytesAhead, bytes_to_come_for_content}
use Rattle.cell_ascii.specs.GridReaders.{EqualsReadingUnlessOutOfMemory, IsSourceReturnedByReader}

-- for sources of one type whose bytes are known: what holds of the grid `old` for each supposed content, if `new` was
-- given back, holds of its known bytes; and a reader that gave `new` back knew its bytes to come
pub record SupposedResultsHoldForKnownBytes {S : Type 0} (coming : S → Option ComingBytes) (supposed : S
    → SupposedContent) : Type 0 where
  pub map : (old new : S) (m : Grid) → HoldsForAgreeingContents (content_to_come (supposed old))
      (content_to_come (supposed new)) (λ c. SourceDenotesMap c m)
      → IfSome (coming old) (λ c. SourceDenotesMap c m)
  pub fault : (old new : S) (f : GridFault)
      → HoldsForAgreeingContents (content_to_come (supposed old)) (content_to_come (supposed new))
      (λ c. first_fault_of_text c ≡ Some f)
      → IfSome (coming old) (λ c. first_fault_of_text c ≡ Some f)
  pub reading : (old new : S) (r : Result Grid GridFault)
      → HoldsForAgreeingContents (content_to_come (supposed old)) (content_to_come (supposed new))
      (λ c. EqualsReadingUnlessOutOfMemory r (map_denoted_by_text c))
      → IfSome (coming old) (λ c. EqualsReadingUnlessOutOfMemory r (map_denoted_by_text c))
  pub reader : (old new : S) (asked : Asked) (ahead : BytesAhead) → IsSourceReturnedByReader (supposed new) asked ahead
      → IsSome (coming old) → (h : ComingBytes) → IsSome (bytes_to_come_for_content ahead h)
