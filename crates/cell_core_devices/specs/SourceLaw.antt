-- The contents with which the reads of a source agree.
use Rattle.std.specs.Prelude.{ℕ, ◌≡◌, ◌↔◌, ⊤, Bool, true, false, List, [], ◌++◌, Some}
use Rattle.cell_core_devices.specs.Device.{ComingBytes}
use Rattle.cell_core_devices.specs.Supposed.{After, content_to_come}
use Rattle.cell_core_devices.specs.declared.source.Asked.{Asked}
use Rattle.cell_core_devices.specs.declared.source.Asked.TheVariants.{Going, Ended, Failed, Again}

-- the reported end, if any, is the end of a content of which these bytes are left
abbrev pub ReportedEndIsContentEnd : Asked → List ℕ → Bool → Type 0
ReportedEndIsContentEnd Going left fails = ⊤
ReportedEndIsContentEnd Ended left fails = (left ≡ []) × (fails ≡ false)
ReportedEndIsContentEnd Failed left fails = (left ≡ []) × (fails ≡ true)
ReportedEndIsContentEnd Again left fails = ⊥

-- the reads of a source with this content return these bytes first, `rest` is left, and the reported end is its end
pub record AreReadsOfContent (content : ComingBytes) (gave : List ℕ) (asked : Asked) (rest : ComingBytes) : Type 0 where
  pub bytes : content.bytes ≡ gave ++ rest.bytes
  pub fails : content.fails ≡ rest.fails
  pub end : ReportedEndIsContentEnd asked rest.bytes rest.fails

-- the law: `rest` is to come for a supposed content exactly if a source with this content is read so, and `rest` is
-- left
abbrev pub AgreementMeansContentWasRead : Type 0
AgreementMeansContentWasRead =
    (content rest : ComingBytes) (gave : List ℕ) (asked : Asked)
    → (content_to_come (After gave asked) content ≡ Some rest) ↔ AreReadsOfContent content gave asked rest
