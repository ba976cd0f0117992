-- The length of a text, measured with a sink that accepts everything.
use Rattle.std.proofs.Common.{◌≡◌, ◌∙◌, ℕ, Bool, true, false, List, [], length, Option, refl, ap, append-nil}
use Rattle.cell_core_devices.specs.Device.{SinkFaults, faults_after_put}
use Rattle.cell_core_devices.specs.Blocks.{OutputBlockValue, IsTextAppendedToSink, IsTextAppendedThroughBlock}
use Rattle.cell_core_devices.specs.Blocks.{capped_byte_count}
use Rattle.cell_ascii_writer.proofs.PutLemmas.{appended_put}

-- if no put has failed so far, this put has not failed
never_failed : (start now : SinkFaults) (failed : Bool) → now ≡ faults_after_put start failed → now.refused ≡ false → failed ≡ false
never_failed start now false is good = refl
never_failed start now true is good = absurd cc

-- the length of the text that was put is counted
pub counted : {S : Type 0} {taken : S → Option (List ℕ)} {faults : S → SinkFaults} (start mid now : S) (empty block new : OutputBlockValue) (text : List ℕ)
    → IsTextAppendedToSink (taken start) (faults start) [] (taken start) (faults start) empty → IsTextAppendedThroughBlock taken faults start empty text mid block → IsTextAppendedThroughBlock taken faults mid block [] now new
    → (faults now).refused ≡ false → (new.failed ≡ false → new.held ≡ [])
    → new.written ≡ capped_byte_count (length text)
counted {taken = taken} {faults = faults} start mid now empty block new text nothing wrote emptied good held =
    let all = emptied.adds _ _ _ (wrote.adds (taken start) (faults start) [] nothing) in
    let fine : new.failed ≡ false = never_failed (faults start) (faults now) new.failed all.fails good in
    (appended_put all fine (held fine)).1.0 ∙ ap (λ (t : List ℕ). capped_byte_count (length t)) (append-nil text)
