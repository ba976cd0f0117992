-- What a source may hold, given the bytes that it has returned and its read state: any bytes may follow, until it ends
-- or fails.
use Rattle.std.specs.Prelude.{ℕ, ◌==◌, Bool, true, false, ◌&&◌, not, if◌then◌else◌, List, [], ◌∷◌, drop, length}
use Rattle.cell_core_devices.specs.Device.{ComingBytes}
use Rattle.cell_core_devices.specs.declared.source.Asked.{Asked}
use Rattle.cell_core_devices.specs.declared.source.Asked.TheVariants.{Going, Ended, Failed, Again}

-- the second list begins with the first
unfoldable pub list_starts_with : List ℕ → List ℕ → Bool
list_starts_with [] all = true
list_starts_with (x ∷ xs) [] = false
list_starts_with (x ∷ xs) (y ∷ ys) = if x == y then list_starts_with xs ys else false

abbrev pub is_empty_list : List ℕ → Bool
is_empty_list [] = true
is_empty_list (x ∷ xs) = false

-- `rest` may still come from a source in this read state: an open source may return any bytes, an ended or failed one
-- none; a source that is read again after its end may do anything, and is excluded
abbrev pub bytes_may_still_come : Asked → (fails : Bool) → List ℕ → Bool
bytes_may_still_come Going fails rest = true
bytes_may_still_come Ended fails rest = is_empty_list rest && not fails
bytes_may_still_come Failed fails rest = is_empty_list rest && fails
bytes_may_still_come Again fails rest = false

-- the source may hold `c`: `gave` is a prefix of its bytes, or all of them if it has ended or failed
unfoldable pub source_may_hold : (gave : List ℕ) → Asked → ComingBytes → Bool
source_may_hold gave asked c = list_starts_with gave c.bytes && bytes_may_still_come asked c.fails
    (drop (length gave) c.bytes)
