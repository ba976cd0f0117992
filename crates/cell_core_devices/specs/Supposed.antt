-- The supposed content of a source, compared with what its reader returned.
use Rattle.std.specs.Prelude.{ℕ, ◌≡◌, ◌==◌, Bool, true, false, not, if◌then◌else◌, List, [], ◌∷◌, Option, Some, None}
use Rattle.std.specs.Prelude.{IfSome, IsSomeAnd}
use Rattle.std.specs.Option.{IsSome, option_map}
use Rattle.cell_core_devices.specs.Device.{ComingBytes}
use Rattle.cell_core_devices.specs.declared.source.Asked.{Asked}
use Rattle.cell_core_devices.specs.declared.source.Asked.TheVariants.{Going, Ended, Failed, Again}

-- the rest of a list after these first items, if it begins with them
abbrev pub rest_after_prefix : List ℕ → List ℕ → Option (List ℕ)
rest_after_prefix [] all = Some all
rest_after_prefix (x ∷ xs) [] = None
rest_after_prefix (x ∷ xs) (y ∷ ys) = if x == y then rest_after_prefix xs ys else None

-- whether the end that the reader reported, if any, is as supposed, with these bytes left
abbrev pub end_is_as_supposed : Asked → Bool → List ℕ → Bool
end_is_as_supposed Going fails left = true
end_is_as_supposed Ended fails [] = not fails
end_is_as_supposed Ended fails (y ∷ ys) = false
end_is_as_supposed Failed fails [] = fails
end_is_as_supposed Failed fails (y ∷ ys) = false
end_is_as_supposed Again fails left = false

-- the bytes left, if the reported end is as supposed
abbrev pub rest_if_end_is_as_supposed : Asked → Bool → Option (List ℕ) → Option ComingBytes
rest_if_end_is_as_supposed asked fails None = None
rest_if_end_is_as_supposed asked fails (Some left) =
    if end_is_as_supposed asked fails left then Some (record { bytes = left; fails = fails }) else None

-- the rest of the supposed content, as long as the returned bytes and the reported end agree with it
abbrev pub rest_of_supposed_content : ComingBytes → List ℕ → Asked → Option ComingBytes
rest_of_supposed_content c gave asked = rest_if_end_is_as_supposed asked c.fails (rest_after_prefix gave c.bytes)

-- what decides the bytes to come from a source: they are known; or the source returned these bytes, and perhaps its
-- end; or nothing is recorded. It is data, because the value of a reader cannot contain a function.
pub data SupposedContent : Type 0 where
  Known : ComingBytes → SupposedContent
  After : List ℕ → Asked → SupposedContent
  Lost : SupposedContent

-- the bytes to come if the full content was supposed to be `h`; `None` once the source has returned anything else
abbrev pub content_to_come : SupposedContent → ComingBytes → Option ComingBytes
content_to_come (Known c) h = Some c
content_to_come (After gave asked) h = rest_of_supposed_content h gave asked
content_to_come Lost h = None

-- for every supposed content: if the reads up to now agreed with it, so did the earlier reads, and the bytes that were
-- to come have this property
abbrev pub HoldsForAgreeingContents : (old new : ComingBytes → Option ComingBytes) → (ComingBytes → Type 0) → Type 0
HoldsForAgreeingContents old new P = (h : ComingBytes) → IsSome (new h) → IsSomeAnd (old h) P

-- for every supposed content: if the reads up to now agreed with it, `before` applied to the bytes that were to come
-- equals `after` applied to the bytes that are to come now
abbrev pub EqualBeforeAndAfterReads : {A : Type 0} → (before : ComingBytes → A)
    → (old : ComingBytes → Option ComingBytes)
    → (after : ComingBytes → A)
    → (new : ComingBytes → Option ComingBytes) → Type 0
EqualBeforeAndAfterReads before old after new = (h : ComingBytes)
    → IfSome (new h) (λ d. option_map before (old h) ≡ Some (after d))
