-- Appending the bytes of one more item of a list.
use Rattle.std.proofs.Common.{◌≡◌, ℕ, ◌+◌, ◌<◌, List, length, take, get_or, flat_map, Option, refl, sym, subst, arith}
use Rattle.std.specs.List.{zip}
use Rattle.std.proofs.lemmas.Slice.Zip.{length-zip, get_or-zip}
use Rattle.cell_core_devices.specs.Device.{SinkFaults}
use Rattle.cell_core_devices.specs.Blocks.{OutputBlockValue, IsTextAppendedThroughBlock}
use Rattle.cell_core_devices.proofs.PieceLemmas.{flat_map-take}
use Rattle.cell_core_devices.proofs.BlockLemmas.{appends_then}

pub appends_more : {S A : Type 0} {taken : S → Option (List ℕ)} {faults : S → SinkFaults} {old mid now : S}
    {block middle new : OutputBlockValue} (f : A → List ℕ) (xs : List A) (i : ℕ) (d : A) → i < length xs
    → IsTextAppendedThroughBlock taken faults old block (flat_map f (take i xs)) mid middle
    → IsTextAppendedThroughBlock taken faults mid middle (f (get_or xs i d)) now new
    → IsTextAppendedThroughBlock taken faults old block (flat_map f (take (i + 1) xs)) now new
appends_more {taken = taken} {faults} {old} {mid} {now} {block} {middle} {new} f xs i d lt before one =
    subst (λ (bytes : List ℕ). IsTextAppendedThroughBlock taken faults old block bytes now new)
    (sym (flat_map-take f xs i d (get_or xs i d) lt refl)) (appends_then before one)

-- appending the bytes of one more pair of items from two lists
pub appends_pair : {S A B : Type 0} {taken : S → Option (List ℕ)} {faults : S → SinkFaults} {old mid now : S}
    {block middle new : OutputBlockValue} (f : A × B → List ℕ) (xs : List A) (ys : List B) (i : ℕ) (x : A) (y : B)
    → i < length xs → length ys ≡ length xs
    → IsTextAppendedThroughBlock taken faults old block (flat_map f (take i (zip xs ys))) mid middle
    → IsTextAppendedThroughBlock taken faults mid middle (f (get_or xs i x, get_or ys i y)) now new
    → IsTextAppendedThroughBlock taken faults old block (flat_map f (take (i + 1) (zip xs ys))) now new
appends_pair {taken = taken} {faults} {mid = mid} {now} {middle = middle} {new} f xs ys i x y in_xs same before one =
    let in_ys : i < length ys = omega (arith, same, in_xs) in
    let in_zip : i < length (zip xs ys) = omega (arith, length-zip xs ys, in_xs, in_ys) in
    appends_more f (zip xs ys) i (x, y) in_zip before
    (subst (λ row. IsTextAppendedThroughBlock taken faults mid middle (f row) now new)
    (sym (get_or-zip xs ys i (x, y) in_xs in_ys)) one)
