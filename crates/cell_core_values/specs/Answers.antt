-- Results of functions that read a text and may run out of memory.
use Rattle.std.specs.Prelude.{Result, Ok, Err, ◌≡◌, ◌≢◌}

-- the result, mapped with `view`, equals the specified reading, unless memory ran out
abbrev pub EqualsUnlessOutOfMemory : {A B F : Type 0} → F → (A → B) → Result A F → Result B F → Type 0
EqualsUnlessOutOfMemory memory view (Ok x) reading = reading ≡ Ok (view x)
EqualsUnlessOutOfMemory memory view (Err fault) reading = fault ≢ memory → reading ≡ Err fault

infixl 10 ◌>>=◌
-- the next step, unless there was an error
abbrev pub ◌>>=◌ : {A B F : Type 0} → Result A F → (A → Result B F) → Result B F
(Ok x) >>= next = next x
(Err fault) >>= next = Err fault
