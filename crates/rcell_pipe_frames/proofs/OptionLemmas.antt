-- Optional values.
use Rattle.std.proofs.Common.{◌≡◌, Option, Some, None, refl}
use Rattle.std.specs.Option.{is_some, option_map}

-- mapping a function over a value does not change whether it exists
pub some_seen : {A B : Type 0} (f : A → B) (x : Option A) → is_some (option_map f x) ≡ is_some x
some_seen f None = refl
some_seen f (Some a) = refl
