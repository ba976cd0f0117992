-- How a call of a source extends the bytes that it gave.
use Rattle.std.proofs.Common.{◌≡◌, ℕ, zero, suc, ◌+◌, ◌≤◌, Bool, true, false, List, [], ◌∷◌, ◌++◌, length, take, drop, Ok, Err, refl, sym, ap, ◌∙◌, arith, subst}
use Rattle.std.specs.Prelude.{◌==◌, ◌&&◌, not, if◌then◌else◌}
use Rattle.std.proofs.lemmas.Bool.{eqb-true}
use Rattle.std.proofs.lemmas.List.{drop_all, length-take}
use Rattle.cell_core_devices.specs.Asking.{progress_after_take}
use Rattle.cell_core_devices.specs.Device.{ComingBytes, bytes_to_come_after_reading}
use Rattle.cell_core_devices.specs.declared.device.DeviceFault.{DeviceFault}
use Rattle.cell_core_devices.specs.declared.source.Asked.{Asked}
use Rattle.cell_core_devices.specs.declared.source.Asked.TheVariants.{Going, Ended, Failed, Again}
use Rattle.rcell_pipe_request.specs.Supposed.{list_starts_with, is_empty_list, bytes_may_still_come, source_may_hold}
use Rattle.rcell_pipe_request.specs.Feeds.{RequestReaderValue, request_reader_may_hold_bytes, left, after}

-- a list starts with some bytes, and continues with the next bytes and the rest
record Splits (xs bs all : List ℕ) : Type 0 where
  first : list_starts_with xs all ≡ true
  rest : drop (length xs) all ≡ bs ++ drop (length (xs ++ bs)) all

split_by : (b : Bool) (x y : ℕ) (xs bs ys : List ℕ) → (list_starts_with (xs ++ bs) ys ≡ true → Splits xs bs ys)
    → (if b then list_starts_with (xs ++ bs) ys else false) ≡ true
    → ((if b then list_starts_with xs ys else false) ≡ true) × (drop (length xs) ys ≡ bs ++ drop (length (xs ++ bs)) ys)
split_by true x y xs bs ys before is = let s = before is in (s.first, s.rest)
split_by false x y xs bs ys before is = cc

none_more : (bs all : List ℕ) → list_starts_with bs all ≡ true → all ≡ bs ++ drop (length bs) all
unfolding list_starts_with
none_more [] all is = refl
none_more (b ∷ bs) [] is = cc
none_more (b ∷ bs) (y ∷ ys) is = more_by (b == y) b y bs ys refl (none_more bs ys) is
  where
    more_by : (t : Bool) (b y : ℕ) (bs ys : List ℕ) → (b == y) ≡ t → (list_starts_with bs ys ≡ true → ys ≡ bs ++ drop (length bs) ys)
        → (if t then list_starts_with bs ys else false) ≡ true → y ∷ ys ≡ b ∷ (bs ++ drop (length bs) ys)
    more_by true b y bs ys same before is = rw (eqb-true b y same) (ap (λ (t : List ℕ). y ∷ t) (before is))
    more_by false b y bs ys other before is = cc

splits : (xs bs all : List ℕ) → list_starts_with (xs ++ bs) all ≡ true → Splits xs bs all
unfolding list_starts_with
splits [] bs all is = record { first = refl; rest = none_more bs all is }
splits (x ∷ xs) bs [] is = cc
splits (x ∷ xs) bs (y ∷ ys) is =
    let s = split_by (x == y) x y xs bs ys (splits xs bs ys) is in
    record { first = s.0; rest = s.1 }

both : (a b : Bool) → (a && b) ≡ true → (a ≡ true) × (b ≡ true)
both true b is = (refl, is)
both false b is = cc

none_left : (xs : List ℕ) → is_empty_list xs ≡ true → xs ≡ []
none_left [] is = refl
none_left (x ∷ xs) is = cc

not_true : (b : Bool) → not b ≡ true → b ≡ false
not_true true is = cc
not_true false is = refl

joins : (a b : Bool) → a ≡ true → b ≡ true → (a && b) ≡ true
joins true true x y = refl
joins true false x y = cc
joins false b x y = cc

going_on : (b : Bool) (n : ℕ) → (n == 0) ≡ b → (n ≡ 0 → ⊥) → (if b then Ended else Going) ≡ Going
going_on true n same some = absurd (some (eqb-true n 0 same))
going_on false n same some = refl

again : (w : ComingBytes) (now : List ℕ) (told : Asked) → told ≡ Again → source_may_hold now told w ≡ true → ⊥
unfolding source_may_hold
again w now told same is =
    let end : bytes_may_still_come Again w.fails (drop (length now) w.bytes) ≡ true =
    subst (λ (a : Asked). bytes_may_still_come a w.fails (drop (length now) w.bytes) ≡ true) same
    (both (list_starts_with now w.bytes) (bytes_may_still_come told w.fails (drop (length now) w.bytes)) is).1 in cc

-- the call gave bytes
pub more : (w : ComingBytes) (gave now bs : List ℕ) (asked after : Asked) (n : ℕ) → (n ≡ 0 → ⊥)
    → after ≡ progress_after_take {E = DeviceFault} asked (Ok n) → now ≡ gave ++ bs → source_may_hold now after w ≡ true
    → (source_may_hold gave asked w ≡ true) × (drop (length gave) w.bytes ≡ bs ++ drop (length now) w.bytes)
unfolding source_may_hold
more w gave now bs Going after n some told grown is =
    let at : after ≡ Going = told ∙ going_on (n == 0) n refl some in
    let begun : list_starts_with (gave ++ bs) w.bytes ≡ true =
    subst (λ (xs : List ℕ). list_starts_with xs w.bytes ≡ true) grown
    (both (list_starts_with now w.bytes) (bytes_may_still_come after w.fails (drop (length now) w.bytes)) is).0 in
    let s = splits gave bs w.bytes begun in
    (joins _ _ s.first refl, s.rest ∙ ap (λ (xs : List ℕ). bs ++ drop (length xs) w.bytes) (sym grown))
more w gave now bs Ended after n some told grown is = absurd (again w now after told is)
more w gave now bs Failed after n some told grown is = absurd (again w now after told is)
more w gave now bs Again after n some told grown is = absurd (again w now after told is)

-- after the end or an `Err`, nothing is left of the source
stopped : (w : ComingBytes) (gave now : List ℕ) (asked after : Asked) (fails : Bool) → after ≡ (if fails then Failed else Ended)
    → now ≡ gave → source_may_hold now after w ≡ true
    → (list_starts_with gave w.bytes ≡ true) × (drop (length gave) w.bytes ≡ []) × (w.fails ≡ fails)
unfolding source_may_hold
stopped w gave now asked after true told same is =
    let all = both (list_starts_with now w.bytes) (bytes_may_still_come after w.fails (drop (length now) w.bytes)) is in
    let end : (is_empty_list (drop (length now) w.bytes) && w.fails) ≡ true =
    subst (λ (a : Asked). bytes_may_still_come a w.fails (drop (length now) w.bytes) ≡ true) told all.1 in
    let two = both (is_empty_list (drop (length now) w.bytes)) w.fails end in
    (subst (λ (xs : List ℕ). list_starts_with xs w.bytes ≡ true) same all.0, ap (λ (xs : List ℕ). drop (length xs) w.bytes) (sym same) ∙ none_left _ two.0, two.1)
stopped w gave now asked after false told same is =
    let all = both (list_starts_with now w.bytes) (bytes_may_still_come after w.fails (drop (length now) w.bytes)) is in
    let end : (is_empty_list (drop (length now) w.bytes) && not w.fails) ≡ true =
    subst (λ (a : Asked). bytes_may_still_come a w.fails (drop (length now) w.bytes) ≡ true) told all.1 in
    let two = both (is_empty_list (drop (length now) w.bytes)) (not w.fails) end in
    (subst (λ (xs : List ℕ). list_starts_with xs w.bytes ≡ true) same all.0, ap (λ (xs : List ℕ). drop (length xs) w.bytes) (sym same) ∙ none_left _ two.0, not_true _ two.1)

going : (w : ComingBytes) (gave : List ℕ) → list_starts_with gave w.bytes ≡ true → source_may_hold gave Going w ≡ true
unfolding source_may_hold
going w gave is = joins _ _ is refl

-- a source that ends or fails in a call was still open before the call
from_going : (w : ComingBytes) (gave now : List ℕ) (asked after : Asked) (fails : Bool) (fault : DeviceFault)
    → after ≡ (if fails then progress_after_take {E = DeviceFault} asked (Err fault) else progress_after_take {E = DeviceFault} asked (Ok 0))
    → now ≡ gave → source_may_hold now after w ≡ true
    → (source_may_hold gave asked w ≡ true) × (drop (length gave) w.bytes ≡ []) × (w.fails ≡ fails)
from_going w gave now Going after true fault told same is = let s = stopped w gave now Going after true told same is in (going w gave s.0, s.1, s.2)
from_going w gave now Going after false fault told same is = let s = stopped w gave now Going after false told same is in (going w gave s.0, s.1, s.2)
from_going w gave now Ended after true fault told same is = absurd (again w now after told is)
from_going w gave now Ended after false fault told same is = absurd (again w now after told is)
from_going w gave now Failed after true fault told same is = absurd (again w now after told is)
from_going w gave now Failed after false fault told same is = absurd (again w now after told is)
from_going w gave now Again after true fault told same is = absurd (again w now after told is)
from_going w gave now Again after false fault told same is = absurd (again w now after told is)

same_left : (w : ComingBytes) (old new : RequestReaderValue) → old.unread ≡ new.unread → old.gave ≡ new.gave
    → left w new ≡ left w old
same_left w old new unread gave =
    ap (λ (xs : List ℕ). after xs (bytes_to_come_after_reading w (length new.gave))) (sym unread)
    ∙ ap (λ (xs : List ℕ). after old.unread (bytes_to_come_after_reading w (length xs))) (sym gave)

-- after a call that returns no bytes, nothing is left of the source
abbrev pub NoMore : RequestReaderValue → RequestReaderValue → Bool → Type 0
NoMore old new fails = (w : ComingBytes) → request_reader_may_hold_bytes w new ≡ true
    → (request_reader_may_hold_bytes w old ≡ true) × (left w new ≡ left w old) × ((left w old).bytes ≡ [])
    × (w.fails ≡ fails)

pub no_more : (old new : RequestReaderValue) (fails : Bool) (fault : DeviceFault) → old.unread ≡ [] → new.unread ≡ [] → new.gave ≡ old.gave
    → new.asked ≡ (if fails then progress_after_take {E = DeviceFault} old.asked (Err fault) else progress_after_take {E = DeviceFault} old.asked (Ok 0))
    → NoMore old new fails
no_more old new fails fault none none' same told w is =
    let s = from_going w old.gave new.gave old.asked new.asked fails fault told same is in
    (s.0, same_left w old new (none ∙ sym none') (sym same), ap (λ (xs : List ℕ). xs ++ drop (length old.gave) w.bytes) none ∙ s.1, s.2)

-- a call that returns bytes leaves the same bytes to come
pub some_more : (w : ComingBytes) (old new : RequestReaderValue) (n : ℕ) → old.unread ≡ [] → (n ≡ 0 → ⊥)
    → new.asked ≡ progress_after_take {E = DeviceFault} old.asked (Ok n) → new.gave ≡ old.gave ++ new.unread
    → request_reader_may_hold_bytes w new ≡ true → (request_reader_may_hold_bytes w old ≡ true)
    × (left w new ≡ left w old)
some_more w old new n none some told grown is =
    let s = more w old.gave new.gave new.unread old.asked new.asked n some told grown is in
    let bytes : new.unread ++ drop (length new.gave) w.bytes ≡ old.unread ++ drop (length old.gave) w.bytes =
    sym s.1 ∙ ap (λ (xs : List ℕ). xs ++ drop (length old.gave) w.bytes) (sym none) in
    (s.0, ap (λ (xs : List ℕ). record { bytes = xs; fails = w.fails }) bytes)

-- nothing is unread at the end of a block
pub at_end : (at end : ℕ) (xs : List ℕ) → end ≤ at → drop at (take end xs) ≡ []
at_end at end xs past = drop_all at (take end xs) (omega (arith, length-take end xs, past))
