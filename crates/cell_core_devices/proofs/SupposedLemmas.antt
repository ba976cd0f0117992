-- A source keeps to its supposed content, or nothing is supposed from then on. Known sources keep to every supposition.
use Rattle.std.proofs.Common.{◌≡◌, ℕ, suc, ◌≤◌, Bool, true, false, List, [], ◌∷◌, ◌++◌, length, take, drop, Option}
use Rattle.std.proofs.Common.{Some, None, Result, Ok, Err, IfOk, OnErr, refl, ap, ◌∙◌, arith}
use Rattle.std.specs.Prelude.{◌==◌, if◌then◌else◌, IfSome, IsSomeAnd}
use Rattle.std.specs.Option.{IsSome}
use Rattle.std.proofs.lemmas.Bool.{eqb-true, eqb-false}
use Rattle.std.proofs.lemmas.List.{length-take-le}
use Rattle.cell_core_devices.specs.Device.{ComingBytes, IsSupposedEffectOfTake}
use Rattle.cell_core_devices.specs.Asking.{progress_after_take}
use Rattle.cell_core_devices.specs.Supposed.{rest_after_prefix, rest_if_end_is_as_supposed, rest_of_supposed_content}
use Rattle.cell_core_devices.specs.Supposed.{HoldsForAgreeingContents}
use Rattle.cell_core_devices.specs.declared.device.DeviceFault.{DeviceFault}
use Rattle.cell_core_devices.specs.declared.source.Asked.{Asked}
use Rattle.cell_core_devices.specs.declared.source.Asked.TheVariants.{Going, Ended, Failed, Again}

-- the rest after more bytes
abbrev then_after : List ℕ → Option (List ℕ) → Option (List ℕ)
then_after bs None = None
then_after bs (Some left) = rest_after_prefix bs left

if_same : (b : Bool) (xs bs ys : List ℕ) → rest_after_prefix (xs ++ bs) ys ≡ then_after bs (rest_after_prefix xs ys)
    → (if b then rest_after_prefix (xs ++ bs) ys else None) ≡ then_after bs
    (if b then rest_after_prefix xs ys else None)
if_same true xs bs ys h = h
if_same false xs bs ys h = refl

left_after-append : (xs bs all : List ℕ) → rest_after_prefix (xs ++ bs) all ≡ then_after bs (rest_after_prefix xs all)
left_after-append [] bs all = refl
left_after-append (x ∷ xs) bs [] = refl
left_after-append (x ∷ xs) bs (y ∷ ys) = if_same (x == y) xs bs ys (left_after-append xs bs ys)

-- a list begins with these items, and `left` is the rest
record Begins (bs all left : List ℕ) : Type 0 where
  first : bs ≡ take (length bs) all
  last : left ≡ drop (length bs) all
  fits : length bs ≤ length all

no_less : (n : ℕ) → 0 ≤ n
no_less n = omega arith

one_more : (m n : ℕ) → m ≤ n → suc m ≤ suc n
one_more m n h = omega (arith, h)

begins_by : (b : Bool) (x y : ℕ) (xs ys left : List ℕ) → (x == y) ≡ b
    → (rest_after_prefix xs ys ≡ Some left → Begins xs ys left)
    → (if b then rest_after_prefix xs ys else None) ≡ Some left
    → Begins (x ∷ xs) (y ∷ ys) left
begins_by true x y xs ys left same h e =
    let is = h e in
    record {
      first = rw (eqb-true x y same) (ap (λ (t : List ℕ). y ∷ t) is.first);
      last = is.last;
      fits = one_more (length xs) (length ys) is.fits;
    }
begins_by false x y xs ys left other h e = let no : ⊥ = cc in absurd no

begins : (bs all left : List ℕ) → rest_after_prefix bs all ≡ Some left → Begins bs all left
begins [] all left e = record { first = refl; last = (let same : left ≡ all = cc in same); fits = no_less (length all) }
begins (x ∷ xs) [] left e = let no : ⊥ = cc in absurd no
begins (x ∷ xs) (y ∷ ys) left e = begins_by (x == y) x y xs ys left refl (begins xs ys left) e

-- nothing is supposed after a call that follows the end or an error
again : (fails : Bool) (o : Option (List ℕ)) → rest_if_end_is_as_supposed Again fails o ≡ None
again fails None = refl
again fails (Some left) = refl

lost : (old new : Option ComingBytes) (r : Result ℕ DeviceFault) (buf : List ℕ) → new ≡ None
    → IsSupposedEffectOfTake old new r buf
lost None new r buf is = is
lost (Some c) new r buf is = rw is tt

-- a call that gave bytes
more : (fails : Bool) (left : List ℕ) (q : Option (List ℕ)) (n : ℕ) (buf : List ℕ) → (n == 0) ≡ false → n ≤ length buf
    → rest_after_prefix (take n buf) left ≡ q
    → IsSupposedEffectOfTake {E = DeviceFault} (Some (record { bytes = left; fails = fails }))
    (rest_if_end_is_as_supposed Going fails q) (Ok n) buf
more fails left None n buf some room e = tt
more fails left (Some d) n buf some room e =
    let is = begins (take n buf) left d e in
    let len : length (take n buf) ≡ n = length-take-le n buf room in
    record {
      count = rw (← len) is.fits;
      bytes = is.first ∙ ap (λ (k : ℕ). take k left) len;
      rest =
          ap (λ (ds : List ℕ). Some (record { bytes = ds; fails = fails })) (is.last ∙ ap (λ (k : ℕ). drop k left) len);
      end = λ none. absurd (eqb-false n 0 some none);
      ends = λ none. absurd (eqb-false n 0 some none);
    }

-- the end
ends_here : (fails : Bool) (left buf : List ℕ)
    → IsSupposedEffectOfTake {E = DeviceFault} (Some (record { bytes = left; fails = fails }))
    (rest_if_end_is_as_supposed Ended fails (Some left)) (Ok 0) buf
ends_here true [] buf = tt
ends_here false [] buf =
    record { count = omega arith; bytes = refl; rest = refl; end = λ none. refl; ends = λ none. refl }
ends_here fails (y ∷ ys) buf = tt

fails_here : (fails : Bool) (left buf : List ℕ) (e : DeviceFault)
    → IsSupposedEffectOfTake {E = DeviceFault} (Some (record { bytes = left; fails = fails }))
    (rest_if_end_is_as_supposed Failed fails (Some left)) (Err e) buf
fails_here true [] buf e = record { none = refl; fails = refl; rest = refl }
fails_here false [] buf e = tt
fails_here fails (y ∷ ys) buf e = tt

going : (fails : Bool) (left : List ℕ) (n : ℕ) (buf : List ℕ) (b : Bool) → (n == 0) ≡ b → n ≤ length buf
    → IsSupposedEffectOfTake {E = DeviceFault} (Some (record { bytes = left; fails = fails }))
    (rest_if_end_is_as_supposed (if b then Ended else Going) fails (rest_after_prefix (take n buf) left)) (Ok n) buf
going fails left n buf true none room = rw (eqb-true n 0 none) (ends_here fails left buf)
going fails left n buf false some room = more fails left (rest_after_prefix (take n buf) left) n buf some room refl

gives : (fails : Bool) (o : Option (List ℕ)) (asked : Asked) (n : ℕ) (buf : List ℕ) → n ≤ length buf
    → IsSupposedEffectOfTake {E = DeviceFault} (rest_if_end_is_as_supposed asked fails o)
    (rest_if_end_is_as_supposed (progress_after_take {E = DeviceFault} asked (Ok n)) fails
    (then_after (take n buf) o)) (Ok n) buf
gives fails None asked n buf room = refl
gives fails (Some left) Going n buf room = going fails left n buf (n == 0) refl room
gives fails (Some left) Ended n buf room = lost _ _ (Ok n) buf (again fails (rest_after_prefix (take n buf) left))
gives fails (Some left) Failed n buf room = lost _ _ (Ok n) buf (again fails (rest_after_prefix (take n buf) left))
gives fails (Some left) Again n buf room = again fails (rest_after_prefix (take n buf) left)

refuses : (fails : Bool) (o : Option (List ℕ)) (asked : Asked) (e : DeviceFault) (buf : List ℕ)
    → IsSupposedEffectOfTake {E = DeviceFault} (rest_if_end_is_as_supposed asked fails o)
    (rest_if_end_is_as_supposed (progress_after_take asked (Err e)) fails o) (Err e) buf
refuses fails None asked e buf = refl
refuses fails (Some left) Going e buf = fails_here fails left buf e
refuses fails (Some left) Ended e buf = lost _ _ (Err e) buf refl
refuses fails (Some left) Failed e buf = lost _ _ (Err e) buf refl
refuses fails (Some left) Again e buf = refl

-- a call keeps to what was supposed, or nothing is supposed after it
pub keeps_to : (c : ComingBytes) (gave gave' : List ℕ) (asked asked' : Asked) (r : Result ℕ DeviceFault) (buf : List ℕ)
    → asked' ≡ progress_after_take asked r → IfOk r (λ n. n ≤ length buf) → IfOk r (λ n. gave' ≡ gave ++ take n buf)
    → OnErr r (gave' ≡ gave) → IsSupposedEffectOfTake (rest_of_supposed_content c gave asked)
    (rest_of_supposed_content c gave' asked') r buf
keeps_to c gave gave' asked asked' (Ok n) buf told room ok err =
    rw (told, ok, left_after-append gave (take n buf) c.bytes)
    (gives c.fails (rest_after_prefix gave c.bytes) asked n buf room)
keeps_to c gave gave' asked asked' (Err e) buf told room ok err =
    rw (told, err) (refuses c.fails (rest_after_prefix gave c.bytes) asked e buf)

-- a source whose bytes are known keeps to any supposed content, so what holds for supposed contents holds for its bytes
pub if_known : {S : Type 0} (coming : S → Option ComingBytes) (supposed : S → ComingBytes → Option ComingBytes)
    → ((s : S) (h : ComingBytes) → IfSome (coming s) (λ c. supposed s h ≡ Some c))
    → ((s t : S) → IsSome (coming s) → IsSome (coming t))
    → (s t : S) (P : ComingBytes → Type 0) → HoldsForAgreeingContents (supposed s) (supposed t) P → IfSome (coming s) P
if_known {S = S} coming supposed known steady s t P holds = at_known (coming s) refl (known s)
  where
    kept : (u : S) (c : ComingBytes) (o : Option ComingBytes) → coming u ≡ o → IfSome o (λ d. supposed u c ≡ Some d)
        → IsSome o
        → IsSome (supposed u c)
    kept u c None e same some = let no : ⊥ = cc in absurd no
    kept u c (Some d) e same some = rw same refl

    at_known : (o : Option ComingBytes) → coming s ≡ o → ((h : ComingBytes) → IfSome o (λ d. supposed s h ≡ Some d))
        → IfSome o P
    at_known None e same = tt
    at_known (Some c) e same =
        let some : IsSome (coming t) = steady s t (rw e refl) in
        let there : IsSomeAnd (supposed s c) P = holds c (kept t c (coming t) refl (known t c) some) in
        rw (same c) at there
