-- Results that agree for every supposed content.
use Rattle.std.proofs.Common.{◌≡◌, Option, Some, None, refl, ap, ◌∙◌}
use Rattle.std.specs.Prelude.{IfSome, IsSomeAnd}
use Rattle.std.specs.Option.{option_map, IsSome}
use Rattle.cell_core_devices.specs.Device.{ComingBytes}
use Rattle.cell_core_devices.specs.Supposed.{EqualBeforeAndAfterReads, HoldsForAgreeingContents}

through : {X : Type 0} (F G H : ComingBytes → X) (a b d : Option ComingBytes)
    → IfSome b (λ c. option_map F a ≡ Some (G c))
    → IfSome d (λ c. option_map G b ≡ Some (H c)) → IfSome d (λ c. option_map F a ≡ Some (H c))
through F G H a b None e f = tt
through F G H a None (Some z) e f = cc
through F G H a (Some y) (Some z) e f = e ∙ f

-- results that agree over one part of a text and over the next agree over both
pub chain : {X : Type 0} (F G H : ComingBytes → X) (a b d : ComingBytes → Option ComingBytes)
    → EqualBeforeAndAfterReads F a G b
    → EqualBeforeAndAfterReads G b H d
    → EqualBeforeAndAfterReads F a H d
chain F G H a b d e f = λ h. through F G H (a h) (b h) (d h) (e h) (f h)

fused : {X Y : Type 0} (k : X → Y) (F : ComingBytes → X) (a : Option ComingBytes)
    → option_map (λ c. k (F c)) a ≡ option_map k (option_map F a)
fused k F None = refl
fused k F (Some x) = refl

mapped : {X Y : Type 0} (k : X → Y) (F G : ComingBytes → X) (a b : Option ComingBytes)
    → IfSome b (λ c. option_map F a ≡ Some (G c)) → IfSome b (λ c. option_map (λ c'. k (F c')) a ≡ Some (k (G c)))
mapped k F G a None e = tt
mapped k F G a (Some y) e = fused k F a ∙ ap (option_map k) e

-- functions of two results that agree also agree
pub then_map : {X Y : Type 0} (k : X → Y) (F G : ComingBytes → X) (a b : ComingBytes → Option ComingBytes)
    → EqualBeforeAndAfterReads F a G b
    → EqualBeforeAndAfterReads (λ c. k (F c)) a (λ c. k (G c)) b
then_map k F G a b e = λ h. mapped k F G (a h) (b h) (e h)

same_at : {X : Type 0} (F G : ComingBytes → X) (a : Option ComingBytes) → ((c : ComingBytes) → F c ≡ G c)
    → IfSome a (λ c. option_map F a ≡ Some (G c))
same_at F G None e = tt
same_at F G (Some c) e = ap Some (e c)

-- two functions that agree on all bytes agree on the bytes to come
pub map_same : {X : Type 0} (F G : ComingBytes → X) (a : ComingBytes → Option ComingBytes)
    → ((c : ComingBytes) → F c ≡ G c) → EqualBeforeAndAfterReads F a G a
map_same F G a e = λ h. same_at F G (a h) e

-- a function agrees with itself
pub stays : {X : Type 0} (F : ComingBytes → X) (a : ComingBytes → Option ComingBytes) → EqualBeforeAndAfterReads F a F a
stays F a = map_same F F a (λ c. refl)

-- if the bytes to come stay the same, each function agrees with itself
pub unmoved : {X : Type 0} (F : ComingBytes → X) (a b : ComingBytes → Option ComingBytes)
    → EqualBeforeAndAfterReads (λ c. c) a (λ c. c) b → EqualBeforeAndAfterReads F a F b
unmoved F a b e = then_map F (λ c. c) (λ c. c) a b e

known_at : {X : Type 0} (F G : ComingBytes → X) (a b : Option ComingBytes) (v : X)
    → IfSome b (λ c. option_map F a ≡ Some (G c))
    → ((c : ComingBytes) → G c ≡ v) → IsSome b → IsSomeAnd a (λ c. F c ≡ v)
known_at F G None None v e same some = cc
known_at F G (Some x) None v e same some = cc
known_at F G None (Some y) v e same some = cc
known_at F G (Some x) (Some y) v e same some = let w = same y in cc

-- two results that agree with a constant are that constant
pub known : {X : Type 0} (F G : ComingBytes → X) (a b : ComingBytes → Option ComingBytes) (v : X)
    → EqualBeforeAndAfterReads F a G b
    → ((c : ComingBytes) → G c ≡ v) → HoldsForAgreeingContents a b (λ c. F c ≡ v)
known F G a b v e same = λ h. known_at F G (a h) (b h) v (e h) same
