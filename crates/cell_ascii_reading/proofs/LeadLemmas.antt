-- Readings of supposed contents, one after another.
use Rattle.std.proofs.Common.{◌≡◌, Option, Some, None, refl, ap}
use Rattle.std.specs.Prelude.{IsSomeAnd}
use Rattle.std.specs.Option.{option_map, IfSome, IsSome}
use Rattle.cell_core_devices.specs.Device.{ComingBytes}
use Rattle.cell_core_devices.specs.Supposed.{HoldsForAgreeingContents, EqualBeforeAndAfterReads}

-- the contents that are to come, for each supposed content
abbrev pub Contents : Type 0
Contents = ComingBytes → Option ComingBytes

-- if P implies Q, and P holds of what was to come, so does Q
pub implied : (P Q : ComingBytes → Type 0) (a b : Contents) → ((c : ComingBytes) → P c → Q c)
    → HoldsForAgreeingContents a b P
    → HoldsForAgreeingContents a b Q
implied P Q a b go holds = λ h some. by (a h) (holds h some)
  where
    by : (x : Option ComingBytes) → IsSomeAnd x P → IsSomeAnd x Q
    by None is = absurd is
    by (Some c) is = go c is

-- what always holds of the contents may be assumed of what was to come
pub assumed : (P Q : ComingBytes → Type 0) (a b : Contents) → ((h : ComingBytes) → IfSome (a h) Q) → HoldsForAgreeingContents a b (λ c. Q c → P c) → HoldsForAgreeingContents a b P
assumed P Q a b always holds = λ h some. by (a h) (always h) (holds h some)
  where
    by : (x : Option ComingBytes) → IfSome x Q → IsSomeAnd x (λ c. Q c → P c) → IsSomeAnd x P
    by None is go = absurd go
    by (Some c) is go = go is

-- what holds of all contents holds of what was to come, if that was known
pub always_holds : (P : ComingBytes → Type 0) (a b : Contents) → ((c : ComingBytes) → P c) → ((h : ComingBytes) → IsSome (b h) → IsSome (a h)) → HoldsForAgreeingContents a b P
always_holds P a b all before = λ h some. by (a h) (before h some)
  where
    by : (x : Option ComingBytes) → IsSome x → IsSomeAnd x P
    by None some = let none : ⊥ = cc in none
    by (Some c) some = all c

module _ {A : Type 0} (F G : ComingBytes → A) (a b : Contents) where
  -- if the reads up to the end of a reading agreed with a content, so did the reads before it
  pub known_before : EqualBeforeAndAfterReads F a G b → (h : ComingBytes) → IsSome (b h) → IsSome (a h)
  known_before leads h = by (a h) (b h) (leads h)
    where
      by : (x y : Option ComingBytes) → IfSome y (λ d. option_map F x ≡ Some (G d)) → IsSome y → IsSome x
      by x None e some = let none : ⊥ = cc in absurd none
      by None (Some y) e some = let none : ⊥ = cc in absurd none
      by (Some x) (Some y) e some = refl

  -- what a reading implies of what was to come
  pub lead_once : (P : ComingBytes → Type 0) → ((x y : ComingBytes) → F x ≡ G y → P x)
      → EqualBeforeAndAfterReads F a G b
      → HoldsForAgreeingContents a b P
  lead_once P go leads = λ h some. by (a h) (b h) some (leads h)
    where
      by : (x y : Option ComingBytes) → IsSome y → IfSome y (λ d. option_map F x ≡ Some (G d)) → IsSomeAnd x P
      by x None some e = let none : ⊥ = cc in absurd none
      by None (Some y) some e = let none : ⊥ = cc in absurd none
      by (Some x) (Some y) some e = go x y (let same : F x ≡ G y = cc in same)

  -- what a reading implies of what is to come
  pub lead_end : (P : ComingBytes → Type 0) → ((x y : ComingBytes) → F x ≡ G y → P y) → EqualBeforeAndAfterReads F a G b → (h : ComingBytes) → IfSome (b h) P
  lead_end P go leads h = by (a h) (b h) (leads h)
    where
      by : (x y : Option ComingBytes) → IfSome y (λ d. option_map F x ≡ Some (G d)) → IfSome y P
      by x None e = tt
      by None (Some y) e = let none : ⊥ = cc in absurd none
      by (Some x) (Some y) e = go x y (let same : F x ≡ G y = cc in same)

  -- what a reading implies of what is to come, given what held of what was to come
  pub lead_kept : (P Q : ComingBytes → Type 0) → ((x y : ComingBytes) → F x ≡ G y → P x → Q y) → ((h : ComingBytes) → IfSome (a h) P) → EqualBeforeAndAfterReads F a G b → (h : ComingBytes) → IfSome (b h) Q
  lead_kept P Q go was leads h = by (a h) (b h) (was h) (leads h)
    where
      by : (x y : Option ComingBytes) → IfSome x P → IfSome y (λ d. option_map F x ≡ Some (G d)) → IfSome y Q
      by x None is e = tt
      by None (Some y) is e = let none : ⊥ = cc in absurd none
      by (Some x) (Some y) is e = go x y (let same : F x ≡ G y = cc in same) is

  -- what a reading implies of what was to come, given what holds of what came next
  pub lead_then : (d : Contents) (P Q : ComingBytes → Type 0) → ((x y : ComingBytes) → F x ≡ G y → P y → Q x) → EqualBeforeAndAfterReads F a G b → HoldsForAgreeingContents b d P → HoldsForAgreeingContents a d Q
  lead_then d P Q go leads holds = λ h some. by (a h) (b h) (leads h) (holds h some)
    where
      by : (x y : Option ComingBytes) → IfSome y (λ e. option_map F x ≡ Some (G e)) → IsSomeAnd y P → IsSomeAnd x Q
      by x None e is = absurd is
      by None (Some y) e is = let none : ⊥ = cc in absurd none
      by (Some x) (Some y) e is = go x y (let same : F x ≡ G y = cc in same) is

  -- what two readings, one after another, imply of what was to come
  pub lead_twice : {B : Type 0} (K L : ComingBytes → B) (d : Contents) (P : ComingBytes → Type 0) → ((x y z : ComingBytes) → F x ≡ G y → K y ≡ L z → P x) → EqualBeforeAndAfterReads F a G b → EqualBeforeAndAfterReads K b L d → HoldsForAgreeingContents a d P
  lead_twice {B} K L d P go first next = λ h some. by (a h) (b h) (d h) some (first h) (next h)
    where
      by : (x y z : Option ComingBytes) → IsSome z → IfSome y (λ e. option_map F x ≡ Some (G e)) → IfSome z (λ e. option_map K y ≡ Some (L e)) → IsSomeAnd x P
      by x y None some e o = let none : ⊥ = cc in absurd none
      by x None (Some z) some e o = let none : ⊥ = cc in absurd none
      by None (Some y) (Some z) some e o = let none : ⊥ = cc in absurd none
      by (Some x) (Some y) (Some z) some e o = go x y z (let same : F x ≡ G y = cc in same) (let same : K y ≡ L z = cc in same)

-- what is known of the result, as a reading of a constant result
pub known_result : {A : Type 0} (F : ComingBytes → A) (a b : Contents) (v : A) → HoldsForAgreeingContents a b (λ c. F c ≡ v) → EqualBeforeAndAfterReads F a (λ _. v) b
known_result F a b v holds = λ h. by (a h) (b h) (holds h)
  where
    by : (x y : Option ComingBytes) → (IsSome y → IsSomeAnd x (λ c. F c ≡ v)) → IfSome y (λ d. option_map F x ≡ Some v)
    by x None is = tt
    by None (Some y) is = absurd (is refl)
    by (Some x) (Some y) is = ap Some (is refl)
