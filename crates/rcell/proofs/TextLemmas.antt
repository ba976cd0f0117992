-- Reading the text of a script, block by block.
use Rattle.std.proofs.Common.{◌≡◌, ℕ, zero, suc, ◌+◌, ◌-◌, ◌≤◌, ◌<◌, true, false, List, [], ◌++◌, length, take, drop}
use Rattle.std.proofs.Common.{Option, Some, None, Result, Ok, Err, IfSome, refl, ap, sym, ◌∙◌, arith, append_assoc}
use Rattle.std.proofs.Common.{append-nil, length-append, take-append-drop}
use Rattle.std.proofs.lemmas.List.{length-take-le}
use Rattle.std.specs.Prelude.{nat_lt, min}
use Rattle.std.specs.Option.{option_map, IsSome, IsSomeAnd}
use Rattle.std.proofs.lemmas.Bool.Decides.{nat_tests}
use Rattle.cell_core_devices.specs.declared.device.DeviceFault.{DeviceFault}
use Rattle.cell_core_devices.specs.Device.{ComingBytes, IsSupposedEffectOfTake, bytes_to_come_after_reading}
use Rattle.rcell.specs.RunFaults.{ResultAgreesWithInputReading}
use Rattle.rcell.specs.ScriptText.{script_text_or_fault}
use Rattle.rcell.specs.declared.run_fault.RunFault.{RunFault}
use Rattle.rcell.specs.declared.run_fault.RunFault.TheVariants.{ScriptRead, ScriptSize, Memory}

-- the outcome of a script whose first bytes are already read
abbrev pub text_after : List ℕ → ComingBytes → Result (List ℕ) RunFault
text_after text c = script_text_or_fault (record { bytes = text ++ c.bytes; fails = c.fails })

joined : (text : List ℕ) (c : ComingBytes) (n : ℕ) (block : List ℕ) → take n block ≡ take n c.bytes → text_after text c ≡ text_after (text ++ take n block) (bytes_to_come_after_reading c n)
joined text c n block same = ap (λ bs. script_text_or_fault (record { bytes = bs; fails = c.fails })) (sym (append_assoc text (take n block) (drop n c.bytes) ∙ ap (λ bs. text ++ bs) (ap (λ f. f ++ drop n c.bytes) same ∙ take-append-drop n c.bytes)))

-- the content that is supposed, if any, is the text that was read and the bytes to come
abbrev pub Leaves : Option ComingBytes → List ℕ → Option ComingBytes → Type 0
Leaves all text left = IfSome left (λ d. option_map script_text_or_fault all ≡ Some (text_after text d))

-- before the first read, all bytes are to come
pub begun : (all : Option ComingBytes) → Leaves all [] all
begun None = tt
begun (Some c) = refl

-- a source whose reads agree now also agreed before
still : (r : Result ℕ DeviceFault) (block : List ℕ) (old new : Option ComingBytes)
    → IsSupposedEffectOfTake old new r block → IsSome new
    → IsSome old
still r block None new kept some = let no : ⊥ = cc in absurd no
still r block (Some c) new kept some = refl

one_more : (all : Option ComingBytes) (c d : ComingBytes) (n : ℕ) (block text : List ℕ) → Leaves all text (Some c)
    → IsSupposedEffectOfTake {E = DeviceFault} (Some c) (Some d) (Ok n) block
    → Leaves all (text ++ take n block) (Some d)
one_more all c d n block text leaves gives =
    let rest : d ≡ bytes_to_come_after_reading c n = cc in
    leaves ∙ ap Some (joined text c n block gives.bytes) ∙ ap (λ (e : ComingBytes). Some
    (text_after (text ++ take n block) e)) (sym rest)

-- one more block is read
pub block_more : (all old new : Option ComingBytes) (n : ℕ) (block text : List ℕ) → Leaves all text old
    → IsSupposedEffectOfTake {E = DeviceFault} old new (Ok n) block → Leaves all (text ++ take n block) new
block_more all None None n block text leaves kept = tt
block_more all None (Some d) n block text leaves kept = cc
block_more all (Some c) None n block text leaves kept = tt
block_more all (Some c) (Some d) n block text leaves kept = one_more all c d n block text leaves kept

reported : (all left : Option ComingBytes) (text : List ℕ) (x : Result (List ℕ) RunFault) → Leaves all text left
    → IsSome left → ((c : ComingBytes) → left ≡ Some c → text_after text c ≡ x)
    → IsSomeAnd all (λ c. script_text_or_fault c ≡ x)
reported all None text x e some h = cc
reported None (Some d) text x e some h = cc
reported (Some c) (Some d) text x e some h = let same : script_text_or_fault c ≡ text_after text d = cc in same
    ∙ h d refl

anyway : (all : Option ComingBytes) (P : ComingBytes → Type 0) (Q : Type 0) → IsSomeAnd all P
    → IsSomeAnd all (λ c. Q → P c)
anyway None P Q is = absurd is
anyway (Some c) P Q is = λ _. is

known_names_after_command : (all left : Option ComingBytes) (text : List ℕ) → Leaves all text left → IsSome left
    → IsSome all
known_names_after_command all None text e some = cc
known_names_after_command None (Some d) text e some = cc
known_names_after_command (Some c) (Some d) text e some = refl

-- after an error of memory, nothing is known about the text
pub no_memory : (n : ℕ) (block : List ℕ) (all old new : Option ComingBytes) (text : List ℕ) → Leaves all text old
    → IsSupposedEffectOfTake {E = DeviceFault} old new (Ok n) block → IsSome new
    → IsSomeAnd all (λ c. ResultAgreesWithInputReading {A = List ℕ} (λ t. t) (Err (Memory 0)) (script_text_or_fault c))
no_memory n block all old new text e kept some = by all (known_names_after_command all old text e
    (still (Ok n) block old new kept some))
  where
    by : (o : Option ComingBytes) → IsSome o → IsSomeAnd o (λ c. ResultAgreesWithInputReading {A = List ℕ} (λ t. t)
        (Err (Memory 0))
        (script_text_or_fault c))
    by None known = cc
    by (Some c) known = λ input. absurd input

not_long : (text : List ℕ) → length text ≤ 1048576 → nat_lt 1048576 (length text) ≡ false
not_long text short = grind (arith, nat_tests)

-- the text ends at the end of its source
pub text_ends : (all old new : Option ComingBytes) (n : ℕ) (block text : List ℕ) → Leaves all text old
    → length text ≤ 1048576 → n ≡ 0 → IsSupposedEffectOfTake {E = DeviceFault} old new (Ok n) block → IsSome new
    → IsSomeAnd all (λ c. script_text_or_fault c ≡ Ok text)
text_ends all old new n block text e short none kept some = reported all old text (Ok text) e
    (still (Ok n) block old new kept some) (λ c is. at c new some (rw is at kept))
  where
    at : (c : ComingBytes) (left : Option ComingBytes) → IsSome left
        → IsSupposedEffectOfTake {E = DeviceFault} (Some c) left (Ok n) block
        → text_after text c ≡ Ok text
    at c None some gives = cc
    at c (Some d) some gives = rw (gives.end none, gives.ends none, append-nil text, not_long text short) refl

-- a read that fails is an error
pub text_fails : (all old new : Option ComingBytes) (fault : DeviceFault) (block text : List ℕ) → Leaves all text old
    → length text ≤ 1048576 → IsSupposedEffectOfTake old new (Err fault) block → IsSome new
    → IsSomeAnd all (λ c. ResultAgreesWithInputReading {A = List ℕ} (λ t. t) (Err ScriptRead) (script_text_or_fault c))
text_fails all old new fault block text e short kept some =
    anyway all (λ c. script_text_or_fault c ≡ Err ScriptRead) _ (reported all old text (Err ScriptRead) e
    (still (Err fault) block old new kept some) (λ c is. at c new some (rw is at kept)))
  where
    at : (c : ComingBytes) (left : Option ComingBytes) → IsSome left
        → IsSupposedEffectOfTake {E = DeviceFault} (Some c) left (Err fault) block
        → text_after text c ≡ Err ScriptRead
    at c None some gives = cc
    at c (Some d) some gives = rw (gives.none, gives.fails, append-nil text, not_long text short) refl

-- a text of more than 1048576 bytes is rejected
pub text_long : (all old new : Option ComingBytes) (n : ℕ) (block text : List ℕ) → Leaves all text old
    → 1048576 < length text + n → IsSupposedEffectOfTake {E = DeviceFault} old new (Ok n) block → IsSome new
    → IsSomeAnd all (λ c. ResultAgreesWithInputReading {A = List ℕ} (λ t. t) (Err ScriptSize) (script_text_or_fault c))
text_long all old new n block text e long kept some =
    anyway all (λ c. script_text_or_fault c ≡ Err ScriptSize) _ (reported all old text (Err ScriptSize) e
    (still (Ok n) block old new kept some) (λ c is. at c new some (rw is at kept)))
  where
    at : (c : ComingBytes) (left : Option ComingBytes) → IsSome left
        → IsSupposedEffectOfTake {E = DeviceFault} (Some c) left (Ok n) block
        → text_after text c ≡ Err ScriptSize
    at c None some gives = cc
    at c (Some d) some gives =
        let past : nat_lt 1048576 (length (text ++ c.bytes)) ≡ true = let l = length-append text c.bytes in let m = gives.count in grind (arith, nat_tests) in
        rw past refl

-- equal counts have the same bound
pub same_most : {n m most : ℕ} → n ≡ m → n ≤ most → m ≤ most
same_most same short = omega arith

pub past_most : {len n m most count : ℕ} → len ≡ n → n ≡ m → n ≤ most → most - len < count → most < m + count
past_most is same short past = omega arith

pub room_fits : (a : ℕ) {room n : ℕ} → room ≡ min a 4096 → n ≡ 4096 → room ≤ n
room_fits a is same = omega arith

pub block_fits : {n : ℕ} (buf rest : List ℕ) → n ≤ length buf → n ≤ length (buf ++ rest)
block_fits buf rest within = omega (arith, length-append buf rest)

pub block_len : (n : ℕ) (buf rest : List ℕ) → n ≤ length buf → length (take n (buf ++ rest)) ≡ n
block_len n buf rest within = length-take-le n (buf ++ rest) (block_fits buf rest within)

pub still_short : {len old new most n m : ℕ} → len ≡ old → new ≡ old + m → m ≡ n → old ≤ most → n ≤ most - len → new ≤ most
still_short is grown same short within = omega arith

pub less_left : (most : ℕ) {len old new n m : ℕ} → len ≡ old → new ≡ old + m → m ≡ n → n ≤ most - len → (n ≡ 0 → ⊥) → most - new < most - old
less_left most {n = zero} is grown same within some = absurd (some refl)
less_left most {n = suc n} is grown same within some = omega arith
