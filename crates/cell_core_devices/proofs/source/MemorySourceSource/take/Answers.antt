use Rattle.std.proofs.Common.{◌≡◌, ◌∙◌, ◌+◌, ◌-◌, ◌<◌, ◌≤◌, ◌++◌, ℕ, min, Bool, false, List, [], Option, Some, length, take, drop, refl, sym, ap, ap₂, subst, arith, length-drop}
use Rattle.std.proofs.Math.Bool.{true≢false}
use Rattle.std.proofs.Math.Seq.{take-append_seam}
use Rattle.std.proofs.lemmas.Bool.{eqb-true, eq-eqb}
use Rattle.std.proofs.lemmas.List.{drop-drop, length-take-le, nil_from_length}
use Rattle.std.specs.Bool.{◌==◌}
use Rattle.cell_core_devices.specs.declared.source.Asked.{Asked}
use Rattle.cell_core_devices.specs.Device.{ComingBytes, SourceGivesBytes, bytes_to_come_after_reading}
use Rattle.cell_core_devices.proofs.DeviceLemmas.{whole_rest}
use Rattle.cell_core_devices.proofs.source.MemorySourceSource.take.Goals as goal
use Rattle.cell_core_devices.proofs.source.MemorySourceSource.take.Goals.{else-is_empty-via-then-is_empty+else-self, else-is_empty-via-else-is_empty}

rest_is : (bytes : List ℕ) {now : List ℕ} (at : ℕ) → now ≡ bytes → take (length now - at) (drop at now) ≡ drop at bytes
rest_is bytes {now} at same = whole_rest now at ∙ ap (drop at) same

-- a call moves at most the remaining bytes, and at most as many as fit
moves : {m n : ℕ} (rest piece room : ℕ) → m ≡ min rest piece → n ≡ min m room → (n ≤ rest) × (n ≤ room)
moves rest piece room e f = (omega arith, omega arith)

moves_none : {m n : ℕ} (rest piece room : ℕ) → m ≡ min rest piece → n ≡ min m room
    → 0 < piece → 0 < room → n ≡ 0 → rest ≡ 0
moves_none rest piece room e f some wide none = omega arith

within : (bytes : List ℕ) (at : ℕ) {n : ℕ} → at ≤ length bytes → n ≤ length (drop at bytes) → at + n ≤ length bytes
within bytes at here few = omega (arith, length-drop at bytes)

below : {a b d : ℕ} → a ≤ b → d ≡ b → d < 18446744073709551616 → a < 18446744073709551616
below most same small = omega arith

not_none : (rest : List ℕ) (fails : Bool) → false ≡ (length rest == 0) → length rest ≡ 0 → fails ≡ false
not_none rest fails e none = absurd (true≢false (sym (e ∙ eq-eqb (length rest) 0 none)))

gives : (bytes buf new : List ℕ) (fails : Bool) (left : Option ComingBytes) (n : ℕ) → n ≤ length bytes
    → left ≡ Some (bytes_to_come_after_reading (record { bytes = bytes; fails = fails }) n) → new ≡ take n bytes
    → (n ≡ 0 → bytes ≡ []) → (n ≡ 0 → fails ≡ false)
    → SourceGivesBytes (record { bytes = bytes; fails = fails }) left n (new ++ drop n buf)
gives bytes buf new fails left n count rest given end ends =
    let len : length new ≡ n = ap length given ∙ length-take-le n bytes count in
    record {
      count = count;
      bytes = ap (λ (k : ℕ). take k (new ++ drop n buf)) (sym len) ∙ take-append_seam new (drop n buf) ∙ given;
      rest = rest;
      end = end;
      ends = ends;
    }

pub slice_bounds-rest-count : goal.slice_bounds-rest-count
slice_bounds-rest-count c = rw c.deref.ensures.value c.self.invariant.0

pub returns-then-self-clause-bytes : goal.returns-then-self-clause-bytes
returns-then-self-clause-bytes c =
    let i = c.self.inside in
    let now = c.deref.result.now in
    let rest = take (length now - i.at) (drop i.at now) in
    let part = rest_is i.bytes.items i.at c.deref.ensures.value in
    rw (← c.self.view_is)
    (record {
      none = sym part ∙ nil_from_length rest (eqb-true (length rest) 0 (sym c.if-is_empty.ensures));
      fails = c.if-self.true;
      rest = refl;
    })

pub slice_bounds-copy_from_slice-end : goal.slice_bounds-copy_from_slice-end
slice_bounds-copy_from_slice-end c = (moves _ _ _ c.min.ensures c.min-n.ensures).1

pub slice_bounds-copy_from_slice-end-2 : goal.slice_bounds-copy_from_slice-end-2
slice_bounds-copy_from_slice-end-2 c =
    sym (length-take-le c.min-n.result c.args.buf.now (moves _ _ _ c.min.ensures c.min-n.ensures).1)

pub slice_bounds-copy_from_slice-end-3 : goal.slice_bounds-copy_from_slice-end-3
slice_bounds-copy_from_slice-end-3 c =
    sym (length-take-le c.min-n.result _ (moves _ _ _ c.min.ensures c.min-n.ensures).0)

pub copy_from_slice-requires : goal.copy_from_slice-requires
copy_from_slice-requires c =
    let n = c.min-n.result in
    let h = moves _ _ _ c.min.ensures c.min-n.ensures in
    length-take-le n c.args.buf.now h.1 ∙ sym (length-take-le n _ h.0)

pub overflow_add-self : goal.overflow_add-self
overflow_add-self c =
    let i = c.self.inside in
    let part = rest_is i.bytes.items i.at c.deref.ensures.value in
    let h = moves _ _ _ c.min.ensures c.min-n.ensures in
    let few = subst (λ (xs : List ℕ). c.min-n.result ≤ length xs) part h.0 in
    let len = ap length c.deref.ensures.value in
    record { fits = below (within i.bytes.items i.at c.self.invariant.0 few) len c.deref.type_inv.0 }

pub invariant_of-self : goal.invariant_of-self
invariant_of-self c = c.self.invariant

pub invariant_of-self-2 : goal.invariant_of-self-2
invariant_of-self-2 c =
    let i = c.self.inside in
    let part = rest_is i.bytes.items i.at c.deref.ensures.value in
    let h = moves _ _ _ c.min.ensures c.min-n.ensures in
    let few = subst (λ (xs : List ℕ). c.min-n.result ≤ length xs) part h.0 in
    (within i.bytes.items i.at c.self.invariant.0 few, c.self.invariant.1)

pub returns-clause-bytes : goal.returns-clause-bytes
returns-clause-bytes c =
    let i = c.self.inside in
    let n = c.min-n.result in
    let now = c.deref.result.now in
    let rest = take (length now - i.at) (drop i.at now) in
    let part = rest_is i.bytes.items i.at c.deref.ensures.value in
    let none : n ≡ 0 → length rest ≡ 0 =
    moves_none _ _ _ c.min.ensures c.min-n.ensures c.self.invariant.1 c.requires in
    let ends : n ≡ 0 → i.fails ≡ false =
    elim c.else-is_empty.branch [
      | else-is_empty-via-then-is_empty+else-self w ↦ (λ _. w.if-self.false)
      | else-is_empty-via-else-is_empty w ↦ (λ e. not_none rest i.fails w.if-is_empty.ensures (none e))
    ] in
    rw (← c.self.view_is)
    (gives (drop i.at i.bytes.items) c.args.buf.now c.copy_from_slice.new.self i.fails _ n
    (subst (λ (xs : List ℕ). n ≤ length xs) part (moves _ _ _ c.min.ensures c.min-n.ensures).0)
    (ap (λ (xs : List ℕ). Some (record { bytes = xs; fails = i.fails })) (sym (drop-drop n i.at i.bytes.items)))
    (c.copy_from_slice.ensures.after ∙ ap (take n) part)
    (λ e. sym part ∙ nil_from_length rest (none e))
    ends)

pub returns-clause-moved : goal.returns-clause-moved
returns-clause-moved c =
    let i = c.self.inside in
    let part = rest_is i.bytes.items i.at c.deref.ensures.value in
    let count = c.min.ensures ∙ ap (λ (xs : List ℕ). min (length xs) i.piece) part in
    rw (← c.self.view_is) (c.min-n.ensures ∙ ap (λ (k : ℕ). min k (length c.args.buf.now)) count)

pub returns-clause-slice : goal.returns-clause-slice
returns-clause-slice c =
    let i = c.self.inside in
    let n = c.min-n.result in
    let part = rest_is i.bytes.items i.at c.deref.ensures.value in
    rw (← c.self.view_is)
    (ap (λ (xs : List ℕ). xs ++ drop n c.args.buf.now) (c.copy_from_slice.ensures.after ∙ ap (take n) part))

pub returns-clause-rest : goal.returns-clause-rest
returns-clause-rest c =
    let i = c.self.inside in
    rw (← c.self.view_is)
    (ap₂
    (λ (xs : List ℕ) (asked : Asked). record { bytes = xs; fails = i.fails; piece = i.piece; asked = asked })
    (sym (drop-drop c.min-n.result i.at i.bytes.items))
    c.progress_after_answer-self-inside-2.ensures)
