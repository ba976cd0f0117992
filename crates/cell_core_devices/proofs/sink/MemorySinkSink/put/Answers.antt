use Rattle.std.proofs.Common.{◌≡◌, ◌≢◌, ◌∙◌, ◌+◌, ◌-◌, ◌<◌, ◌≤◌, ◌++◌, ℕ, min, List, length, take, refl, sym, ap, ap₂, arith}
use Rattle.std.proofs.lemmas.List.{length-take-le, with_items_is}
use Rattle.cell_core_devices.proofs.sink.MemorySinkSink.put.Goals as goal

reaches : {a b d : ℕ} → a ≤ b → d ≡ b → a ≤ d
reaches most same = omega arith

-- a call takes at most the bytes it is given, and at most as many as fit
few : {m n : ℕ} (bytes piece room : ℕ) → m ≡ min bytes piece → n ≡ min m room → (n ≤ bytes) × (n ≤ room)
few bytes piece room e f = (omega arith, omega arith)

full : {m n : ℕ} (bytes piece at : ℕ) {len all : ℕ} → m ≡ min bytes piece → n ≡ min m (len - at)
    → 0 < piece → 0 < bytes → n ≡ 0 → len ≡ all → all - at ≡ 0
full bytes piece at e f some given none same = omega arith

within : {at n len : ℕ} → at ≤ len → n ≤ len - at → at + n ≤ len
within here most = omega arith

below : {a b most : ℕ} → a ≤ b → b < most → a < most
below h k = omega arith

some_taken : (n : ℕ) → n ≢ 0 → 0 < n
some_taken n some = omega arith

left_after : {len all : ℕ} (at n : ℕ) → len ≡ all → len - (at + n) ≡ all - at - n
left_after at n same = omega arith

pub overflow_sub-len : goal.overflow_sub-len
overflow_sub-len c = reaches c.self.invariant.0 (c.len.ensures ∙ c.self.inside.room.ok.0)

pub invariant_of-self : goal.invariant_of-self
invariant_of-self c = c.self.invariant

pub returns-then-n-eq0-clause-full : goal.returns-then-n-eq0-clause-full
returns-then-n-eq0-clause-full c =
    rw (← c.self.view_is)
    (full (length c.args.bytes.now) c.self.inside.piece c.self.inside.at c.min.ensures c.min-n.ensures
    c.self.invariant.1 c.requires c.if-n-eq0.true (c.len.ensures ∙ c.self.inside.room.ok.0))

pub returns-then-n-eq0-clause-taken : goal.returns-then-n-eq0-clause-taken
returns-then-n-eq0-clause-taken c = rw (← c.self.view_is) refl

pub slice_bounds-write_bytes_at-end : goal.slice_bounds-write_bytes_at-end
slice_bounds-write_bytes_at-end c =
    sym (length-take-le c.min-n.result c.args.bytes.now (few _ _ _ c.min.ensures c.min-n.ensures).0)

pub write_bytes_at-requires : goal.write_bytes_at-requires
write_bytes_at-requires c =
    let h = few _ _ _ c.min.ensures c.min-n.ensures in
    let here = reaches c.self.invariant.0 (c.len.ensures ∙ c.self.inside.room.ok.0) in
    rw (length-take-le c.min-n.result c.args.bytes.now h.0)
    (reaches (within here h.1) (c.deref_mut.ensures.len ∙ sym c.len.ensures))

pub overflow_add-self : goal.overflow_add-self
overflow_add-self c =
    let h = few _ _ _ c.min.ensures c.min-n.ensures in
    let here = reaches c.self.invariant.0 (c.len.ensures ∙ c.self.inside.room.ok.0) in
    record { fits = below (within here h.1) c.len.type_inv }

pub invariant_of-self-2 : goal.invariant_of-self-2
invariant_of-self-2 c =
    let i = c.self.inside in
    let h = few _ _ _ c.min.ensures c.min-n.ensures in
    let here = reaches c.self.invariant.0 (c.len.ensures ∙ i.room.ok.0) in
    let len = c.write_bytes_at.ensures.len ∙ c.deref_mut.ensures.len in
    let count = ap length (with_items_is i.room c.write_bytes_at.new.room len) ∙ len ∙ sym c.len.ensures in
    (reaches (within here h.1) count, c.self.invariant.1)

pub returns-clause-count : goal.returns-clause-count
returns-clause-count c = (some_taken c.min-n.result c.if-n-eq0.false, (few _ _ _ c.min.ensures c.min-n.ensures).0)

pub returns-clause-moved : goal.returns-clause-moved
returns-clause-moved c =
    let at = c.self.inside.at in
    let len = c.len.ensures ∙ c.self.inside.room.ok.0 in
    rw (← c.self.view_is) (c.min-n.ensures ∙ ap₂ (λ (m len : ℕ). min m (len - at)) c.min.ensures len)

pub returns-clause-taken : goal.returns-clause-taken
returns-clause-taken c =
    let i = c.self.inside in
    let n = c.min-n.result in
    let given = c.args.bytes.now in
    let room = c.write_bytes_at.new.room in
    let len = c.write_bytes_at.ensures.len ∙ c.deref_mut.ensures.len in
    let items = with_items_is i.room room len in
    let count = length-take-le n given (few _ _ _ c.min.ensures c.min-n.ensures).0 in
    let front : take (i.at + n) room ≡ take i.at i.room.items ++ take n given =
    ap (λ (k : ℕ). take (i.at + k) room) (sym count)
    ∙ c.write_bytes_at.ensures.front
    ∙ ap (λ (xs : List ℕ). take i.at xs ++ take n given) c.deref_mut.ensures.value in
    rw (← c.self.view_is)
    (ap₂
    (λ (bytes : List ℕ) (left : ℕ).
    record { bytes = bytes; faults = record { refused = i.refused; unflushed = i.unflushed; flushes = i.flushes }; room = left; piece = i.piece; flush_fails = i.flush_fails })
    (ap (take (i.at + n)) items ∙ front)
    (left_after i.at n (ap length items ∙ len ∙ i.room.ok.0)))
