use Rattle.std.proofs.Common.{◌≡◌, ◌∙◌, ◌+◌, ◌-◌, ◌<◌, ◌≤◌, ℕ, List, [], Option, Some, None, true, length, take, drop, refl, sym, ap, take_all, append-nil, length-drop, arith}
use Rattle.cell_core_devices.specs.Device.{SinkFaults, faults_after_put, append_if_known}
use Rattle.cell_core_devices.proofs.DeviceLemmas.{put_more, whole_rest}
use Rattle.cell_core_devices.proofs.sink.put_bytes.Goals as goal

least : (n : ℕ) → 0 ≤ n
least n = omega arith

nothing : (taken : Option (List ℕ)) → taken ≡ append_if_known taken []
nothing None = refl
nothing (Some xs) = ap Some (sym (append-nil xs))

some_left : (bytes : List ℕ) (at : ℕ) → at < length bytes → 0 < length (take (length bytes - at) (drop at bytes))
some_left bytes at h = rw (whole_rest bytes at) (omega (arith, length-drop at bytes))

within : (bytes : List ℕ) (at : ℕ) {n : ℕ} → at ≤ length bytes → n ≤ length (take (length bytes - at) (drop at bytes))
    → at + n ≤ length bytes
within bytes at here few = let most = rw (whole_rest bytes at) at few in omega (arith, most, length-drop at bytes)

nearer : {n : ℕ} (at all : ℕ) → 0 < n → at + n ≤ all → all - (at + n) < all - at
nearer at all some most = omega arith

moved : (at n : ℕ) → 0 < n → at + n ≡ 0 → ⊥
moved at n some none = omega arith

at_start : {at len : ℕ} → len ≡ 0 → at ≤ len → at ≡ 0
at_start none most = omega arith

not_within : {at len : ℕ} → len ≡ 0 → at < len → ⊥
not_within none h = omega arith

pub loop-at-init : goal.loop-at-init
loop-at-init g c = record {
  within = least (length c.args.bytes.now);
  taken = nothing (g.W.Sink.taken c.args.out.now);
  faults = refl;
  untouched = λ at_start. refl;
}

pub slice_bounds-put-count : goal.slice_bounds-put-count
slice_bounds-put-count g c = c.loop-at.invariant.within

pub put-requires : goal.put-requires
put-requires g c = some_left c.args.bytes.now c.loop-at.at c.loop-at-test.true

-- after each put, the bytes taken have grown by the piece that was put
pub loop-at-preserved : goal.loop-at-preserved
loop-at-preserved g c = record {
  within = within c.args.bytes.now c.loop-at.at c.loop-at.invariant.within c.in-Ok.ensures.count.1;
  taken = rw (c.in-Ok.ensures.ok, c.loop-at.invariant.taken) (put_more _ c.args.bytes.now c.loop-at.at c.in-Ok.n);
  faults = c.in-Ok.ensures.faults ∙ c.loop-at.invariant.faults;
  untouched = λ at_start. absurd (moved c.loop-at.at c.in-Ok.n c.in-Ok.ensures.count.0 at_start);
}

pub loop-at-smaller : goal.loop-at-smaller
loop-at-smaller g c =
    nearer c.loop-at.at (length c.args.bytes.now) c.in-Ok.ensures.count.0
    (within c.args.bytes.now c.loop-at.at c.loop-at.invariant.within c.in-Ok.ensures.count.1)

pub returns-in-Err-clause-within : goal.returns-in-Err-clause-within
returns-in-Err-clause-within g c = c.loop-at-test.true

pub returns-in-Err-clause-err : goal.returns-in-Err-clause-err
returns-in-Err-clause-err g c = c.in-Err.ensures.err ∙ c.loop-at.invariant.taken

pub returns-in-Err-clause-faults : goal.returns-in-Err-clause-faults
returns-in-Err-clause-faults g c = c.in-Err.ensures.faults ∙ ap (λ (f : SinkFaults). faults_after_put f true) c.loop-at.invariant.faults

pub returns-in-Err-clause-empty : goal.returns-in-Err-clause-empty
returns-in-Err-clause-empty g c = λ none. absurd (not_within (ap length none) c.loop-at-test.true)

pub returns-clause-ok : goal.returns-clause-ok
returns-clause-ok g c =
    c.loop-at.invariant.taken
    ∙ ap (append_if_known (g.W.Sink.taken c.args.out.now)) (take_all c.loop-at.at c.args.bytes.now c.loop-at-test.false)

pub returns-clause-faults : goal.returns-clause-faults
returns-clause-faults g c = c.loop-at.invariant.faults

-- putting an empty slice leaves the sink unchanged
pub returns-clause-empty : goal.returns-clause-empty
returns-clause-empty g c none = c.loop-at.invariant.untouched (at_start (ap length none) c.loop-at.invariant.within)
