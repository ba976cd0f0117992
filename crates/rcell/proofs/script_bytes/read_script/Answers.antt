use Rattle.std.proofs.Common.{◌≡◌, ◌≢◌, ℕ, false, Ok, drop, refl, sym, arith}
use Rattle.std.specs.Prelude.{◌==◌}
use Rattle.std.proofs.lemmas.Bool.Decides.{nat_tests}
use Rattle.std.proofs.lemmas.List.{take-append-le}
use Rattle.cell_core_devices.specs.Asking.{progress_after_take}
use Rattle.cell_core_devices.specs.declared.source.Asked.{Asked}
use Rattle.cell_core_devices.specs.declared.source.Asked.TheVariants.{Going}
use Rattle.cell_core_devices.specs.declared.device.DeviceFault.{DeviceFault}
use Rattle.cell_core_devices.specs.Supposed.{content_to_come}
use Rattle.rcell.proofs.TextLemmas.{begun, text_ends, no_memory, text_fails, text_long, block_more, same_most}
use Rattle.rcell.proofs.TextLemmas.{past_most, still_short, less_left, block_len, block_fits, room_fits}
use Rattle.rcell.proofs.script_bytes.read_script.Goals as goal

-- a count other than 0 means that the call gave bytes
not_none : (n : ℕ) → n ≢ 0 → (n == 0) ≡ false
not_none n some = grind (arith, nat_tests)

goes_on : (old new : Asked) (n : ℕ) → new ≡ progress_after_take {E = DeviceFault} old (Ok n) → old ≡ Going → n ≢ 0
    → new ≡ Going
goes_on old new n after going some = rw (after, going, not_none n some) refl

pub pieces-init : goal.pieces-init
pieces-init g c = record {
  text = λ h. rw c.new-text.ensures.items (begun (content_to_come (g.R.Source.supposed c.args.source.now) h));
  short = rw c.new-text.ensures.len (omega arith);
  asked = λ going. going;
}

pub overflow_sub-len : goal.overflow_sub-len
overflow_sub-len g c = rw c.len.ensures c.pieces.invariant.short

pub slice_bounds-block-end : goal.slice_bounds-block-end
slice_bounds-block-end g c = room_fits _ c.min-room.ensures c.type_inv.block

pub overflow_sub-len-in-pieces : goal.overflow_sub-len-in-pieces
overflow_sub-len-in-pieces g c = rw c.len-in-pieces.ensures c.pieces.invariant.short

pub slice_bounds-block-end-in-pieces : goal.slice_bounds-block-end-in-pieces
slice_bounds-block-end-in-pieces g c = block_fits c.take.new.buf (drop c.min-room.result c.pieces.block)
    c.in-Ok.ensures.count

pub slice_bounds-extend_from_slice-end : goal.slice_bounds-extend_from_slice-end
slice_bounds-extend_from_slice-end g c = sym (block_len c.in-Ok.count c.take.new.buf
    (drop c.min-room.result c.pieces.block) c.in-Ok.ensures.count)

pub returns-in-Err-clause-answer : goal.returns-in-Err-clause-answer
returns-in-Err-clause-answer g c =
    let at = c.pieces in
    let supposed = g.R.Source.supposed in
    λ h.
    text_fails (content_to_come (supposed c.args.source.now) h) (content_to_come (supposed at.source) h)
    (content_to_come (supposed c.take.new.self) h)
    c.in-Err.field-0 c.take.new.buf at.text.items (at.invariant.text h) (same_most at.text.ok.0 at.invariant.short)
    (c.in-Err.ensures.supposed h)

pub returns-then-count-eq0-clause-answer : goal.returns-then-count-eq0-clause-answer
returns-then-count-eq0-clause-answer g c =
    let at = c.pieces in
    let supposed = g.R.Source.supposed in
    λ h.
    text_ends (content_to_come (supposed c.args.source.now) h) (content_to_come (supposed at.source) h)
    (content_to_come (supposed c.take.new.self) h)
    c.in-Ok.count c.take.new.buf at.text.items (at.invariant.text h) (same_most at.text.ok.0 at.invariant.short)
    c.if-count-eq0.true (c.in-Ok.ensures.supposed h)

pub returns-then-count-len-clause-answer : goal.returns-then-count-len-clause-answer
returns-then-count-len-clause-answer g c =
    let at = c.pieces in
    let supposed = g.R.Source.supposed in
    let past = past_most c.len-in-pieces.ensures at.text.ok.0 at.invariant.short c.if-count-len.true in
    λ h.
    text_long (content_to_come (supposed c.args.source.now) h) (content_to_come (supposed at.source) h)
    (content_to_come (supposed c.take.new.self) h)
    c.in-Ok.count c.take.new.buf at.text.items (at.invariant.text h) past (c.in-Ok.ensures.supposed h)

pub returns-in-Err-extend_from_slice-clause-answer : goal.returns-in-Err-extend_from_slice-clause-answer
returns-in-Err-extend_from_slice-clause-answer g c =
    let at = c.pieces in
    let supposed = g.R.Source.supposed in
    λ h.
    no_memory c.in-Ok.count c.take.new.buf (content_to_come (supposed c.args.source.now) h)
    (content_to_come (supposed at.source) h)
    (content_to_come (supposed c.take.new.self) h)
    at.text.items (at.invariant.text h) (c.in-Ok.ensures.supposed h)

pub pieces-smaller : goal.pieces-smaller
pieces-smaller g c =
    let rest = drop c.min-room.result c.pieces.block in
    less_left 1048576 c.len-in-pieces.ensures c.in-Ok-extend_from_slice.ensures.len
    (block_len c.in-Ok.count c.take.new.buf rest c.in-Ok.ensures.count) c.if-count-len.false c.if-count-eq0.false

pub pieces-preserved : goal.pieces-preserved
pieces-preserved g c =
    let at = c.pieces in
    let n = c.in-Ok.count in
    let buf = c.take.new.buf in
    let rest = drop c.min-room.result at.block in
    let grown = c.in-Ok-extend_from_slice.ensures in
    let supposed = g.R.Source.supposed in
    record {
      text = rw (grown.items, take-append-le n buf rest c.in-Ok.ensures.count)
          (λ h. block_more (content_to_come (supposed c.args.source.now) h) (content_to_come (supposed at.source) h)
          (content_to_come (supposed c.take.new.self) h) n buf at.text.items (at.invariant.text h)
          (c.in-Ok.ensures.supposed h));
      short = still_short c.len-in-pieces.ensures grown.len (block_len n buf rest c.in-Ok.ensures.count)
          at.invariant.short c.if-count-len.false;
      asked = λ going. goes_on _ _ n c.in-Ok.ensures.asked (at.invariant.asked going) c.if-count-eq0.false;
    }
