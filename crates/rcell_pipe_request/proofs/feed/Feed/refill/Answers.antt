use Rattle.std.proofs.Common.{ℕ, List, ◌≡◌, ◌∙◌, ap, sym, subst, true, false, drop, take, arith, ◌++◌, [], Ok, Err, append-nil}
use Rattle.std.proofs.lemmas.List.{with_items_is}
use Rattle.std.specs.Vec.{with_items}
use Rattle.cell_core_devices.specs.Asking.{progress_after_take}
use Rattle.cell_core_devices.specs.declared.source.Asked.{Asked}
use Rattle.cell_core_devices.specs.declared.device.DeviceFault.{DeviceFault}
use Rattle.rcell_pipe_request.specs.RequestFields.{error_kind_of_source_end}
use Rattle.rcell_pipe_request.specs.Feeds.{RequestReaderValue, request_reader_may_hold_bytes, left}
use Rattle.rcell_pipe_request.proofs.GivenLemmas.{NoMore, no_more, some_more, at_end}
use Rattle.rcell_pipe_request.proofs.feed.Feed.refill.Goals as goal

abbrev feed : List ℕ → List ℕ → Asked → RequestReaderValue
feed unread gave asked = record { unread = unread; gave = gave; asked = asked }

-- a call that returns 0 bytes is the end
ended : (g : _) (c : goal.In-Ok-eq0 g)
    → NoMore c.args.self.now (feed (drop c.self.inside.at (take c.self.inside.end (with_items c.self.inside.block c.take.new.buf).items)) c.take.new.self.0.1
    c.take.new.self.1) false
ended g c =
    let inside = c.self.inside in
    let zero = c.in-Ok-eq0.field-0-test in
    let now = feed (drop inside.at (take inside.end (with_items inside.block c.take.new.buf).items)) c.take.new.self.0.1 c.take.new.self.1 in
    subst (λ (f : RequestReaderValue). NoMore f now false) c.self.view_is
    (no_more _ now false (record {}) (at_end inside.at inside.end inside.block.items (omega arith))
    (at_end inside.at inside.end (with_items inside.block c.take.new.buf).items (omega arith))
    (c.in-Ok-eq0.ensures.gave ∙ ap (λ n. inside.source.0.1 ++ take n c.take.new.buf) zero ∙ append-nil inside.source.0.1)
    (c.in-Ok-eq0.ensures.asked ∙ ap (λ n. progress_after_take {E = DeviceFault} inside.source.1 (Ok n)) zero))

pub returns-in-Ok-eq0-clause-same : goal.returns-in-Ok-eq0-clause-same
returns-in-Ok-eq0-clause-same g c = λ w is. let all = ended g c w is in (all.0, all.1)

pub returns-in-Ok-eq0-clause-end : goal.returns-in-Ok-eq0-clause-end
returns-in-Ok-eq0-clause-end g c = λ w is. let all = ended g c w is in (all.2, ap error_kind_of_source_end (sym all.3))

pub returns-in-Ok-clause-same : goal.returns-in-Ok-clause-same
returns-in-Ok-clause-same g c = λ w is.
    let inside = c.self.inside in
    let items = with_items_is inside.block c.take.new.buf (c.take.auto.buf ∙ c.as_mut_slice.ensures.len) in
    let now = feed (take c.in-Ok.count (with_items inside.block c.take.new.buf).items) c.take.new.self.0.1 c.take.new.self.1 in
    subst (λ (f : RequestReaderValue). (request_reader_may_hold_bytes w f ≡ true)
    × (left w now ≡ left w f)) c.self.view_is
    (some_more w _ now c.in-Ok.count (at_end inside.at inside.end inside.block.items (omega arith)) c.in-Ok.count-test.1
    c.in-Ok.ensures.asked (c.in-Ok.ensures.gave ∙ ap (λ xs. inside.source.0.1 ++ take c.in-Ok.count xs) (sym items)) is)

-- a call that returns an `Err` is a failure
failed : (g : _) (c : goal.In-Err g)
    → NoMore c.args.self.now (feed (drop c.self.inside.at (take c.self.inside.end (with_items c.self.inside.block c.take.new.buf).items)) c.take.new.self.0.1
    c.take.new.self.1) true
failed g c =
    let inside = c.self.inside in
    let now = feed (drop inside.at (take inside.end (with_items inside.block c.take.new.buf).items)) c.take.new.self.0.1 c.take.new.self.1 in
    subst (λ (f : RequestReaderValue). NoMore f now true) c.self.view_is
    (no_more _ now true c.in-Err.field-0 (at_end inside.at inside.end inside.block.items (omega arith))
    (at_end inside.at inside.end (with_items inside.block c.take.new.buf).items (omega arith)) c.in-Err.ensures.kept c.in-Err.ensures.asked)

pub returns-in-Err-clause-same : goal.returns-in-Err-clause-same
returns-in-Err-clause-same g c = λ w is. let all = failed g c w is in (all.0, all.1)

pub returns-in-Err-clause-end : goal.returns-in-Err-clause-end
returns-in-Err-clause-end g c = λ w is. let all = failed g c w is in (all.2, ap error_kind_of_source_end (sym all.3))
