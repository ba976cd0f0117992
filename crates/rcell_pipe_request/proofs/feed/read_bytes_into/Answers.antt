use Rattle.std.proofs.Common.{◌≡◌, ◌∙◌, ◌+◌, ◌++◌, ℕ, List, arith, take, length, Err, sym, ap, subst, true}
use Rattle.std.proofs.lemmas.List.{length-take, take_all}
use Rattle.rcell_pipe_request.specs.Feeds.{RequestReaderValue, request_reader_may_hold_bytes, left, after}
use Rattle.rcell_pipe_request.proofs.FeedLemmas.{read_more, bytes_reading-all, bytes_reading-short}
use Rattle.rcell_pipe_request.proofs.feed.read_bytes_into.Goals as goal

pub returns-in-Err-clause-bytes : goal.returns-in-Err-clause-bytes
returns-in-Err-clause-bytes g c = (
  λ w is.
      let end = c.in-Err.ensures.end w is in
      let same = c.refill.ensures.same w is in
      let before = c.loop-done.invariant.1 w same.0 in (
        before.0,
        bytes_reading-short (length c.args.out.now) (take c.loop-done.done c.loop-done.out) (left w c.args.feed.now)
            (left w c.loop-done.feed) before.1 end.0 (omega (arith, length-take c.loop-done.done c.loop-done.out))
            ∙ ap (λ k. Err k) (sym end.1),
      ),
  λ going. c.in-Err.ensures.asked (c.loop-done.invariant.2 going),
)

pub loop-done-preserved : goal.loop-done-preserved
loop-done-preserved g c =
    let n = c.min-count.result in
    let out = c.copy_bytes_at.new.out in
    let len : length (take n c.unread-unread.result.now) ≡ n = omega (arith, length-take n c.unread-unread.result.now) in
    let grown : take (c.loop-done.done + n) out ≡ take c.loop-done.done c.loop-done.out ++ take n c.refill.new.self.unread =
    ap (λ (k : ℕ). take (c.loop-done.done + k) out) (sym len) ∙ c.copy_bytes_at.ensures.front
    ∙ ap (λ (h : List ℕ). take c.loop-done.done c.loop-done.out ++ take n h) c.unread-unread.ensures in (
      omega arith,
      λ w is.
          let now = subst (λ (f : RequestReaderValue). request_reader_may_hold_bytes w f ≡ true) c.pass.ensures is in
          let same = c.refill.ensures.same w now in
          let before = c.loop-done.invariant.1 w same.0 in (
            before.0,
            read_more w c.args.feed.now c.loop-done.feed c.refill.new.self c.pass.new.self
                (take c.loop-done.done c.loop-done.out) (take (c.loop-done.done + n) out) n before.1 same.1
                c.pass.ensures grown,
          ),
      λ going. ap (λ (f : RequestReaderValue). f.asked) c.pass.ensures
          ∙ c.in-Ok.ensures.asked (c.loop-done.invariant.2 going),
    )

pub returns-clause-bytes : goal.returns-clause-bytes
returns-clause-bytes g c = (
  λ w is.
      let before = c.loop-done.invariant.1 w is in (
        before.0,
        bytes_reading-all (length c.args.out.now) c.loop-done.out (left w c.args.feed.now) (left w c.loop-done.feed)
            (before.1 ∙ ap (λ (xs : List ℕ). after xs (left w c.loop-done.feed))
            (take_all c.loop-done.done c.loop-done.out (omega arith))) c.loop-done.auto.out,
      ),
  c.loop-done.invariant.2,
)
