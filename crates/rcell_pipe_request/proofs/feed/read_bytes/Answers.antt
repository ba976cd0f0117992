use Rattle.std.proofs.Common.{◌≡◌, ◌∙◌, ◌++◌, ℕ, List, arith, take, length, Err, sym, ap, subst, true}
use Rattle.std.proofs.lemmas.List.{length-take, length-append}
use Rattle.rcell_pipe_request.specs.Feeds.{RequestReaderValue, request_reader_may_hold_bytes, left}
use Rattle.rcell_pipe_request.proofs.FeedLemmas.{read_more, bytes_reading-all, bytes_reading-short}
use Rattle.rcell_pipe_request.proofs.feed.read_bytes.Goals as goal

pub returns-in-Err : goal.returns-in-Err
returns-in-Err g c = (
  λ w is.
      let end = c.in-Err.ensures.end w is in
      let same = c.refill.ensures.same w is in
      let before = c.loop-feed.invariant.1 w same.0 in (
        before.0,
        bytes_reading-short c.args.len c.loop-feed.text.items (left w c.args.feed.now) (left w c.loop-feed.feed) before.1 end.0
            (omega arith) ∙ ap (λ k. Err k) (sym end.1),
      ),
  λ going. c.in-Err.ensures.asked (c.loop-feed.invariant.2 going),
)

pub loop-feed-preserved : goal.loop-feed-preserved
loop-feed-preserved g c =
    let n = c.min-count.result in
    let grown : c.extend_from_slice.new.self.items ≡ c.loop-feed.text.items ++ take n c.refill.new.self.unread =
    c.in_ok-extend_from_slice.ensures.items ∙ ap (λ (h : List ℕ). c.loop-feed.text.items ++ take n h) c.unread-unread.ensures in (
      omega (arith, ap length grown, length-append c.loop-feed.text.items (take n c.refill.new.self.unread), length-take n c.refill.new.self.unread, c.len-in-loop-feed.ensures, c.min-count.ensures, c.loop-feed.invariant.0),
      λ w is.
          let now = subst (λ (f : RequestReaderValue). request_reader_may_hold_bytes w f ≡ true) c.pass.ensures is in
          let same = c.refill.ensures.same w now in
          let before = c.loop-feed.invariant.1 w same.0 in (
            before.0,
            read_more w c.args.feed.now c.loop-feed.feed c.refill.new.self c.pass.new.self c.loop-feed.text.items
                c.extend_from_slice.new.self.items n before.1 same.1 c.pass.ensures grown,
          ),
      λ going. ap (λ (f : RequestReaderValue). f.asked) c.pass.ensures
          ∙ c.in-Ok.ensures.asked (c.loop-feed.invariant.2 going),
    )

pub returns : goal.returns
returns g c = (
  λ w is.
      let before = c.loop-feed.invariant.1 w is in (
        before.0,
        bytes_reading-all c.args.len c.loop-feed.text.items (left w c.args.feed.now) (left w c.loop-feed.feed) before.1
            (omega arith),
      ),
  c.loop-feed.invariant.2,
)
