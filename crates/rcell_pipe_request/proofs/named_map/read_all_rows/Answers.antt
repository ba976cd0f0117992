use Rattle.std.proofs.Common.{◌∙◌, ◌+◌, ℕ, [], length, arith, ap}
use Rattle.rcell_pipe_request.specs.Requests.{next_row_reading}
use Rattle.rcell_pipe_request.proofs.StepLemmas.{one-step-on, all-steps-done, step-fails}
use Rattle.rcell_pipe_request.proofs.named_map.read_all_rows.Goals as goal

pub returns-in-Err-clause-reads : goal.returns-in-Err-clause-reads
returns-in-Err-clause-reads g c =
    let step = next_row_reading c.args.maps c.args.format (length c.args.cells.now) in
    step-fails step [] c.args.rows c.args.feed.now c.loop-i.i c.loop-i.builder.rows c.loop-i.feed c.loop-i.invariant.0
    c.in-Err.stop _ (omega arith) (rw c.loop-i.auto.cells at c.in-Err.ensures.reads)

pub loop-i-preserved : goal.loop-i-preserved
loop-i-preserved g c =
    let step = next_row_reading c.args.maps c.args.format (length c.args.cells.now) in (
      one-step-on step [] c.args.rows c.args.feed.now c.loop-i.i c.loop-i.builder.rows c.loop-i.feed
          c.loop-i.invariant.0 _ _ (omega arith) (rw c.loop-i.auto.cells at c.in-Ok.ensures.reads),
      c.in-Ok.ensures.count ∙ ap (λ (n : ℕ). n + 1) c.loop-i.invariant.1,
      c.push_row.ensures.region ∙ c.loop-i.invariant.2,
      c.push_row.ensures.width ∙ c.loop-i.auto.cells,
      c.push_row.ensures.bytes ∙ c.loop-i.auto.bytes,
      c.push_row.ensures.mask ∙ c.loop-i.auto.mask,
    )

pub returns-clause-reads : goal.returns-clause-reads
returns-clause-reads g c =
    all-steps-done (next_row_reading c.args.maps c.args.format (length c.args.cells.now)) [] c.args.rows
    c.args.feed.now c.loop-i.i c.loop-i.builder.rows c.loop-i.feed c.loop-i.invariant.0 (omega arith)
