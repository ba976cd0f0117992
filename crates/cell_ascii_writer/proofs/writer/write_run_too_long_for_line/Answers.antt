use Rattle.std.proofs.Common.{◌≡◌, ◌∙◌, ◌+◌, ◌-◌, ℕ, List, ◌++◌, ap, sym, append_assoc, append-nil, take, replicate, arith}
use Rattle.cell_core_devices.proofs.BlockLemmas.{appends_then}
use Rattle.cell_ascii_writer.specs.WrittenRuns.{cell_texts_each_after_a_space}
use Rattle.cell_ascii_writer.proofs.RunWritingLemmas.{spaced-more}
use Rattle.cell_ascii_writer.proofs.writer.write_run_too_long_for_line.Goals as goal

pub loop-left-init : goal.loop-left-init
loop-left-init g c =
    let none : c.args.run.1 - c.args.run.1 ≡ 0 = omega arith in
    record {
      text = rw (none, append-nil) c.push_first_bytes_of_line.ensures;
      within = omega arith;
      room = c.requires.room;
    }

pub loop-left-preserved : goal.loop-left-preserved
loop-left-preserved g c =
    let null = c.args.fields.now in
    let cell = c.args.run.0 in
    let front = take c.args.start c.args.line.now in
    let now = c.loop-left.invariant in
    let done = c.args.run.1 - c.loop-left.left in
    let more : c.args.run.1 - (c.loop-left.left - 128) ≡ done + 128 = omega (arith, now.within, c.loop-left-test.true) in
    record {
      text = rw (more, spaced-more null done 128 cell, ← append_assoc front (cell_texts_each_after_a_space null (replicate done cell)) (cell_texts_each_after_a_space null (replicate 128 cell)))
          (appends_then now.text (rw c.put_run_into_line-end.ensures.text at
          c.push_first_bytes_of_line-in-loop-left.ensures));
      within = omega (arith, now.within);
      room = c.put_run_into_line-end.auto.line ∙ now.room;
    }

pub returns-clause-text : goal.returns-clause-text
returns-clause-text g c =
    let null = c.args.fields.now in
    let cell = c.args.run.0 in
    let start = take c.args.start c.args.line.now in
    let now = c.loop-left.invariant in
    let done = c.args.run.1 - c.loop-left.left in
    let all : done + c.loop-left.left ≡ c.args.run.1 = omega (arith, now.within) in
    let front = start ++ cell_texts_each_after_a_space null (replicate done cell) in
    let last = cell_texts_each_after_a_space null (replicate c.loop-left.left cell) in
    record {
      front = front;
      whole = ap (λ (l : List ℕ). front ++ l) c.put_run_into_line.ensures.text
          ∙ append_assoc start (cell_texts_each_after_a_space null (replicate done cell)) last
          ∙ ap (λ (l : List ℕ). start ++ l) (sym (spaced-more null done c.loop-left.left cell) ∙ ap (λ (k : ℕ). cell_texts_each_after_a_space null (replicate k cell)) all);
      appends = now.text;
    }
