use Rattle.std.proofs.Common.{◌≡◌, ◌∙◌, ◌++◌, ◌∷◌, List, ap, sym, [], take, replicate, append_assoc, append-nil}
use Rattle.cell_core.specs.Runs.{RunValue, cells_of_runs}
use Rattle.cell_ascii_writer.specs.WrittenRuns.{cell_texts_each_after_a_space}
use Rattle.cell_ascii_writer.proofs.PendingLemmas.{pending_none, pending_more, pending_then, pending_all}
use Rattle.cell_ascii_writer.proofs.RunWritingLemmas.{cells_text-more}
use Rattle.cell_ascii_writer.proofs.writer.write_runs.Goals as goal

pub loop-cell-init : goal.loop-cell-init
loop-cell-init g c = record {
  text = rw append-nil (pending_none (take c.args.start c.args.line.now));
  whole = c.into_iter-cell-iterator.ensures.into_iter_gives;
  within = c.requires.start;
  room = c.requires.room;
}

pub loop-cell-preserved : goal.loop-cell-preserved
loop-cell-preserved g c =
    let null = c.args.fields.now in
    let done : List RunValue = c.loop-cell.yielded in
    let rest : List RunValue = c.next.new.self in
    let run : RunValue = (c.in-Some.cell, c.in-Some.count) in
    let front = take c.args.start c.args.line.now in
    let more = cell_texts_each_after_a_space null (replicate c.in-Some.count c.in-Some.cell) in
    record {
      text = rw (cells_text-more null done c.in-Some.cell c.in-Some.count, ← append_assoc front (cell_texts_each_after_a_space null (cells_of_runs done)) more)
          (pending_then (pending_more more c.loop-cell.invariant.text) c.write_run-end.ensures.text);
      whole = append_assoc done (run ∷ []) rest
          ∙ ap (λ (l : List RunValue). done ++ l) (sym c.in-Some.ensures.steps) ∙ c.loop-cell.invariant.whole;
      within = c.write_run-end.ensures.end;
      room = c.write_run-end.auto.line ∙ c.loop-cell.invariant.room;
    }

pub returns : goal.returns
returns g c =
    let done : List RunValue = c.loop-cell.yielded in
    let all : done ≡ c.args.runs =
    sym (append-nil done) ∙ ap (λ (l : List RunValue). done ++ l) (sym c.in-None.ensures.steps.0) ∙
    c.loop-cell.invariant.whole in
    rw all at (pending_all c.loop-cell.invariant.text c.push_first_bytes_of_line.ensures)
