use Rattle.std.proofs.Common.{◌≡◌, ◌∙◌, ap, refl, Bool, false, Result, Ok, Err}
use Rattle.cell_core_devices.specs.Asking.{SourceKnowledge}
use Rattle.cell_ascii_meaning.specs.Kinds.{is_failed_read}
use Rattle.cell_ascii_meaning.specs.declared.grid_fault.GridFault.{GridFault}
use Rattle.cell_ascii_reading.specs.declared.scanner.WordOrTextEnd.{WordOrTextEnd}
use Rattle.cell_ascii_reading.specs.declared.scanner.WordOrTextEnd.TheVariants.{Word, End}
use Rattle.cell_ascii_reading.proofs.MapLemmas.{chain, stays}
use Rattle.cell_ascii_reading.proofs.StepLemmas.{room_left, smaller, lines_still, lines_end, further_still, further_same, same_line, step_reports}
use Rattle.cell_ascii_reading.proofs.scanner.Scanner.skip_spaces.Goals as goal

-- a result is not both a word and the end of the text
word_or_failed_read : (P : Type 0) (r : Result WordOrTextEnd GridFault) → r ≡ Ok Word → r ≡ Ok End → P
word_or_failed_read P r one other = cc

err_end : (P : Type 0) (r : Result WordOrTextEnd GridFault) (d : GridFault) → r ≡ Err d → r ≡ Ok End → P
err_end P r d one other = cc

pub spaces-init : goal.spaces-init
spaces-init g c = record {
  starts = stays _ _;
  lines = same_line _;
  run = c.requires.run;
  further = same_line _;
  word = refl;
  sure = refl;
}

pub step-requires-clause-room : goal.step-requires-clause-room
step-requires-clause-room g c =
    room_left c.args.self.now.line c.args.self.now.run c.spaces.self.line c.spaces.self.run _ c.spaces.invariant.lines c.requires.room

pub step-requires-clause-run : goal.step-requires-clause-run
step-requires-clause-run g c = c.spaces.invariant.run

pub spaces-smaller-in-Ok-Blank : goal.spaces-smaller-in-Ok-Blank
spaces-smaller-in-Ok-Blank g c =
    let step = step_reports c.spaces.invariant.run (rw c.in-Ok-Blank.field-0-is at c.in-Ok-Blank.ensures.step) in
    smaller c.spaces.self.run c.step.new.self.run step.run c.in-Ok-Blank.ensures.step.run

pub spaces-preserved-in-Ok-Blank : goal.spaces-preserved-in-Ok-Blank
spaces-preserved-in-Ok-Blank g c =
    let o = c.args.self.now in
    let s = c.spaces.self in
    let t = c.step.new.self in
    let step = step_reports c.spaces.invariant.run (rw c.in-Ok-Blank.field-0-is at c.in-Ok-Blank.ensures.step) in
    record {
      starts = chain _ _ _ _ _ _ c.spaces.invariant.starts step.starts;
      lines = lines_still o.line o.run s.line s.run t.line t.run c.spaces.invariant.lines step.lines;
      run = c.in-Ok-Blank.ensures.step.run;
      further = further_still o.run s.run t.run c.spaces.invariant.further step.run;
      word = step.word ∙ c.spaces.invariant.word;
      sure = ap (λ (h : SourceKnowledge). h.sure) c.in-Ok-Blank.ensures.heard ∙ c.spaces.invariant.sure;
    }

pub spaces-smaller : goal.spaces-smaller
spaces-smaller g c =
    let step = step_reports c.spaces.invariant.run (rw c.in-Ok-Feed.field-0-is at c.in-Ok-Feed.ensures.step) in
    smaller c.spaces.self.run c.step.new.self.run step.run c.in-Ok-Feed.ensures.step.run

pub spaces-preserved : goal.spaces-preserved
spaces-preserved g c =
    let o = c.args.self.now in
    let s = c.spaces.self in
    let t = c.step.new.self in
    let step = step_reports c.spaces.invariant.run (rw c.in-Ok-Feed.field-0-is at c.in-Ok-Feed.ensures.step) in
    record {
      starts = chain _ _ _ _ _ _ c.spaces.invariant.starts step.starts;
      lines = lines_still o.line o.run s.line s.run t.line t.run c.spaces.invariant.lines step.lines;
      run = c.in-Ok-Feed.ensures.step.run;
      further = further_still o.run s.run t.run c.spaces.invariant.further step.run;
      word = step.word ∙ c.spaces.invariant.word;
      sure = ap (λ (h : SourceKnowledge). h.sure) c.in-Ok-Feed.ensures.heard ∙ c.spaces.invariant.sure;
    }

pub returns-in-Ok-Word : goal.returns-in-Ok-Word
returns-in-Ok-Word g c =
    let o = c.args.self.now in
    let s = c.spaces.self in
    let t = c.step.new.self in
    let step = step_reports c.spaces.invariant.run (rw c.in-Ok-Word.field-0-is at c.in-Ok-Word.ensures.step) in
    record {
      starts = chain _ _ _ _ _ _ c.spaces.invariant.starts step.starts;
      lines = lines_end o.line o.run s.line s.run t.line t.run c.spaces.invariant.lines step.lines c.in-Ok-Word.ensures.step.run;
      run = c.in-Ok-Word.ensures.step.run;
      further = further_same o.run s.run t.run c.spaces.invariant.further step.run;
      word = step.word ∙ c.spaces.invariant.word;
      end = λ e. word_or_failed_read _ (Ok _) refl e;
      kind = tt;
      heard = c.in-Ok-Word.ensures.heard ∙ ap (λ (sure : Bool). record { sure = sure; failed = false }) c.spaces.invariant.sure;
    }

pub returns-in-Ok-End : goal.returns-in-Ok-End
returns-in-Ok-End g c =
    let o = c.args.self.now in
    let s = c.spaces.self in
    let t = c.step.new.self in
    let step = step_reports c.spaces.invariant.run (rw c.in-Ok-End.field-0-is at c.in-Ok-End.ensures.step) in
    record {
      starts = chain _ _ _ _ _ _ c.spaces.invariant.starts step.starts;
      lines = lines_end o.line o.run s.line s.run t.line t.run c.spaces.invariant.lines step.lines c.in-Ok-End.ensures.step.run;
      run = c.in-Ok-End.ensures.step.run;
      further = further_same o.run s.run t.run c.spaces.invariant.further step.run;
      word = step.word ∙ c.spaces.invariant.word;
      end = λ e. (rw c.in-Ok-End.field-0-is at c.in-Ok-End.ensures.step).end;
      kind = tt;
      heard = c.in-Ok-End.ensures.heard ∙ ap (λ (sure : Bool). record { sure = sure; failed = false }) c.spaces.invariant.sure;
    }

pub returns-in-Err : goal.returns-in-Err
returns-in-Err g c =
    let o = c.args.self.now in
    let s = c.spaces.self in
    let t = c.step.new.self in
    let step = step_reports c.spaces.invariant.run c.in-Err.ensures.step in
    record {
      starts = chain _ _ _ _ _ _ c.spaces.invariant.starts step.starts;
      lines = lines_end o.line o.run s.line s.run t.line t.run c.spaces.invariant.lines step.lines c.in-Err.ensures.step.run;
      run = c.in-Err.ensures.step.run;
      further = further_same o.run s.run t.run c.spaces.invariant.further step.run;
      word = step.word ∙ c.spaces.invariant.word;
      end = λ e. err_end _ (Err _) _ refl e;
      kind = c.in-Err.ensures.kind;
      heard = c.in-Err.ensures.heard ∙ ap (λ (sure : Bool). record { sure = sure; failed = is_failed_read c.in-Err.fault.kind }) c.spaces.invariant.sure;
    }
