use Rattle.std.proofs.Common.{◌≡◌, ◌∙◌, ℕ, ◌+◌, ap, refl, Bool, false, Result, Ok, Err}
use Rattle.cell_core_devices.specs.Asking.{SourceKnowledge}
use Rattle.cell_ascii_meaning.specs.Kinds.{is_failed_read}
use Rattle.cell_ascii_meaning.specs.declared.grid_fault.GridFault.{GridFault}
use Rattle.cell_ascii_reading.specs.declared.scanner.WordOrLineEnd.{WordOrLineEnd}
use Rattle.cell_ascii_reading.specs.declared.scanner.WordOrLineEnd.TheVariants.{Word, Feed, End}
use Rattle.cell_ascii_reading.proofs.MapLemmas.{chain, stays}
use Rattle.cell_ascii_reading.proofs.StepLemmas.{room_still, smaller, step_reports}
use Rattle.cell_ascii_reading.proofs.scanner.Scanner.skip_blanks.Goals as goal

-- a result is not both a word and the end of the text
word_or_failed_read : (P : Type 0) (r : Result WordOrLineEnd GridFault) → r ≡ Ok Word → r ≡ Ok End → P
word_or_failed_read P r one other = cc

feed_end : (P : Type 0) (r : Result WordOrLineEnd GridFault) → r ≡ Ok Feed → r ≡ Ok End → P
feed_end P r one other = cc

err_end : (P : Type 0) (r : Result WordOrLineEnd GridFault) (d : GridFault) → r ≡ Err d → r ≡ Ok End → P
err_end P r d one other = cc

pub blanks-init : goal.blanks-init
blanks-init g c = record {
  gap = stays _ _;
  line = refl;
  run = c.requires.run;
  word = refl;
  sure = refl;
}

pub step-requires-clause-room : goal.step-requires-clause-room
step-requires-clause-room g c =
    room_still c.args.self.now.line _ c.blanks.self.line c.blanks.self.run c.blanks.invariant.line c.requires.room

pub step-requires-clause-run : goal.step-requires-clause-run
step-requires-clause-run g c = c.blanks.invariant.run

pub blanks-smaller : goal.blanks-smaller
blanks-smaller g c =
    let step = step_reports c.blanks.invariant.run (rw c.in-Ok-Blank.field-0-is at c.in-Ok-Blank.ensures.step) in
    smaller c.blanks.self.run c.step.new.self.run step.run c.in-Ok-Blank.ensures.step.run

pub blanks-preserved : goal.blanks-preserved
blanks-preserved g c =
    let step = step_reports c.blanks.invariant.run (rw c.in-Ok-Blank.field-0-is at c.in-Ok-Blank.ensures.step) in
    record {
      gap = chain _ _ _ _ _ _ c.blanks.invariant.gap step.gap;
      line = step.line ∙ c.blanks.invariant.line;
      run = c.in-Ok-Blank.ensures.step.run;
      word = step.word ∙ c.blanks.invariant.word;
      sure = ap (λ (h : SourceKnowledge). h.sure) c.in-Ok-Blank.ensures.heard ∙ c.blanks.invariant.sure;
    }

pub returns-in-Ok-Feed : goal.returns-in-Ok-Feed
returns-in-Ok-Feed g c =
    let step = step_reports c.blanks.invariant.run (rw c.in-Ok-Feed.field-0-is at c.in-Ok-Feed.ensures.step) in
    record {
      gap = chain _ _ _ _ _ _ c.blanks.invariant.gap step.gap;
      line = step.line ∙ ap (λ (n : ℕ). n + 1) c.blanks.invariant.line;
      run = c.in-Ok-Feed.ensures.step.run;
      word = step.word ∙ c.blanks.invariant.word;
      end = λ e. feed_end _ (Ok _) refl e;
      kind = tt;
      heard = c.in-Ok-Feed.ensures.heard ∙ ap (λ (sure : Bool). record { sure = sure; failed = false }) c.blanks.invariant.sure;
    }

pub returns-in-Ok-Word : goal.returns-in-Ok-Word
returns-in-Ok-Word g c =
    let step = step_reports c.blanks.invariant.run (rw c.in-Ok-Word.field-0-is at c.in-Ok-Word.ensures.step) in
    record {
      gap = chain _ _ _ _ _ _ c.blanks.invariant.gap step.gap;
      line = step.line ∙ c.blanks.invariant.line;
      run = c.in-Ok-Word.ensures.step.run;
      word = step.word ∙ c.blanks.invariant.word;
      end = λ e. word_or_failed_read _ (Ok _) refl e;
      kind = tt;
      heard = c.in-Ok-Word.ensures.heard ∙ ap (λ (sure : Bool). record { sure = sure; failed = false }) c.blanks.invariant.sure;
    }

pub returns-in-Ok-End : goal.returns-in-Ok-End
returns-in-Ok-End g c =
    let step = step_reports c.blanks.invariant.run (rw c.in-Ok-End.field-0-is at c.in-Ok-End.ensures.step) in
    record {
      gap = chain _ _ _ _ _ _ c.blanks.invariant.gap step.gap;
      line = step.line ∙ c.blanks.invariant.line;
      run = c.in-Ok-End.ensures.step.run;
      word = step.word ∙ c.blanks.invariant.word;
      end = λ e. (rw c.in-Ok-End.field-0-is at c.in-Ok-End.ensures.step).end;
      kind = tt;
      heard = c.in-Ok-End.ensures.heard ∙ ap (λ (sure : Bool). record { sure = sure; failed = false }) c.blanks.invariant.sure;
    }

pub returns-in-Err : goal.returns-in-Err
returns-in-Err g c =
    let step = step_reports c.blanks.invariant.run c.in-Err.ensures.step in
    record {
      gap = chain _ _ _ _ _ _ c.blanks.invariant.gap step.gap;
      line = step.line ∙ c.blanks.invariant.line;
      run = c.in-Err.ensures.step.run;
      word = step.word ∙ c.blanks.invariant.word;
      end = λ e. err_end _ (Err _) _ refl e;
      kind = c.in-Err.ensures.kind;
      heard = c.in-Err.ensures.heard ∙ ap (λ (sure : Bool). record { sure = sure; failed = is_failed_read c.in-Err.fault.kind }) c.blanks.invariant.sure;
    }
