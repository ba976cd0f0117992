use Rattle.std.proofs.Common.{◌≡◌, ◌≢◌, ℕ, ◌+◌, ◌<◌, ◌≤◌, ◌==◌, ◌∙◌, ap, sym, arith, true, false, Ok, Err, refl, drop}
use Rattle.std.proofs.lemmas.Bool.Decides.{nat_tests}
use Rattle.std.proofs.lemmas.Result.{err_from_is_err_and}
use Rattle.std.proofs.lemmas.Option.{slice_get_within}
use Rattle.cell_ascii_meaning.specs.GridTokens.{grid_fault_at_line}
use Rattle.cell_ascii_reading.specs.parts.ScanSteps.{scan_step_and_rest_after_blanks}
use Rattle.cell_ascii_reading.specs.Ahead.{bytes_to_come_for_content}
use Rattle.cell_ascii_reading.specs.Scan.{ScannerState}
use Rattle.cell_ascii_reading.specs.declared.scanner.ScanStepResult.TheVariants.{Blank, Feed, Word, End}
use Rattle.cell_ascii_meaning.specs.declared.grid_fault.GridKind.TheVariants.{Read, ReaderStuck}
use Rattle.cell_ascii_reading.proofs.ComingLemmas.{at_byte, past_byte, at_end}
use Rattle.cell_ascii_reading.proofs.MapLemmas.{chain, unmoved}
use Rattle.cell_ascii_reading.proofs.StepLemmas.{has_room, no_room, step-byte, step-ends, step-fails}
use Rattle.cell_ascii_reading.proofs.scanner.Scanner.step.Goals as goal

up_to : (a b : ℕ) → a < b → a + 1 ≤ b
up_to a b h = omega arith

is_ten : (b : ℕ) → b ≡ 10 → (b == 10) ≡ true
is_ten b e = grind (arith, nat_tests)

not_ten : (b : ℕ) → b ≢ 10 → (b == 10) ≡ false
not_ten b e = grind (arith, nat_tests)

-- the read failed
pub returns-in_err-b-clause-step : goal.returns-in_err-b-clause-step
returns-in_err-b-clause-step g c =
    let s = c.args.self.now in
    let t = c.peek.new.self in
    let p = err_from_is_err_and c.from_residual.result c.from_residual.ensures.1 in
    rw (p.1, p.2, c.in_err-b.ensures.fault) (record {
      value =
          chain _ _ _ _ _ _
          (unmoved (scan_step_and_rest_after_blanks s.line s.run) (bytes_to_come_for_content s.ahead)
          (bytes_to_come_for_content t.ahead) c.in_err-b.ensures.same)
          (at_end (scan_step_and_rest_after_blanks s.line s.run) (λ d. (Err (grid_fault_at_line Read s.line), d))
          (bytes_to_come_for_content t.ahead) true
          c.in_err-b.ensures.failed (step-fails s.line s.run));
      scan = c.peek.ensures.scan;
      run = rw c.peek.ensures.scan c.requires.run;
      end = tt;
    })

pub returns-in_err-b-clause-kind : goal.returns-in_err-b-clause-kind
returns-in_err-b-clause-kind g c =
    let p = err_from_is_err_and c.from_residual.result c.from_residual.ensures.1 in
    rw (p.1, p.2, c.in_err-b.ensures.fault) tt

-- the text ended
pub returns-in_default-clause-step : goal.returns-in_default-clause-step
returns-in_default-clause-step g c =
    let s = c.args.self.now in
    let t = c.peek.new.self in
    let end = rw c.in_default.is at c.in_ok-b.ensures.end in
    record {
      value =
          chain _ _ _ _ _ _
          (unmoved (scan_step_and_rest_after_blanks s.line s.run) (bytes_to_come_for_content s.ahead)
          (bytes_to_come_for_content t.ahead) c.in_ok-b.ensures.same)
          (at_end (scan_step_and_rest_after_blanks s.line s.run) (λ d. (Ok End, d))
          (bytes_to_come_for_content t.ahead) false end
          (step-ends s.line s.run));
      scan = c.peek.ensures.scan;
      run = rw c.peek.ensures.scan c.requires.run;
      end = end;
    }

-- a word begins
pub returns-then-not-is_space-clause-step : goal.returns-then-not-is_space-clause-step
returns-then-not-is_space-clause-step g c =
    let s = c.args.self.now in
    let buffered = rw c.in-Some.is at c.in_ok-b.ensures.byte in
    let word = sym c.is_space.ensures ∙ c.if-not-is_space.true in
    record {
      value =
          chain _ _ _ _ _ _ (unmoved (scan_step_and_rest_after_blanks s.line s.run) (bytes_to_come_for_content s.ahead)
          (bytes_to_come_for_content c.peek.new.self.ahead) c.in_ok-b.ensures.same)
          (at_byte (scan_step_and_rest_after_blanks s.line s.run)
          (λ d. (Ok Word, d)) c.peek.new.self.ahead c.in-Some.b buffered
          (λ bs f. step-byte s.line s.run c.in-Some.b bs f word refl refl));
      scan = c.peek.ensures.scan;
      run = rw c.peek.ensures.scan c.requires.run;
      end = tt;
    }

-- the run of spaces is too long
pub returns-then-self-ge1048576-clause-step : goal.returns-then-self-ge1048576-clause-step
returns-then-self-ge1048576-clause-step g c =
    let s = c.args.self.now in
    let was = c.self.view_is ∙ c.in_ok-b.ensures.scan in
    let full = no_room s.run (rw (ap (λ (v : ScannerState). v.run) was) at c.if-self-ge1048576.true) in
    let buffered = rw c.in-Some.is at c.in_ok-b.ensures.byte in
    let space = sym c.is_space.ensures ∙ c.if-not-is_space.false in
    record {
      value = rw (ap (λ (v : ScannerState). v.line) was)
          (chain _ _ _ _ _ _ (unmoved (scan_step_and_rest_after_blanks s.line s.run) (bytes_to_come_for_content s.ahead)
          (bytes_to_come_for_content c.peek.new.self.ahead) c.in_ok-b.ensures.same)
          (at_byte (scan_step_and_rest_after_blanks s.line s.run)
          (λ d. (Err (grid_fault_at_line ReaderStuck s.line), d))
          c.peek.new.self.ahead
          c.in-Some.b buffered
          (λ bs f. step-byte s.line s.run c.in-Some.b bs f space full refl)));
      scan = c.peek.ensures.scan;
      run = rw c.peek.ensures.scan c.requires.run;
      end = tt;
    }

-- a line feed was skipped
pub returns-then-b-eq10-clause-step : goal.returns-then-b-eq10-clause-step
returns-then-b-eq10-clause-step g c =
    let s = c.args.self.now in
    let was = c.self.view_is ∙ c.in_ok-b.ensures.scan in
    let buffered_then = c.skip_byte.ensures.buffered ∙ ap (λ (v : ScannerState). drop 1 v.ahead.buffered)
    c.self.view_is in
    let rest_then = c.skip_byte.ensures.rest ∙ ap (λ (v : ScannerState). v.ahead.rest) c.self.view_is in
    let room = has_room s.run (rw (ap (λ (v : ScannerState). v.run) was) at c.if-self-ge1048576.false) in
    let buffered = rw c.in-Some.is at c.in_ok-b.ensures.byte in
    let space = sym c.is_space.ensures ∙ c.if-not-is_space.false in
    record {
      value =
          chain _ _ _ _ _ _ (unmoved (scan_step_and_rest_after_blanks s.line s.run) (bytes_to_come_for_content s.ahead)
          (bytes_to_come_for_content c.peek.new.self.ahead) c.in_ok-b.ensures.same)
          (past_byte (scan_step_and_rest_after_blanks s.line s.run)
          (λ d. (Ok Feed, d)) c.peek.new.self.ahead c.skip_byte.new.self
          c.in-Some.b buffered buffered_then rest_then
          (λ bs f. step-byte s.line s.run c.in-Some.b bs f space room (is_ten c.in-Some.b c.if-b-eq10.true)));
      scan = ap (λ (v : ScannerState). record v { line = v.line + 1; run = v.run + 1; ahead = c.skip_byte.new.self })
          was;
      run = up_to _ _ c.if-self-ge1048576.false;
      end = tt;
    }

-- a blank was skipped
pub returns-clause-step : goal.returns-clause-step
returns-clause-step g c =
    let s = c.args.self.now in
    let was = c.self.view_is ∙ c.in_ok-b.ensures.scan in
    let buffered_then = c.skip_byte.ensures.buffered ∙ ap (λ (v : ScannerState). drop 1 v.ahead.buffered)
    c.self.view_is in
    let rest_then = c.skip_byte.ensures.rest ∙ ap (λ (v : ScannerState). v.ahead.rest) c.self.view_is in
    let room = has_room s.run (rw (ap (λ (v : ScannerState). v.run) was) at c.if-self-ge1048576.false) in
    let buffered = rw c.in-Some.is at c.in_ok-b.ensures.byte in
    let space = sym c.is_space.ensures ∙ c.if-not-is_space.false in
    record {
      value =
          chain _ _ _ _ _ _ (unmoved (scan_step_and_rest_after_blanks s.line s.run) (bytes_to_come_for_content s.ahead)
          (bytes_to_come_for_content c.peek.new.self.ahead) c.in_ok-b.ensures.same)
          (past_byte (scan_step_and_rest_after_blanks s.line s.run)
          (λ d. (Ok Blank, d)) c.peek.new.self.ahead c.skip_byte.new.self
          c.in-Some.b buffered buffered_then rest_then
          (λ bs f. step-byte s.line s.run c.in-Some.b bs f space room (not_ten c.in-Some.b c.if-b-eq10.false)));
      scan = ap (λ (v : ScannerState). record v { run = v.run + 1; ahead = c.skip_byte.new.self }) was;
      run = up_to _ _ c.if-self-ge1048576.false;
      end = tt;
    }

pub skip_byte-requires : goal.skip_byte-requires
skip_byte-requires g c =
    let buffered = rw c.in-Some.is at c.in_ok-b.ensures.byte in
    rw (ap (λ (v : ScannerState). v.ahead.buffered) c.self.view_is) (slice_get_within c.peek.new.self.ahead.buffered 0 c.in-Some.b buffered)

pub invariant_of-self : goal.invariant_of-self
invariant_of-self g c = (up_to _ _ c.if-self-ge1048576.false, c.self.invariant.1)
