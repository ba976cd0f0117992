use Rattle.std.proofs.Common.{arith}
use Rattle.std.proofs.lemmas.Result.{err_from_is_err_and}
use Rattle.rcell_script.proofs.ReadingLemmas.{Stands-start, Stands-more, fault_of_line, script_at_end, fault_at_end}
use Rattle.rcell_script.proofs.SoundLemmas.{IsSound-start}
use Rattle.rcell_script.proofs.script_parsing.parse_script.Goals as goal

pub loop-i-init : goal.loop-i-init
loop-i-init c = record {
  stands = rw c.in-Ok-new.ensures (Stands-start c.args.known.now c.args.text.now c.deref-line-items.result.now (rw c.deref-line-items.ensures.value c.in-Ok.ensures));
  sound = rw c.in-Ok-new.ensures (IsSound-start c.args.known.now);
}

pub loop-i-preserved : goal.loop-i-preserved
loop-i-preserved c = record {
  stands = Stands-more _ c.loop-i.read _ c.deref-line-items.result.now c.loop-i.i _ c.loop-i-test.true c.loop-i.invariant.stands c.in_ok-read.ensures.next;
  sound = c.in_ok-read.ensures.sound c.args.known.now c.loop-i.invariant.sound;
}

pub returns-in_err-read-clause-err : goal.returns-in_err-read-clause-err
returns-in_err-read-clause-err c =
    let p = err_from_is_err_and c.from_residual.result c.from_residual.ensures.1 in
    rw (p.1, p.2) (λ h. fault_of_line c.args.known.now c.args.text.now c.loop-i.read c.deref-line-items.result.now
    c.loop-i.i _ _ c.loop-i-test.true c.loop-i.invariant.stands (c.in_err-read.ensures.next h))

pub returns-clause-ok : goal.returns-clause-ok
returns-clause-ok c = script_at_end c.args.known.now c.args.text.now c.loop-i.read c.deref-line-items.result.now c.loop-i.i _ (omega (arith, c.loop-i-test.false)) c.loop-i.invariant.stands c.into_script.ensures

pub returns-clause-err : goal.returns-clause-err
returns-clause-err c = fault_at_end c.args.known.now c.args.text.now c.loop-i.read c.deref-line-items.result.now c.loop-i.i _ (omega (arith, c.loop-i-test.false)) c.loop-i.invariant.stands c.into_script.ensures
