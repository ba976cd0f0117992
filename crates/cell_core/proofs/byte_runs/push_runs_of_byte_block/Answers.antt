use Rattle.std.proofs.Common.{◌++◌, List, ap, arith}
use Rattle.cell_core.specs.Runs.{RunValue}
use Rattle.cell_core.proofs.ByteLemmas.{block-begins, byte-below, byte-bits, byte-runs, byte-end}
use Rattle.cell_core.proofs.byte_runs.push_runs_of_byte_block.Goals as goal

pub breaks-init : goal.breaks-init
breaks-init c = record {
  within = omega arith;
  few = omega arith;
  bits = c.run_start_bits_in_bytes-breaks.ensures;
  whole = ap (λ (l : List RunValue). c.args.runs.now.items ++ l)
      (block-begins c.args.bytes.now c.requires.size c.args.nth);
}

pub overflow_add-count : goal.overflow_add-count
overflow_add-count c =
    let i = c.breaks.invariant in
    let below = byte-below c.args.bytes.now c.requires.size c.breaks.at c.breaks.breaks i.within i.bits
    c.breaks-test.true in
    record { fits = omega (arith, below, i.few, c.requires.room) }

pub breaks-smaller : goal.breaks-smaller
breaks-smaller c =
    let i = c.breaks.invariant in
    omega (
      arith,
      byte-below c.args.bytes.now c.requires.size c.breaks.at c.breaks.breaks i.within i.bits
          c.breaks-test.true,
    )

pub breaks-preserved : goal.breaks-preserved
breaks-preserved c =
    let bytes = c.args.bytes.now in
    let i = c.breaks.invariant in
    let some = c.breaks-test.true in
    let below = byte-below bytes c.requires.size c.breaks.at c.breaks.breaks i.within i.bits some in
    let pushed = rw c.cell_of_byte.ensures at c.in_ok-push.ensures.items in
    record {
      within = omega (arith, below);
      few = omega arith;
      bits = byte-bits bytes c.requires.size c.breaks.at c.breaks.breaks i.within i.bits some;
      whole = byte-runs bytes c.requires.size c.breaks.at c.breaks.breaks i.within i.bits some c.breaks.count
          c.breaks.runs.items c.push.new.self.items _ pushed i.whole;
    }

pub returns-clause-runs : goal.returns-clause-runs
returns-clause-runs c =
    let i = c.breaks.invariant in
    byte-end c.args.bytes.now c.requires.size c.breaks.at c.breaks.breaks i.within i.bits c.breaks-test.false
    c.breaks.count c.breaks.runs.items _ i.whole
