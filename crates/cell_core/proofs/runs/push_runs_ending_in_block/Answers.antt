use Rattle.std.proofs.Common.{arith}
use Rattle.cell_core.proofs.MarkLemmas.{first-below, bits-next, runs-next, runs-end}
use Rattle.cell_core.proofs.runs.push_runs_ending_in_block.Goals as goal

pub overflow_add-count : goal.overflow_add-count
overflow_add-count c =
    let i = c.breaks.invariant in
    let below = first-below c.breaks.cell c.args.block.now c.breaks.at c.breaks.breaks c.requires.size i.within i.bits c.breaks-test.true in
    record { fits = omega (arith, below, i.few, c.requires.room) }

pub bounds-block-at : goal.bounds-block-at
bounds-block-at c =
    let i = c.breaks.invariant in
    let below = first-below c.breaks.cell c.args.block.now c.breaks.at c.breaks.breaks c.requires.size i.within i.bits c.breaks-test.true in
    omega (arith, below, c.requires.size)

pub breaks-preserved : goal.breaks-preserved
breaks-preserved c =
    let i = c.breaks.invariant in
    let block = c.args.block.now in
    let below = first-below c.breaks.cell block c.breaks.at c.breaks.breaks c.requires.size i.within i.bits c.breaks-test.true in
    record {
      within = omega (arith, below);
      few = omega arith;
      bits = bits-next c.breaks.cell block c.breaks.at c.breaks.breaks c.requires.size i.within i.bits c.breaks-test.true c.index-block-at.result c.index-block-at.is;
      whole = λ more.
          runs-next c.breaks.cell block c.breaks.at c.breaks.breaks c.requires.size i.within i.bits c.breaks-test.true c.index-block-at.result c.index-block-at.is
          c.breaks.count c.breaks.runs.items c.push.new.self.items _ more c.in_ok-push.ensures.items (i.whole more);
    }

pub returns-clause-runs : goal.returns-clause-runs
returns-clause-runs c = λ more.
    let i = c.breaks.invariant in
    runs-end c.breaks.cell c.args.block.now c.breaks.at c.breaks.breaks c.requires.size i.within i.bits c.breaks-test.false c.breaks.count c.breaks.runs.items _ more (i.whole more)
