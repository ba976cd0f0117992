use Rattle.std.proofs.Common.{◌<◌, ◌+◌, ◌-◌, ◌/◌, length, arith, add-one, sym, ◌∙◌}
use Rattle.cell_stats.proofs.RestLemmas.{rest-behind, rest-before}
use Rattle.cell_stats.proofs.TableLemmas.{ascending_to}
use Rattle.cell_stats.proofs.table.place_after_combination.Goals as goal

-- all entries from the middle on come after the combination
pub loop-low-preserved-in-Less : goal.loop-low-preserved-in-Less
loop-low-preserved-in-Less c =
    let entries = c.args.entries.now in
    let middle = c.loop-low.low + (c.loop-low.high - c.loop-low.low) / 2 in
    let inv = c.loop-low.invariant in
    let within : middle < length entries = omega (arith, inv.high, c.loop-low-test.true) in
    record {
      within = omega arith;
      high = omega (arith, within);
      smaller = inv.smaller;
      greater = rest-behind c.args.combo.now entries middle c.index-entries-middle.result (ascending_to entries c.requires) within (sym c.in-Less.ensures);
    }

-- no entry up to the middle comes after the combination
pub loop-low-preserved : goal.loop-low-preserved
loop-low-preserved c =
    let entries = c.args.entries.now in
    let middle = c.loop-low.low + (c.loop-low.high - c.loop-low.low) / 2 in
    let inv = c.loop-low.invariant in
    let within : middle < length entries = omega (arith, inv.high, c.loop-low-test.true) in
    record {
      within = omega (arith, c.loop-low-test.true);
      high = inv.high;
      smaller = rw add-one (rest-before c.args.combo.now entries middle c.index-entries-middle.result (ascending_to entries c.requires) within (λ less. c.in_default.not-Less (c.cmp.ensures ∙ less)));
      greater = inv.greater;
    }
