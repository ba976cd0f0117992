use Rattle.std.proofs.Common.{◌<◌, ◌≤◌, length, get_or, arith, ◌∙◌}
use Rattle.cell_clumps.proofs.LabelLemmas.{LabelsPointToSmallerOrSelf-set, LabelsLeadToRoots-halved}
use Rattle.cell_clumps.proofs.labels.find_root_label.Goals as goal

pub loop-table-preserved : goal.loop-table-preserved
loop-table-preserved c =
    let at = c.loop-table.at in
    let table = c.loop-table.table in
    let next_low : get_or table at 0 ≤ at = c.loop-table.invariant.down at in
    let far_low : get_or table (get_or table at 0) 0 ≤ get_or table at 0 = c.loop-table.invariant.down (get_or table at 0) in
    let inside : at < length table = omega arith in
    record {
      down = LabelsPointToSmallerOrSelf-set table at _ inside (omega arith) c.loop-table.invariant.down;
      low = omega arith;
      reports = λ open_of given. LabelsLeadToRoots-halved table at open_of c.loop-table.invariant.down inside (c.loop-table.invariant.reports open_of given);
      same = λ open_of given.
          let now = c.loop-table.invariant.reports open_of given in
          now.points (get_or table at 0) (omega arith) ∙ now.points at inside ∙ c.loop-table.invariant.same open_of given;
    }
