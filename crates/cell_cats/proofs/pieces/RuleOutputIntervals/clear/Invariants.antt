use Rattle.std.proofs.Common.{◌≡◌, ℤ, ◌<ℤ◌}
use Rattle.std.specs.BTreeMap.{get, btree_map_len}
use Rattle.std.specs.Ordering.{int_cmp}
use Rattle.cell_cats.proofs.pieces.RuleOutputIntervals.clear.Given as goal

abbrev pub invariant-loop-start : goal.invariant-loop-start
invariant-loop-start l = record {
  before : (q : ℤ) → q <ℤ l.from → get int_cmp l.self.starts q ≡ get int_cmp l.initial.self.starts q;
  after : (q : ℤ) → l.to <ℤ q → get int_cmp l.self.starts q ≡ get int_cmp l.initial.self.starts q;
}

abbrev pub decreases-loop-start : goal.decreases-loop-start
decreases-loop-start l = btree_map_len l.self.starts
