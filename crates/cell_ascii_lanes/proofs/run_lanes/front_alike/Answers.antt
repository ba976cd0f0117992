use Rattle.cell_ascii_lanes.proofs.LaneLemmas.{none_differ, some_differ}
use Rattle.cell_ascii_lanes.proofs.run_lanes.front_alike.Goals as goal

pub returns-then-differ-eq0-clause-alike : goal.returns-then-differ-eq0-clause-alike
returns-then-differ-eq0-clause-alike c = none_differ c.args.a.now c.args.b.now c.requires.left c.requires.right
    c.if-differ-eq0.true

pub returns-else-differ-eq0-clause-alike : goal.returns-else-differ-eq0-clause-alike
returns-else-differ-eq0-clause-alike c =
    (some_differ c.args.a.now c.args.b.now c.requires.left c.requires.right c.if-differ-eq0.false).0

pub returns-else-differ-eq0-clause-few : goal.returns-else-differ-eq0-clause-few
returns-else-differ-eq0-clause-few c =
    (some_differ c.args.a.now c.args.b.now c.requires.left c.requires.right c.if-differ-eq0.false).1
