use Rattle.std.proofs.Common.{rules, sym, subst}
use Rattle.cell_join_patches.specs.PatchNumbers.{AreRunsInOrder}
use Rattle.cell_join_patches.proofs.NumberLemmas.{runs-push}
use Rattle.cell_join_patches.proofs.patch_numbering.PatchNumbering.add.Goals as goal

pub invariant_of-result : goal.invariant_of-result
invariant_of-result c =
    let runs = c.self.inside.runs.items in
    let items = c.in-Ok.ensures.items in
    subst AreRunsInOrder (sym items)
    (runs-push runs c.args.run c.self.invariant
    (search (rules, c.run_can_be_added.ensures, c.if-not-run_can_be_added.false, c.deref.ensures.value)))
