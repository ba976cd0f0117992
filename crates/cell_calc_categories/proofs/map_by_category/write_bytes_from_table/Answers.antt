use Rattle.std.proofs.Common.{arith, length, ◌∙◌}
use Rattle.cell_calc_categories.proofs.Categories.{bytes_of_each}
use Rattle.cell_calc_categories.proofs.map_by_category.write_bytes_from_table.Goals as goal

pub returns : goal.returns
returns c = λ f is.
    bytes_of_each f c.args.table.now c.loop-i.values c.args.bytes.now (c.loop-i.auto.values ∙ c.requires.width) is
    (λ i. omega (arith, c.type_inv.bytes i))
    (λ k lt. c.loop-i.invariant k (omega (arith, lt, c.requires.width, c.loop-i-test.false)))
