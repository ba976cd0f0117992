use Rattle.std.proofs.Common.{◌≡◌, ◌+◌, ◌-◌, None, ◌∙◌, sym, arith, subst}
use Rattle.std.proofs.Common.{get_or}
use Rattle.std.proofs.lemmas.List.{get_or_default}
use Rattle.cell_patches.specs.TilePatches.{one_if_side_leaves_category}
use Rattle.cell_patches.specs.parts.Passes.{outer_side_count_in_first_columns}
use Rattle.cell_patches.proofs.SumLemmas.{columns_more}
use Rattle.cell_patches.proofs.CellLemmas.{sides_past_row}
use Rattle.cell_patches.proofs.near_rows.count_outer_sides.Goals as goal

pub returns-then-count-eq1-clause-sides : goal.returns-then-count-eq1-clause-sides
returns-then-count-eq1-clause-sides c =
    let cell = c.args.class in
    let beyond = c.args.beyond.now in
    let one : 1 ≡ c.args.count = sym c.if-count-eq1.true in
    let side = subst (λ x. c.one_if_side_leaves_category.result ≡ one_if_side_leaves_category cell x)
    c.cell_in_column_or_null.ensures c.one_if_side_leaves_category.ensures.value in
    let more = columns_more (λ k. one_if_side_leaves_category cell (get_or beyond k None)) c.args.first in
    subst (λ x. c.one_if_side_leaves_category.result + outer_side_count_in_first_columns cell beyond c.args.first
    ≡ outer_side_count_in_first_columns cell beyond (c.args.first + x)) one (omega arith)

pub loop-col-preserved : goal.loop-col-preserved
loop-col-preserved c =
    let cell = c.args.class in
    let beyond = c.args.beyond.now in
    let col = c.loop-col.col in
    let held = c.loop-col.invariant in
    let bound = c.loop-col-test.true in
    let here : c.index-beyond-col.result ≡ get_or beyond col None = c.index-beyond-col.is
    ∙ get_or_default beyond col c.index-beyond-col.result None (omega (arith, c.min.ensures, c.max-known.ensures)) in
    let side = subst (λ x. c.one_if_side_leaves_category-sides.result ≡ one_if_side_leaves_category cell x) here
    c.one_if_side_leaves_category-sides.ensures.value in
    let few = c.one_if_side_leaves_category-sides.ensures.most in
    let more = columns_more (λ k. one_if_side_leaves_category cell (get_or beyond k None)) col in
    let was = held.sides in
    let most = held.most in
    let first = c.loop-col.auto.col in
    record {
      sides = omega arith;
      most = omega arith;
    }

pub returns : goal.returns
returns c =
    let cell = c.args.class in
    let beyond = c.args.beyond.now in
    let col = c.loop-col.col in
    let was = c.loop-col.invariant.sides in
    let most = c.loop-col.invariant.most in
    let past = c.loop-col-test.false in
    let end = c.loop-col.auto.col-end in
    let least = c.min.ensures in
    let known = c.max-known.ensures in
    let same : col ≡ c.max-known.result = omega arith in
    let last = c.args.first + c.args.count in
    let rest = sides_past_row cell beyond col (last - col) c.requires.class (λ b lt. omega arith) in
    let whole : col + (last - col) ≡ last = omega arith in
    let all = subst (λ x. outer_side_count_in_first_columns cell beyond x
    ≡ outer_side_count_in_first_columns cell beyond col + (last - col)) whole rest in
    record {
      sides = omega arith;
      most = omega arith;
    }
