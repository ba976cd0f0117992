use Rattle.std.proofs.Common.{ℕ, ◌≡◌, ◌+◌, ◌-◌, ◌<◌, ◌≤◌, ◌^◌, [], List, length, get_or, ap, sym, ◌∙◌, subst, arith}
use Rattle.std.specs.Prelude.{All}
use Rattle.std.proofs.lemmas.List.Elements.{All-push}
use Rattle.cell_core_values.specs.Region.{RegionValue}
use Rattle.cell_join_tiles.specs.parts.Greatest.{greatest_of_number_and_cells}
use Rattle.cell_join_tiles.proofs.GreatestLemmas.{in-least}
use Rattle.cell_join_tiles.proofs.RiseLemmas.{RisesSoFar, rises-more}
use Rattle.cell_join_tiles.proofs.begun.begun_clump_counts_by_row.Goals as goal

pub overflow_sub-greatest : goal.overflow_sub-greatest
overflow_sub-greatest c = omega (
  arith,
  c.greatest_of_number_and_cells-greatest.ensures.greatest,
  in-least c.loop-row.most
      c.deref.result.now,
)

-- a number below 2^31 is below 2^32
small-rise : (most greatest : ℕ) → greatest ≤ 2147483647 → greatest - most < 2 ^ 32
small-rise most greatest small = omega (arith, small)

pub loop-row-preserved : goal.loop-row-preserved
loop-row-preserved c =
    let m = c.args.numbers.now in
    let greatest = c.greatest_of_number_and_cells-greatest.result in
    let rows : c.rows-row-end.result ≡ length m.rows = c.rows-row-end.ensures.value
    ∙ ap (λ (r : RegionValue). r.rows) c.region.ensures.value ∙ sym c.region.ensures.filled.count in
    let lt : c.loop-row.row < length m.rows = omega (arith, c.loop-row-test.true, rows) in
    let cells : c.deref.result.now ≡ get_or m.rows c.loop-row.row [] =
    c.deref.ensures.value ∙ c.in_ok-cells.ensures.cells in
    let more : greatest ≡ greatest_of_number_and_cells c.loop-row.most (get_or m.rows c.loop-row.row []) =
    c.greatest_of_number_and_cells-greatest.ensures.greatest
    ∙ ap (greatest_of_number_and_cells c.loop-row.most) cells in
    let small : greatest ≤ 2147483647 =
    c.greatest_of_number_and_cells-greatest.ensures.small c.loop-row.invariant.small in
    let items = sym c.in_ok-push.ensures.items in
    record {
      rises = subst (RisesSoFar m (c.loop-row.row + 1) greatest) items
          (rises-more m c.loop-row.row c.loop-row.most greatest c.loop-row.begun.items c.loop-row.invariant.rises lt
          more);
      small = small;
      few = subst (λ (counts : List ℕ). All (λ count. count < 2 ^ 32) counts) items
          (All-push (λ count. count < 2 ^ 32) c.loop-row.begun.items (greatest - c.loop-row.most)
          c.loop-row.invariant.few (small-rise c.loop-row.most greatest small));
    }
