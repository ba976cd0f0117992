use Rattle.std.proofs.Common.{◌≡◌, ◌<◌, ◌≤◌, ◌+◌, ◌*◌, ◌/◌, ◌^◌, ◌++◌, ℕ, List, length, take, drop, arith, ap, ap₂, sym, ◌∙◌, take_all}
use Rattle.std.proofs.lemmas.List.{take-take}
use Rattle.std.specs.Int.RustNames.{count_ones}
use Rattle.cell_ascii_lanes.specs.WordLanes.{flagged_items}
use Rattle.cell_ascii_lanes.proofs.ByteBitLemmas.{trues, ones_are, trues-add, kept-add, kept-take, stored_first, next_eight, few_ones}
use Rattle.cell_ascii_lanes.proofs.word_lanes.put_selected_lanes_in_row.Goals as goal
use lib.Bits.{bit_and}

pub loop-k-preserved : goal.loop-k-preserved
loop-k-preserved c =
    let k = c.loop-k.k in
    let i = c.loop-k.i in
    let row = c.loop-k.row in
    let values = c.args.values.now in
    let part = bit_and (c.args.bits / 2 ^ (8 * k)) 255 in
    let n = count_ones part in
    let low : n ≤ 8 = few_ones (c.args.bits / 2 ^ (8 * k)) in
    let next : 8 * (k + 1) ≡ 8 * k + 8 = omega arith in
    let below : k < 8 = omega (arith, c.loop-k-test.true) in
    record {
      few = omega (arith, low, c.loop-k.invariant.few);
      row = λ ms size is.
          let so_far = c.loop-k.invariant.row ms size is in
          let eight = next_eight k c.args.bits ms size below is in
          let others = take 8 (drop (8 * k) ms) in
          let count : n ≡ trues others = ap count_ones eight.1 ∙ ones_are others in
          let within : 8 * k ≤ length ms = omega (arith, size, below) in
          let inside : 8 * k ≤ length values = omega (arith, c.requires.values, below) in
          let sixteen : 8 ≤ 16 = omega arith in
          let taken : take (length others) (take 16 (drop (8 * k) values)) ≡ take 8 (drop (8 * k) values) =
          ap (λ j. take j (take 16 (drop (8 * k) values))) eight.0 ∙ take-take 8 16 (drop (8 * k) values) sixteen in
          let front = c.selected_lanes_moved_to_start.ensures.lanes others eight.0 eight.1 in
          let these = front ∙ sym (kept-take others (take 16 (drop (8 * k) values)))
          ∙ ap (flagged_items others) taken in
          let long : length c.selected_lanes_moved_to_start.result
          ≡ 16 = c.selected_lanes_moved_to_start.ensures.long in
          let room : i + length c.selected_lanes_moved_to_start.result ≤ length row = omega (arith, long, below, c.loop-k.invariant.few, c.loop-k.auto.row, c.requires.room) in (
            omega (arith, so_far.0, count, trues-add (8 * k) 8 ms, ap (λ j. trues (take j ms)) next),
            stored_first i n row c.selected_lanes_moved_to_start.result room (omega (arith, long, low))
                ∙ ap₂ (λ (a : List ℕ) (b : List ℕ). a ++ b) so_far.1 these
                ∙ sym (kept-add (8 * k) 8 ms values within inside)
                ∙ ap (λ j. flagged_items (take j ms) (take j values)) (sym next),
          );
    }

pub returns : goal.returns
returns c = λ ms size is.
    let all : 8 * c.loop-k.k ≡ 64 = omega (arith, c.loop-k-test.false, c.loop-k.auto.k-end) in
    let so_far = c.loop-k.invariant.row ms size is in
    let whole : take 64 ms ≡ ms = take_all 64 ms (omega (arith, size)) in (
      so_far.0 ∙ ap (λ j. trues (take j ms)) all ∙ ap trues whole ∙ sym (ones_are ms) ∙ ap count_ones (sym is),
      so_far.1 ∙ ap (λ j. flagged_items (take j ms) (take j c.args.values.now)) all ∙ ap (λ l. flagged_items l (take 64 c.args.values.now)) whole,
    )
