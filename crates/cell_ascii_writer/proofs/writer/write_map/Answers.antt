use Rattle.std.proofs.Common.{◌≡◌, ◌∙◌, ◌<◌, ℕ, [], List, min, append-nil, arith, sym, subst}
use Rattle.cell_ascii_meaning.specs.Writing.{grid_text}
use Rattle.cell_core_devices.specs.Blocks.{IsTextAppendedToSink}
use Rattle.cell_core_devices.proofs.BlockLemmas.{appends_then}
use Rattle.cell_ascii_writer.proofs.LengthLemmas.{grid_length}
use Rattle.cell_ascii_writer.proofs.PutLemmas.{outcome_err, outcome_ok, appended_cut, appended_put}
use Rattle.cell_ascii_writer.proofs.writer.write_map.Goals as goal

exact : {written count : ℕ} → written ≡ min count 18446744073709551615 → count < 18446744073709551615 → written ≡ count
exact is short = omega arith

pub returns-in-Ok : goal.returns-in-Ok
returns-in-Ok g c =
    let before = g.W.Sink.taken c.args.out.now in
    let start = g.W.Sink.faults c.args.out.now in
    let text = grid_text c.args.null_text.now c.args.map.now in
    let all = appends_then c.write_grid.ensures c.empty.ensures.appends in
    let appended = subst (λ (t : List ℕ). IsTextAppendedToSink before start t (g.W.Sink.taken c.empty.new.out) (g.W.Sink.faults c.empty.new.out) c.empty.new.self) (append-nil text) (all.adds before start [] (c.new-block.ensures.nothing before start)) in
    let good = outcome_ok _ _ _ (sym c.outcome.ensures ∙ c.in-Ok.is) in
    let put = appended_put appended good (c.empty.ensures.held good) in
    let short = grid_length c.args.null_text.now c.requires.null.most c.args.map.now (rw c.region.ensures.value at c.region_text_is_short.ensures.lines) (rw c.region.ensures.value at c.region_text_is_short.ensures.rows) (rw c.region.ensures.value at c.region_text_is_short.ensures.cols) c.region.ensures.filled c.prove_cells_are_in_range.ensures in
    record { ok = put.0; length = c.written.ensures ∙ exact put.1.0 short; err = tt; short = tt; faults = put.1.1 }

pub returns-in-Err : goal.returns-in-Err
returns-in-Err g c =
    let before = g.W.Sink.taken c.args.out.now in
    let start = g.W.Sink.faults c.args.out.now in
    let text = grid_text c.args.null_text.now c.args.map.now in
    let all = appends_then c.write_grid.ensures c.empty.ensures.appends in
    let appended = subst (λ (t : List ℕ). IsTextAppendedToSink before start t (g.W.Sink.taken c.empty.new.out) (g.W.Sink.faults c.empty.new.out) c.empty.new.self) (append-nil text) (all.adds before start [] (c.new-block.ensures.nothing before start)) in
    let failed = outcome_err _ _ _ (sym c.outcome.ensures ∙ c.in-Err.is) in
    let short = grid_length c.args.null_text.now c.requires.null.most c.args.map.now (rw c.region.ensures.value at c.region_text_is_short.ensures.lines) (rw c.region.ensures.value at c.region_text_is_short.ensures.rows) (rw c.region.ensures.value at c.region_text_is_short.ensures.cols) c.region.ensures.filled c.prove_cells_are_in_range.ensures in
    let cut = appended_cut appended failed.0 short in
    record { ok = tt; length = tt; err = rw failed.1 at cut.0; short = rw failed.1 at cut.1.0; faults = cut.1.1 }
