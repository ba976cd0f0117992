use Rattle.std.proofs.Common.{◌+◌, ◌++◌, ℕ, replicate, take, drop, ap, ◌∙◌, arith}
use Rattle.rcell_pipe_frames.proofs.SmallLemmas.{write_more, long_on}
use Rattle.rcell_pipe_frames.proofs.cells.write_bytes_of_runs.Goals as goal

pub loop-cell-preserved : goal.loop-cell-preserved
loop-cell-preserved c =
    let old = c.loop-cell.bytes in
    let at = c.loop-cell.at in
    let n = c.in-Some.count in
    let steps = c.in-Some.ensures.steps in
    let more = long_on c.in-Some.cell n steps in
    let is = c.fill_columns_with_byte.ensures.value
    ∙ ap (λ (b : ℕ). take at old ++ replicate n b ++ drop (at + n) old) c.byte_of_cell.ensures in
    record {
      whole = write_more old c.fill_columns_with_byte.new.bytes _ at n c.in-Some.cell
          (omega (arith, more, c.loop-cell.invariant.within)) is steps c.loop-cell.invariant.whole;
      within = omega (arith, more, c.loop-cell.invariant.within, c.fill_columns_with_byte.ensures.width);
    }
