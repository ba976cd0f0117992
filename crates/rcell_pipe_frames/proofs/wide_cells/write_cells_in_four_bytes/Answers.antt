use Rattle.std.proofs.Common.{◌≡◌, ◌+◌, ◌-◌, ◌*◌, ◌++◌, length, take, flat_map, ap, sym, ◌∙◌, arith, take_all}
use Rattle.std.proofs.lemmas.Slice.{take-put_mid}
use borrow.Rule.Slice.PartMut.{same_len_mid}
use Rattle.cell_core_devices.proofs.PieceLemmas.{flat_map-take}
use Rattle.rcell_pipe_frames.specs.FrameBytes.{four_bytes_of_cell}
use Rattle.rcell_pipe_frames.proofs.wide_cells.write_cells_in_four_bytes.Goals as goal

pub loop-i-preserved : goal.loop-i-preserved
loop-i-preserved c =
    let old = c.loop-i.bytes in
    let i = c.loop-i.i in
    let cells = c.args.cells.now in
    let new = c.copy_from_slice.new.self in
    let cell = c.index-cells-i.result in
    let here : new ≡ four_bytes_of_cell cell = c.copy_from_slice.ensures.after ∙ c.cell_as_four_bytes.ensures in
    let four : length new ≡ 4 = ap (λ l. length l) here in
    record {
      width = same_len_mid (4 * i) (4 * i + 4 - 4 * i) old new c.copy_from_slice.ensures.len
          ∙ c.loop-i.invariant.width;
      done = take-put_mid (4 * i) (4 * i + 4 - 4 * i) old new (4 * (i + 1)) (omega (arith, four))
          (omega (arith, c.loop-i.invariant.width, c.loop-i-test.true))
          ∙ ap (λ l. l ++ new) c.loop-i.invariant.done
          ∙ ap (λ l. flat_map four_bytes_of_cell (take i cells) ++ l) here
          ∙ sym (flat_map-take four_bytes_of_cell cells i cell cell c.loop-i-test.true c.index-cells-i.is);
    }

pub returns-clause-value : goal.returns-clause-value
returns-clause-value c =
    sym (take_all (4 * c.loop-i.i) c.loop-i.bytes (omega (arith, c.loop-i.invariant.width, c.loop-i-test.false)))
    ∙ c.loop-i.invariant.done
    ∙ ap (flat_map four_bytes_of_cell) (take_all c.loop-i.i c.args.cells.now c.loop-i-test.false)
