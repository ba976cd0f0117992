use Rattle.std.proofs.Common.{◌≡◌, ◌≤◌, ◌+◌, ◌-◌, ◌*◌, ◌++◌, length, take, drop, flat_map, ap, sym, ◌∙◌, arith}
use Rattle.std.proofs.Common.{take_all}
use Rattle.std.proofs.Math.Seq.{take-add}
use Rattle.std.proofs.lemmas.List.{length-append, length-drop, length-take-le}
use Rattle.std.proofs.lemmas.List.Concat.{flat_map-append}
use Rattle.cell_core_devices.proofs.BlockLemmas.{appends_then}
use Rattle.rcell_pipe_frames.specs.FrameBytes.{four_bytes_of_cell}
use Rattle.rcell_pipe_frames.proofs.wide_cells.push_four_byte_row.Goals as goal

pub parts-preserved : goal.parts-preserved
parts-preserved g c =
    let at = c.parts.at in
    let n = c.min-width.result in
    let cells = c.args.cells.now in
    let part = drop at cells in
    let bytes = c.parts.bytes in
    let fits : 4 * n ≤ length bytes = omega (arith, c.min-width.ensures, c.parts.invariant.width) in
    let same : at + n - at ≡ n = omega arith in
    let written = c.write_cells_in_four_bytes.ensures.value ∙ ap (λ k. flat_map four_bytes_of_cell
    (take k part)) same in
    let more = ap (flat_map four_bytes_of_cell) (take-add at n cells)
    ∙ flat_map-append four_bytes_of_cell (take at cells) (take n part)
    ∙ ap (λ l. flat_map four_bytes_of_cell (take at cells) ++ l) (sym written) in
    record {
      width = length-append c.write_cells_in_four_bytes.new.bytes (drop (4 * n) bytes)
          ∙ omega (
            arith,
            c.write_cells_in_four_bytes.ensures.width,
            length-take-le (4 * n) bytes fits,
            length-drop (4 * n) bytes,
            c.parts.invariant.width,
          );
      within = omega (arith, c.min-width.ensures, c.parts.invariant.within);
      pushed = rw more (appends_then c.parts.invariant.pushed c.push.ensures);
    }

pub returns-clause-pushed : goal.returns-clause-pushed
returns-clause-pushed g c = rw (take_all c.parts.at c.args.cells.now c.parts-test.false) at c.parts.invariant.pushed
