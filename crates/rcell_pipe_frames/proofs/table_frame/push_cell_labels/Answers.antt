use Rattle.std.proofs.Common.{◌≡◌, ◌<◌, ℕ, get_or, arith, take, take_all}
use Rattle.std.proofs.lemmas.Slice.Zip.{length-zip}
use Rattle.std.specs.List.{zip}
use Rattle.cell_core.specs.Grid.{CellValue}
use Rattle.cell_core_devices.proofs.PieceLemmas.{flat_map-take}
use Rattle.cell_core_devices.proofs.BlockLemmas.{appends_then}
use Rattle.cell_stats.specs.TableText.{label_of_cell}
use Rattle.cell_stats.proofs.LineLemmas.{zip-at, zip-within}
use Rattle.rcell_pipe_frames.specs.FrameBytes.{length_and_text_bytes}
use Rattle.rcell_pipe_frames.proofs.table_frame.push_cell_labels.Goals as goal

below : {n m most : ℕ} → n < m → m ≡ most → n < most
below lower same = omega arith

pub loop-i-preserved : goal.loop-i-preserved
loop-i-preserved g c =
    let places = c.args.places.now in
    let cells = c.args.cells.now in
    let i = c.loop-i.i in
    let within = below c.loop-i-test.true c.requires.width in
    let at = zip-at places cells i within c.requires.width c.index-cells-i.result c.index-cells-i.is in
    let in_zip = zip-within places cells i within c.requires.width in
    rw (flat_map-take (λ (p : ℕ × CellValue). length_and_text_bytes (label_of_cell c.args.shelf.now.maps p.0 p.1)) (zip places cells) i (0, c.index-cells-i.result) (get_or places i 0, c.index-cells-i.result) in_zip at)
    (appends_then c.loop-i.invariant (rw c.label_of_cell.ensures at c.push_length_and_text.ensures))

pub returns : goal.returns
returns g c =
    let zs = zip c.args.places.now c.args.cells.now in
    let all : take c.loop-i.i zs ≡ zs = take_all c.loop-i.i zs (omega (arith, length-zip c.args.places.now c.args.cells.now, c.requires.width, c.loop-i-test.false)) in
    rw all at c.loop-i.invariant
