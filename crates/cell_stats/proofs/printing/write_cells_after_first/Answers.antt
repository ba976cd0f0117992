use Rattle.std.proofs.Common.{◌≡◌, ◌<◌, ℕ, get_or, arith, take, take_all}
use Rattle.std.proofs.lemmas.Slice.Zip.{length-zip}
use Rattle.std.specs.List.{zip}
use Rattle.cell_core_devices.proofs.PieceLemmas.{flat_map-take}
use Rattle.cell_core_devices.proofs.BlockLemmas.{appends_then}
use Rattle.cell_stats.specs.parts.Preceded.{separator_cell_and_label_text}
use Rattle.cell_stats.proofs.LineLemmas.{zip-at, zip-within}
use Rattle.cell_stats.proofs.printing.write_cells_after_first.Goals as goal

below : {n m most : ℕ} → n < m → m ≡ most → n < most
below lower same = omega arith

pub loop-i-preserved : goal.loop-i-preserved
loop-i-preserved g c =
    let picks = c.args.picks.now in
    let cells = c.args.cells.now in
    let i = c.loop-i.i in
    let within = below c.loop-i-test.true c.requires.width in
    let at = zip-at picks cells i within c.requires.width c.index-cells-i.result c.index-cells-i.is in
    let in_zip = zip-within picks cells i within c.requires.width in
    rw (flat_map-take (separator_cell_and_label_text c.args.format.now c.args.shelf.now.maps) (zip picks cells) i (0, c.index-cells-i.result) (get_or picks i 0, c.index-cells-i.result) in_zip at)
    (appends_then c.loop-i.invariant c.write_separator_cell_and_label.ensures)

pub returns : goal.returns
returns g c =
    let zs = zip c.args.picks.now c.args.cells.now in
    let all : take c.loop-i.i zs ≡ zs = take_all c.loop-i.i zs (omega (arith, length-zip c.args.picks.now c.args.cells.now, c.requires.width)) in
    rw all at c.loop-i.invariant
