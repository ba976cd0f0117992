use Rattle.std.proofs.Common.{◌≡◌, ◌∙◌, ◌<◌, ◌++◌, [], length, take, drop, flat_map, ap, arith, refl, ℕ, sym, rules}
use Rattle.std.proofs.Math.Seq.{take-length}
use Rattle.std.proofs.lemmas.List.{take-append-drop}
use Rattle.std.proofs.lemmas.List.Concat.{flat_map-append}
use Rattle.cell_core.specs.Grid.{row_at}
use Rattle.cell_core_values.specs.Region.{RegionValue}
use Rattle.cell_core_devices.proofs.PieceLemmas.{flat_map-take}
use Rattle.cell_core_devices.proofs.BlockLemmas.{appends_cut, appends_none, appends_then}
use Rattle.cell_ascii_meaning.specs.Writing.{row_text}
use Rattle.cell_ascii_writer.proofs.WriterLemmas.{at_end}
use Rattle.cell_ascii_writer.proofs.writer.write_lines_of_all_rows.Goals as goal

below : (row rows high count : ℕ) → row < rows → rows ≡ high → count ≡ high → row < count
below row rows high count within same full = omega arith

pub returns-then-has_failed : goal.returns-then-has_failed
returns-then-has_failed g c =
    let rows = c.args.map.now.rows in
    let row = c.loop-row.row in
    let f = row_text c.args.null_text.now in
    let parts : flat_map f (take row rows) ++ flat_map f (drop row rows) ≡ flat_map f rows = sym (flat_map-append f (take row rows) (drop row rows)) ∙ ap (flat_map f) (take-append-drop row rows) in
    rw (← parts) (appends_cut (flat_map f (drop row rows)) c.loop-row.invariant.text (sym c.has_failed.ensures ∙ c.if-has_failed.true))

pub loop-row-preserved : goal.loop-row-preserved
loop-row-preserved g c =
    let rows = c.args.map.now.rows in
    let row = c.loop-row.row in
    let height : c.rows-row-end.result ≡ c.args.map.now.region.rows =
    c.rows-row-end.ensures.value ∙ ap (λ (e : RegionValue). e.rows) c.region.ensures.value in
    let within : row < length rows = below _ _ _ _ c.loop-row-test.true height c.region.ensures.filled.count in
    record {
      text = rw (flat_map-take (row_text c.args.null_text.now) rows row [] (row_at c.args.map.now row) within refl) (appends_then c.loop-row.invariant.text (appends_then (rw c.new-fields.ensures at c.write_stored_row_as_text.ensures) c.push.ensures));
      room = search rules;
    }

pub returns : goal.returns
returns g c =
    let rows = c.args.map.now.rows in
    let row = c.loop-row.row in
    let height : c.rows-row-end.result ≡ c.args.map.now.region.rows =
    c.rows-row-end.ensures.value ∙ ap (λ (e : RegionValue). e.rows) c.region.ensures.value in
    let all : row ≡ length rows =
    at_end _ _ c.loop-row-test.false c.loop-row.auto.row-end ∙ height ∙ sym c.region.ensures.filled.count in
    rw (all, take-length rows) at c.loop-row.invariant.text
