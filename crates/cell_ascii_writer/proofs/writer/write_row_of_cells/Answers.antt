use Rattle.std.proofs.Common.{◌≡◌, List, ◌∷◌, ◌∙◌, ap, sym}
use Rattle.cell_core.specs.Grid.{CellValue}
use Rattle.cell_core_devices.proofs.BlockLemmas.{appends_then}
use Rattle.cell_ascii_writer.specs.WrittenRuns.{cell_texts_each_after_a_space}
use Rattle.cell_ascii_writer.proofs.PendingLemmas.{pending_all, pending_none, pending_then}
use Rattle.cell_ascii_writer.proofs.RunWritingLemmas.{both, joined-first}
use Rattle.cell_ascii_writer.proofs.writer.write_row_of_cells.Goals as goal

pub loop-rest-init : goal.loop-rest-init
loop-rest-init g c = record { text = pending_none (cell_texts_each_after_a_space c.args.fields.now c.in-Some.others.now); room = c.requires }

pub loop-rest-preserved : goal.loop-rest-preserved
loop-rest-preserved g c =
    let null = c.args.fields.now in
    let part : List CellValue = c.split_at.result.0.now in
    let after : List CellValue = c.split_at.result.1.now in
    let now = c.loop-rest.invariant in
    record {
      text = pending_then now.text (record {
        front = cell_texts_each_after_a_space null part;
        whole = sym (both null part after) ∙ ap (cell_texts_each_after_a_space null)
            (sym c.split_at.ensures.by_index.0);
        appends = rw c.put_cells_into_line-end.ensures.text at c.push_first_bytes_of_line.ensures;
      });
      room = c.put_cells_into_line-end.auto.line ∙ now.room;
    }

pub returns : goal.returns
returns g c =
    let null = c.args.fields.now in
    let first = c.in-Some.first.now in
    let others = c.in-Some.others.now in
    let whole : c.args.cells.now ≡ c.in-Some.first.now ∷ c.in-Some.others.now = c.in-Some.ensures.cases.0 in
    rw (whole, joined-first null first others)
    (appends_then (rw c.null_text.ensures.value at c.write_cell.ensures) (pending_all c.loop-rest.invariant.text (rw c.put_cells_into_line-end-2.ensures.text at c.push_first_bytes_of_line-2.ensures)))
