use Rattle.std.proofs.Common.{◌≡◌, ◌∷◌, ◌-◌, List, replicate, append_assoc, arith}
use Rattle.cell_core.specs.Runs.{RunValue, cells_of_runs}
use Rattle.cell_core.specs.Text.{cell_text}
use Rattle.cell_ascii_writer.specs.WrittenRuns.{cell_texts_each_after_a_space}
use Rattle.cell_ascii_writer.proofs.PendingLemmas.{pending_all, pending_more}
use Rattle.cell_core_devices.proofs.BlockLemmas.{appends_then}
use Rattle.cell_ascii_writer.proofs.RunWritingLemmas.{first-some, joined-runs}
use Rattle.cell_ascii_writer.proofs.writer.write_row_of_runs.Goals as goal

pub overflow_sub-others_alike : goal.overflow_sub-others_alike
overflow_sub-others_alike g c =
    let rest : List RunValue = c.next.new.self in
    let whole : c.args.runs ≡ c.in-Some.first ∷ rest = c.in-Some.ensures.steps in
    omega (arith, first-some c.args.runs rest c.in-Some.first.0 c.in-Some.first.1 c.requires.some whole)

pub returns : goal.returns
returns g c =
    let null = c.args.fields.now in
    let cell = c.in-Some.first.0 in
    let n = c.in-Some.first.1 in
    let rest : List RunValue = c.next.new.self in
    let whole : c.args.runs ≡ c.in-Some.first ∷ rest = c.in-Some.ensures.steps in
    let some = first-some c.args.runs rest cell n c.requires.some whole in
    let others = cell_texts_each_after_a_space null (cells_of_runs rest) in
    let alike = cell_texts_each_after_a_space null (replicate (n - 1) cell) in
    rw (whole, joined-runs null rest cell n some, append_assoc (cell_text null cell) alike others)
    (appends_then (rw c.null_text.ensures.value at c.write_cell.ensures) (pending_all (pending_more others c.write_run-end.ensures.text) c.write_runs.ensures))
