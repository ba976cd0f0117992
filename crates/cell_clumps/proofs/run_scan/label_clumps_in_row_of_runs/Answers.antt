use Rattle.std.proofs.Common.{◌≡◌, ℕ, ◌+◌, ◌++◌, ◌∷◌, ◌<◌, ◌≤◌, ◌⊎◌, List, [], All, None, length, drop}
use Rattle.std.proofs.Common.{replicate, refl, ap, sym, ◌∙◌, arith, subst, inl, inr, ⊎_elim}
use Rattle.std.proofs.Common.{length-append}
use Rattle.std.proofs.lemmas.List.{append-nil, length-replicate}
use Rattle.std.proofs.lemmas.List.Elements.{All-nil, All-push, All-head, All-tail, All-append, All-replicate}
use Rattle.cell_core.specs.Grid.{row_at}
use Rattle.cell_core.specs.Runs.{RunValue, cells_of_runs}
use Rattle.cell_clumps.specs.declared.near.LabelledCell.{LabelledCell}
use Rattle.cell_clumps.specs.Clumps.{cell_at_position}
use Rattle.cell_clumps.specs.parts.CellPlaces.{position_at_row_and_column}
use Rattle.cell_clumps.specs.parts.ClumpsRead.{AreNeighbourLabelsInTable}
use Rattle.cell_clumps.specs.parts.RunsOfLabels.{labels_of_cells_in_runs, labelled_cells_of_runs}
use Rattle.cell_clumps.specs.parts.RunsOfLabels.{unread_cells_of_row_above}
use Rattle.cell_clumps.proofs.RunLemmas.{alike_less, done_more, in_hand, line_more, row_kept}
use Rattle.cell_clumps.proofs.RunLemmas.{blank_run_length_after_step}
use Rattle.cell_clumps.proofs.RunLemmas.{same_label, same_more, still_to_come, walked_first, walked_inside}
use Rattle.cell_clumps.proofs.RunLemmas.{run_here, run_ahead, run_past}
use Rattle.cell_clumps.proofs.run_scan.label_clumps_in_row_of_runs.Goals as goal

pub loop-run-init : goal.loop-run-init
loop-run-init c =
    let iterated = c.into_iter-run-iterator.ensures.into_iter_gives in
    record {
      at = c.of-above.ensures.at;
      down = c.requires.down;
      most = omega arith;
      lengths = rw c.requires.empty (All-nil (λ (run : LabelledCell × ℕ). 0 < run.1));
      counts = rw iterated c.runs-whole.ensures.runs.lengths;
      cells = rw (c.requires.empty, iterated) (sym c.runs-whole.ensures.written);
      within = rw (c.requires.empty, iterated) (omega (arith, c.runs-whole.ensures.width));
      same = rw (c.requires.empty, c.in_ok-runs.ensures.items) refl;
      nulls = rw c.requires.empty (All-nil (λ (x : LabelledCell). x.cell ≡ None → x.label ≡ 4294967295));
      walked = λ kept h. rw c.requires.empty
          (walked_first c.args.joining c.args.map.now kept c.args.table.now.items c.of-above.result c.args.line.now
          c.args.row c.neighbours_at_row_start-near.result c.of-above.ensures.coming
          c.neighbours_at_row_start-near.ensures.left c.neighbours_at_row_start-near.ensures.above h);
    }

pub cells-init : goal.cells-init
cells-init c =
    let inv = c.loop-run.invariant in
    record {
      at = inv.at;
      down = inv.down;
      most = omega arith;
      within = omega arith;
      null = λ _. refl;
      same = inl refl;
      walked = λ kept h. rw append-nil (inv.walked kept h);
    }

pub clump_label_for_cell-requires-clause-inside : goal.clump_label_for_cell-requires-clause-inside
clump_label_for_cell-requires-clause-inside c =
    let m = c.args.map.now in
    let inv = c.loop-run.invariant in
    let before : List LabelledCell = labelled_cells_of_runs c.loop-run.below.items in
    let z : LabelledCell = record { cell = c.in-Some.run'.0; label = c.cells.label } in
    let done : List LabelledCell = before ++ replicate c.cells.passed z in
    let w = c.cells.invariant.walked [] c.requires.read in
    let ahead = run_ahead c.loop-run.run-iterator c.next.new.self c.in-Some.run' c.in-Some.ensures.steps in
    let c_in : length done < m.region.cols = omega (
      arith,
      length-append before
          (replicate c.cells.passed z),
      length-replicate c.cells.passed z,
      inv.within,
      c.cells-test.true,
    ) in
    subst (AreNeighbourLabelsInTable (length c.cells.table.items)) (sym c.under-near.ensures)
    (walked_inside c.args.joining m [] c.cells.table.items done
    (unread_cells_of_row_above c.cells.above c.args.line.now) c.args.row c.cells.near w c_in)

pub alike-requires : goal.alike-requires
alike-requires c =
    let m = c.args.map.now in
    let inv = c.loop-run.invariant in
    let before : List LabelledCell = labelled_cells_of_runs c.loop-run.below.items in
    let z : LabelledCell = record { cell = c.in-Some.run'.0; label = c.cells.label } in
    let done : List LabelledCell = before ++ replicate c.cells.passed z in
    let w = c.cells.invariant.walked [] c.requires.read in
    let ahead = run_ahead c.loop-run.run-iterator c.next.new.self c.in-Some.run' c.in-Some.ensures.steps in
    let all = still_to_come c.args.joining m [] c.cells.table.items done
    (unread_cells_of_row_above c.cells.above c.args.line.now) c.args.row c.cells.near w in
    in_hand c.cells.above c.args.line.now c.cells.invariant.at (omega (
      arith,
      length-append before
          (replicate c.cells.passed z),
      length-replicate c.cells.passed z,
      inv.within,
      c.cells-test.true,
    ))

pub cells-preserved : goal.cells-preserved
cells-preserved c =
    let m = c.args.map.now in
    let inv = c.loop-run.invariant in
    let before : List LabelledCell = labelled_cells_of_runs c.loop-run.below.items in
    let run = c.in-Some.run' in
    let y : LabelledCell = record { cell = run.0; label = c.cells.label } in
    let z : LabelledCell = record { cell = run.0; label = c.in_ok-label.label } in
    let passed = c.cells.passed in
    let step = c.min-step.result in
    let done : List LabelledCell = before ++ replicate passed y in
    let ahead = run_ahead c.loop-run.run-iterator c.next.new.self run c.in-Some.ensures.steps in
    let long = length-append before (replicate passed y) in
    let width = length-replicate passed y in
    let some : 0 < step = omega arith in
    let most : passed + step ≤ run.1 = omega arith in
    let left : c.under-near.result.left ≡ c.cells.near.left = ap (λ n. n.left) c.under-near.ensures in
    let same : (passed ≡ 0) ⊎ (y ≡ z) = ⊎_elim (λ e. inl e)
    (λ e. inr (ap (λ (l : ℕ). record { cell = run.0; label = l })
    (same_label run.0 c.cells.label c.in_ok-label.label c.cells.invariant.null c.in_ok-label.ensures.null
    (λ is. c.in_ok-label.ensures.alike (ap (λ (x : LabelledCell). x.cell) (left ∙ e)) is
    ∙ ap (λ (x : LabelledCell). x.label) (left ∙ e))))) c.cells.invariant.same in
    record {
      at = c.after-above.ensures.at;
      down = c.in_ok-label.ensures.down;
      most = omega (arith, c.cells.invariant.most, c.in_ok-label.ensures.long);
      within = most;
      null = c.in_ok-label.ensures.null;
      same = inr refl;
      walked = λ kept h.
          rw (← done_more before passed step y z same, c.after-above.ensures.coming)
          (blank_run_length_after_step c.args.joining m kept c.cells.table.items done c.cells.above c.args.line.now
          c.args.row
          c.cells.near c.under-near.result step c.clump_label_for_cell.new.table.items z
          (c.cells.invariant.walked kept h) some
          (alike_less c.args.joining c.cells.above c.alike.result step c.alike.ensures.alike (omega arith) some)
          (omega (arith, inv.within)) c.under-near.ensures c.in_ok-label.ensures.read
          (λ k lt. let at : length before + (passed + k) ≡ length done + k = omega arith in
          run_here m c.args.row (length before) c.loop-run.run-iterator c.next.new.self run c.in-Some.ensures.steps
          inv.cells (passed + k) (omega arith) ∙ ap (λ (i : ℕ). cell_at_position m
          (position_at_row_and_column c.args.row i)) at));
    }

pub loop-run-preserved : goal.loop-run-preserved
loop-run-preserved c =
    let m = c.args.map.now in
    let inv = c.loop-run.invariant in
    let runs : List (LabelledCell × ℕ) = c.loop-run.below.items in
    let run = c.in-Some.run' in
    let z : LabelledCell = record { cell = run.0; label = c.cells.label } in
    let all : c.cells.passed ≡ run.1 = omega (arith, c.cells-test.false, c.cells.invariant.within) in
    let ahead = run_ahead c.loop-run.run-iterator c.next.new.self run c.in-Some.ensures.steps in
    let pushed : c.push.new.self.items ≡ runs ++ (z, run.1) ∷ [] = c.in_ok-push.ensures.items in
    let kept : c.push-in-loop-run.new.self.items ≡ c.loop-run.runs.items ++
    (c.cells.label, run.1) ∷ [] = c.in_ok-push-2.ensures.items in
    let line : labelled_cells_of_runs c.push.new.self.items ≡ labelled_cells_of_runs runs
    ++ replicate run.1 z = ap labelled_cells_of_runs pushed
    ∙ line_more runs z run.1 in
    let long : length (labelled_cells_of_runs c.push.new.self.items)
    ≡ length (labelled_cells_of_runs runs) + run.1 = ap (length
    {A = LabelledCell}) line ∙ length-append (labelled_cells_of_runs runs) (replicate run.1 z)
    ∙ ap (λ (n : ℕ). length (labelled_cells_of_runs runs) + n) (length-replicate run.1 z) in
    let counts = subst (All (λ (r : RunValue). 0 < r.1)) c.in-Some.ensures.steps inv.counts in
    let some = All-head (λ (r : RunValue). 0 < r.1) _ _ counts in
    let out : drop (length (labelled_cells_of_runs runs))
    (row_at m c.args.row) ≡ replicate run.1 run.0 ++ cells_of_runs c.next.new.self = inv.cells
    ∙ ap cells_of_runs c.in-Some.ensures.steps in
    record {
      at = c.cells.invariant.at;
      down = c.cells.invariant.down;
      most = omega (arith, c.cells.invariant.most);
      lengths = rw pushed (All-push (λ (r : LabelledCell × ℕ). 0 < r.1) runs (z, run.1) inv.lengths some);
      counts = All-tail (λ (r : RunValue). 0 < r.1) _ _ counts;
      cells = ap (λ (n : ℕ). drop n (row_at m c.args.row)) long
          ∙ run_past (length (labelled_cells_of_runs runs)) run.1 (row_at m c.args.row)
          (cells_of_runs c.next.new.self) run.0 out;
      within = omega (arith, inv.within);
      same = rw (kept, line) (same_more c.loop-run.runs.items (labelled_cells_of_runs runs) z run.1 inv.same);
      nulls = rw line (All-append (λ (x : LabelledCell). x.cell ≡ None
          → x.label ≡ 4294967295) (labelled_cells_of_runs runs) (replicate run.1 z) inv.nulls
          (All-replicate (λ (x : LabelledCell). x.cell ≡ None → x.label ≡ 4294967295) run.1 z c.cells.invariant.null));
      walked = λ labels h. rw (line, ← all) (c.cells.invariant.walked labels h);
    }

pub returns-clause-read : goal.returns-clause-read
returns-clause-read c = λ kept count h.
    let inv = c.loop-run.invariant in
    let none : length (cells_of_runs c.loop-run.run-iterator) ≡ 0 = ap (λ (l : List RunValue). length
    (cells_of_runs l)) c.in-None.ensures.steps.0 in
    rw c.of_runs.ensures (row_kept c.args.joining c.args.map.now kept c.loop-run.table.items c.loop-run.below.items
    (unread_cells_of_row_above c.loop-run.above c.args.line.now) c.args.row c.loop-run.near
    (labels_of_cells_in_runs c.loop-run.runs.items)
    (inv.walked kept h) (omega (arith, inv.within)) count inv.same inv.nulls)
