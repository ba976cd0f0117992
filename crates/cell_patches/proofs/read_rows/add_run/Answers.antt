use Rattle.std.proofs.Common.{◌≡◌, ◌∙◌, ◌+◌, ◌-◌, arith, sym, subst}
use Rattle.cell_patches.specs.parts.Passes.{PatchMeasuresCannotOverflow, IsRunAddedToPatch, patch_at_index_or_unread}
use Rattle.cell_patches.proofs.ResultLemmas.{on_ok}
use Rattle.cell_patches.proofs.PassLemmas.{all_other}
use Rattle.cell_patches.proofs.CellLemmas.{run_found, run_room, run_added, none_here, some_here}
use Rattle.cell_patches.proofs.read_rows.add_run.Goals as goal

pub returns-then-is_null-clause-read : goal.returns-then-is_null-clause-read
returns-then-is_null-clause-read g c =
    let none = none_here c.args.run.0 (sym c.is_null.ensures ∙ c.if-is_null.true) in
    all_other g.tile c.args.row c.args.col c.args.run.1 c.args.patches.now.items
    (λ b lt. c.requires.0.has_number b lt ∙ none)
    c.requires.1

pub add_run_to_numbered_patch-requires-clause-room : goal.add_run_to_numbered_patch-requires-clause-room
add_run_to_numbered_patch-requires-clause-room g c =
    let n =
    some_here g.tile c.args.position c.args.row c.args.col c.args.lines.now c.args.run c.requires.0
    (sym c.is_null.ensures ∙ c.if-is_null.false) in
    let is = c.patch_number_or_zero.ensures (n.0 + 1) n.1 in
    let place : c.patch_number_or_zero.result - 1 ≡ n.0 = omega arith in
    subst (λ x. PatchMeasuresCannotOverflow (patch_at_index_or_unread c.args.patches.now.items x)
    c.contribution_of_run-found.result) (sym place)
    (run_room g.tile c.args.position n.0 c.args.row c.args.col c.args.lines.now c.args.run
    c.contribution_of_run-found.result c.args.patches.now.items c.requires.0
    (run_found g.tile c.args.position (n.0 + 1) c.args.row c.args.col c.args.lines.now c.args.run c.requires.0 n.1
    c.contribution_of_run-found.result c.contribution_of_run-found.ensures)
    c.requires.1)

pub returns-clause-read : goal.returns-clause-read
returns-clause-read g c =
    let n =
    some_here g.tile c.args.position c.args.row c.args.col c.args.lines.now c.args.run c.requires.0
    (sym c.is_null.ensures ∙ c.if-is_null.false) in
    let is = c.patch_number_or_zero.ensures (n.0 + 1) n.1 in
    let place : c.patch_number_or_zero.result - 1 ≡ n.0 = omega arith in
    on_ok c.add_run_to_numbered_patch.result _ _
    (λ adds. run_added g.tile c.args.position n.0 c.args.row c.args.col c.args.lines.now c.args.run
    c.contribution_of_run-found.result c.args.patches.now.items c.add_run_to_numbered_patch.new.patches.items
    c.requires.0 n.1
    (run_found g.tile c.args.position (n.0 + 1) c.args.row c.args.col c.args.lines.now c.args.run c.requires.0 n.1
    c.contribution_of_run-found.result c.contribution_of_run-found.ensures)
    (subst (λ x. IsRunAddedToPatch c.args.patches.now.items c.add_run_to_numbered_patch.new.patches.items x
    c.contribution_of_run-found.result) place adds)
    c.requires.1)
    c.add_run_to_numbered_patch.ensures
