use Rattle.std.proofs.Common.{◌≡◌, ◌∙◌, ◌++◌, ◌∷◌, ℕ, List, [], ap, append_assoc, append-nil, flat_map, rules, sym}
use Rattle.std.proofs.lemmas.Grind.{flat_map-append}
use Rattle.cell_core_devices.proofs.BlockLemmas.{appends_then}
use Rattle.cell_patches.specs.declared.patch.Patch.{Patch}
use Rattle.rcell_pipe_join.specs.JoinFrames.{numbered_patch_bytes}
use Rattle.rcell_pipe_join.proofs.join_frame.push_numbered_patches.Goals as goal

bytes-push : (written : List (ℕ × Patch)) (entry : ℕ × Patch)
    → flat_map numbered_patch_bytes (written ++ entry ∷ [])
    ≡ flat_map numbered_patch_bytes written ++ numbered_patch_bytes entry
bytes-push written entry =
    flat_map-append numbered_patch_bytes written (entry ∷ [])
    ∙ ap (λ (t : List ℕ). flat_map numbered_patch_bytes written ++ t) (append-nil (numbered_patch_bytes entry))

pub loop-number-init : goal.loop-number-init
loop-number-init g c = ([], search rules, search rules)

pub loop-number-preserved : goal.loop-number-preserved
loop-number-preserved g c =
    let written = c.loop-number.invariant.0 in
    let entry : ℕ × Patch = (c.in-Some.number.now, c.in-Some.patch.now) in (
      written ++ entry ∷ [],
      append_assoc written (entry ∷ []) c.next.new.self
          ∙ ap (λ (rest : List (ℕ × Patch)). written ++ rest) (sym c.in-Some.ensures.steps) ∙ c.loop-number.invariant.1,
      rw (bytes-push written entry) (appends_then c.loop-number.invariant.2 c.push_numbered_patch.ensures),
    )

pub returns : goal.returns
returns g c =
    let written = c.loop-number.invariant.0 in
    let all : written ≡ c.args.patches.now.entries =
    sym (append-nil written) ∙ ap (λ (rest : List (ℕ × Patch)). written ++ rest) (sym c.in-None.ensures.steps.0)
    ∙ c.loop-number.invariant.1 in
    rw all at c.loop-number.invariant.2
