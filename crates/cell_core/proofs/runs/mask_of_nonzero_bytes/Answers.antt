use Rattle.std.proofs.Common.{◌≡◌, ◌≤◌, ℕ, eqb, not, length, take, w8, ap, ◌∙◌, arith, length-take, take_all}
use Rattle.std.proofs.lemmas.Simd.{bitmask_splat}
use Rattle.cell_core.specs.parts.RowForms.{bits_of_nonzero_bytes}
use Rattle.cell_core.proofs.runs.mask_of_nonzero_bytes.Goals as goal

pub returns : goal.returns
returns c =
    let flags = c.args.flags.now in
    let size : length (take 64 flags) ≡ 64 = omega (arith, length-take 64 flags, c.requires) in
    let few : 64 ≤ 64 = omega arith in
    let all : length flags ≤ 64 = omega (arith, c.requires) in
    bitmask_splat w8 (λ (a b : ℕ). not (eqb a b)) (take 64 flags) 64 0 size few
    ∙ ap bits_of_nonzero_bytes (take_all 64 flags all)
