use Rattle.std.proofs.Common.{◌≡◌, ◌≤◌, ◌<◌, ℕ, Bool, true, false, cond, eqb, map, length, get_or, arith, refl, sym}
use Rattle.std.proofs.Common.{ap, ◌∙◌, w8, Fits}
use Rattle.std.specs.Int.{bit_at}
use Rattle.std.proofs.lemmas.Bool.{eqb-false}
use Rattle.std.proofs.lemmas.List.{get_or-map}
use Rattle.std.proofs.lemmas.Simd.{bitmask_splat, bit_mask_l, Each1-get_or}
use Rattle.cell_ascii_lanes.proofs.null_lanes.largest_mask.Goals as goal

small : (b : ℕ) → b < 256 → ◌≡◌ {A = ℕ} (cond (eqb b 255) 1 0) 0 → b < 255
small b fits e = by (eqb b 255) refl e
  where
    by : (t : Bool) → eqb b 255 ≡ t → ◌≡◌ {A = ℕ} (cond t 1 0) 0 → b < 255
    by true o h = absurd (omega arith)
    by false o h = let no = eqb-false b 255 o in omega (arith, no)

pub returns : goal.returns
returns c = λ p lt off.
    let values = c.args.values in
    let few : 64 ≤ 64 = omega arith in
    let within : p < length values = omega (arith, c.fits-values.0) in
    let bit = ap (λ m. bit_at m p) (bitmask_splat w8 eqb values 64 255 c.fits-values.0 few)
    ∙ bit_mask_l (map (λ v. eqb v 255) values) p
    ∙ ap (λ b. cond b 1 0) (get_or-map (λ v. eqb v 255) values p 0 false within) in
    small (get_or values p 0) (Each1-get_or (Fits w8) values p 0 within c.fits-values.1).fits (sym bit ∙ off)
