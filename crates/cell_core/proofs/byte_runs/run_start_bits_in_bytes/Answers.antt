use Rattle.std.proofs.Common.{◌^◌, ◌%◌, ◌∙◌, ℕ, Bool, List, not, eqb, take, drop, w8, ap}
use Rattle.std.proofs.lemmas.Simd.{tops_compared}
use Rattle.cell_core.proofs.ByteLemmas.{byte-mask}
use Rattle.cell_core.proofs.byte_runs.run_start_bits_in_bytes.Goals as goal
use lib.Lanes.{mask_l}

pub returns : goal.returns
returns c =
    let bytes = c.args.bytes.now in
    ap (λ (ms : List Bool). mask_l ms % 2 ^ 64) (tops_compared w8 (λ (a b : ℕ). not (eqb a b))
    (take 64 (drop 1 bytes)) (take 64 bytes))
    ∙ byte-mask bytes c.requires
