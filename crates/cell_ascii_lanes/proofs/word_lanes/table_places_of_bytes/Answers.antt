use Rattle.std.proofs.Common.{ℕ, map, replicate, ap, sym, ◌∙◌}
use Rattle.cell_ascii_lanes.proofs.ByteLaneLemmas.{distances, under, less}
use Rattle.cell_ascii_lanes.proofs.word_lanes.table_places_of_bytes.Goals as goal
use lib.Lanes.{zip2, top, sel_l}

pub returns : goal.returns
returns c =
    let v = c.args.bytes in
    ap (λ (n : ℕ). sel_l (map (top 7) (zip2 under (zip2 less v (replicate n 48)) (replicate n 15))) (zip2 less v (replicate n 48)) (replicate n 15)) (sym c.fits-bytes.0) ∙ distances v
