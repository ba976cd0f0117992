use Rattle.std.proofs.Common.{◌≡◌, ◌+◌, ℕ, List, false, cond, eqb, length, map, get_or, replicate, arith, ap, sym, ◌∙◌, w8}
use Rattle.std.proofs.lemmas.Simd.{zip2_splat, get_or-put_chunk_at, get_or-sel_l, length-sel_l, get_or-replicate, length-replicate, tops_compared}
use Rattle.std.proofs.lemmas.List.{length-map, get_or-map}
use Rattle.cell_ascii_lanes.specs.WordLanes.{is_null_star}
use Rattle.cell_ascii_lanes.proofs.word_lanes.put_cell_bytes_in_lanes.Goals as goal
use lib.Lanes.{sel_l, put_chunk}

pub returns : goal.returns
returns c = λ p lt.
    let same : 0 + p ≡ p = omega arith in
    let v = c.args.bytes in
    let w = c.args.values in
    let ms = map is_null_star v in
    let all : List ℕ = replicate 64 255 in
    let stars = tops_compared w8 eqb v (replicate 64 42) ∙ zip2_splat eqb v 64 42 c.fits-bytes.0 in
    let size : length ms ≡ 64 = length-map v is_null_star ∙ c.fits-bytes.0 in
    let whole : length all ≡ 64 = length-replicate {A = ℕ} 64 255 in
    let long : length (sel_l ms all w) ≡ 64 = length-sel_l ms all w (size ∙ sym whole) (size ∙ sym c.fits-values.0) ∙ size in
    ap (λ l. get_or (put_chunk 0 c.args.lanes.now (sel_l l all w)) p 0) stars
    ∙ ap (λ k. get_or (put_chunk 0 c.args.lanes.now (sel_l ms all w)) k 0) (sym same)
    ∙ get_or-put_chunk_at 0 c.args.lanes.now (sel_l ms all w) p 0 (omega (arith, long)) (omega (arith, long, c.requires))
    ∙ get_or-sel_l ms all w p 0 (omega (arith, size)) (omega (arith, whole)) (omega (arith, c.fits-values.0))
    ∙ ap (λ b. cond b (get_or all p 0) (get_or w p 0)) (get_or-map is_null_star v p 0 false (omega (arith, c.fits-bytes.0)))
    ∙ ap (λ n. cond (is_null_star (get_or v p 0)) n (get_or w p 0)) (get_or-replicate 64 p 255 0 lt)
