use Rattle.std.proofs.Common.{◌≡◌, ◌+◌, ◌<◌, ◌≤◌, ◌^◌, ℕ, Fits, w64, length, set, ap, sym, refl, ◌∙◌, arith}
use Rattle.cell_stats_combinations.specs.Listed.{listed_count_of_combination}
use Rattle.cell_stats_combinations.specs.SideBySide.{counted_combinations_of_flat_list}
use Rattle.cell_stats_combinations.proofs.JoinLemmas.{any}
use Rattle.cell_stats_combinations.proofs.SideLemmas.{gathered-more, gathered-least}
use Rattle.cell_stats_combinations.proofs.gathered.add_to_count_of_combination.Goals as goal

fit : (have count : ℕ) {same most : ℕ} → have ≡ same → same ≤ most → most + count < 2 ^ 64 → Fits w64 (have + count)
fit have count is within room = omega arith

pub overflow_add-index_mut : goal.overflow_add-index_mut
overflow_add-index_mut c =
    let key = c.args.key.now in
    let counts = c.args.table.now.counts.items in
    let at = c.in-Ok.at in
    let have = c.index_mut.result.now in
    let within = c.in-Ok.ensures.within in
    fit have c.args.count (c.index_mut.ensures.value ∙ any counts at have 0 within)
    (gathered-least key (length key) c.args.table.now.cells.items counts at key within (sym c.in-Ok.ensures.same) refl)
    c.requires.fits

pub returns-in-Ok-clause-ok : goal.returns-in-Ok-clause-ok
returns-in-Ok-clause-ok c = λ k.
    let key = c.args.key.now in
    let cells = c.args.table.now.cells.items in
    let counts = c.args.table.now.counts.items in
    let at = c.in-Ok.at in
    let have = c.index_mut.result.now in
    let within = c.in-Ok.ensures.within in
    ap (λ n. listed_count_of_combination k (counted_combinations_of_flat_list (length key) cells
    (set counts at (n + c.args.count))))
    (c.index_mut.ensures.value ∙ any counts at have 0 within)
    ∙ gathered-more k (length key) cells counts at key within (sym c.in-Ok.ensures.same) c.args.count
