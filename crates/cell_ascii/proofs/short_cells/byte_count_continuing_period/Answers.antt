use Rattle.std.proofs.Common.{◌≡◌, ◌+◌, ◌-◌, ap, ◌∙◌, sym, arith, length, take, drop, List, ℕ}
use Rattle.std.proofs.lemmas.List.{take_rest}
use Rattle.cell_ascii_lanes.proofs.LaneLemmas.{alike_longer}
use Rattle.cell_ascii.proofs.short_cells.byte_count_continuing_period.Goals as goal

-- if `count` bytes repeat n places later, and `more` bytes after them do, all of them repeat
longer : (buffered : List ℕ) (n count more : ℕ)
    → take count (take (length buffered - n) (drop n buffered)) ≡ take count buffered
    → take more (take (length (take (length buffered - n) (drop n buffered)) - count) (drop count (take (length buffered - n) (drop n buffered)))) ≡ take more (take (length buffered - count) (drop count buffered))
    → take (count + more) (drop n buffered) ≡ take (count + more) buffered
longer buffered n count more so_far next =
    let later = take_rest buffered n in
    alike_longer count more (drop n buffered) buffered
    (sym (ap (take count) later) ∙ so_far)
    (sym (ap (λ (l : List ℕ). take more (drop count l)) later) ∙ sym (ap (take more) (take_rest (take (length buffered - n) (drop n buffered)) count)) ∙ next ∙ ap (take more) (take_rest buffered count))

pub returns-then-more-lt-LANES-clause-alike : goal.returns-then-more-lt-LANES-clause-alike
returns-then-more-lt-LANES-clause-alike c =
    longer c.args.buffered.now c.args.n c.loads.count c.front_alike-more.result c.loads.invariant.alike c.front_alike-more.ensures.alike

pub loads-preserved : goal.loads-preserved
loads-preserved c =
    let buffered = c.args.buffered.now in
    let n = c.args.n in
    let count = c.loads.count in
    let later = take_rest buffered n in
    let all : c.front_alike-more.result ≡ 16 = omega (arith, c.front_alike-more.ensures.few, c.if-more-lt-LANES.false) in
    record {
      within = omega (arith, c.loads-test.true, c.loads.invariant.within);
      alike = ap (take (count + 16)) later
          ∙ ap (λ (k : ℕ). take (count + k) (drop n buffered)) (sym all)
          ∙ longer buffered n count c.front_alike-more.result c.loads.invariant.alike c.front_alike-more.ensures.alike
          ∙ ap (λ (k : ℕ). take (count + k) buffered) all;
    }
