use Rattle.std.proofs.Common.{◌≡◌, ◌<◌, ◌≤◌, ◌+◌, get_or, set, ap, sym, ◌∙◌, arith, [], ◌∷◌, ◌++◌, ℕ, map, take, take_all, drop, refl, length-set, subst}
use borrow.Author.Count.{falls}
use Rattle.std.proofs.lemmas.List.{take_more_set, drop-set-lt}
use Rattle.std.proofs.lemmas.List.Elements.{All-nil, All-set}
use Rattle.cell_stats_combinations.specs.Cursors.{RunCursorValue, to_come, CursorHasNoEmptyLaterRun}
use Rattle.cell_stats_combinations.proofs.CursorLemmas.{same-here, same-behind, map-take-set, map-take-more, All-take-set, All-take-front}
use Rattle.cell_stats_combinations.proofs.cursor.advance_cursors_and_write_cells.Goals as goal

below : {n m most : ℕ} → n < m → m ≡ most → n < most
below lower same = omega arith

at_most : {n m most : ℕ} → n ≡ m → m ≤ most → n ≤ most
at_most same high = omega arith

same_most : {n m most : ℕ} → n ≤ m → m ≡ most → n ≤ most
same_most high same = omega arith

up_to : {n m most : ℕ} → n ≤ m → m ≤ most → n ≤ most
up_to first second = omega arith

itself : (n : ℕ) → n ≤ n
itself n = omega arith

next : (n : ℕ) → n < n + 1
next n = omega arith

some_same : {n m : ℕ} → 0 < n → m ≡ n → 0 < m
some_same some same = omega arith

pub pass-requires-clause-within : goal.pass-requires-clause-within
pass-requires-clause-within c =
    let old = c.args.cursors.now in
    let i = c.loop-i.i in
    let d = c.index-cursors-i.result in
    let same : get_or c.loop-i.cursors i d ≡ get_or old i d = same-here c.loop-i.cursors old i d c.loop-i.invariant.rest in
    let within = c.loop-i-test.true in
    subst (λ (x : RunCursorValue). c.args.count ≤ x.left) (sym same) (c.requires.within i d within)

pub loop-i-preserved : goal.loop-i-preserved
loop-i-preserved c =
    let old = c.args.cursors.now in
    let now = c.loop-i.cursors in
    let i = c.loop-i.i in
    let d = c.index-cursors-i.result in
    let new = c.pass.new.self in
    let inside = c.cursor.inside in
    let cell_is : inside.cell ≡ new.cell = ap (λ (x : RunCursorValue). x.cell) c.cursor.view_is in
    let left_is : inside.left ≡ new.left = ap (λ (x : RunCursorValue). x.left) c.cursor.view_is in
    let inv = c.loop-i.invariant in
    let same : get_or now i d ≡ get_or old i d = same-here now old i d inv.rest in
    let within = below c.loop-i-test.true (sym c.loop-i.auto.cursors) in
    let within_old = c.loop-i-test.true in
    let within_cells = below c.loop-i-test.true (sym (inv.width ∙ c.loop-i.auto.cursors)) in
    record {
      cells = ap (λ x. take (i + 1) (set c.loop-i.cells i x)) cell_is ∙ take_more_set c.loop-i.cells i new.cell within_cells ∙ ap (λ l. l ++ new.cell ∷ []) inv.cells ∙ sym (map-take-set (λ (x : RunCursorValue). x.cell) now i new within);
      passed =
          map-take-set to_come now i new within ∙ ap (λ l. l ++ to_come new ∷ []) inv.passed
          ∙ ap (λ x. map (λ (x : RunCursorValue). drop c.args.count (to_come x)) (take i old) ++ x ∷ []) (c.pass.ensures.cells ∙ ap (λ (x : RunCursorValue). drop c.args.count (to_come x)) same)
          ∙ sym (map-take-more (λ (x : RunCursorValue). drop c.args.count (to_come x)) old i d within_old);
      rest = drop-set-lt (i + 1) now i new (next i) ∙ same-behind now old i inv.rest;
      width = length-set c.loop-i.cells i inside.cell ∙ inv.width ∙ sym (length-set now i new);
      ready = All-set CursorHasNoEmptyLaterRun now i new c.pass.ensures.ready inv.ready;
      least = All-take-set (λ (x : RunCursorValue). c.loop-i.least ≤ x.left)
          (λ (x : RunCursorValue). c.lesser_column_count-least.result ≤ x.left) now i new within
          (λ x h. up_to c.lesser_column_count-least.ensures.first h) inv.least
          (same_most c.lesser_column_count-least.ensures.second left_is);
      most = up_to c.lesser_column_count-least.ensures.first inv.most;
      some = λ all left.
          let front = All-take-front (λ (x : RunCursorValue). 0 < x.left) now i new within all in
          c.lesser_column_count-least.ensures.some (inv.some front.0 left) (some_same front.1 left_is);
    }

pub pass-requires-clause-ready : goal.pass-requires-clause-ready
pass-requires-clause-ready c =
    c.loop-i.invariant.ready c.loop-i.i c.index-cursors-i.result (below c.loop-i-test.true (sym c.loop-i.auto.cursors))

pub loop-i-init : goal.loop-i-init
loop-i-init c =
    record {
      cells = refl;
      passed = refl;
      rest = refl;
      width = c.requires.width;
      ready = c.requires.ready;
      least = All-nil (λ (x : RunCursorValue). c.args.left ≤ x.left);
      most = itself c.args.left;
      some = λ _ left. left;
    }

pub loop-i-smaller : goal.loop-i-smaller
loop-i-smaller c = falls _ _ c.loop-i-test.true

pub returns-clause-cells : goal.returns-clause-cells
returns-clause-cells c =
    let i = c.loop-i.i in
    let inv = c.loop-i.invariant in
    let cursors = take_all i c.loop-i.cursors (at_most c.loop-i.auto.cursors c.loop-i-test.false) in
    let cells = take_all i c.loop-i.cells (at_most (inv.width ∙ c.loop-i.auto.cursors) c.loop-i-test.false) in
    sym cells ∙ inv.cells ∙ ap (map (λ (x : RunCursorValue). x.cell)) cursors

pub returns-clause-passed : goal.returns-clause-passed
returns-clause-passed c =
    let i = c.loop-i.i in
    let cursors = take_all i c.loop-i.cursors (at_most c.loop-i.auto.cursors c.loop-i-test.false) in
    let old = take_all i c.args.cursors.now c.loop-i-test.false in
    ap (map to_come) (sym cursors) ∙ c.loop-i.invariant.passed
    ∙ ap (map (λ (x : RunCursorValue). drop c.args.count (to_come x))) old

pub returns-clause-ready : goal.returns-clause-ready
returns-clause-ready c = c.loop-i.invariant.ready

pub returns-clause-least : goal.returns-clause-least
returns-clause-least c =
    let cursors = take_all c.loop-i.i c.loop-i.cursors (at_most c.loop-i.auto.cursors c.loop-i-test.false) in
    rw cursors at c.loop-i.invariant.least

pub returns-clause-most : goal.returns-clause-most
returns-clause-most c = c.loop-i.invariant.most

pub returns-clause-some : goal.returns-clause-some
returns-clause-some c = λ all left.
    let cursors = take_all c.loop-i.i c.loop-i.cursors (at_most c.loop-i.auto.cursors c.loop-i-test.false) in
    c.loop-i.invariant.some (rw cursors all) left
