use Rattle.std.proofs.Common.{◌≡◌, ◌≢◌, ◌<◌, ◌++◌, [], ◌∷◌, List, refl, ap, sym, ◌∙◌, arith}
use Rattle.std.proofs.lemmas.List.Elements.{All-nil, All-push}
use Rattle.cell_core.specs.Runs.{RunValue}
use Rattle.cell_cats.proofs.ReclassLemmas.{count, first-some, others-some, run-next, run-on, apart-on, apart-next}
use Rattle.cell_cats.proofs.reclassing.write_reclassed_runs.Goals as goal

begun : {given rest left : List RunValue} {read : RunValue} → given ≡ read ∷ rest → left ≡ rest → given ≡ read ∷ left
begun {read = read} steps same = steps ∙ ap (λ (l : List RunValue). read ∷ l) (sym same)

pub loop-cell-init : goal.loop-cell-init
loop-cell-init c =
    let steps = begun c.in-Some.ensures.steps c.into_iter-cell-iterator.ensures.into_iter_gives in
    let none = c.clear.ensures.items in
    record {
      whole = λ rules of known.
          rw none (run-next _ _ _ steps rules _ (c.cached_new_category.ensures.value rules of known) [] _ refl);
      lengths = rw none (All-nil (λ (run : RunValue). 0 < run.1));
      longer = first-some _ _ _ steps c.requires.runs.lengths;
      apart = rw none tt;
      more = others-some _ _ _ steps c.requires.runs.lengths;
      few = omega (arith, count _ _ _ steps);
      some = omega (arith, c.cached_new_category.auto.known, c.requires.some);
      right = λ rules of known. c.cached_new_category.ensures.right rules of known;
    }

pub loop-cell-preserved-then-eq : goal.loop-cell-preserved-then-eq
loop-cell-preserved-then-eq c =
    let is = c.loop-cell.invariant in
    let run = c.loop-cell.run in
    let steps = c.in-Some-2.ensures.steps in
    let same = c.eq.ensures.same.0 c.if-eq.true in
    record {
      whole = λ rules of known.
          run-on _ _ _ steps rules run.0 (sym same ∙ c.cached_new_category-new.ensures.value rules of
          (is.right rules of known))
          c.loop-cell.made.items run.1 _
          (is.whole rules of known);
      lengths = is.lengths;
      longer = omega (arith, is.longer);
      apart = apart-on c.loop-cell.made.items run.0 run.1 _ is.apart;
      more = others-some _ _ _ steps is.more;
      few = omega (arith, count _ _ _ steps, is.few);
      some = omega (arith, c.cached_new_category-new.auto.known, is.some);
      right = λ rules of known. c.cached_new_category-new.ensures.right rules of (is.right rules of known);
    }

pub loop-cell-preserved : goal.loop-cell-preserved
loop-cell-preserved c =
    let is = c.loop-cell.invariant in
    let run = c.loop-cell.run in
    let made = c.loop-cell.made.items in
    let steps = c.in-Some-2.ensures.steps in
    let pushed : c.push.new.self.items ≡ made ++ run ∷ [] = c.in_ok-push.ensures.items in
    let other : run.0 ≢ c.cached_new_category-new.result = λ e.
    let yes = c.eq.ensures.same.1 (sym e) in
    let no = c.if-eq.false in cc in
    record {
      whole = λ rules of known.
          rw pushed (run-next _ _ _ steps rules _ (c.cached_new_category-new.ensures.value rules of
          (is.right rules of known))
          (made ++ run ∷ []) _ (is.whole rules of known));
      lengths = rw pushed (All-push (λ (r : RunValue). 0 < r.1) made run is.lengths is.longer);
      longer = first-some _ _ _ steps is.more;
      apart = rw pushed (apart-next made run (c.cached_new_category-new.result, c.in-Some-2.count) other is.apart);
      more = others-some _ _ _ steps is.more;
      few = omega (arith, count _ _ _ steps, is.few);
      some = omega (arith, c.cached_new_category-new.auto.known, is.some);
      right = λ rules of known. c.cached_new_category-new.ensures.right rules of (is.right rules of known);
    }
