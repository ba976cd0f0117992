use Rattle.std.proofs.Common.{◌≡◌, ℕ, ◌+◌, ◌<◌, List, [], ◌∷◌, ◌++◌, length, get_or, map, take, ap, sym, ◌∙◌}
use Rattle.std.proofs.lemmas.List.{map_more, take_all}
use Rattle.std.proofs.lemmas.Result.{IfOk-from_err}
use borrow.Author.Count.{falls}
use Rattle.cell_calc_language.specs.Binding.{place_of_map_name}
use Rattle.cell_calc_grammar.specs.Postfix.{step_with_leaf_replaced}
use Rattle.cell_calc_language.proofs.binding.steps_with_map_places.Goals as goal

one_more : {X Y : Type 0} (f : X → Y) (xs : List X) (i : ℕ) (x : X) (ys : List Y) (y : Y)
    → i < length xs → ys ≡ map f (take i xs) → y ≡ f x → x ≡ get_or xs i x → ys ++ y ∷ [] ≡ map f (take (i + 1) xs)
one_more f xs i x ys y inside so_far is here =
    ap (λ l. l ++ y ∷ []) so_far ∙ ap (λ z. map f (take i xs) ++ z ∷ []) (is ∙ ap f here)
    ∙ sym (map_more f xs i x inside)

pub returns-in_err-found : goal.returns-in_err-found
returns-in_err-found c = IfOk-from_err c.from_residual.result _ c.from_residual.ensures.0

pub loop-step-init : goal.loop-step-init
loop-step-init c = c.in_ok-found.ensures.items

pub returns-in_err-push : goal.returns-in_err-push
returns-in_err-push c = IfOk-from_err c.from_residual-in_err-push.result _ c.from_residual-in_err-push.ensures.0

pub loop-step-smaller : goal.loop-step-smaller
loop-step-smaller c = falls (length c.args.steps.now) c.loop-step.step-index c.loop-step-test.true

pub loop-step-preserved : goal.loop-step-preserved
loop-step-preserved c =
    c.in_ok-push.ensures.items
    ∙ one_more (step_with_leaf_replaced (place_of_map_name c.args.names.now)) c.args.steps.now c.loop-step.step-index
    c.step-item.result
    c.loop-step.found.items c.step_with_map_place.result c.loop-step-test.true c.loop-step.invariant
    c.step_with_map_place.ensures c.step-item.is

pub returns : goal.returns
returns c =
    let all = take_all c.loop-step.step-index c.args.steps.now c.loop-step-test.false in
    c.loop-step.invariant ∙ ap (λ l. map (step_with_leaf_replaced (place_of_map_name c.args.names.now)) l) all
