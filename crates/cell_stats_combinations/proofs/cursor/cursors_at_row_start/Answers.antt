use Rattle.std.proofs.Common.{◌≡◌, ◌<◌, ◌++◌, [], ◌∷◌, length, map, take, take_all, get_or, ap, sym, ◌∙◌, arith, ℕ}
use Rattle.std.proofs.lemmas.Result.{IfOk-from_err}
use borrow.Author.Count.{falls}
use Rattle.std.proofs.lemmas.List.{map-append, take_more}
use Rattle.std.proofs.lemmas.List.Elements.{All-nil, All-same, All-push}
use Rattle.cell_core_values.specs.Region.{RegionValue}
use Rattle.cell_stats_combinations.specs.Cursors.{to_come, CursorHasNoEmptyLaterRun, row_of_map_at_place}
use Rattle.cell_stats_combinations.proofs.CursorLemmas.{row-of, map-take-more}
use Rattle.cell_core.specs.Grid.{row_at}
use Rattle.cell_stats_combinations.proofs.cursor.cursors_at_row_start.Goals as goal

below : {n m most : ℕ} → n < m → m ≡ most → n < most
below lower same = omega arith

pub loop-place-preserved : goal.loop-place-preserved
loop-place-preserved c =
    let maps = c.args.shelf.now.maps in
    let picks = c.args.picks.now in
    let i = c.loop-place.place-index in
    let p = get_or picks i 0 in
    let inv = c.loop-place.invariant in
    let start = c.start.result in
    let within = c.loop-place-test.true in
    let is : row_of_map_at_place maps c.args.row p ≡ row_at c.map.result.now c.args.row = row-of maps c.args.row p c.map.result.now c.map.ensures.value in
    record {
      cells = rw c.in_ok-push.ensures.items (
          map-append to_come c.loop-place.cursors.items (start ∷ []) ∙ ap (λ l. l ++ to_come start ∷ []) inv.cells
          ∙ ap (λ x. map (row_of_map_at_place maps c.args.row) (take i picks) ++ x ∷ []) (c.start.ensures.cells ∙ sym is) ∙ sym (map-take-more (row_of_map_at_place maps c.args.row) picks i 0 within)
          );
      width = rw (take_more picks i 0 within) (
          All-push (λ (x : ℕ). length (row_of_map_at_place maps c.args.row x) ≡ c.args.shelf.now.region.cols) (take i picks) p inv.width (ap length is ∙ c.start.ensures.width ∙ ap (λ (r : RegionValue). r.cols) c.map.ensures.region)
          );
      ready = rw c.in_ok-push.ensures.items (All-push CursorHasNoEmptyLaterRun c.loop-place.cursors.items start inv.ready c.start.ensures.ready);
    }

pub returns-in_err-cursors-clause-cells : goal.returns-in_err-cursors-clause-cells
returns-in_err-cursors-clause-cells c = IfOk-from_err c.from_residual.result _ c.from_residual.ensures.0

pub returns-in_err-cursors-clause-width : goal.returns-in_err-cursors-clause-width
returns-in_err-cursors-clause-width c = IfOk-from_err c.from_residual.result _ c.from_residual.ensures.0

pub returns-in_err-cursors-clause-ready : goal.returns-in_err-cursors-clause-ready
returns-in_err-cursors-clause-ready c = IfOk-from_err c.from_residual.result _ c.from_residual.ensures.0

pub loop-place-init : goal.loop-place-init
loop-place-init c =
    record {
      cells = ap (map to_come) c.in_ok-cursors.ensures.items;
      width = All-nil (λ (x : ℕ). length (row_of_map_at_place c.args.shelf.now.maps c.args.row x)
          ≡ c.args.shelf.now.region.cols);
      ready = All-same CursorHasNoEmptyLaterRun c.in_ok-cursors.cursors.items [] c.in_ok-cursors.ensures.items (All-nil CursorHasNoEmptyLaterRun);
    }

pub map-requires : goal.map-requires
map-requires c = c.requires.picked c.loop-place.place-index 0 c.loop-place-test.true

pub start-requires : goal.start-requires
start-requires c = below c.requires.row_in_range (ap (λ (r : RegionValue). r.rows) (sym c.map.ensures.region))

pub returns-in_err-push-clause-cells : goal.returns-in_err-push-clause-cells
returns-in_err-push-clause-cells c =
    IfOk-from_err c.from_residual-in_err-push.result _ c.from_residual-in_err-push.ensures.0

pub returns-in_err-push-clause-width : goal.returns-in_err-push-clause-width
returns-in_err-push-clause-width c =
    IfOk-from_err c.from_residual-in_err-push.result _ c.from_residual-in_err-push.ensures.0

pub returns-in_err-push-clause-ready : goal.returns-in_err-push-clause-ready
returns-in_err-push-clause-ready c =
    IfOk-from_err c.from_residual-in_err-push.result _ c.from_residual-in_err-push.ensures.0

pub loop-place-smaller : goal.loop-place-smaller
loop-place-smaller c = falls _ _ c.loop-place-test.true

pub returns-clause-cells : goal.returns-clause-cells
returns-clause-cells c =
    c.loop-place.invariant.cells ∙ ap (map (row_of_map_at_place c.args.shelf.now.maps c.args.row))
    (take_all c.loop-place.place-index c.args.picks.now c.loop-place-test.false)

pub returns-clause-width : goal.returns-clause-width
returns-clause-width c =
    let all = take_all c.loop-place.place-index c.args.picks.now c.loop-place-test.false in
    rw all at c.loop-place.invariant.width

pub returns-clause-ready : goal.returns-clause-ready
returns-clause-ready c = c.loop-place.invariant.ready
