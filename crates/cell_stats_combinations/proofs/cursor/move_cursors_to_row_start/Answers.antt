use Rattle.std.proofs.Common.{◌≡◌, ◌<◌, ◌≤◌, ◌++◌, [], ◌∷◌, length, map, take, take_all, get_or, refl, ap, sym, ◌∙◌, arith, ℕ}
use borrow.Author.Count.{falls}
use Rattle.std.proofs.lemmas.List.{take_more}
use Rattle.std.proofs.lemmas.List.Elements.{All-nil, All-push}
use Rattle.cell_core_values.specs.Region.{RegionValue}
use Rattle.cell_core.specs.Grid.{row_at}
use Rattle.cell_stats_combinations.specs.Cursors.{to_come, CursorHasNoEmptyLaterRun, row_of_map_at_place}
use Rattle.cell_stats_combinations.proofs.CursorLemmas.{row-of, map-take-more, map-take-set, All-take-set}
use Rattle.cell_stats_combinations.proofs.cursor.move_cursors_to_row_start.Goals as goal

below : {n m most : ℕ} → n < m → m ≡ most → n < most
below lower same = omega arith

at_most : {n m most : ℕ} → n ≡ m → m ≤ most → n ≤ most
at_most same high = omega arith

pub loop-i-preserved : goal.loop-i-preserved
loop-i-preserved c =
    let maps = c.args.shelf.now.maps in
    let picks = c.args.picks.now in
    let i = c.loop-i.i in
    let p = get_or picks i 0 in
    let inv = c.loop-i.invariant in
    let start = c.start.result in
    let within = c.loop-i-test.true in
    let within_cursors = below c.loop-i-test.true (sym (c.loop-i.auto.cursors ∙ c.requires.width)) in
    let is : row_of_map_at_place maps c.args.row p ≡ row_at c.map.result.now c.args.row = row-of maps c.args.row p c.map.result.now c.map.ensures.value in
    record {
      cells =
          map-take-set to_come c.loop-i.cursors i start within_cursors ∙ ap (λ l. l ++ to_come start ∷ []) inv.cells
          ∙ ap (λ x. map (row_of_map_at_place maps c.args.row) (take i picks) ++ x ∷ []) (c.start.ensures.cells ∙ sym is) ∙ sym (map-take-more (row_of_map_at_place maps c.args.row) picks i 0 within);
      width = rw (take_more picks i 0 within) (
          All-push (λ (x : ℕ). length (row_of_map_at_place maps c.args.row x) ≡ c.args.shelf.now.region.cols) (take i picks) p inv.width (ap length is ∙ c.start.ensures.width ∙ ap (λ (r : RegionValue). r.cols) c.map.ensures.region)
          );
      ready = All-take-set CursorHasNoEmptyLaterRun CursorHasNoEmptyLaterRun c.loop-i.cursors i start within_cursors (λ x h. h) inv.ready c.start.ensures.ready;
    }

pub returns-clause-cells : goal.returns-clause-cells
returns-clause-cells c =
    let picks = c.args.picks.now in
    let cursors = c.loop-i.cursors in
    let all : take c.loop-i.i cursors ≡ cursors = take_all c.loop-i.i cursors
    (at_most (c.loop-i.auto.cursors ∙ c.requires.width) c.loop-i-test.false) in
    let picked : take c.loop-i.i picks ≡ picks = take_all c.loop-i.i picks c.loop-i-test.false in
    ap (map to_come) (sym all) ∙ c.loop-i.invariant.cells ∙ ap
    (map (row_of_map_at_place c.args.shelf.now.maps c.args.row)) picked

pub returns-clause-width : goal.returns-clause-width
returns-clause-width c =
    let picks = c.args.picks.now in
    let picked : take c.loop-i.i picks ≡ picks = take_all c.loop-i.i picks c.loop-i-test.false in
    rw picked at c.loop-i.invariant.width

pub returns-clause-ready : goal.returns-clause-ready
returns-clause-ready c =
    let cursors = c.loop-i.cursors in
    let all : take c.loop-i.i cursors ≡ cursors = take_all c.loop-i.i cursors
    (at_most (c.loop-i.auto.cursors ∙ c.requires.width) c.loop-i-test.false) in
    rw all at c.loop-i.invariant.ready

pub map-requires : goal.map-requires
map-requires c = c.requires.picked c.loop-i.i 0 c.loop-i-test.true

pub start-requires : goal.start-requires
start-requires c = below c.requires.row_in_range (ap (λ (r : RegionValue). r.rows) (sym c.map.ensures.region))

pub loop-i-init : goal.loop-i-init
loop-i-init c =
    record {
      cells = refl;
      width = All-nil (λ (x : ℕ). length (row_of_map_at_place c.args.shelf.now.maps c.args.row x)
          ≡ c.args.shelf.now.region.cols);
      ready = All-nil CursorHasNoEmptyLaterRun;
    }

pub loop-i-smaller : goal.loop-i-smaller
loop-i-smaller c = falls _ _ c.loop-i-test.true
