use Rattle.std.proofs.Common.{ℕ, suc, ◌≡◌, ◌≢◌, All, ◌+◌, ◌<◌, [], ◌∷◌, ◌++◌, List, length, drop, Ok, ap, ◌∙◌, sym}
use Rattle.std.proofs.Common.{refl, arith, rules}
use Rattle.std.proofs.lemmas.List.Elements.{All-head, All-push, All-tail}
use Rattle.cell_core_devices.specs.declared.source.Asked.{Asked}
use Rattle.cell_core_devices.specs.declared.source.Asked.TheVariants.{Going, Again}
use Rattle.std.specs.Vec.Iter.{into_iter_items}
use Rattle.rcell.specs.Loading.{shelf_with_remaining_grids}
use Rattle.rcell.proofs.LoadingLemmas.{agree_split, drop_one, shelf_more, shelf_fails, shelf_all, no_more, none_left}
use Rattle.rcell.proofs.loading.load_grids.Goals as goal

-- the index of a grid is less than the number of grids
within : {X : Type 0} {grid left all count : ℕ} {x : X} {xs ys : List X} → grid + left ≡ all → all ≡ count
    → left ≡ length xs → xs ≡ x ∷ ys → grid < count
within {grid = grid} {x = x} {ys = ys} sum same len is = let more : length (x ∷ ys) ≡ suc (length ys) = refl in
    let long = len ∙ ap length is in omega arith

-- one more source was read, and not again after its end or an error
step : {R : Type 0} (asked : R → Asked) (gs : List (List ℕ × R)) (g : List ℕ × R) (rest : List (List ℕ × R))
    (sources all : List R) (source : R)
    → gs ≡ g ∷ rest → all ≡ sources ++ source ∷ [] → (asked g.1 ≡ Going → asked source ≢ Again)
    → All (λ g. asked g.1 ≡ Going) gs × All (λ s. asked s ≢ Again) sources
    → All (λ g. asked g.1 ≡ Going) rest × All (λ s. asked s ≢ Again) all
step {R} asked gs g rest sources all source is items once (fresh, read) =
    let left : All (λ (g : List ℕ × R). asked g.1 ≡ Going) (g ∷ rest) = rw is at fresh in (
      All-tail (λ (g : List ℕ × R). asked g.1 ≡ Going) g rest left,
      rw items (All-push (λ (s : R). asked s ≢ Again) sources source read
          (once (All-head (λ (g : List ℕ × R). asked g.1 ≡ Going) g rest left))),
    )

pub returns-in-Err-clause-answer : goal.returns-in-Err-clause-answer
returns-in-Err-clause-answer g c =
    let supposed = g.R.Source.supposed in
    let at = c.loop-name in
    let is = c.in-Some.ensures.steps.0 in
    let items : c.push.new.self.items ≡ at.sources.items ++ c.shelf_with_grid_from_source-added.result.source
    ∷ [] = search rules in
    λ named hs suppose agree input.
    let split = agree_split supposed hs at.sources.items c.shelf_with_grid_from_source-added.result.source
    (rw items at agree) in
    let so = at.invariant.loads named hs suppose split.0 in
    so.1.1 ∙ shelf_fails supposed at.grid at.shelf (c.in-Some.name, c.in-Some.source)
    c.shelf_with_grid_from_source-added.result.source (into_iter_items c.next.new.self)
    (into_iter_items at.name-iterator) c.in-Err.fault (drop at.grid hs) so.0 is so.1.0 (rw at.invariant.read at split.1)
    input (rw c.in-Err.is at c.shelf_with_grid_from_source-added.ensures.answer)

pub returns-in-Err-clause-reported : goal.returns-in-Err-clause-reported
returns-in-Err-clause-reported g c =
    let whose = rw c.in-Err.is at c.shelf_with_grid_from_source-added.ensures.whose in
    whose.reported (length c.args.grids.items) (within c.loop-name.invariant.count c.args.grids.ok.0
    c.loop-name.invariant.len c.in-Some.ensures.steps.0)

pub returns-in-Err-clause-asked : goal.returns-in-Err-clause-asked
returns-in-Err-clause-asked g c =
    let asked = g.R.Source.asked in
    let at = c.loop-name in
    let items : c.push.new.self.items ≡ at.sources.items ++ c.shelf_with_grid_from_source-added.result.source
    ∷ [] = search rules in
    λ fresh.
    (step asked (into_iter_items at.name-iterator) (c.in-Some.name, c.in-Some.source) (into_iter_items c.next.new.self)
    at.sources.items c.push.new.self.items c.shelf_with_grid_from_source-added.result.source
    c.in-Some.ensures.steps.0 items c.shelf_with_grid_from_source-added.ensures.asked (at.invariant.asked fresh)).1

pub loop-name-preserved : goal.loop-name-preserved
loop-name-preserved g c =
    let supposed = g.R.Source.supposed in
    let at = c.loop-name in
    let is = c.in-Some.ensures.steps.0 in
    let items : c.push.new.self.items ≡ at.sources.items ++ c.shelf_with_grid_from_source-added.result.source
    ∷ [] = search rules in
    record {
      loads = λ named hs suppose agree.
          let split = agree_split supposed hs at.sources.items c.shelf_with_grid_from_source-added.result.source
          (rw items at
          agree) in
          let so = at.invariant.loads named hs suppose split.0 in
          let n = shelf_more supposed at.grid at.shelf (c.in-Some.name, c.in-Some.source)
          c.shelf_with_grid_from_source-added.result.source
          (into_iter_items c.next.new.self) (into_iter_items at.name-iterator) c.in-Ok.more (drop at.grid hs) so.0 is
          so.1.0
          (rw at.invariant.read at split.1) (rw c.in-Ok.is at c.shelf_with_grid_from_source-added.ensures.answer) in
          (n.0, (rw (drop_one at.grid hs) n.1.0, so.1.1 ∙ n.1.1));
      asked = λ fresh.
          step g.R.Source.asked (into_iter_items at.name-iterator) (c.in-Some.name, c.in-Some.source)
          (into_iter_items c.next.new.self) at.sources.items c.push.new.self.items
          c.shelf_with_grid_from_source-added.result.source
          c.in-Some.ensures.steps.0 items c.shelf_with_grid_from_source-added.ensures.asked (at.invariant.asked fresh);
      count = search rules;
      read = search rules;
      len = let was = at.invariant.len in
          let gone = c.in-Some.ensures.steps.1 in
          let short = ap (λ l. length l) is in
          omega arith;
      begun = search rules;
    }

pub returns-clause-answer : goal.returns-clause-answer
returns-clause-answer g c =
    let supposed = g.R.Source.supposed in
    let at = c.loop-name in
    let none : into_iter_items at.name-iterator ≡ [] = no_more (into_iter_items at.name-iterator) (sym at.invariant.len ∙ c.in-None.ensures.steps.0) in
    λ named hs suppose agree.
    let so = at.invariant.loads named hs suppose agree in
    so.1.1 ∙ ap (shelf_with_remaining_grids at.grid at.shelf) (none_left supposed (into_iter_items at.name-iterator)
    (drop at.grid hs)
    so.0 none so.1.0)
    ∙ shelf_all at.grid at.shelf ∙ ap Ok c.in-Some-shelf.is
