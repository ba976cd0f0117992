use Rattle.std.proofs.Common.{◌<◌, [], ◌∷◌, suc, List, All, length, take, replicate, ap, sym, subst, arith}
use Rattle.std.proofs.Common.{take_all}
use Rattle.std.proofs.lemmas.List.Elements.{All-append, All-more, All-nil, All-replicate, All-same}
use Rattle.cell_core_values.specs.Cell.{IsNullOrCategory}
use Rattle.cell_core.specs.Runs.{RunValue, cells_of_runs}
use Rattle.cell_core.proofs.row.Row.of_runs.Goals as goal

cells_of : (runs : List RunValue) → All (λ run. IsNullOrCategory run.0) runs → All IsNullOrCategory (cells_of_runs runs)
cells_of [] all = All-nil IsNullOrCategory
cells_of (run ∷ runs) all =
    All-append IsNullOrCategory (replicate run.1 run.0) (cells_of_runs runs)
    (All-replicate IsNullOrCategory run.1 run.0 (all 0 run (omega arith)))
    (cells_of runs (λ i d within. all (suc i) d (omega (arith, within))))

pub loop-run-preserved : goal.loop-run-preserved
loop-run-preserved c =
    let runs = c.args.runs.now in
    let i = c.loop-run.run-index in
    let run = c.run-item.result in
    let within : i < length runs = omega arith in
    let is_cell : RunValue → Type 0 = λ r. IsNullOrCategory r.0 in
    All-more is_cell runs i run within c.loop-run.invariant
    (subst is_cell c.run-item.is c.category_of_cell.ensures.cell)

pub returns-clause-cells : goal.returns-clause-cells
returns-clause-cells c =
    let runs = c.args.runs.now in
    let i = c.loop-run.run-index in
    let all : All (λ run. IsNullOrCategory run.0) runs =
    All-same (λ (r : RunValue). IsNullOrCategory r.0) runs (take i runs)
    (sym (take_all i runs (omega arith))) c.loop-run.invariant in
    All-same IsNullOrCategory _ _ (ap cells_of_runs c.in_ok-kept.ensures.items) (cells_of runs all)
