use Rattle.std.proofs.Common.{◌<◌, All, subst, ◌∙◌, rules}
use Rattle.std.proofs.lemmas.List.Elements.{All-tail}
use Rattle.cell_core.specs.Runs.{RunValue}
use Rattle.rcell_pipe_frames.proofs.SmallLemmas.{small_on}
use Rattle.rcell_pipe_frames.proofs.cells.are_one_byte_runs.Goals as goal

pub loop-cell-preserved : goal.loop-cell-preserved
loop-cell-preserved c =
    let steps = c.in-Some.ensures.steps in
    record {
      whole = small_on c.in-Some.cell c.in-Some.field-0-1 steps
          (search (rules, c.is_one_byte_cell.ensures, c.if-not-is_one_byte_cell.false))
          ∙ c.loop-cell.invariant.whole;
      lengths = All-tail (λ (run : RunValue). 0 < run.1) _ c.next.new.self
          (subst (All (λ (run : RunValue). 0 < run.1)) steps c.loop-cell.invariant.lengths);
    }
