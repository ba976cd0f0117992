use Rattle.std.proofs.Common.{List, ◌++◌, Option, Some, sym, ◌∙◌, subst}
use Rattle.std.specs.List.{range_with_len}
use Rattle.cell_join_numbers.specs.declared.stretch.ConsecutiveClumps.{ConsecutiveClumps}
use Rattle.cell_join_tiles.specs.declared.run_lines.UnfinishedConsecutiveClumps.{UnfinishedConsecutiveClumps}
use Rattle.cell_join_tiles.specs.parts.RunLines.{ConsecutiveClumpsAreListed}
use Rattle.cell_join_tiles.proofs.RunLineLemmas.{in_lines-first, in_lines-next, in_lines-other, other_line}
use Rattle.cell_join_tiles.proofs.run_lines.extend_or_begin_clump_run.Goals as goal

pub returns-in_default-clause-lines : goal.returns-in_default-clause-lines
returns-in_default-clause-lines c = λ before numbers h.
    let run = c.args.run in
    let old = c.args.stretches.now.items in
    in_lines-first c.args.part before numbers old run.first run.last run.count c.requires.some c.requires.last
    (subst (λ (o : Option UnfinishedConsecutiveClumps). ConsecutiveClumpsAreListed c.args.part before numbers old o)
    c.in_default.is h)

pub returns-then-is_next_number-clause-lines : goal.returns-then-is_next_number-clause-lines
returns-then-is_next_number-clause-lines c = λ before numbers h.
    let run = c.args.run in
    let old = c.args.stretches.now.items in
    in_lines-next c.args.part before numbers old run.first run.last run.count c.requires.some c.requires.last
    c.in-Some.line
    (subst (λ (o : Option UnfinishedConsecutiveClumps). ConsecutiveClumpsAreListed c.args.part before numbers old o)
    c.in-Some.is h)
    (sym c.is_next_number.ensures ∙ c.if-is_next_number.true)

pub returns-clause-lines : goal.returns-clause-lines
returns-clause-lines c = λ before numbers h.
    let run = c.args.run in
    let old = c.args.stretches.now.items in
    let line = c.in-Some.line in
    let mine : ConsecutiveClumpsAreListed c.args.part before numbers old (Some line) =
    subst (λ (o : Option UnfinishedConsecutiveClumps). ConsecutiveClumpsAreListed c.args.part before numbers old o)
    c.in-Some.is h in
    subst (λ (l : List ConsecutiveClumps). ConsecutiveClumpsAreListed c.args.part before (numbers
    ++ range_with_len run.first run.count) l
    (other_line c.args.part before numbers old run.first run.last run.count c.requires.some c.requires.last line mine))
    (sym c.in_ok-push.ensures.items)
    (in_lines-other c.args.part before numbers old run.first run.last run.count c.requires.some c.requires.last line mine
    (sym c.is_next_number.ensures ∙ c.if-is_next_number.false))
