use Rattle.std.proofs.Common.{◌≡◌, take, drop, [], false}
use Rattle.rcell_script.specs.FittingScripts.{StatementsFitKnownMaps}
use Rattle.rcell.specs.parts.OutputSteps.{AreFirstStatementsExecuted}
use Rattle.rcell.proofs.execution.execute.Given as goal

abbrev pub invariant-loop-statement : goal.invariant-loop-statement
invariant-loop-statement g l = record {
  executed : AreFirstStatementsExecuted l.fn.shelf (take l.statement-index l.statements) (g.W.Sink.taken l.fn.out) (g.W.Sink.faults l.fn.out) (g.W.Sink.taken l.out) (g.W.Sink.faults l.out) l.block l.shelf;
  fits : StatementsFitKnownMaps l.shelf.names (drop l.statement-index l.statements);
  good : l.block.failed ≡ false;
  held : l.block.held ≡ [];
}
