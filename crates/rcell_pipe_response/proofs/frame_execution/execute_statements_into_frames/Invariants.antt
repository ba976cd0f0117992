use Rattle.std.proofs.Common.{take, drop}
use Rattle.rcell_script.specs.FittingScripts.{StatementsFitKnownMaps}
use Rattle.rcell_pipe_response.specs.parts.FrameExecution.{AreStatementFramesAppended}
use Rattle.rcell_pipe_response.proofs.frame_execution.execute_statements_into_frames.Given as goal

abbrev pub invariant-loop-statement : goal.invariant-loop-statement
invariant-loop-statement g l = record {
  given : AreStatementFramesAppended g.W.Sink.taken g.W.Sink.faults l.fn.shelves
      (take l.statement-index l.statements) l.fn.out l.fn.block l.out l.block l.shelves;
  fits : StatementsFitKnownMaps l.shelves.outer.names (drop l.statement-index l.statements);
}
