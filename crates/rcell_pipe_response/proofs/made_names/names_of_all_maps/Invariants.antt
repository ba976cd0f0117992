use Rattle.std.proofs.Common.{◌≡◌, drop}
use Rattle.rcell_script.specs.FittingScripts.{StatementsFitKnownMaps}
use Rattle.rcell_pipe_response.specs.QuestionFrames.{names_of_all_maps}
use Rattle.rcell_pipe_response.proofs.made_names.names_of_all_maps.Given as goal

abbrev pub invariant-loop-statement : goal.invariant-loop-statement
invariant-loop-statement l = record {
  names : names_of_all_maps l.names (drop l.statement-index l.statements) ≡ names_of_all_maps l.fn.names l.statements;
  fits : StatementsFitKnownMaps l.names (drop l.statement-index l.statements);
}
