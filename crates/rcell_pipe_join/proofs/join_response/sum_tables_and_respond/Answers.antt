use Rattle.std.proofs.Common.{[], Ok, None, Some, refl}
use Rattle.rcell_pipe_response.specs.declared.end.PipeError.TheVariants as errors
use Rattle.rcell_pipe_response.specs.RunEnds.{memory_end, end_frame_as_value}
use Rattle.rcell_pipe_response.proofs.EndLemmas.{ends_as, finished_frames}
use Rattle.rcell_pipe_join.specs.TableEntries.{tables_as_values}
use Rattle.rcell_pipe_join.specs.JoinEnds.{IsJoinResponse}
use Rattle.rcell_pipe_join.specs.JoinRequests.{TableList}
use Rattle.rcell_pipe_join.proofs.join_response.sum_tables_and_respond.Goals as goal

pub returns-in-Ok : goal.returns-in-Ok
returns-in-Ok g c =
    let request = TableList c.args.tables.width (tables_as_values c.args.tables.tables.items) in
    ends_as (IsJoinResponse (Ok request)) None
    (record {
      request = request;
      accepted = refl;
      joined = record { sums = c.in-Ok.entries.items; are = c.in-Ok.ensures; bytes = refl };
    }) (λ write. cc) c.write_table_sums_response.ensures

pub returns-in-Err : goal.returns-in-Err
returns-in-Err g c =
    ends_as (IsJoinResponse (Ok (TableList c.args.tables.width (tables_as_values c.args.tables.tables.items))))
    (Some errors.Memory) refl (λ write. cc)
    (finished_frames [] (end_frame_as_value c.memory_end.result) (memory_end 0) c.memory_end.ensures c.reject.ensures)
