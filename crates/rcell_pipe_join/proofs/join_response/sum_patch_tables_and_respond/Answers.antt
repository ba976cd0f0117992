use Rattle.std.proofs.Common.{[], Ok, None, Some, refl}
use Rattle.rcell_pipe_response.specs.declared.end.PipeError.TheVariants as errors
use Rattle.rcell_pipe_response.specs.RunEnds.{end_frame_of_successful_run, memory_end, end_frame_as_value}
use Rattle.rcell_pipe_response.proofs.EndLemmas.{ends_as, finished_frames}
use Rattle.rcell_pipe_join.specs.JoinEnds.{IsJoinResponse}
use Rattle.rcell_pipe_join.specs.JoinFrames.{one_frame_response, patch_sums_bytes}
use Rattle.rcell_pipe_join.specs.JoinRequests.{PatchTableList}
use Rattle.rcell_pipe_join.specs.PatchTables.{patch_tables_as_values}
use Rattle.rcell_pipe_join.proofs.join_response.sum_patch_tables_and_respond.Goals as goal

pub returns-in-Ok : goal.returns-in-Ok
returns-in-Ok g c =
    let given = c.args.tables in
    let request = PatchTableList given.numbering given.width (patch_tables_as_values given.tables.items) in
    let listed = c.in-Ok.ensures in
    ends_as (IsJoinResponse (Ok request)) None
    (record {
      request = request;
      accepted = refl;
      joined = record {
        sums = listed.sums;
        are = listed.are;
        bytes = λ i. one_frame_response (patch_sums_bytes given.width (listed.numbers_are i) (listed.entries_are i))
            end_frame_of_successful_run;
      };
    }) (λ write. cc) c.write_patch_sums_response.ensures

pub returns : goal.returns
returns g c =
    let given = c.args.tables in
    ends_as (IsJoinResponse (Ok (PatchTableList given.numbering given.width
    (patch_tables_as_values given.tables.items))))
    (Some errors.Memory) refl (λ write. cc)
    (finished_frames [] (end_frame_as_value c.memory_end.result) (memory_end 0) c.memory_end.ensures c.reject.ensures)
