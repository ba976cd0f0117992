use Rattle.std.proofs.Common.{[], Ok, None, Some, refl}
use Rattle.rcell_pipe_response.specs.declared.end.PipeError.TheVariants as errors
use Rattle.rcell_pipe_response.specs.RunEnds.{memory_end, end_frame_as_value}
use Rattle.rcell_pipe_response.proofs.EndLemmas.{ends_as, finished_frames}
use Rattle.rcell_pipe_borders.specs.BorderGrids.{borders_as_values}
use Rattle.rcell_pipe_join.specs.JoinEnds.{IsJoinResponse}
use Rattle.rcell_pipe_join.specs.JoinRequests.{BorderGrid}
use Rattle.rcell_pipe_join.proofs.join_response.respond_with_numbers.Goals as goal

pub returns-in-Ok : goal.returns-in-Ok
returns-in-Ok g c =
    let request = BorderGrid c.args.joining (borders_as_values c.args.grid.items) in
    ends_as (IsJoinResponse (Ok request)) None
    (record {
      request = request;
      accepted = refl;
      joined = record {
        patches = c.in-Ok.joined.clumps;
        runs = c.in-Ok.joined.runs.items;
        numbers = c.in-Ok.ensures.runs;
        many = c.in-Ok.ensures.clumps;
        bytes = refl;
      };
    }) (λ write. cc) c.write_numbering_response.ensures

pub returns-in-Err : goal.returns-in-Err
returns-in-Err g c =
    ends_as (IsJoinResponse (Ok (BorderGrid c.args.joining (borders_as_values c.args.grid.items))))
    (Some errors.Memory) refl
    (λ write. cc)
    (finished_frames [] (end_frame_as_value c.memory_end.result) (memory_end 0) c.memory_end.ensures c.reject.ensures)
