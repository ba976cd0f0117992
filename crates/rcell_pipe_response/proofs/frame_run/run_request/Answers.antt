use Rattle.std.proofs.Common.{◌∙◌, [], Ok, Some, refl, sym}
use Rattle.rcell_script.specs.ReadScripts.{IsScriptFault}
use Rattle.rcell_pipe_request.specs.Questions.{questions_as_values}
use Rattle.rcell_pipe_request.specs.Requests.{run_request_as_value}
use Rattle.rcell_pipe_response.specs.declared.end.PipeError.TheVariants as errors
use Rattle.rcell_pipe_response.specs.RunEnds.{memory_end, IsResponseToRunRequest, end_frame_as_value}
use Rattle.rcell_pipe_response.proofs.EndLemmas.{finished_frames, ends_as, not_memory, not_write, rejection}
use Rattle.rcell_pipe_response.proofs.frame_run.run_request.Goals as goal

pub returns-in_default : goal.returns-in_default
returns-in_default g c = ends_as (IsResponseToRunRequest c.args.form (Ok (run_request_as_value c.args.request))) (Some errors.Memory) refl (λ write. cc) (finished_frames [] (end_frame_as_value c.memory_end.result) (memory_end 0) c.memory_end.ensures c.reject.ensures)

pub returns-in-Ok-parse_script : goal.returns-in-Ok-parse_script
returns-in-Ok-parse_script g c =
    rw c.as_slice.ensures.value at
    (c.run_script_within_halo.ensures c.args.request.script.items
    (rw (c.in-Ok.ensures.names, c.outer.ensures, c.deref.ensures.value) at c.in-Ok-parse_script.ensures.ok))

pub returns-then-is_memory_error : goal.returns-then-is_memory_error
returns-then-is_memory_error g c = ends_as (IsResponseToRunRequest c.args.form (Ok (run_request_as_value c.args.request))) (Some errors.Memory) refl (λ write. cc) (finished_frames [] (end_frame_as_value c.memory_end-then-is_memory_error.result) (memory_end 0) c.memory_end-then-is_memory_error.ensures c.reject-then-is_memory_error.ensures)

pub returns : goal.returns
returns g c =
    let rejected = c.reject_script.ensures in
    let first : IsScriptFault c.args.request.shelves.outer.names c.args.request.script.items c.in-Err.error =
    rw (c.in-Ok.ensures.names, c.outer.ensures, c.deref.ensures.value) at
    (c.in-Err.ensures.err
    (not_memory c.in-Err.error.kind (sym c.is_memory_error.ensures ∙ c.if-is_memory_error.false))) in
    ends_as (IsResponseToRunRequest c.args.form (Ok (run_request_as_value c.args.request))) (Some rejected.error)
    (rejection c.args.form c.args.request.shelves c.args.request.script.items
    (questions_as_values c.args.request.questions.items) c.in-Err.error rejected.error rejected.end first
    rejected.rejects)
    (not_write c.in-Err.error rejected.error rejected.end rejected.rejects) rejected.finished
