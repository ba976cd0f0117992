use Rattle.std.proofs.Common.{length}
use Rattle.cell_core_devices.specs.Device.{bytes_to_come_after_reading}
use Rattle.rcell_pipe_response.specs.RunEnds.{IsResponseOfOnlyEnd}
use Rattle.rcell_pipe_response.proofs.EndLemmas.{responded, ended_used, ended_whole, ended_failed, ended_flushed}
use Rattle.rcell_pipe_response.proofs.EndLemmas.{ended_reported}
use Rattle.rcell_plan_response.specs.Responses.{request_form_reading, IsResponseToReturnedBytes}
use Rattle.rcell_plan_response.specs.parts.Answered.{IsResponseToSource}
use Rattle.rcell_plan_response.proofs.PlanEndLemmas.{ends_more, held, all_is_done, headline_of}
use Rattle.rcell_plan_response.proofs.responding.respond.Goals as goal

pub returns-clause-end : goal.returns-clause-end
returns-clause-end g c =
    let now = c.read_and_answer_from_source.result.source in
    let says = IsResponseToReturnedBytes c.args.source.0.1 now.0.1 now.1 in
    responded says
    (ends_more (IsResponseToSource c.args.source.0.1 now.0.1 now.1) says (λ response error is. is.1) c.read_and_answer_from_source.ensures.end)

pub returns-clause-rejected : goal.returns-clause-rejected
returns-clause-rejected g c =
    let now = c.read_and_answer_from_source.result.source in
    responded IsResponseOfOnlyEnd (ends_more (IsResponseToSource c.args.source.0.1 now.0.1 now.1) IsResponseOfOnlyEnd
    (λ response error is. is.0) c.read_and_answer_from_source.ensures.end)

pub returns-clause-status : goal.returns-clause-status
returns-clause-status g c = c.read_and_answer_from_source.ensures.end.finished.status

pub returns-clause-same : goal.returns-clause-same
returns-clause-same g c = ended_reported _ c.read_and_answer_from_source.ensures.end

pub returns-clause-first : goal.returns-clause-first
returns-clause-first g c = ended_used _ c.read_and_answer_from_source.ensures.end

pub returns-clause-write : goal.returns-clause-write
returns-clause-write g c = ended_failed _ c.read_and_answer_from_source.ensures.end

pub returns-clause-flushed : goal.returns-clause-flushed
returns-clause-flushed g c = ended_flushed _ c.read_and_answer_from_source.ensures.end

pub returns-clause-whole : goal.returns-clause-whole
returns-clause-whole g c =
    let now = c.read_and_answer_from_source.result.source in
    let says = IsResponseToReturnedBytes c.args.source.0.1 now.0.1 now.1 in
    ended_whole says
    (ends_more (IsResponseToSource c.args.source.0.1 now.0.1 now.1) says (λ response error is. is.1) c.read_and_answer_from_source.ensures.end)

pub returns-clause-headline : goal.returns-clause-headline
returns-clause-headline g c = λ x shelf statements questions fit asks.
    let now = c.read_and_answer_from_source.result.source in
    headline_of c.scripts_have_no_fault.ensures c.text_denotes_at_most_one_script.ensures
    (bytes_to_come_after_reading x (length c.args.source.0.1))
    (held c.args.source.0.1 now.0.1 now.1 x fit c.read_and_answer_from_source.ensures.end) shelf statements questions
    asks

pub returns-clause-complete : goal.returns-clause-complete
returns-clause-complete g c = λ x fit.
    let now = c.read_and_answer_from_source.result.source in
    all_is_done c.scripts_have_no_fault.ensures c.text_denotes_at_most_one_script.ensures
    (request_form_reading (bytes_to_come_after_reading x (length c.args.source.0.1)))
    (held c.args.source.0.1 now.0.1 now.1 x fit c.read_and_answer_from_source.ensures.end)
