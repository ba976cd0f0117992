use Rattle.rcell_pipe_frames.proofs.LawLemmas.{frame_texts_are_program_output, output_is_frames}
use Rattle.rcell_pipe_frames.proofs.law.frame_texts_are_program_output.Goals as goal

pub returns-clause-output : goal.returns-clause-output
returns-clause-output c = frame_texts_are_program_output

pub returns-clause-frames : goal.returns-clause-frames
returns-clause-frames c = output_is_frames
