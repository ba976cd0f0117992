use Rattle.cell_join_tiles.specs.Values.{value_of_tile_border}
use Rattle.rcell_pipe_frames.specs.Frames.{Border}
use Rattle.rcell_pipe_response.proofs.QuestionLemmas.{one_frame}
use Rattle.rcell_pipe_response.proofs.answers.push_border_if_wanted.Goals as goal

pub returns-in-Some : goal.returns-in-Some
returns-in-Some g c =
    let frame = Border (record {
      question = c.args.place;
      joining = c.args.joining;
      first_row = c.args.position.first_row;
      first_col = c.args.position.first_col;
      rows = c.args.region.rows;
      cols = c.args.region.cols;
      border = value_of_tile_border c.in-Some.border;
    }) in
    rw c.in-Some.is (one_frame frame c.push_border_frame.ensures)
