use Rattle.std.proofs.Common.{◌≡◌, ◌++◌, refl}
use Rattle.std.specs.Option.{option_map}
use Rattle.cell_join_tiles.specs.Values.{value_of_tile_border}
use Rattle.rcell_pipe_request.specs.Questions.{question_as_value}
use Rattle.rcell_pipe_response.specs.QuestionFrames.{border_frame_if_wanted, patch_numbers_frame_if_wanted}
use Rattle.rcell_pipe_response.specs.QuestionFrames.{first_row_in_full_map, first_col_in_full_map}
use Rattle.rcell_pipe_response.specs.QuestionFrames.{patches_frame_if_wanted}
use Rattle.rcell_pipe_response.specs.parts.Answering.{patch_measures_as_value}
use Rattle.rcell_pipe_response.proofs.QuestionLemmas.{frames_then}
use Rattle.rcell_pipe_response.proofs.answers.answer.Goals as goal

pub returns-clause-ok : goal.returns-clause-ok
returns-clause-ok g c =
    let question = question_as_value c.args.question.now in
    let border = option_map value_of_tile_border c.in_ok-border.border in
    let measures = option_map patch_measures_as_value c.in_ok-measures.measures in
    let tile = c.args.shelves.now.place in
    let borders = border_frame_if_wanted c.args.place question.joining (first_row_in_full_map tile)
    (first_col_in_full_map tile) c.map_named-map.result.now.region border in
    let patches = patches_frame_if_wanted c.args.place question measures in
    record {
      frames = _;
      answer = record {
        map = _;
        named = rw (c.deref.ensures.value, c.maps_without_halo.ensures.value) at c.map_named-map.ensures.named;
        numbers = _;
        clumping = c.in_ok-numbers.ensures;
        border = border;
        bordered = c.in_ok-border.ensures.border question.joining c.in_ok-numbers.ensures;
        measures = measures;
        measured = c.in_ok-measures.ensures.measures;
        is = refl;
      };
      appends = frames_then (patch_numbers_frame_if_wanted question.wanted.numbers c.args.place
          c.in_ok-numbers.numbers)
          (borders ++ patches) c.in_ok-push_patch_numbers_if_wanted.ensures.ok (frames_then borders patches
          (rw (
            c.region.ensures.value,
            c.position_in_full_map-position.ensures.row,
            c.position_in_full_map-position.ensures.col,
          ) at c.push_border_if_wanted.ensures) c.push_patches_if_wanted.ensures);
    }
