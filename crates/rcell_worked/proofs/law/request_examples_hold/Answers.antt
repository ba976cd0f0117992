use Rattle.std.proofs.Common.{refl, List, [], ◌∷◌, codes, ap}
use Rattle.cell_stats.specs.CategoryTables.{CombinationsWithCounts, table_of_cells}
use Rattle.cell_stats_combinations.specs.Combinations.{Combination}
use Rattle.cell_stats_combinations.specs.LeftOut.{kept_cells}
use Rattle.cell_stats_combinations.specs.declared.skip.Skip.TheVariants.{Nothing}
use Rattle.rcell.specs.Output.{combinations_at_all_cells, table_format_of_stats_options}
use Rattle.rcell_pipe_frames.specs.FrameBytes.{response_bytes}
use Rattle.rcell_pipe_frames.specs.Frames.{Table, table_frame}
use Rattle.rcell_pipe_response.specs.RunEnds.{end_frame_of_successful_run}
use Rattle.rcell_worked.proofs.TableLemmas.{counts_are}
use Rattle.rcell_worked.proofs.WorkedMaps.{small_shelf, counts}
use Rattle.rcell_pipe_request.specs.RequestFields.{bytes_reading, unsigned_number_reading, signed_number_reading}
use Rattle.rcell_pipe_request.specs.RequestFields.{sized_text_reading, end_of_request_reading, reading_repeated_n_times}
use Rattle.rcell_pipe_request.specs.RequestRegions.{coordinate_reading, edges_reading, region_reading}
use Rattle.rcell_pipe_request.specs.Heads.{map_name_reading, new_map_name_reading}
use Rattle.rcell_pipe_request.specs.Heads.{format_flags_reading, raw_format_reading, number_format_reading}
use Rattle.rcell_pipe_request.specs.Heads.{map_format_reading, label_reading, next_label_reading, labels_reading}
use Rattle.rcell_pipe_request.specs.Heads.{map_head_reading}
use Rattle.rcell_pipe_request.specs.Requests.{next_row_reading, number_map_reading, map_reading}
use Rattle.rcell_pipe_request.specs.Requests.{label_map_with_added_labels}
use Rattle.rcell_pipe_request.specs.Requests.{next_map_reading}
use Rattle.rcell_pipe_request.specs.Requests.{map_count_reading, script_bytes_reading}
use Rattle.rcell_pipe_request.specs.Requests.{maps_reading, run_over_shelves_reading}
use Rattle.rcell_pipe_request.specs.Requests.{run_request_reading}
use Rattle.rcell_pipe_request.specs.Questions.{questions_reading, questions_to_request_end_reading}
use Rattle.rcell_pipe_response.specs.QuestionFrames.{first_question_error}
use Rattle.rcell_pipe_request.specs.Rows.{row_cells_reading}
use Rattle.rcell_tile.specs.TileRuns.{shelves_of_full_maps}
use Rattle.rcell_pipe_response.specs.declared.frame_run.ResponseForm.TheVariants.{Frames}
use Rattle.rcell_plan_response.specs.declared.responding.RunForm.TheVariants.{FullMaps}
use Rattle.rcell_plan_response.specs.Responses.{request_form_reading}
use Rattle.bstr.specs.Text.{line_len, lines_from}
use Rattle.rcell_worked.proofs.ReadLemmas.{script_of}
use Rattle.rcell_worked.proofs.law.request_examples_hold.Goals as goal

abbrev small_cells : List Combination
small_cells = combinations_at_all_cells small_shelf (0 ∷ [])

pub returns : goal.returns
unfolding line_len lines_from bytes_reading unsigned_number_reading signed_number_reading sized_text_reading
    reading_repeated_n_times coordinate_reading edges_reading region_reading map_name_reading new_map_name_reading
    format_flags_reading raw_format_reading number_format_reading map_format_reading label_reading next_label_reading
    labels_reading map_head_reading next_row_reading number_map_reading label_map_with_added_labels map_reading
    next_map_reading map_count_reading script_bytes_reading end_of_request_reading questions_reading
    questions_to_request_end_reading maps_reading
    run_over_shelves_reading run_request_reading row_cells_reading request_form_reading
    first_question_error
returns c = record {
  written = refl;
  table = record {
    shelves = shelves_of_full_maps small_shelf;
    statements = _;
    questions = [];
    asks = record {
      run = FullMaps Frames;
      rest = _;
      form = refl;
      frames = refl;
      accepted = record {
        script = _;
        request = refl;
        denoted = script_of c.script_reading_matches_meaning.ensures (codes "land" ∷ [])
            (codes "r.stats -c input=land\n")
            (codes "r.stats -c input=land" ∷ []) _ refl (_, (_, refl, refl), refl);
        enough = refl;
        known = refl;
      };
    };
    frames = Table (table_frame small_shelf 1 (0 ∷ []) (table_format_of_stats_options counts)
        (table_of_cells Nothing small_cells)) ∷ [];
    gives = record {
      frames = Table (table_frame small_shelf 1 (0 ∷ []) (table_format_of_stats_options counts)
          (table_of_cells Nothing small_cells)) ∷ [];
      after = shelves_of_full_maps small_shelf;
      given = (_, (_, (record { place = refl; outer = refl }, ((refl, refl), refl))));
      answers = [];
      answered = refl;
      both = refl;
    };
    bytes = ap (λ (pairs : CombinationsWithCounts). response_bytes
        (Table (table_frame small_shelf 1 (0 ∷ []) (table_format_of_stats_options counts) pairs)
        ∷ []) end_frame_of_successful_run)
        (counts_are (kept_cells Nothing small_cells));
  };
}
