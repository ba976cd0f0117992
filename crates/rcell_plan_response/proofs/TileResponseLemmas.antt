-- The responses to the requests of tiles join into the frames of the full maps.
use Rattle.std.proofs.Common.{◌≡◌, ◌∙◌, ◌+◌, ℕ, zero, suc, List, [], ◌∷◌, ◌++◌, map, length, Option, Some, None}
use Rattle.std.proofs.Common.{Result, Ok, Err, refl, sym, ap, subst}
use Rattle.std.specs.Prelude.{All, slice_get}
use Rattle.std.specs.List.{AllZip}
use Rattle.std.proofs.lemmas.List.{length-append}
use Rattle.std.proofs.lemmas.List.Elements.{All-nil, All-cons, All-head, All-tail}
use Rattle.cell_core_devices.specs.Device.{ComingBytes}
use Rattle.cell_core_values.specs.Answers.{◌>>=◌}
use Rattle.cell_core_values.specs.Region.{RegionValue}
use Rattle.cell_core.specs.Shelf.{ShelfValue}
use Rattle.cell_join_numbers.specs.Parts.{RectanglesCoverMap}
use Rattle.cell_stats_combinations.specs.Listed.{CombinationCounts, ListsHaveSameCounts}
use Rattle.rcell_script.specs.ScriptLaw.{TextDenotesAtMostOneScript}
use Rattle.rcell_script.specs.Scripts.{IsScript}
use Rattle.rcell_script.specs.declared.statement.Statement.{Statement}
use Rattle.rcell_tile.specs.HaloMargins.{first_halo_fault}
use Rattle.rcell_tile.specs.TilePlaces.{TilePlaceValue}
use Rattle.rcell_tile.specs.TileRunLaw.{shelves_at_place}
use Rattle.rcell_tile.specs.TileRuns.{RunShelvesValue, shelves_of_full_maps}
use Rattle.rcell_pipe_request.specs.Questions.{PatchQuestionValue, questions_to_request_end_reading}
use Rattle.rcell_pipe_request.specs.RequestFields.{RequestFieldReading, PositionedReading, reading_repeated_n_times}
use Rattle.rcell_pipe_request.specs.RequestFields.{result_with_error_position}
use Rattle.rcell_pipe_request.specs.RequestPlaces.{place_and_region_reading}
use Rattle.rcell_pipe_request.specs.Requests.{RunRequestValue, NamedMapValue, empty_shelf, shelf_with_named_map}
use Rattle.rcell_pipe_request.specs.Requests.{map_count_reading, map_reading, maps_reading, next_map_reading}
use Rattle.rcell_pipe_request.specs.Requests.{run_over_shelves_reading, script_bytes_reading, tile_run_request_reading}
use Rattle.rcell_pipe_request.specs.declared.error.RequestError.{RequestError}
use Rattle.rcell_pipe_request.specs.declared.place.PlaceAndRegion.{PlaceAndRegion}
use Rattle.rcell_pipe_frames.specs.Frames.{OutputFrame, StatementsGiveFrames}
use Rattle.rcell_pipe_frames.specs.FrameBytes.{response_bytes}
use Rattle.rcell_pipe_frames.specs.TileFrameLaw.{FramesJoinIntoFrame, TablesMergeIntoFrame, TileWithFrames}
use Rattle.rcell_pipe_frames.specs.TileFrameLaw.{entries_of_frame, frames_at_index}
use Rattle.rcell_pipe_frames.proofs.TileFrameLemmas.{AreFramesWithEnoughHalo, frames-with-enough-halo-join}
use Rattle.rcell_pipe_response.specs.QuestionFrames.{AreFramesForAllQuestions}
use Rattle.rcell_pipe_response.specs.RunEnds.{IsResponseOfAcceptedRequest, IsResponseToRunRequest}
use Rattle.rcell_pipe_response.specs.RunEnds.{end_frame_of_successful_run, halo_fault_of_statements}
use Rattle.rcell_pipe_response.specs.declared.frame_run.ResponseForm.{ResponseForm}
use Rattle.rcell_pipe_response.specs.declared.frame_run.ResponseForm.TheVariants.{Frames}
use Rattle.rcell_pipe_join.specs.FrameSumLaw.{AreEntriesOfTableFrame}
use Rattle.rcell_pipe_join.specs.JoinEnds.{IsJoinRequestFulfilled, IsTableSumsResponse, ResponseFulfillsJoinRequest}
use Rattle.rcell_pipe_join.specs.JoinFrames.{one_frame_response, table_sums_bytes}
use Rattle.rcell_pipe_join.specs.JoinRequests.{JoinRequestValue, TableList, join_request_or_error}
use Rattle.rcell_pipe_join.proofs.FrameSumLemmas.{merged-frames-add-up}
use Rattle.rcell_plan_response.specs.Responses.{IsResponseToRequestOfForm, response_form_of_run, run_request_or_error}
use Rattle.rcell_plan_response.specs.TileResponseLaw.{IsResponseWithFrames, IsRunWithResponse, IsSumWithResponse}
use Rattle.rcell_plan_response.specs.TileResponseLaw.{IsTileWithResponse, TileResponsesJoinIntoFullFrames}
use Rattle.rcell_plan_response.specs.TileResponseLaw.{TileResponsesJoinIntoFullResponse, TileWithResponse}
use Rattle.rcell_plan_response.specs.TileResponseLaw.{tile_frames_at_index}
use Rattle.rcell_plan_response.specs.declared.responding.RequestForm.{RequestForm}
use Rattle.rcell_plan_response.specs.declared.responding.RunForm.{RunForm}
use Rattle.rcell_plan_response.specs.declared.responding.RunForm.TheVariants.{FullMaps, Tile}

-- ---- readings

-- two steps succeed if both do
both-read : {A B F : Type 0} (first : Result A F) (next : A → Result B F) (b : B) → (first >>= next) ≡ Ok b
    → (a : A) × ((first ≡ Ok a) × (next a ≡ Ok b))
both-read (Ok a) next b e = (a, (refl, e))
both-read (Err fault) next b e = cc

same-read : {A F : Type 0} (r : Result A F) (a b : A) → r ≡ Ok a → r ≡ Ok b → a ≡ b
same-read r a b one two = cc

repeat-keeps : {S E : Type 0} (P : S → Type 0) (step : S → ComingBytes → Result (S × ComingBytes) E)
    → ((s next : S) (c rest : ComingBytes) → step s c ≡ Ok (next, rest) → P s → P next)
    → (s out : S) (n : ℕ) (c rest : ComingBytes) → reading_repeated_n_times step s n c ≡ Ok (out, rest) → P s
    → P out
unfolding reading_repeated_n_times
repeat-keeps P step keeps s out zero c rest e p =
    subst P (ap (λ r. r.0) (same-read (reading_repeated_n_times step s 0 c) (s, c) (out, rest) refl e)) p
repeat-keeps P step keeps s out (suc n) c rest e p =
    let both = both-read (step s c) (λ next. reading_repeated_n_times step next.0 n next.1) (out, rest) e in
    repeat-keeps P step keeps both.0.0 out n both.0.1 rest both.1.1 (keeps s both.0.0 c both.0.1 both.1.0 p)

-- each map of a request has a name

abbrev HasNameForEachMap : ShelfValue → Type 0
HasNameForEachMap shelf = length shelf.names ≡ length shelf.maps

next-map-named : (shelf next : ShelfValue) (c rest : ComingBytes) → next_map_reading shelf c ≡ Ok (next, rest)
    → HasNameForEachMap shelf → HasNameForEachMap next
unfolding next_map_reading
next-map-named shelf next c rest e named =
    let both = both-read (map_reading shelf c)
    (λ (named : NamedMapValue × ComingBytes). Ok (shelf_with_named_map shelf named.0, named.1)) (next, rest) e in
    let more = shelf_with_named_map shelf both.0.0 in
    let last : PositionedReading ShelfValue = Ok (more, both.0.1) in
    subst HasNameForEachMap
    (ap (λ (r : ShelfValue × ComingBytes). r.0) (same-read last (more, both.0.1) (next, rest) refl both.1.1))
    (length-append shelf.names (both.0.0.name ∷ []) ∙ ap (λ n. n + 1) named
    ∙ sym (length-append shelf.maps (both.0.0.grid ∷ [])))

maps-named : (region : RegionValue) (c rest : ComingBytes) (shelf : ShelfValue)
    → maps_reading region c ≡ Ok (shelf, rest) → HasNameForEachMap shelf
unfolding maps_reading
maps-named region c rest shelf e =
    let both = both-read (result_with_error_position 0 0 (map_count_reading c))
    (λ (count : ℕ × ComingBytes). reading_repeated_n_times next_map_reading (empty_shelf region) count.0 count.1)
    (shelf, rest) e in
    repeat-keeps HasNameForEachMap next_map_reading next-map-named (empty_shelf region) shelf both.0.0 both.0.1 rest
    both.1.1 refl

-- the shelves of a run are the maps that were read
over-shelves : (shelves : RunShelvesValue) (c rest : ComingBytes) (run : RunRequestValue)
    → run_over_shelves_reading shelves c ≡ Ok (run, rest) → shelves ≡ run.shelves
unfolding run_over_shelves_reading
over-shelves shelves c rest run e =
    let count = length shelves.outer.names in
    let script = both-read (result_with_error_position count 0 (script_bytes_reading c))
    (λ (script : List ℕ × ComingBytes). questions_to_request_end_reading count script.1 >>= λ questions.
    Ok (record { shelves = shelves; script = script.0; questions = questions.0 }, questions.1)) (run, rest) e in
    let questions = both-read (questions_to_request_end_reading count script.0.1)
    (λ (questions : List PatchQuestionValue × ComingBytes).
    Ok (record { shelves = shelves; script = script.0.0; questions = questions.0 }, questions.1)) (run, rest)
    script.1.1 in
    let read : RunRequestValue =
    record { shelves = shelves; script = script.0.0; questions = questions.0.0 } in
    let last : PositionedReading RunRequestValue = Ok (read, questions.0.1) in
    ap (λ (r : RunRequestValue × ComingBytes). r.0.shelves)
    (same-read last (read, questions.0.1) (run, rest) refl questions.1.1)

tile-named : (c : ComingBytes) (run : RunRequestValue) → run_request_or_error Tile c ≡ Ok run
    → HasNameForEachMap run.shelves.outer
unfolding tile_run_request_reading
tile-named c run e =
    let all = both-read (tile_run_request_reading c) (λ (r : RunRequestValue × ComingBytes). Ok r.0) run e in
    let placed = both-read (result_with_error_position 0 0 (place_and_region_reading c))
    (λ (placed : PlaceAndRegion × ComingBytes). maps_reading placed.0.region placed.1 >>= λ maps.
    run_over_shelves_reading (record { outer = maps.0; place = Some placed.0.place }) maps.1) all.0 all.1.0 in
    let maps = both-read (maps_reading placed.0.0.region placed.0.1)
    (λ (maps : ShelfValue × ComingBytes).
    run_over_shelves_reading (record { outer = maps.0; place = Some placed.0.0.place }) maps.1) all.0 placed.1.1 in
    let shelves : RunShelvesValue = record { outer = maps.0.0; place = Some placed.0.0.place } in
    let last : Result RunRequestValue RequestError = Ok all.0.0 in
    subst (λ (s : RunShelvesValue). HasNameForEachMap s.outer)
    (over-shelves shelves maps.0.1 all.0.1 all.0.0 maps.1.1
    ∙ ap (λ (r : RunRequestValue). r.shelves) (same-read last all.0.0 run refl all.1.1))
    (maps-named placed.0.0.region placed.0.1 maps.0.1 maps.0.0 maps.1.0)

-- ---- the frames of a response

-- what a response without an error has
record HasFrames (shelves : RunShelvesValue) (script : List ℕ) (questions : List PatchQuestionValue)
    (response : List ℕ) : Type 0 where
  statements : List Statement
  denoted : IsScript shelves.outer.names script statements
  enough : halo_fault_of_statements shelves statements ≡ None
  frames : List OutputFrame
  after : RunShelvesValue
  given : StatementsGiveFrames shelves statements frames after
  answers : List OutputFrame
  answered : AreFramesForAllQuestions after 0 questions answers
  bytes : response ≡ response_bytes (frames ++ answers) end_frame_of_successful_run

frames-of-run : (run : RunForm) → response_form_of_run run ≡ Frames → (shelves : RunShelvesValue)
    (script : List ℕ) (questions : List PatchQuestionValue) (request : ComingBytes) (response : List ℕ)
    → IsRunWithResponse run shelves script questions request response → HasFrames shelves script questions response
frames-of-run run frames shelves script questions request response h =
    let found : IsResponseOfAcceptedRequest Frames (run_request_or_error run h.rest) response =
    subst (λ (form : ResponseForm). IsResponseToRunRequest form (run_request_or_error run h.rest) response None)
    frames
    (subst (λ (form : RequestFieldReading RequestForm). IsResponseToRequestOfForm form response None) h.form h.gives)
    in
    let sent : RunRequestValue = record { shelves = shelves; script = script; questions = questions } in
    let accepted : RunRequestValue = record {
      shelves = found.shelves;
      script = found.accepted.script;
      questions = found.questions;
    } in
    let given = found.gives.1.0 in
    subst (λ (r : RunRequestValue). HasFrames r.shelves r.script r.questions response)
    (same-read (run_request_or_error run h.rest) accepted sent found.accepted.request h.read)
    (record {
      statements = found.statements;
      denoted = found.accepted.denoted;
      enough = found.accepted.enough;
      frames = given.frames;
      after = given.after;
      given = given.given;
      answers = given.answers;
      answered = given.answered;
      bytes = found.gives.1.1
          ∙ ap (λ (all : List OutputFrame). response_bytes all end_frame_of_successful_run) given.both;
    })

with-frames : (shelves : RunShelvesValue) (script : List ℕ) (questions : List PatchQuestionValue)
    (response : List ℕ) (h : HasFrames shelves script questions response)
    → IsResponseWithFrames shelves script questions response h.frames
with-frames shelves script questions response h = record {
  of_script = record {
    statements = h.statements;
    denoted = h.denoted;
    after = h.after;
    given = h.given;
  };
  answers = h.answers;
  of_questions = h.answered;
  bytes = h.bytes;
}

-- statements do not change the place
place-stays : (statements : List Statement) (shelves after : RunShelvesValue) (frames : List OutputFrame)
    → StatementsGiveFrames shelves statements frames after → after.place ≡ shelves.place
place-stays [] shelves after frames gives = ap (λ (s : RunShelvesValue). s.place) gives.1
place-stays (s ∷ ss) shelves after frames gives =
    place-stays ss gives.0 after gives.1.0 gives.1.1.1.0 ∙ gives.1.1.0.place

-- the sums of tables in a response without an error
sums-of : (width : ℕ) (tables : List CombinationCounts) (request : ComingBytes) (response : List ℕ)
    → IsSumWithResponse width tables request response → IsTableSumsResponse width tables response
sums-of width tables request response h =
    let found : IsJoinRequestFulfilled (join_request_or_error h.rest) response =
    subst (λ (form : RequestFieldReading RequestForm). IsResponseToRequestOfForm form response None) h.form h.gives in
    subst (λ (r : JoinRequestValue). ResponseFulfillsJoinRequest r response)
    (same-read (join_request_or_error h.rest) found.request (TableList width tables) found.accepted h.read)
    found.joined

-- ---- tiles

module _ (one : TextDenotesAtMostOneScript) (full : ShelfValue) (script : List ℕ) (statements : List Statement)
    (denoted : IsScript full.names script statements) where
  abbrev IsTile : TileWithResponse → Type 0
  IsTile t = IsTileWithResponse full script t

  tile-frames : (t : TileWithResponse) → IsTile t
      → HasFrames (shelves_at_place t.place t.given) script t.questions t.response
  tile-frames t is =
      frames-of-run Tile refl (shelves_at_place t.place t.given) script t.questions t.request t.response is.run

  abbrev part-of : (t : TileWithResponse) → IsTile t → TileWithFrames
  part-of t is = record {
    place = t.place;
    given = t.given;
    frames = (tile-frames t is).frames;
    after = (tile-frames t is).after;
  }

  -- the tile has the statements of the full maps
  same-statements : (t : TileWithResponse) (is : IsTile t) → (tile-frames t is).statements ≡ statements
  same-statements t is =
      one full.names script (tile-frames t is).statements statements
      (subst (λ (names : List (List ℕ)). IsScript names script (tile-frames t is).statements) is.names
      (tile-frames t is).denoted) denoted

  part-has-halo : (t : TileWithResponse) (is : IsTile t) → AreFramesWithEnoughHalo full statements (part-of t is)
  part-has-halo t is =
      let h = tile-frames t is in
      let same = same-statements t is in
      record {
        tile = is.tile;
        names = is.names;
        enough = subst (λ n. first_halo_fault t.place n statements ≡ None)
            (tile-named is.run.rest _ is.run.read)
            (subst (λ (l : List Statement). first_halo_fault t.place (length t.given.names) l ≡ None) same h.enough);
        frames = subst (λ (l : List Statement). StatementsGiveFrames (shelves_at_place t.place t.given) l
            h.frames h.after) same h.given;
      }

  abbrev parts : (some : List TileWithResponse) → All IsTile some → List TileWithFrames
  parts [] each = []
  parts (t ∷ some) each = part-of t (All-head IsTile t some each) ∷ parts some (All-tail IsTile t some each)

  abbrev frame-lists : (some : List TileWithResponse) → All IsTile some → List (List OutputFrame)
  frame-lists some each = map (λ (t : TileWithFrames). t.frames) (parts some each)

  parts-have-halo : (some : List TileWithResponse) (each : All IsTile some)
      → All (AreFramesWithEnoughHalo full statements) (parts some each)
  parts-have-halo [] each = All-nil (AreFramesWithEnoughHalo full statements)
  parts-have-halo (t ∷ some) each =
      All-cons (AreFramesWithEnoughHalo full statements) (part-of t (All-head IsTile t some each))
      (parts some (All-tail IsTile t some each)) (part-has-halo t (All-head IsTile t some each))
      (parts-have-halo some (All-tail IsTile t some each))

  same-places : (some : List TileWithResponse) (each : All IsTile some)
      → map (λ (t : TileWithResponse). t.place.tile) some
      ≡ map (λ (t : TileWithFrames). t.place.tile) (parts some each)
  same-places [] each = refl
  same-places (t ∷ some) each = ap (λ l. t.place.tile ∷ l) (same-places some (All-tail IsTile t some each))

  same-frames : (index : ℕ) (some : List TileWithResponse) (each : All IsTile some)
      → frames_at_index index (parts some each) ≡ tile_frames_at_index index some (frame-lists some each)
  same-frames index [] each = refl
  same-frames index (t ∷ some) each =
      ap (λ l. (t.place.tile, slice_get (part-of t (All-head IsTile t some each)).frames index) ∷ l)
      (same-frames index some (All-tail IsTile t some each))

  each-with-frames : (some : List TileWithResponse) (each : All IsTile some)
      → AllZip (λ t part. IsResponseWithFrames (shelves_at_place t.place t.given) script t.questions t.response part)
      some (frame-lists some each)
  each-with-frames [] each = tt
  each-with-frames (t ∷ some) each = (
    with-frames (shelves_at_place t.place t.given) script t.questions t.response
        (tile-frames t (All-head IsTile t some each)),
    each-with-frames some (All-tail IsTile t some each),
  )

-- the tables of frames are the tables of tiles with these frames
tables-of-tiles : (index : ℕ) (tiles : List TileWithFrames) (tables : List CombinationCounts)
    → AllZip (λ frame entries. ListsHaveSameCounts (entries_of_frame frame) entries)
    (map (λ part. slice_get part index) (map (λ (t : TileWithFrames). t.frames) tiles)) tables
    → AllZip (AreEntriesOfTableFrame index) tiles tables
tables-of-tiles index [] [] each = tt
tables-of-tiles index [] (table ∷ tables) each = absurd each
tables-of-tiles index (t ∷ tiles) [] each = absurd each
tables-of-tiles index (t ∷ tiles) (table ∷ tables) each =
    (each.0, tables-of-tiles index tiles tables each.1)

pub tile-responses-join-into-frames : TextDenotesAtMostOneScript → TileResponsesJoinIntoFullFrames
tile-responses-join-into-frames one full script tiles h frames whole =
    let ts = parts one full script whole.statements whole.denoted tiles h.each in
    let given : StatementsGiveFrames (shelves_of_full_maps full) whole.statements frames
    (shelves_of_full_maps whole.after.outer) =
    subst (StatementsGiveFrames (shelves_of_full_maps full) whole.statements frames)
    (ap (λ (place : Option TilePlaceValue). record { outer = whole.after.outer; place = place })
    (place-stays whole.statements (shelves_of_full_maps full) whole.after frames whole.given)) whole.given in
    let joined : (index : ℕ) → FramesJoinIntoFrame (slice_get frames index) (frames_at_index index ts) =
    frames-with-enough-halo-join full whole.statements frames whole.after.outer ts given
    (h.can whole.statements whole.denoted)
    (parts-have-halo one full script whole.statements whole.denoted tiles h.each)
    (subst (RectanglesCoverMap full.region.rows full.region.cols)
    (same-places one full script whole.statements whole.denoted tiles h.each) h.covering) in
    record {
      parts = frame-lists one full script whole.statements whole.denoted tiles h.each;
      each = each-with-frames one full script whole.statements whole.denoted tiles h.each;
      joined = λ index. subst (FramesJoinIntoFrame (slice_get frames index))
          (same-frames one full script whole.statements whole.denoted index tiles h.each) (joined index);
      added = λ index table is width tables asked sent listed sum.
          let frame = sums-of width tables asked sent sum in
          let merge = subst (λ (o : Option OutputFrame). TablesMergeIntoFrame o
          (map (λ part. part.1) (frames_at_index index ts))) is (joined index).tables in
          frame.bytes
          ∙ ap (λ sums. one_frame_response (table_sums_bytes width sums) end_frame_of_successful_run)
          (merged-frames-add-up index table.pairs ts merge tables (tables-of-tiles index ts tables listed) frame.sums
          frame.are);
    }

pub tile-responses-join-into-response : TextDenotesAtMostOneScript → TileResponsesJoinIntoFullResponse
tile-responses-join-into-response one full script tiles h questions request response run =
    let whole =
    frames-of-run (FullMaps Frames) refl (shelves_of_full_maps full) script questions request response run in
    let with = with-frames (shelves_of_full_maps full) script questions response whole in
    (whole.frames, (with, tile-responses-join-into-frames one full script tiles h whole.frames with.of_script))
