-- The meaning of the bytes of a request's questions (profile).
use Rattle.std.specs.Prelude.{ℕ, ◌+◌, ◌/◌, ◌%◌, ◌&&◌, List, [], ◌∷◌, ◌++◌, length, map, nat_le}
use Rattle.std.specs.Prelude.{Option, Some, None, Ok, Err, ◌==◌, if◌then◌else◌}
use Rattle.std.specs.Int.{w8, w32}
use Rattle.cell_core_devices.specs.Device.{ComingBytes}
use Rattle.cell_core_values.specs.Answers.{◌>>=◌}
use Rattle.cell_core_values.specs.Name.{is_name}
use Rattle.cell_clumps.specs.declared.clump.Joining.{Joining}
use Rattle.cell_clumps.specs.declared.clump.Joining.TheVariants.{Edges, EdgesAndCorners}
use Rattle.rcell_pipe_request.specs.declared.error.ErrorKind.TheVariants as kinds
use Rattle.rcell_pipe_request.specs.declared.question.Question.{Question}
use Rattle.rcell_pipe_request.specs.declared.question.WantedFrames.{WantedFrames}
use Rattle.rcell_pipe_request.specs.RequestFields.{RequestFieldReading, PositionedReading, result_with_error_position}
use Rattle.rcell_pipe_request.specs.RequestFields.{unsigned_number_reading, sized_text_reading, end_of_request_reading}
use Rattle.rcell_pipe_request.specs.RequestFields.{reading_repeated_n_times, reading_of_value_or_error_kind}

-- a question about the patches of a map: its number in the request, from 1, the map's name, which cells are adjacent,
-- the depth of the core in steps from its patch's edge, the name of the zones' map, if any, and the frames that it asks
-- for
pub record PatchQuestionValue : Type 0 where
  pub number : ℕ
  pub map : List ℕ
  pub joining : Joining
  pub depth : ℕ
  pub zones : Option (List ℕ)
  pub wanted : WantedFrames

-- the connectivity with this code
abbrev pub joining_of_code : ℕ → Option Joining
joining_of_code code = if code == 4 then Some Edges else (if code == 8 then Some EdgesAndCorners else None)

-- the frames that a question of this kind asks for, at least one: the kind is the sum of 1 for the patches' measures, 2
-- for their numbers, and 4 for the border
abbrev pub frames_wanted_by_kind : ℕ → Option WantedFrames
frames_wanted_by_kind kind = if nat_le 1 kind && nat_le kind 7 then Some
    (record { patches = kind % 2 == 1; numbers = kind / 2 % 2 == 1; border = nat_le 4 kind }) else None

unfoldable pub question_kind_reading : ComingBytes → RequestFieldReading WantedFrames
question_kind_reading c = do
  kind ← unsigned_number_reading w8 c
  reading_of_value_or_error_kind kinds.BadQuestion kind.1 (frames_wanted_by_kind kind.0)

unfoldable pub joining_reading : ComingBytes → RequestFieldReading Joining
joining_reading c = do
  code ← unsigned_number_reading w8 c
  reading_of_value_or_error_kind kinds.BadConnectivity code.1 (joining_of_code code.0)

-- the depth, which must be at least 1
unfoldable pub depth_reading : ComingBytes → RequestFieldReading ℕ
depth_reading c = do
  depth ← unsigned_number_reading w32 c
  if nat_le 1 depth.0 then Ok depth else Err kinds.BadDepth

-- the name of a map of zones, or none if the text is empty; only a question that asks for patches can have zones
abbrev pub zone_map_name_of_text : WantedFrames → List ℕ → Option (Option (List ℕ))
zone_map_name_of_text wanted [] = Some None
zone_map_name_of_text wanted (b ∷ bs) = if wanted.patches && is_name (b ∷ bs) then Some (Some (b ∷ bs)) else None

unfoldable pub zone_map_name_reading : WantedFrames → ComingBytes → RequestFieldReading (Option (List ℕ))
zone_map_name_reading wanted c = do
  text ← sized_text_reading w8 c
  reading_of_value_or_error_kind kinds.BadZones text.1 (zone_map_name_of_text wanted text.0)

-- a question; an error in a field is reported before the next field is read
unfoldable pub question_reading : ℕ → ComingBytes → RequestFieldReading PatchQuestionValue
question_reading number c = do
  wanted ← question_kind_reading c
  name ← sized_text_reading w8 wanted.1
  joining ← joining_reading name.1
  depth ← depth_reading joining.1
  zones ← zone_map_name_reading wanted.0 depth.1
  Ok (
    record {
      number = number;
      map = name.0;
      joining = joining.0;
      depth = depth.0;
      zones = zones.0;
      wanted = wanted.0;
    },
    zones.1,
  )

-- the questions so far, and one more; an error has the question's number in place of a row
unfoldable pub next_question_reading : ℕ → List PatchQuestionValue → ComingBytes
    → PositionedReading (List PatchQuestionValue)
next_question_reading maps questions c = do
  question ← result_with_error_position maps (length questions + 1) (question_reading (length questions + 1) c)
  Ok (questions ++ question.0 ∷ [], question.1)

-- the number of questions, then the questions
unfoldable pub questions_reading : ℕ → ComingBytes → PositionedReading (List PatchQuestionValue)
questions_reading maps c = do
  count ← result_with_error_position maps 0 (unsigned_number_reading w32 c)
  reading_repeated_n_times (next_question_reading maps) [] count.0 count.1

-- the questions, which end the request
unfoldable pub questions_to_request_end_reading : ℕ → ComingBytes → PositionedReading (List PatchQuestionValue)
questions_to_request_end_reading maps c = do
  questions ← questions_reading maps c
  end ← result_with_error_position maps 0 (end_of_request_reading questions.1)
  Ok (questions.0, end.1)

-- the question as a value
abbrev pub question_as_value : Question → PatchQuestionValue
question_as_value question = record {
  number = question.number;
  map = question.map.items;
  joining = question.joining;
  depth = question.depth;
  zones = question.zones;
  wanted = question.wanted;
}

abbrev pub questions_as_values : List Question → List PatchQuestionValue
questions_as_values questions = map question_as_value questions
