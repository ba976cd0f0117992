-- A caller's questions about the patches of a map, and their bytes (profile).
use Rattle.std.specs.Prelude.{ℕ, ◌≡◌, ◌<◌, ◌≤◌, ◌^◌, ◌+◌, true, List, [], ◌∷◌, ◌++◌, length, flat_map}
use Rattle.std.specs.Prelude.{IfSome, Option, unwrap_or, if◌then◌else◌}
use Rattle.std.specs.Int.{w8, w32, to_le_bytes}
use Rattle.cell_clumps.specs.declared.clump.Joining.{Joining}
use Rattle.cell_clumps.specs.declared.clump.Joining.TheVariants.{Edges, EdgesAndCorners}
use Rattle.cell_core_values.specs.Name.{is_name}
use Rattle.rcell_pipe_request.specs.declared.question.WantedFrames.{WantedFrames}
use Rattle.rcell_pipe_request.specs.Questions.{PatchQuestionValue}
use Rattle.rcell_pipe_law.specs.SentBytes.{text_with_length_bytes}

-- the map's name, which cells are adjacent, the depth of the core in steps from its patch's edge, the name of the
-- zones' map, if any, and the frames that the question asks for
pub record SentQuestion : Type 0 where
  pub map : List ℕ
  pub joining : Joining
  pub depth : ℕ
  pub zones : Option (List ℕ)
  pub wanted : WantedFrames

-- the kind of a question: the sum of 1 for the patches' measures, 2 for their numbers, and 4 for the border
abbrev pub kind_code_of_wanted_frames : WantedFrames → ℕ
kind_code_of_wanted_frames wanted = (if wanted.patches then 1 else 0) + (if wanted.numbers then 2 else 0)
    + (if wanted.border then 4 else 0)

-- a question that can be sent: it asks for a frame, and only a question that asks for patches has zones
pub record IsSendableQuestion (question : SentQuestion) : Type 0 where
  pub short : length question.map < 2 ^ 8
  pub deep : 1 ≤ question.depth
  pub fits : question.depth < 2 ^ 32
  pub some : 1 ≤ kind_code_of_wanted_frames question.wanted
  pub zones : IfSome question.zones (λ name. (question.wanted.patches ≡ true) × (is_name name ≡ true))

-- the question with its number; questions are numbered in order
abbrev pub question_with_number : SentQuestion → ℕ → PatchQuestionValue
question_with_number question number = record {
  number = number;
  map = question.map;
  joining = question.joining;
  depth = question.depth;
  zones = question.zones;
  wanted = question.wanted;
}

abbrev pub questions_with_numbers : ℕ → List SentQuestion → List PatchQuestionValue
questions_with_numbers so_far [] = []
questions_with_numbers so_far (question ∷ more) = question_with_number question (so_far + 1)
    ∷ questions_with_numbers (so_far + 1) more

abbrev pub code_of_joining : Joining → ℕ
code_of_joining Edges = 4
code_of_joining EdgesAndCorners = 8

-- the kind, the map's name, the connectivity, the depth, and the zones' name or an empty text
abbrev pub question_bytes : SentQuestion → List ℕ
question_bytes question =
    to_le_bytes w8 (kind_code_of_wanted_frames question.wanted) ++ (text_with_length_bytes w8 question.map
    ++ (to_le_bytes w8 (code_of_joining question.joining) ++ (to_le_bytes w32 question.depth
    ++ text_with_length_bytes w8 (unwrap_or question.zones []))))

-- the number of questions, followed by the questions
abbrev pub questions_bytes : List SentQuestion → List ℕ
questions_bytes questions = to_le_bytes w32 (length questions) ++ flat_map question_bytes questions
