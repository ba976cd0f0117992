-- Questions are read back from their bytes.
use Rattle.std.proofs.Common.{◌≡◌, ℕ, ◌+◌, ◌<◌, ◌≤◌, ◌^◌, Bool, true, false, List, [], ◌∷◌, ◌++◌, length, Some, Ok}
use Rattle.std.proofs.Common.{refl, ap, sym, ◌∙◌, arith, append_assoc, append-nil, length-append}
use Rattle.std.specs.Prelude.{nat_le, flat_map, All, IfSome, Option, None, unwrap_or}
use Rattle.cell_core_values.specs.Name.{is_name}
use Rattle.std.specs.Int.{w8, w32, to_le_bytes}
use Rattle.std.proofs.lemmas.Bool.Decides.{nat_tests}
use Rattle.cell_core_devices.specs.Device.{ComingBytes}
use Rattle.cell_clumps.specs.declared.clump.Joining.{Joining}
use Rattle.cell_clumps.specs.declared.clump.Joining.TheVariants.{Edges, EdgesAndCorners}
use Rattle.rcell_pipe_request.specs.Feeds.{after}
use Rattle.rcell_pipe_request.specs.declared.question.WantedFrames.{WantedFrames}
use Rattle.rcell_pipe_request.specs.Questions.{PatchQuestionValue, frames_wanted_by_kind, joining_of_code}
use Rattle.rcell_pipe_request.specs.Questions.{question_kind_reading, joining_reading, depth_reading}
use Rattle.rcell_pipe_request.specs.Questions.{zone_map_name_reading, zone_map_name_of_text, question_reading}
use Rattle.rcell_pipe_request.specs.Questions.{next_question_reading, questions_reading}
use Rattle.rcell_pipe_request.specs.Questions.{questions_to_request_end_reading}
use Rattle.rcell_pipe_request.specs.RequestFields.{end_of_request_reading, reading_repeated_n_times}
use Rattle.rcell_pipe_law.specs.RequestLaw.{source_of_bytes}
use Rattle.rcell_pipe_law.specs.SentBytes.{text_with_length_bytes}
use Rattle.rcell_pipe_law.specs.SentQuestions.{IsSendableQuestion, SentQuestion, question_with_number, code_of_joining}
use Rattle.rcell_pipe_law.specs.SentQuestions.{questions_with_numbers}
use Rattle.rcell_pipe_law.specs.SentQuestions.{kind_code_of_wanted_frames, question_bytes, questions_bytes}
use Rattle.rcell_pipe_law.proofs.SentFieldLemmas.{after-append, name_short, text_8}
use Rattle.rcell_pipe_law.proofs.SentMapLemmas.{head_of, tail_of}
use Rattle.rcell_pipe_law.proofs.SentNumberLemmas.{reads_8, reads_32}

kind_small : (p n b : Bool) → kind_code_of_wanted_frames (record { patches = p; numbers = n; border = b }) < 2 ^ 8
kind_small false false false = omega arith
kind_small false false true = omega arith
kind_small false true false = omega arith
kind_small false true true = omega arith
kind_small true false false = omega arith
kind_small true false true = omega arith
kind_small true true false = omega arith
kind_small true true true = omega arith

-- the kind of a question that asks for a frame means the frames that it asks for
kind_is : (p n b : Bool) → 1 ≤ kind_code_of_wanted_frames (record { patches = p; numbers = n; border = b })
    → frames_wanted_by_kind (kind_code_of_wanted_frames (record { patches = p; numbers = n; border = b }))
    ≡ Some (record { patches = p; numbers = n; border = b })
kind_is false false false some = absurd (omega (arith, some))
kind_is false false true some = refl
kind_is false true false some = refl
kind_is false true true some = refl
kind_is true false false some = refl
kind_is true false true some = refl
kind_is true true false some = refl
kind_is true true true some = refl

kind_reads : (wanted : WantedFrames) (rest : ComingBytes) → 1 ≤ kind_code_of_wanted_frames wanted
    → question_kind_reading (after (to_le_bytes w8 (kind_code_of_wanted_frames wanted)) rest) ≡ Ok (wanted, rest)
unfolding question_kind_reading
kind_reads wanted rest some = rw (
  reads_8 (kind_code_of_wanted_frames wanted) rest (kind_small wanted.patches wanted.numbers wanted.border),
  kind_is wanted.patches wanted.numbers wanted.border some,
) refl

code_small : (joining : Joining) → code_of_joining joining < 2 ^ 8
code_small Edges = omega arith
code_small EdgesAndCorners = omega arith

code_is : (joining : Joining) → joining_of_code (code_of_joining joining) ≡ Some joining
code_is Edges = refl
code_is EdgesAndCorners = refl

joining_reads : (joining : Joining) (rest : ComingBytes)
    → joining_reading (after (to_le_bytes w8 (code_of_joining joining)) rest) ≡ Ok (joining, rest)
unfolding joining_reading
joining_reads joining rest = rw (
  reads_8 (code_of_joining joining) rest (code_small joining),
  code_is joining,
) refl

deep_enough : (n : ℕ) → 1 ≤ n → nat_le 1 n ≡ true
deep_enough n deep = grind (arith, nat_tests)

depth_reads : (depth : ℕ) (rest : ComingBytes) → 1 ≤ depth → depth < 2 ^ 32
    → depth_reading (after (to_le_bytes w32 depth) rest) ≡ Ok (depth, rest)
unfolding depth_reading
depth_reads depth rest deep fits = rw (reads_32 depth rest fits, deep_enough depth deep) refl

-- the name of the zones is short
abbrev ZonesCanBeSent : WantedFrames → Option (List ℕ) → Type 0
ZonesCanBeSent wanted zones = IfSome zones (λ name. (wanted.patches ≡ true) × (is_name name ≡ true))

zones_short : (wanted : WantedFrames) (zones : Option (List ℕ)) → ZonesCanBeSent wanted zones
    → length (unwrap_or zones []) < 2 ^ 8
zones_short wanted None is = omega arith
zones_short wanted (Some name) is = name_short name is.1

main_zone_of_each_patch : (wanted : WantedFrames) (name : List ℕ) → wanted.patches ≡ true → is_name name ≡ true
    → zone_map_name_of_text wanted name ≡ Some (Some name)
main_zone_of_each_patch wanted [] asked is = cc
main_zone_of_each_patch wanted (b ∷ bs) asked is = rw (asked, is) refl

zones_are : (wanted : WantedFrames) (zones : Option (List ℕ)) → ZonesCanBeSent wanted zones
    → zone_map_name_of_text wanted (unwrap_or zones []) ≡ Some zones
zones_are wanted None is = refl
zones_are wanted (Some name) is = main_zone_of_each_patch wanted name is.0 is.1

zones_read : (wanted : WantedFrames) (zones : Option (List ℕ)) (rest : ComingBytes) → ZonesCanBeSent wanted zones
    → zone_map_name_reading wanted (after (text_with_length_bytes w8 (unwrap_or zones [])) rest) ≡ Ok (zones, rest)
unfolding zone_map_name_reading
zones_read wanted zones rest is = rw (
  text_8 (unwrap_or zones []) rest (zones_short wanted zones is),
  zones_are wanted zones is,
) refl

question_reads : (number : ℕ) (question : SentQuestion) (rest : ComingBytes) → IsSendableQuestion question
    → question_reading number (after (question_bytes question) rest) ≡ Ok (question_with_number question number, rest)
unfolding question_reading
question_reads number question rest is =
    let kind = to_le_bytes w8 (kind_code_of_wanted_frames question.wanted) in
    let code = to_le_bytes w8 (code_of_joining question.joining) in
    let depth = to_le_bytes w32 question.depth in
    let zones = text_with_length_bytes w8 (unwrap_or question.zones []) in
    rw (
      after-append kind (text_with_length_bytes w8 question.map ++ (code ++ (depth ++ zones))) rest,
      kind_reads question.wanted (after (text_with_length_bytes w8 question.map
          ++ (code ++ (depth ++ zones))) rest) is.some,
      after-append (text_with_length_bytes w8 question.map) (code ++ (depth ++ zones)) rest,
      text_8 question.map (after (code ++ (depth ++ zones)) rest) is.short,
      after-append code (depth ++ zones) rest,
      joining_reads question.joining (after (depth ++ zones) rest),
      after-append depth zones rest,
      depth_reads question.depth (after zones rest) is.deep is.fits,
      zones_read question.wanted question.zones rest is.zones,
    ) refl

all_read : (maps : ℕ) (so_far : List PatchQuestionValue) (questions : List SentQuestion) (rest : ComingBytes)
    → All IsSendableQuestion questions
    → reading_repeated_n_times (next_question_reading maps) so_far (length questions)
    (after (flat_map question_bytes questions) rest)
    ≡ Ok (so_far ++ questions_with_numbers (length so_far) questions, rest)
unfolding reading_repeated_n_times next_question_reading
all_read maps so_far [] rest good = ap (λ all. Ok (all, rest)) (sym (append-nil so_far))
all_read maps so_far (question ∷ more) rest good =
    let one = question_with_number question (length so_far + 1) in
    let count : length (so_far ++ one ∷ []) ≡ length so_far + 1 = length-append so_far (one ∷ []) in
    rw (
      after-append (question_bytes question) (flat_map question_bytes more) rest,
      question_reads (length so_far + 1) question (after (flat_map question_bytes more) rest)
          (head_of IsSendableQuestion question more good),
    )
    (all_read maps (so_far ++ one ∷ []) more rest (tail_of IsSendableQuestion question more good)
    ∙ ap (λ n. Ok ((so_far ++ one ∷ []) ++ questions_with_numbers n more, rest)) count
    ∙ ap (λ all. Ok (all, rest)) (append_assoc so_far (one ∷ []) (questions_with_numbers (length so_far + 1) more)))

-- the questions that end a request are read back
pub last_questions_read : (maps : ℕ) (questions : List SentQuestion) → All IsSendableQuestion questions
    → length questions < 2 ^ 32
    → questions_to_request_end_reading maps (after (questions_bytes questions) (source_of_bytes []))
    ≡ Ok (questions_with_numbers 0 questions, source_of_bytes [])
unfolding questions_to_request_end_reading questions_reading end_of_request_reading
last_questions_read maps questions good few = rw (
  after-append (to_le_bytes w32 (length questions)) (flat_map question_bytes questions) (source_of_bytes []),
  reads_32 (length questions) (after (flat_map question_bytes questions) (source_of_bytes [])) few,
  all_read maps [] questions (source_of_bytes []) good,
) refl
