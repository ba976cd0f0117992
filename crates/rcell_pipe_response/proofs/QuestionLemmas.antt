-- Questions are handled one after another.
use Rattle.std.proofs.Common.{◌≡◌, ℕ, suc, ◌+◌, ◌<◌, List, [], ◌∷◌, ◌++◌, length}
use Rattle.std.proofs.Common.{take, drop, get_or, Option, Bool, true, false, All, if◌then◌else◌}
use Rattle.std.proofs.Common.{Some, None, refl, ap, sym, ◌∙◌, subst, append_assoc, append-nil, add-one, arith}
use Rattle.std.proofs.Common.{take-append-drop}
use Rattle.std.proofs.Math.Seq.{drop-cons}
use Rattle.std.proofs.lemmas.List.{take_more, length-map, length-take-le, map-append}
use Rattle.std.proofs.lemmas.List.Concat.{flat_map-append}
use Rattle.std.proofs.lemmas.List.Elements.{All-nil, All-cons}
use Rattle.cell_core_devices.specs.Device.{SinkFaults}
use Rattle.cell_core_devices.specs.Blocks.{OutputBlockValue, IsTextAppendedToSink, IsTextAppendedThroughBlock}
use Rattle.cell_core_devices.proofs.BlockLemmas.{appends_none, appends_then}
use Rattle.rcell_tile.specs.TileRuns.{RunShelvesValue}
use Rattle.rcell_tile.specs.declared.halo_margins.HaloMargin.{HaloMargin}
use Rattle.rcell_script.specs.declared.statement.Statement.{Statement}
use Rattle.rcell_pipe_request.specs.declared.question.Question.{Question}
use Rattle.rcell_pipe_request.specs.Questions.{PatchQuestionValue, question_as_value, questions_as_values}
use Rattle.rcell_pipe_response.specs.declared.frame_run.ResponseForm.{ResponseForm}
use Rattle.rcell_pipe_response.specs.declared.frame_run.ResponseForm.TheVariants.{Frames}
use Rattle.rcell_pipe_response.specs.declared.question_error.QuestionErrorKind.{QuestionErrorKind}
use Rattle.rcell_pipe_response.specs.declared.question_error.QuestionErrorKind.TheVariants.{UnknownMap, HaloTooSmall}
use Rattle.rcell_pipe_response.specs.declared.question_error.QuestionError.{QuestionError}
use Rattle.rcell_pipe_frames.specs.Frames.{OutputFrame, StatementsGiveFrames}
use Rattle.rcell_pipe_frames.specs.FrameBytes.{frame_bytes, frames_bytes, response_magic}
use Rattle.rcell_pipe_response.specs.QuestionFrames.{names_of_all_maps, question_error_kind_if_rejected}
use Rattle.rcell_pipe_response.specs.QuestionFrames.{error_of_question_or_later_one, question_has_unknown_map}
use Rattle.rcell_pipe_response.specs.QuestionFrames.{question_lacks_halo}
use Rattle.rcell_pipe_response.specs.QuestionFrames.{first_question_error}
use Rattle.rcell_pipe_response.specs.QuestionFrames.{AreFramesForQuestion, AreFramesForAllQuestions}
use Rattle.rcell_pipe_response.specs.RunEnds.{AreFramesOfStatementsAndQuestions}
use Rattle.rcell_pipe_response.specs.parts.Answering.{AreQuestionFramesAppended, AreAllQuestionFramesAppended}
use Rattle.rcell_pipe_response.specs.parts.Answering.{AreFirstQuestionFramesAppended}
use Rattle.rcell_pipe_response.proofs.ExecutionLemmas.{outer_names_after}

-- the questions from place i on are the question there and those after it
next_at : (questions : List Question) (i : ℕ) (q : Question) → i < length questions → q ≡ get_or questions i q
    → drop i questions ≡ q ∷ drop (i + 1) questions
next_at questions i q h read =
    rw add-one (drop-cons questions i q h ∙ ap (λ x. x ∷ drop (suc i) questions) (sym read))

-- if no first error is reported, neither this question nor a later one has an error
pub none_of_both : (number : ℕ) (fault : Option QuestionErrorKind) (others : Option QuestionError)
    → error_of_question_or_later_one number fault others ≡ None → (fault ≡ None) × (others ≡ None)
none_of_both number None others h = (refl, h)
none_of_both number (Some kind) others h = absurd (cc h)

module _ (form : ResponseForm) (names : List (List ℕ)) (margins : Option (List HaloMargin)) (questions : List Question)
    (i : ℕ) (q : Question) (h : i < length questions) (read : q ≡ get_or questions i q) where
  abbrev kind_here : Option QuestionErrorKind
  kind_here = question_error_kind_if_rejected form names margins (question_as_value q)

  abbrev error_from : ℕ → Option QuestionError
  error_from k = first_question_error form names margins (questions_as_values (drop k questions))

  opened : error_from i ≡ error_of_question_or_later_one q.number kind_here (error_from (i + 1))
  unfolding first_question_error
  opened = ap (λ (l : List Question). first_question_error form names margins (questions_as_values l))
      (next_at questions i q h read)

  -- if the question at place i is rejected, its error is the first
  pub fault_here : {all : Option QuestionError} (kind : QuestionErrorKind) → error_from i ≡ all
      → kind_here ≡ Some kind → Some (record { kind = kind; number = q.number }) ≡ all
  fault_here kind before fault =
      sym (ap (λ (f : Option QuestionErrorKind). error_of_question_or_later_one q.number f (error_from (i + 1))) fault)
      ∙ sym opened ∙ before

  -- if the question at place i is accepted, the first error belongs to a later question
  pub fault_after : {all : Option QuestionError} → error_from i ≡ all → kind_here ≡ None → error_from (i + 1) ≡ all
  fault_after before fine =
      sym (ap (λ (f : Option QuestionErrorKind). error_of_question_or_later_one q.number f (error_from (i + 1))) fine)
      ∙ sym opened ∙ before

-- no questions have no error
pub none_left : (form : ResponseForm) (names : List (List ℕ)) (margins : Option (List HaloMargin))
    → first_question_error form names margins [] ≡ None
unfolding first_question_error
none_left form names margins = refl

-- a question that is not rejected names known maps
known-if-accepted : (unknown lacks : Bool)
    → (if unknown then Some UnknownMap else (if lacks then Some HaloTooSmall else None)) ≡ None → unknown ≡ false
known-if-accepted false lacks h = refl
known-if-accepted true lacks h = absurd (cc h)

-- if no question is rejected, each names known maps
module _ (names : List (List ℕ)) (margins : Option (List HaloMargin)) where
  abbrev NamesKnownMaps : Question → Type 0
  NamesKnownMaps q = question_has_unknown_map names (question_as_value q) ≡ false

  pub all_known : (questions : List Question)
      → first_question_error Frames names margins (questions_as_values questions) ≡ None → All NamesKnownMaps questions
  unfolding first_question_error
  all_known [] none = All-nil NamesKnownMaps
  all_known (q ∷ qs) none =
      let both = none_of_both q.number (question_error_kind_if_rejected Frames names margins (question_as_value q))
      (first_question_error Frames names margins (questions_as_values qs)) none in
      All-cons NamesKnownMaps q qs
      (known-if-accepted (question_has_unknown_map names (question_as_value q))
      (question_lacks_halo names margins (question_as_value q)) both.0)
      (all_known qs both.1)

-- one more question adds its frames
answers_more : (first : List PatchQuestionValue) (shelves : RunShelvesValue) (question : PatchQuestionValue)
    (place n : ℕ) (frames more : List OutputFrame) → n ≡ place + length first
    → AreFramesForAllQuestions shelves place first frames
    → AreFramesForQuestion shelves n question more → AreFramesForAllQuestions shelves place (first ++ question
    ∷ []) (frames ++ more)
answers_more [] shelves question place n frames more is x answer =
    let none : n ≡ place + 0 = is in
    let same : n ≡ place = omega (arith, none) in (
      more,
      (
        [],
        (
          subst (λ (k : ℕ). AreFramesForQuestion shelves k question more) same answer,
          (refl, ap (λ t. t ++ more) x ∙ sym (append-nil more)),
        ),
      ),
    )
answers_more (q ∷ qs) shelves question place n frames more is x answer =
    let count : n ≡ place + suc (length qs) = is in
    let next : n ≡ (place + 1) + length qs = omega (arith, count) in (
      x.0,
      (
        x.1.0 ++ more,
        (
          x.1.1.0,
          (
            answers_more qs shelves question (place + 1) n x.1.0 more next x.1.1.1.0 answer,
            ap (λ t. t ++ more) x.1.1.1.1 ∙ append_assoc x.0 x.1.0 more,
          ),
        ),
      ),
    )

module _ {S : Type 0} {taken : S → Option (List ℕ)} {faults : S → SinkFaults} where
  -- a frame alone
  pub one_frame : {old now : S} {block new : OutputBlockValue} (frame : OutputFrame)
      → IsTextAppendedThroughBlock taken faults old block (frame_bytes frame) now new
      → IsTextAppendedThroughBlock taken faults old block (frames_bytes (frame ∷ [])) now new
  one_frame {old} {now} {block} {new} frame =
      subst (λ (bytes : List ℕ). IsTextAppendedThroughBlock taken faults old block bytes now new)
      (sym (append-nil (frame_bytes frame)))

  -- frames, and then other frames
  pub frames_then : {old mid now : S} {block middle new : OutputBlockValue} (first second : List OutputFrame)
      → IsTextAppendedThroughBlock taken faults old block (frames_bytes first) mid middle
      → IsTextAppendedThroughBlock taken faults mid middle (frames_bytes second) now new
      → IsTextAppendedThroughBlock taken faults old block (frames_bytes (first ++ second)) now new
  frames_then {old} {mid} {now} {block} {middle} {new} first second one two =
      subst (λ (bytes : List ℕ). IsTextAppendedThroughBlock taken faults old block bytes now new)
      (sym (flat_map-append frame_bytes first second)) (appends_then one two)

-- before any question, there are no frames of questions
pub answered_none : {S : Type 0} {taken : S → Option (List ℕ)} {faults : S → SinkFaults} (shelves : RunShelvesValue)
    (now : S) (block : OutputBlockValue) → AreAllQuestionFramesAppended taken faults shelves [] now block now block
answered_none shelves now block = record { frames = []; answers = refl; appends = appends_none }

module _ {S : Type 0} {taken : S → Option (List ℕ)} {faults : S → SinkFaults} {shelves : RunShelvesValue}
    (questions : List Question) (i : ℕ) {old was : S} {block middle : OutputBlockValue}
    (given : AreAllQuestionFramesAppended taken faults shelves (questions_as_values
    (take i questions)) old block was middle) where
  -- the question at place i has its frames
  pub answered_more : (q : Question) → i < length questions → q ≡ get_or questions i q
      → {mid now : S} {between new : OutputBlockValue}
      → AreQuestionFramesAppended taken faults shelves i (question_as_value q) was middle mid between
      → IsTextAppendedThroughBlock taken faults mid between [] now new
      → AreAllQuestionFramesAppended taken faults shelves (questions_as_values (take (i + 1) questions)) old block now
      new
  answered_more q h read {mid} {now} {between} {new} answer emptied =
      let more = answer.frames in
      let short : length (take i questions) ≡ i = length-take-le i questions (omega (arith, h)) in
      let long : length (questions_as_values (take i questions)) ≡ i =
      length-map (take i questions) question_as_value ∙ short in
      let all : List PatchQuestionValue = questions_as_values (take i questions) ++ question_as_value q ∷ [] in
      let list : all ≡ questions_as_values (take (i + 1) questions) =
      sym (map-append question_as_value (take i questions) (q ∷ []))
      ∙ ap questions_as_values (ap (λ x. take i questions ++ x ∷ []) read ∙ sym (take_more questions i q h)) in
      let answers : AreFramesForAllQuestions shelves 0 all (given.frames ++ more) =
      answers_more (questions_as_values (take i questions)) shelves (question_as_value q) 0 i given.frames more
      (omega (arith, long)) given.answers answer.answer in
      record {
        frames = given.frames ++ more;
        answers = subst (λ (l : List PatchQuestionValue). AreFramesForAllQuestions shelves 0 l (given.frames
            ++ more)) list answers;
        appends = frames_then given.frames more given.appends
            (subst (λ (bytes : List ℕ). IsTextAppendedThroughBlock taken faults was middle bytes now new)
            (append-nil (frames_bytes more))
            (appends_then answer.appends emptied));
      }

  -- the frames of questions end before the question at place i
  pub answers_first : AreFirstQuestionFramesAppended taken faults shelves
      (questions_as_values questions) old block was middle
  answers_first = record {
    first = questions_as_values (take i questions);
    others = questions_as_values (drop i questions);
    whole = sym (map-append question_as_value (take i questions) (drop i questions))
        ∙ ap questions_as_values (take-append-drop i questions);
    answered = given;
  }

-- ---- after the frames of statements

-- the names on the shelves after all statements are all names
pub names_at_end : (statements : List Statement) (shelves after : RunShelvesValue) (frames : List OutputFrame)
    → StatementsGiveFrames shelves statements frames after
    → after.outer.names ≡ names_of_all_maps shelves.outer.names statements
names_at_end [] shelves end frames x = ap (λ (s : RunShelvesValue). s.outer.names) x.1
names_at_end (s ∷ ss) shelves end frames x =
    names_at_end ss x.0 end x.1.0 x.1.1.1.0
    ∙ ap (λ (names : List (List ℕ)). names_of_all_maps names ss) (outer_names_after shelves s.command x.0 x.1.1.0)

-- statements without questions give only their own frames
pub gives_none : (shelves after : RunShelvesValue) (statements : List Statement) (frames : List OutputFrame)
    → StatementsGiveFrames shelves statements frames after
    → AreFramesOfStatementsAndQuestions shelves statements [] frames
gives_none shelves after statements frames given = record {
  frames = frames;
  after = after;
  given = given;
  answers = [];
  answered = refl;
  both = sym (append-nil frames);
}

-- the frames of questions follow the other frames
pub answered_after : {S : Type 0} {taken : S → Option (List ℕ)} {faults : S → SinkFaults} {old now : S}
    {block new : OutputBlockValue} (before : Option (List ℕ)) (start : SinkFaults) (frames answers : List OutputFrame)
    → IsTextAppendedToSink before start (response_magic ++ frames_bytes frames) (taken old) (faults old) block
    → IsTextAppendedThroughBlock taken faults old block (frames_bytes answers) now new
    → IsTextAppendedToSink before start (response_magic ++ frames_bytes (frames ++ answers)) (taken now)
    (faults now) new
answered_after {taken = taken} {faults} {old} {now} {block} {new} before start frames answers first second =
    subst (λ (text : List ℕ). IsTextAppendedToSink before start text (taken now) (faults now) new)
    (append_assoc response_magic (frames_bytes frames) (frames_bytes answers)
    ∙ ap (λ (t : List ℕ). response_magic ++ t) (sym (flat_map-append frame_bytes frames answers)))
    (second.adds before start (response_magic ++ frames_bytes frames) first)
