-- The unfinished parts of an expression while it is read.
use Rattle.std.specs.Prelude.{◌≡◌, ℕ, List, [], ◌∷◌, ◌++◌, reverse, length, vec_len, ◌+◌, ◌*◌, ◌≤◌, Result, Ok, Err, IfOk}
use Rattle.cell_calc_language.specs.declared.token_parsing.ParseStop.{ParseStop}
use Rattle.cell_calc_language.specs.declared.expression_reader.ParserFrame.{ParserFrame}
use Rattle.cell_calc_language.specs.declared.expression_reader.ParserFrame.TheVariants as frame
use Rattle.cell_calc_language.specs.declared.expression_reader.ExpressionReader.{ExpressionReader}
use Rattle.cell_calc_language.specs.declared.expression_reader.ReaderAction.{ReaderAction}
use Rattle.cell_calc_language.specs.declared.expression_reader.ReaderAction.TheVariants as turn
use Rattle.cell_calc_grammar.specs.declared.map_name.MapNameAtColumn.{MapNameAtColumn}
use Rattle.cell_calc_grammar.specs.declared.step.Step.{Step}
use Rattle.cell_calc_grammar.specs.declared.token.TokenAtColumn.{TokenAtColumn}
use Rattle.cell_calc_grammar.specs.Postfix.{postfix, postfix_all}
use Rattle.cell_calc_grammar.specs.TokensRead.{ExpressionReadOutcome, Got, ParserState, Operand, More, Choice, AfterQuestion, Onward, ParserStateReadsAs, outcome_after_minus, outcome_after_not_sign, outcome_in_parentheses, outcome_after_operator, outcome_after_choice, call, outcome_with_argument}
use Rattle.cell_calc_language.specs.Stopping.{ParserStopsWhereReadingStops}
use Rattle.cell_calc_grammar.specs.Term.{Term, ArgumentTerms, NoTrees, Then, argument_count}

-- arguments, followed by other arguments
abbrev pub outcome_with_arguments_in_front : ArgumentTerms → ExpressionReadOutcome → ExpressionReadOutcome
outcome_with_arguments_in_front NoTrees o = o
outcome_with_arguments_in_front (Then a xs) o = outcome_with_argument a (outcome_with_arguments_in_front xs o)

-- with the outcome o of the current part, the state s is read: o comes after these steps, and these frames wait for it,
-- the latest first
abbrev pub PartOutcomeCompletesState : ParserState → List ParserFrame → List (Step MapNameAtColumn)
    → ExpressionReadOutcome → Type 0
PartOutcomeCompletesState s [] steps o = (steps ≡ []) × ParserStateReadsAs s o
PartOutcomeCompletesState s (frame.Negated ∷ fs) steps o = PartOutcomeCompletesState s fs steps (outcome_after_minus o)
PartOutcomeCompletesState s (frame.Not ∷ fs) steps o = PartOutcomeCompletesState s fs steps (outcome_after_not_sign o)
PartOutcomeCompletesState s (frame.Level k ∷ fs) steps o = (p : ExpressionReadOutcome) → ParserStateReadsAs (More k o) p
    → PartOutcomeCompletesState s fs steps p
PartOutcomeCompletesState s (frame.Joined k op ∷ fs) steps o =
    (a : Term) × (before : List (Step MapNameAtColumn)) × (steps ≡ before ++ postfix a) × ((p : ExpressionReadOutcome) → ParserStateReadsAs (More k (outcome_after_operator op a o)) p → PartOutcomeCompletesState s fs before p)
PartOutcomeCompletesState s (frame.Choice ∷ fs) steps o = (p : ExpressionReadOutcome) → ParserStateReadsAs (Choice o) p
    → PartOutcomeCompletesState s fs steps p
PartOutcomeCompletesState s (frame.AfterQuestion ∷ fs) steps o =
    (x : Term) × (before : List (Step MapNameAtColumn)) × (steps ≡ before ++ postfix x) × ((p : ExpressionReadOutcome) → ParserStateReadsAs (AfterQuestion x o) p → PartOutcomeCompletesState s fs before p)
PartOutcomeCompletesState s (frame.AfterColon ∷ fs) steps o =
    (x a : Term) × (before : List (Step MapNameAtColumn)) × (steps ≡ before ++ (postfix x ++ postfix a)) × PartOutcomeCompletesState s fs before (outcome_after_choice x a o)
PartOutcomeCompletesState s (frame.Parenthesis ∷ fs) steps o = PartOutcomeCompletesState s fs steps
    (outcome_in_parentheses o)
PartOutcomeCompletesState s (frame.Call f from n ∷ fs) steps o =
    (xs : ArgumentTerms) × (before : List (Step MapNameAtColumn)) × (steps ≡ before ++ postfix_all xs)
    × (argument_count xs ≡ n)
    × ((p : ExpressionReadOutcome) → ParserStateReadsAs (Onward o) p
    → PartOutcomeCompletesState s fs before (call f from.now (outcome_with_arguments_in_front xs p)))

-- any outcome of the state t completes the state s
abbrev pub InnerOutcomeCompletesOuterState : ParserState → List ParserFrame → List (Step MapNameAtColumn)
    → ParserState → Type 0
InnerOutcomeCompletesOuterState s fs steps t = (o : ExpressionReadOutcome) → ParserStateReadsAs t o
    → PartOutcomeCompletesState s fs steps o

-- the last steps are an operand, which completes the state s before the remaining tokens
abbrev pub LastStepsAreOperandForState : ParserState → List ParserFrame → List (Step MapNameAtColumn)
    → List TokenAtColumn → Type 0
LastStepsAreOperandForState s fs steps rest = (a : Term) × (before : List (Step MapNameAtColumn)) × (steps ≡ before ++ postfix a) × PartOutcomeCompletesState s fs before (Got a rest)

abbrev pub frames_latest_first : List ParserFrame → List ParserFrame
frames_latest_first fs = reverse fs

-- the frames of a reader, the latest first
abbrev pub waiting_frames : ExpressionReader → List ParserFrame
waiting_frames r = frames_latest_first r.frames.items

-- any outcome of the state t completes the part of the state s that was read
abbrev pub OutcomeOfStateCompletesReader : ParserState → ExpressionReader → ParserState → Type 0
OutcomeOfStateCompletesReader s r t = InnerOutcomeCompletesOuterState s (waiting_frames r) r.steps.items t

-- the frame f, and then the reader's frames, wait for the last steps
abbrev pub FrameAwaitsLastSteps : ParserState → ExpressionReader → ParserFrame → List TokenAtColumn → Type 0
FrameAwaitsLastSteps s r f rest = LastStepsAreOperandForState s (f ∷ waiting_frames r) r.steps.items rest

-- the reader's next action leads to the outcome of the state s
abbrev pub ActionLeadsToOutcomeOfState : ParserState → ExpressionReader → ReaderAction → Type 0
ActionLeadsToOutcomeOfState s r (turn.Operand ts) = OutcomeOfStateCompletesReader s r (Operand ts.now)
ActionLeadsToOutcomeOfState s r (turn.After ts) = LastStepsAreOperandForState s (waiting_frames r) r.steps.items ts.now

-- the reader's next action leads to the outcome of the state s, or reading s stops
abbrev pub ActionLeadsToOutcomeOrStop : ParserState → ExpressionReader → Result ReaderAction ParseStop → Type 0
ActionLeadsToOutcomeOrStop s r (Ok turn) = ActionLeadsToOutcomeOfState s r turn
ActionLeadsToOutcomeOrStop s r (Err e) = ParserStopsWhereReadingStops s e

-- the remaining tokens of a turn
abbrev pub tokens_left_by_action : ReaderAction → List TokenAtColumn
tokens_left_by_action (turn.Operand ts) = ts.now
tokens_left_by_action (turn.After ts) = ts.now

-- a bound on the remaining work: each token adds at most four frames
abbrev pub reader_work_bound : List TokenAtColumn → ExpressionReader → ℕ
reader_work_bound ts r = 4 * length ts + vec_len r.frames

-- any state that waits for t in the old reader is continued in the new reader
abbrev pub ActionContinuesWaitingStates : ExpressionReader → ParserState → ExpressionReader
    → Result ReaderAction ParseStop → Type 0
ActionContinuesWaitingStates old t new result = (s : ParserState) → OutcomeOfStateCompletesReader s old t
    → ActionLeadsToOutcomeOrStop s new result

-- any state that waits for the frame and the old reader's frames is continued in the new reader
abbrev pub ActionContinuesWaitingFrame : ExpressionReader → ParserFrame → List TokenAtColumn → ExpressionReader
    → Result ReaderAction ParseStop → Type 0
ActionContinuesWaitingFrame old f ts new result = (s : ParserState) → FrameAwaitsLastSteps s old f ts
    → ActionLeadsToOutcomeOrStop s new result

-- the turn leaves at most this much work
abbrev pub ActionLeavesAtMostWork : ℕ → ExpressionReader → Result ReaderAction ParseStop → Type 0
ActionLeavesAtMostWork most r result = IfOk result (λ turn. reader_work_bound (tokens_left_by_action turn) r ≤ most)
