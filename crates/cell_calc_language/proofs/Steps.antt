-- The steps of reading an expression, with the frames that are still open.
use Rattle.std.proofs.Common.{◌≡◌, ℕ, suc, ◌+◌, ℤ, pos, List, [], ◌∷◌, ◌++◌, Option, Some, None, Ok, Err, Bool, true, false, refl, sym, ap, ◌∙◌, subst, append_assoc, append-nil, add-one, vec_len, Global, arith}
use Rattle.std.proofs.lemmas.List.{reverse-append, nil_from_length}
use Rattle.std.specs.Borrow.{Bor}
use Rattle.std.specs.Prelude.{Vec}
use Rattle.cell_calc_grammar.specs.declared.calc_fault.CalcKind.{CalcKind}
use Rattle.cell_calc_grammar.specs.declared.calc_fault.CalcKind.TheVariants.{Expected, UnknownFunction, Arguments as BadArguments}
use Rattle.cell_calc_grammar.specs.declared.function.Function.{Function}
use Rattle.cell_calc_grammar.specs.declared.function.Function.TheVariants.{If}
use Rattle.cell_calc_grammar.specs.declared.operator.Operator.{Operator}
use Rattle.cell_calc_language.specs.declared.token_parsing.ParseStop.{ParseStop}
use Rattle.cell_calc_language.specs.declared.token_parsing.ParseStop.TheVariants.{Memory, At}
use Rattle.cell_calc_language.specs.declared.expression_reader.ParserFrame.{ParserFrame}
use Rattle.cell_calc_language.specs.declared.expression_reader.ParserFrame.TheVariants as frame
use Rattle.cell_calc_grammar.specs.declared.map_name.MapNameAtColumn.{MapNameAtColumn}
use Rattle.cell_calc_grammar.specs.declared.step.Step.{Step}
use Rattle.cell_calc_grammar.specs.declared.step.Step.TheVariants as step
use Rattle.cell_calc_grammar.specs.declared.token.TokenAtColumn.{TokenAtColumn}
use Rattle.cell_calc_grammar.specs.declared.token.Sign.{Sign}
use Rattle.cell_calc_grammar.specs.declared.token.Sign.TheVariants.{Minus, Exclamation, Question, Colon, OpenParenthesis, CloseParenthesis, OpenBracket, Comma}
use Rattle.cell_calc_grammar.specs.declared.token.Token.{Token}
use Rattle.cell_calc_grammar.specs.declared.token.Token.TheVariants as token
use Rattle.cell_calc_grammar.specs.Function.{function_with_name, accepts_argument_count}
use Rattle.cell_calc_grammar.specs.Operator.{right_operand_level}
use Rattle.cell_calc_grammar.specs.Postfix.{postfix, postfix_all}
use Rattle.cell_calc_grammar.specs.TokensRead as reading
use Rattle.cell_calc_grammar.specs.TokensRead.{ExpressionPartReading, tokens_after_first, ExpressionReadOutcome, Got, GotAll, Stops, ParserState, Operand, More, Expression, Choice, AfterQuestion, Called, Onward, first_continuing_operator, ContinuesWithOperator, TokenIsNotSign, TokenBeginsNoOperand, outcome_after_minus, outcome_after_not_sign, outcome_after_parenthesis, outcome_in_parentheses, outcome_after_operator, outcome_after_choice, outcome_after_offsets, outcome_of_checked_call, call, outcome_with_argument, ParserStateReadsAs, nothing, whole, stopped, done, expression, unread, unchosen, unasked, no_colon, otherwise, arguments, halted, unended}
use Rattle.cell_calc_language.specs.Stopping.{ParserStopsWhereReadingStops, PartReadingStopsWithFault, RestFollowsSign}
use Rattle.cell_calc_language.specs.Stopping.{RestFollowsCallOpening}
use Rattle.cell_calc_grammar.specs.Term.{Term, Number, Map, Negated, Not, Binary, Call, ArgumentTerms, NoTrees, Then, argument_count, map_name_at_column}
use Rattle.cell_calc_grammar.specs.Token.{number_token_at_column, name_token_at_column, sign_token_at_column}
use Rattle.cell_calc_grammar.specs.Token.{head_token}
use Rattle.cell_calc_grammar.specs.Postfix.{tree_of_steps}
use Rattle.cell_calc_language.specs.parts.Waiting.{outcome_with_arguments_in_front, PartOutcomeCompletesState}
use Rattle.cell_calc_language.specs.parts.Waiting.{InnerOutcomeCompletesOuterState, LastStepsAreOperandForState}
use Rattle.cell_calc_language.specs.parts.Waiting.{frames_latest_first}
use Rattle.cell_calc_grammar.proofs.PostfixLemmas.{are_of_tree}
use Rattle.cell_calc_grammar.proofs.Sound.{front_is}

-- a list that begins with a sign is that sign and the tokens after it
pub after_is : (s : Sign) (ts us : List TokenAtColumn) → RestFollowsSign s ts us → (c : ℕ)
    × (ts ≡ sign_token_at_column s c ∷ us)
after_is s ts us h =
    let f = front_is ts (token.Sign s) h.0 in
    (f.0, f.1 ∙ ap (λ l. sign_token_at_column s f.0 ∷ l) h.1)

call_is : (name : List ℕ) (ts us : List TokenAtColumn) → RestFollowsCallOpening name ts us → (c d : ℕ) × (ts ≡ name_token_at_column name c ∷ sign_token_at_column OpenParenthesis d ∷ us)
call_is name ts us h =
    let f = front_is ts (token.Name name) h.0 in
    let g = after_is OpenParenthesis (tokens_after_first ts) us h.1 in
    (f.0, g.0, f.1 ∙ ap (λ l. name_token_at_column name f.0 ∷ l) g.1)

map_reads : (name : List ℕ) (c : ℕ) (ts us : List TokenAtColumn) → RestFollowsSign OpenBracket ts us → (p : ExpressionPartReading (ℤ × ℤ)) → reading.read_both_offsets us ≡ p → ParserStateReadsAs (Operand (name_token_at_column name c ∷ ts)) (outcome_after_offsets name c p)
map_reads name c ts us h p e =
    let a = after_is OpenBracket ts us h in
    subst (λ l. ParserStateReadsAs (Operand (name_token_at_column name c ∷ l)) (outcome_after_offsets name c p)) (sym a.1) (subst (λ q. ParserStateReadsAs (Operand (name_token_at_column name c ∷ sign_token_at_column OpenBracket a.0 ∷ us)) (outcome_after_offsets name c q)) e reading.moved)

begins_none : (s : Sign) → (s ≡ Minus → ⊥) → (s ≡ Exclamation → ⊥) → (s ≡ OpenParenthesis → ⊥) → TokenBeginsNoOperand (Some (token.Sign s))
begins_none Minus n m o = n refl
begins_none Exclamation n m o = m refl
begins_none OpenParenthesis n m o = o refl
begins_none _ n m o = tt

add_all_stops : (xs : ArgumentTerms) (kind : CalcKind) (ts : List TokenAtColumn)
    → outcome_with_arguments_in_front xs (Stops kind ts) ≡ Stops kind ts
add_all_stops NoTrees kind ts = refl
add_all_stops (Then a xs) kind ts = ap (outcome_with_argument a) (add_all_stops xs kind ts)

-- an error ends the reading of all open frames
stops : (s : ParserState) (fs : List ParserFrame) (steps : List (Step MapNameAtColumn)) (kind : CalcKind) (ts : List TokenAtColumn) → PartOutcomeCompletesState s fs steps (Stops kind ts) → ParserStateReadsAs s (Stops kind ts)
stops s [] steps kind ts h = h.1
stops s (frame.Level k ∷ fs) steps kind ts h = stops s fs steps kind ts (h (Stops kind ts) stopped)
stops s (frame.Joined k op ∷ fs) steps kind ts h = stops s fs h.1 kind ts (h.3 (Stops kind ts) stopped)
stops s (frame.Choice ∷ fs) steps kind ts h = stops s fs steps kind ts (h (Stops kind ts) unread)
stops s (frame.AfterQuestion ∷ fs) steps kind ts h = stops s fs h.1 kind ts (h.3 (Stops kind ts) unasked)
stops s (frame.AfterColon ∷ fs) steps kind ts h = stops s fs h.2 kind ts h.4
stops s (frame.Call f from n ∷ fs) steps kind ts h =
    stops s fs h.1 kind ts (subst (λ o. PartOutcomeCompletesState s fs h.1 (call f from.now o)) (add_all_stops h.0 kind ts) (h.4 (Stops kind ts) halted))
stops s (_ ∷ fs) steps kind ts h = stops s fs steps kind ts h

-- reading where an operand or an expression is expected
module _ (s : ParserState) (fs : List ParserFrame) (steps : List (Step MapNameAtColumn))
    (ts : List TokenAtColumn) where
  stops_at : (kind : CalcKind) (us : List TokenAtColumn) → InnerOutcomeCompletesOuterState s fs steps (Operand ts) → ParserStateReadsAs (Operand ts) (Stops kind us) → ParserStateReadsAs s (Stops kind us)
  stops_at kind us h r = stops s fs steps kind us (h (Stops kind us) r)

  operand_read : (a : Term) (us : List TokenAtColumn) → InnerOutcomeCompletesOuterState s fs steps (Operand ts) → ParserStateReadsAs (Operand ts) (Got a us) → LastStepsAreOperandForState s fs (steps ++ postfix a) us
  operand_read a us h r = (a, steps, refl, h (Got a us) r)

  pub entered : InnerOutcomeCompletesOuterState s fs steps (Expression ts)
      → InnerOutcomeCompletesOuterState s (frame.Level 6 ∷ frame.Choice ∷ fs) steps (Operand ts)
  entered h = λ o r p m q c. h q (expression (whole r m) c)

  pub no_token : InnerOutcomeCompletesOuterState s fs steps (Operand ts) → ts ≡ []
      → ParserStateReadsAs s (Stops Expected ts)
  no_token h e = stops_at Expected ts h (rw e (nothing tt))

  pub number_read : (n : ℕ) (p : TokenAtColumn) (us : List TokenAtColumn) → InnerOutcomeCompletesOuterState s fs steps (Operand ts) → ts ≡ p ∷ us → p.token ≡ token.Number n → LastStepsAreOperandForState s fs (steps ++ step.Number n ∷ []) us
  number_read n p us h e f =
      let g = front_is ts (token.Number n) (ap head_token e ∙ ap (λ x. Some x) f) in
      operand_read (Number n) us h (subst (λ l. ParserStateReadsAs (Operand l) (Got (Number n) us)) (sym (g.1 ∙ ap (λ l. number_token_at_column n g.0 ∷ tokens_after_first l) e)) reading.number)

  pub minus : (us : List TokenAtColumn) → InnerOutcomeCompletesOuterState s fs steps (Operand ts) → RestFollowsSign Minus ts us → InnerOutcomeCompletesOuterState s (frame.Negated ∷ fs) steps (Operand us)
  minus us h a = λ o r. h (outcome_after_minus o) (subst (λ l. ParserStateReadsAs (Operand l) (outcome_after_minus o)) (sym (after_is Minus ts us a).1) (reading.negated r))

  pub exclamation : (us : List TokenAtColumn) → InnerOutcomeCompletesOuterState s fs steps (Operand ts) → RestFollowsSign Exclamation ts us → InnerOutcomeCompletesOuterState s (frame.Not ∷ fs) steps (Operand us)
  exclamation us h a = λ o r. h (outcome_after_not_sign o) (subst (λ l. ParserStateReadsAs (Operand l) (outcome_after_not_sign o)) (sym (after_is Exclamation ts us a).1) (reading.not r))

  pub opened : (us : List TokenAtColumn) → InnerOutcomeCompletesOuterState s fs steps (Operand ts) → RestFollowsSign OpenParenthesis ts us → InnerOutcomeCompletesOuterState s (frame.Parenthesis ∷ fs) steps (Expression us)
  opened us h a = λ o r. h (outcome_in_parentheses o) (subst (λ l. ParserStateReadsAs (Operand l) (outcome_in_parentheses o)) (sym (after_is OpenParenthesis ts us a).1) (reading.inside r))

  pub no_operand : (sign : Sign) → InnerOutcomeCompletesOuterState s fs steps (Operand ts) → head_token ts ≡ Some (token.Sign sign) → (sign ≡ Minus → ⊥) → (sign ≡ Exclamation → ⊥) → (sign ≡ OpenParenthesis → ⊥) → ParserStateReadsAs s (Stops Expected ts)
  no_operand sign h e n m o = stops_at Expected ts h (nothing (subst TokenBeginsNoOperand (sym e)
      (begins_none sign n m o)))

-- reading after the name of a map
module _ (s : ParserState) (fs : List ParserFrame) (steps : List (Step MapNameAtColumn)) (name copy : List ℕ) (c : ℕ) (ts : List TokenAtColumn) where
  pub map_alone : InnerOutcomeCompletesOuterState s fs steps (Operand (name_token_at_column name c ∷ ts)) → copy ≡ name → TokenIsNotSign OpenParenthesis (head_token ts) → TokenIsNotSign OpenBracket (head_token ts) → LastStepsAreOperandForState s fs (steps ++ step.Map (map_name_at_column copy c) (pos 0) (pos 0) ∷ []) ts
  map_alone h e n m = operand_read s fs steps (name_token_at_column name c ∷ ts) (Map (map_name_at_column copy c) (pos 0) (pos 0)) ts h (rw e (reading.map (n, m)))

  pub map_moved : (us rest : List TokenAtColumn) (down right : ℤ) → InnerOutcomeCompletesOuterState s fs steps (Operand (name_token_at_column name c ∷ ts)) → copy ≡ name → RestFollowsSign OpenBracket ts us → reading.read_both_offsets us ≡ Ok ((down, right), rest)
      → LastStepsAreOperandForState s fs (steps ++ step.Map (map_name_at_column copy c) down right ∷ []) rest
  map_moved us rest down right h e a p = operand_read s fs steps (name_token_at_column name c ∷ ts) (Map (map_name_at_column copy c) down right) rest h (rw e (map_reads name c ts us a (Ok ((down, right), rest)) p))

  pub map_stops : (us : List TokenAtColumn) (e : ParseStop) → InnerOutcomeCompletesOuterState s fs steps (Operand (name_token_at_column name c ∷ ts)) → RestFollowsSign OpenBracket ts us → PartReadingStopsWithFault (reading.read_both_offsets us) e → ParserStopsWhereReadingStops s e
  map_stops us Memory h a p = tt
  map_stops us (At kind rest) h a p = stops_at s fs steps (name_token_at_column name c ∷ ts) kind rest.now h (map_reads name c ts us a (Err (kind, rest.now)) p)

-- reading after the name of a call and the opening parenthesis
module _ (s : ParserState) (fs : List ParserFrame) (steps : List (Step MapNameAtColumn)) (name : List ℕ) (from : Bor (List TokenAtColumn)) (us : List TokenAtColumn) (h : InnerOutcomeCompletesOuterState s fs steps (Operand from.now)) (a : RestFollowsCallOpening name from.now us) where
  pub unknown_call : function_with_name name ≡ None → ParserStateReadsAs s (Stops UnknownFunction from.now)
  unknown_call e = stops_at s fs steps from.now UnknownFunction from.now h (subst (λ l. ParserStateReadsAs (Operand l) (Stops UnknownFunction l)) (sym (call_is name from.now us a).2) (reading.unknown e))

  call_reads : (f : Function) (o : ExpressionReadOutcome) → function_with_name name ≡ Some f → ParserStateReadsAs (Called us) o → ParserStateReadsAs (Operand from.now) (call f from.now o)
  call_reads f o e r = subst (λ l. ParserStateReadsAs (Operand l) (call f l o)) (sym (call_is name from.now us a).2) (reading.called f e r)

  -- reading a call without arguments checks whether its function accepts 0 arguments
  judged_empty : (f : Function) (rest : List TokenAtColumn) (b : Bool) → function_with_name name ≡ Some f → RestFollowsSign CloseParenthesis us rest → accepts_argument_count f 0 ≡ b → ParserStateReadsAs (Operand from.now) (outcome_of_checked_call b f NoTrees from.now rest)
  judged_empty f rest b e d g =
      subst (λ x. ParserStateReadsAs (Operand from.now) (outcome_of_checked_call x f NoTrees from.now rest)) g
      (call_reads f (GotAll NoTrees rest) e (subst (λ l. ParserStateReadsAs (Called l) (GotAll NoTrees rest)) (sym (after_is CloseParenthesis us rest d).1) reading.none))

  pub empty_call : (f : Function) (rest : List TokenAtColumn) → function_with_name name ≡ Some f → RestFollowsSign CloseParenthesis us rest → accepts_argument_count f 0 ≡ true → LastStepsAreOperandForState s fs (steps ++ step.Call f 0 ∷ []) rest
  empty_call f rest e d g = operand_read s fs steps from.now (Call f NoTrees) rest h (judged_empty f rest true e d g)

  pub refused_empty : (f : Function) (rest : List TokenAtColumn) → function_with_name name ≡ Some f → RestFollowsSign CloseParenthesis us rest → accepts_argument_count f 0 ≡ false → ParserStateReadsAs s (Stops BadArguments from.now)
  refused_empty f rest e d g = stops_at s fs steps from.now BadArguments from.now h (judged_empty f rest false e d g)

  pub first_argument : (f : Function) → function_with_name name ≡ Some f → TokenIsNotSign CloseParenthesis (head_token us) → InnerOutcomeCompletesOuterState s (frame.Call f from 0 ∷ fs) steps (Expression us)
  first_argument f e n = λ o r. (NoTrees, steps, sym (append-nil steps), refl, λ p m. h (call f from.now p) (call_reads f p e (reading.some n (arguments r m))))

more_reads : (k : ℕ) (ts : List TokenAtColumn) (a : Term) (op : Operator) (rest : List TokenAtColumn) (o p : ExpressionReadOutcome) → ContinuesWithOperator k ts op rest → ParserStateReadsAs (reading.Whole (right_operand_level op) rest) o → ParserStateReadsAs (More k (outcome_after_operator op a o)) p → ParserStateReadsAs (More k (Got a ts)) p
more_reads k [] a op rest o p g r m = let h : ⊥ = cc (g.1) in absurd h
more_reads k (s ∷ ts) a op rest o p g r m = reading.more op g.1 (subst (λ l. ParserStateReadsAs (reading.Whole (right_operand_level op) l) o) (sym g.0) r) m

not_closed : (t : Option Token) (a : Term) (ts : List TokenAtColumn) → TokenIsNotSign CloseParenthesis t → outcome_after_parenthesis t a ts ≡ Stops Expected ts
not_closed (Some (token.Sign CloseParenthesis)) a ts n = absurd (n refl)
not_closed _ a ts n = refl

-- reading after an operand
module _ (s : ParserState) (fs : List ParserFrame) (steps : List (Step MapNameAtColumn))
    (ts : List TokenAtColumn) where
  pub negated : LastStepsAreOperandForState s (frame.Negated ∷ fs) steps ts
      → LastStepsAreOperandForState s fs (steps ++ step.Negated ∷ []) ts
  negated h = (Negated h.0, h.1, ap (λ l. l ++ step.Negated ∷ []) h.2 ∙ append_assoc h.1 (postfix h.0) (step.Negated ∷ []), h.3)

  pub inverted : LastStepsAreOperandForState s (frame.Not ∷ fs) steps ts
      → LastStepsAreOperandForState s fs (steps ++ step.Not ∷ []) ts
  inverted h = (Not h.0, h.1, ap (λ l. l ++ step.Not ∷ []) h.2 ∙ append_assoc h.1 (postfix h.0) (step.Not ∷ []), h.3)

  pub joined : (k : ℕ) (op : Operator) → LastStepsAreOperandForState s (frame.Joined k op ∷ fs) steps ts → LastStepsAreOperandForState s (frame.Level k ∷ fs) (steps ++ step.Binary op ∷ []) ts
  joined k op h =
      let f = h.3 in
      (Binary op f.0 h.0, f.1, ap (λ l. l ++ step.Binary op ∷ []) (h.2 ∙ ap (λ l. l ++ postfix h.0) f.2) ∙ simp append_assoc, f.3)

  pub chosen : LastStepsAreOperandForState s (frame.AfterColon ∷ fs) steps ts → LastStepsAreOperandForState s fs (steps ++ step.Call If 3 ∷ []) ts
  chosen h =
      let f = h.3 in
      (Call If (Then f.0 (Then f.1 (Then h.0 NoTrees))), f.2, ap (λ l. l ++ step.Call If 3 ∷ []) (h.2 ∙ ap (λ l. l ++ postfix h.0) f.3) ∙ simp (append_assoc, append-nil), f.4)

  pub no_more : (k : ℕ) → LastStepsAreOperandForState s (frame.Level k ∷ fs) steps ts → first_continuing_operator k ts ≡ None → LastStepsAreOperandForState s fs steps ts
  no_more k h e = (h.0, h.1, h.2, h.3 (Got h.0 ts) (done e))

  pub more : (k : ℕ) (op : Operator) (us : List TokenAtColumn) → LastStepsAreOperandForState s (frame.Level k ∷ fs) steps ts → ContinuesWithOperator k ts op us → InnerOutcomeCompletesOuterState s (frame.Level (right_operand_level op) ∷ frame.Joined k op ∷ fs) steps (Operand us)
  more k op us h g = λ o r p m. (h.0, h.1, h.2, λ q n. h.3 q (more_reads k ts h.0 op us p q g (whole r m) n))

  pub not_asked : LastStepsAreOperandForState s (frame.Choice ∷ fs) steps ts → TokenIsNotSign Question (head_token ts) → LastStepsAreOperandForState s fs steps ts
  not_asked h n = (h.0, h.1, h.2, h.3 (Got h.0 ts) (unchosen n))

  pub asked : (us : List TokenAtColumn) → LastStepsAreOperandForState s (frame.Choice ∷ fs) steps ts → RestFollowsSign Question ts us → InnerOutcomeCompletesOuterState s (frame.AfterQuestion ∷ fs) steps (Expression us)
  asked us h a = λ o r. (h.0, h.1, h.2, λ p m. h.3 p (subst (λ l. ParserStateReadsAs (Choice (Got h.0 l)) p) (sym (after_is Question ts us a).1) (reading.asked r m)))

  pub colon_missing : LastStepsAreOperandForState s (frame.AfterQuestion ∷ fs) steps ts → TokenIsNotSign Colon (head_token ts) → ParserStateReadsAs s (Stops Expected ts)
  colon_missing h n = stops s fs h.3.1 Expected ts (h.3.3 (Stops Expected ts) (no_colon n))

  pub colon : (us : List TokenAtColumn) → LastStepsAreOperandForState s (frame.AfterQuestion ∷ fs) steps ts → RestFollowsSign Colon ts us → InnerOutcomeCompletesOuterState s (frame.AfterColon ∷ fs) steps (Expression us)
  colon us h a = λ o r.
      let f = h.3 in (
        f.0,
        h.0,
        f.1,
        h.2 ∙ ap (λ l. l ++ postfix h.0) f.2 ∙ append_assoc f.1 (postfix f.0) (postfix h.0),
        f.3 (outcome_after_choice f.0 h.0 o) (subst (λ l. ParserStateReadsAs (AfterQuestion f.0 (Got h.0 l)) (outcome_after_choice f.0 h.0 o)) (sym (after_is Colon ts us a).1) (otherwise r)),
      )

  pub unclosed : LastStepsAreOperandForState s (frame.Parenthesis ∷ fs) steps ts → TokenIsNotSign CloseParenthesis (head_token ts) → ParserStateReadsAs s (Stops Expected ts)
  unclosed h n = stops s fs h.1 Expected ts (subst (PartOutcomeCompletesState s fs h.1)
      (not_closed (head_token ts) h.0 ts n) h.3)

-- the arguments, followed by a last one
with_last : ArgumentTerms → Term → ArgumentTerms
with_last NoTrees b = Then b NoTrees
with_last (Then a xs) b = Then a (with_last xs b)

count_with_last : (xs : ArgumentTerms) (b : Term) → argument_count (with_last xs b) ≡ suc (argument_count xs)
unfolding with_last
count_with_last NoTrees b = refl
count_with_last (Then a xs) b = ap suc (count_with_last xs b)

postfix_with_last : (xs : ArgumentTerms) (b : Term) → postfix_all (with_last xs b) ≡ postfix_all xs ++ postfix b
unfolding with_last
postfix_with_last NoTrees b = append-nil (postfix b)
postfix_with_last (Then a xs) b = ap (λ l. postfix a ++ l) (postfix_with_last xs b) ∙ sym (append_assoc (postfix a) (postfix_all xs) (postfix b))

add_with_last : (xs : ArgumentTerms) (b : Term) (o : ExpressionReadOutcome)
    → outcome_with_arguments_in_front xs (outcome_with_argument b o)
    ≡ outcome_with_arguments_in_front (with_last xs b) o
unfolding with_last
add_with_last NoTrees b o = refl
add_with_last (Then a xs) b o = ap (outcome_with_argument a) (add_with_last xs b o)

add_all_last : (xs : ArgumentTerms) (b : Term) (us : List TokenAtColumn) → outcome_with_arguments_in_front xs (GotAll (Then b NoTrees) us) ≡ GotAll (with_last xs b) us
unfolding with_last
add_all_last NoTrees b us = refl
add_all_last (Then a xs) b us = ap (outcome_with_argument a) (add_all_last xs b us)

-- reading after an argument of a call
module _ (s : ParserState) (fs : List ParserFrame) (steps : List (Step MapNameAtColumn)) (ts : List TokenAtColumn) (f : Function) (from : Bor (List TokenAtColumn)) (n m : ℕ) (e : m ≡ n + 1) (h : LastStepsAreOperandForState s (frame.Call f from n ∷ fs) steps ts) where
  all : ArgumentTerms
  all = with_last h.3.0 h.0

  counted : argument_count all ≡ m
  unfolding all
  counted = count_with_last h.3.0 h.0 ∙ ap suc h.3.3 ∙ sym (add-one n) ∙ sym e

  all_steps : steps ≡ h.3.1 ++ postfix_all all
  unfolding all
  all_steps = h.2 ∙ ap (λ l. l ++ postfix h.0) h.3.2 ∙ append_assoc h.3.1 (postfix_all h.3.0) (postfix h.0) ∙ ap (λ l. h.3.1 ++ l) (sym (postfix_with_last h.3.0 h.0))

  pub another_argument : (us : List TokenAtColumn) → RestFollowsSign Comma ts us → InnerOutcomeCompletesOuterState s (frame.Call f from m ∷ fs) steps (Expression us)
  unfolding all
  another_argument us a = λ o r. (
    all,
    h.3.1,
    all_steps,
    counted,
    λ p q. subst (λ x. PartOutcomeCompletesState s fs h.3.1 (call f from.now x)) (add_with_last h.3.0 h.0 p)
        (h.3.4 (outcome_with_argument h.0 p) (subst (λ l. ParserStateReadsAs (Onward (Got h.0 l)) (outcome_with_argument h.0 p)) (sym (after_is Comma ts us a).1) (reading.another (arguments r q)))),
  )

  pub unended_call : TokenIsNotSign CloseParenthesis (head_token ts) → TokenIsNotSign Comma (head_token ts)
      → ParserStateReadsAs s (Stops Expected ts)
  unended_call c d = stops s fs h.3.1 Expected ts (subst (λ x. PartOutcomeCompletesState s fs h.3.1 (call f from.now x)) (add_all_stops h.3.0 Expected ts) (h.3.4 (Stops Expected ts) (unended c d)))

  judged_call : (us : List TokenAtColumn) (b : Bool) → RestFollowsSign CloseParenthesis ts us → accepts_argument_count f m ≡ b → PartOutcomeCompletesState s fs h.3.1 (outcome_of_checked_call b f all from.now us)
  unfolding all
  judged_call us b a g =
      subst (λ x. PartOutcomeCompletesState s fs h.3.1 (outcome_of_checked_call x f all from.now us))
      (ap (accepts_argument_count f) counted ∙ g)
      (subst (λ x. PartOutcomeCompletesState s fs h.3.1 (call f from.now x)) (add_all_last h.3.0 h.0 us)
      (h.3.4 (GotAll (Then h.0 NoTrees) us) (subst (λ l. ParserStateReadsAs (Onward (Got h.0 l)) (GotAll (Then h.0 NoTrees) us)) (sym (after_is CloseParenthesis ts us a).1) reading.last)))

  pub refused_call : (us : List TokenAtColumn) → RestFollowsSign CloseParenthesis ts us → accepts_argument_count f m ≡ false → ParserStateReadsAs s (Stops BadArguments from.now)
  refused_call us a g = stops s fs h.3.1 BadArguments from.now (judged_call us false a g)

  pub accepted_call : (us : List TokenAtColumn) → RestFollowsSign CloseParenthesis ts us → accepts_argument_count f m ≡ true → LastStepsAreOperandForState s fs (steps ++ step.Call f m ∷ []) us
  accepted_call us a g = (
    Call f all,
    h.3.1,
    ap (λ l. l ++ step.Call f m ∷ []) all_steps ∙ append_assoc h.3.1 (postfix_all all) (step.Call f m ∷ []) ∙ ap (λ k. h.3.1 ++ (postfix_all all ++ step.Call f k ∷ [])) (sym counted),
    judged_call us true a g,
  )

-- at the beginning, no frame is open
pub begins : (fs : List ParserFrame) (steps : List (Step MapNameAtColumn)) (ts : List TokenAtColumn) → fs ≡ [] → steps ≡ [] → InnerOutcomeCompletesOuterState (Expression ts) (frames_latest_first fs) steps (Expression ts)
begins fs steps ts e g = λ o r. rw (e, g) (refl, r)

-- after an operand, the latest frame continues
pub resumes : (s : ParserState) (fs gs : List ParserFrame) (f : ParserFrame) (steps : List (Step MapNameAtColumn)) (ts : List TokenAtColumn) → fs ≡ gs ++ f ∷ [] → LastStepsAreOperandForState s (frames_latest_first fs) steps ts → LastStepsAreOperandForState s (f ∷ frames_latest_first gs) steps ts
resumes s fs gs f steps ts e h = subst (λ l. LastStepsAreOperandForState s l steps ts) (ap frames_latest_first e ∙ reverse-append gs (f ∷ [])) h

-- at the end, no frame is open
pub ends : (s : ParserState) (frames : Vec ParserFrame Global) (steps : List (Step MapNameAtColumn)) (ts : List TokenAtColumn) → vec_len frames ≡ 0 → LastStepsAreOperandForState s (frames_latest_first frames.items) steps ts
    → (ParserStateReadsAs s (Got (tree_of_steps steps) ts)) × (steps ≡ postfix (tree_of_steps steps))
ends s frames steps ts e h =
    let len = frames.ok.0 in
    let none : frames.items ≡ [] = nil_from_length frames.items (omega arith) in
    let g = subst (λ l. LastStepsAreOperandForState s (frames_latest_first l) steps ts) none h in
    let b = are_of_tree g.0 steps (g.2 ∙ ap (λ l. l ++ postfix g.0) g.3.0) in
    (subst (λ a. ParserStateReadsAs s (Got a ts)) (sym b.0) g.3.1, b.1)
