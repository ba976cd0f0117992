-- A record of the bytes before a place, and the effect of one more byte on it.
use Rattle.std.proofs.Common.{◌≡◌, ℕ, ◌+◌, fold, List, [], ◌∷◌, ◌++◌, Option, ◌==◌, Bool, true, false, cond, map, refl, ap, sym, ◌∙◌, arith, append-nil, append_assoc, ◌⊎◌, inl, inr}
use Rattle.std.specs.List.{slice_split, onto_first, prefix_len}
use Rattle.std.specs.Option.{option_map}
use Rattle.std.proofs.lemmas.Bool.{cases_Bool}
use Rattle.std.proofs.lemmas.List.{reverse-append}
use Rattle.std.proofs.lemmas.List.Sums.{sum_by-append, fold-append}
use Rattle.cell_ascii_meaning.specs.GridTokens.{is_space, grid_fault_at_line}
use Rattle.cell_ascii_meaning.specs.GridText.{words_of_each_line, words_of_grid_text}
use Rattle.cell_ascii_meaning.specs.FaultPlaces.{ByteOrTextEndOrFailedRead, Byte, End, Fails, last_token, all_but_last, line_number_of_place, gap_length_before_place, unfinished_token_before_place, FaultTable, fault_kind_at_place, ◌or◌, fault_reported_at_place, first_fault_in_rest_of_text}
use Rattle.cell_ascii_meaning.specs.declared.grid_fault.GridFault.{GridFault}
use Rattle.cell_ascii_meaning.proofs.TokenLemmas.{no_feed}
use Rattle.cell_ascii_law.proofs.LexemeLemmas.{Lines, put_token, opening}
use Rattle.cell_ascii_law.proofs.LimitLawLemmas.{IsFree, free_more, IsMade, split_made, onto, split_free, lines_alone, lines_space}

-- the words of a line, including the unfinished token
abbrev pub with_token : List (List ℕ) → List ℕ → List (List ℕ)
with_token words [] = words
with_token words (x ∷ xs) = words ++ (x ∷ xs) ∷ []

-- the words of each earlier line, the complete words of the current line, and the unfinished token
pub record Tracked : Type 0 where
  pub earlier : Lines
  pub words : List (List ℕ)
  pub token : List ℕ

abbrev pub tracked_at : Lines → List (List ℕ) → List ℕ → Tracked
tracked_at ls ws t = record { earlier = ls; words = ws; token = t }

abbrev pub lines_at : Tracked → Lines
lines_at x = x.earlier ++ with_token x.words x.token ∷ []

abbrev pub track_by : Bool → Bool → Tracked → ℕ → Tracked
track_by false feed x b = tracked_at x.earlier x.words (x.token ++ b ∷ [])
track_by true false x b = tracked_at x.earlier (with_token x.words x.token) []
track_by true true x b = tracked_at (lines_at x) [] []

abbrev pub track : Tracked → ℕ → Tracked
track x b = track_by (is_space b) (b == 10) x b

-- words added at the start of the first line
abbrev join : List (List ℕ) → Lines → Lines
join ws [] = ws ∷ []
join ws (l ∷ ls) = (ws ++ l) ∷ ls

-- at least one line
abbrev AreLines : Lines → Type 0
AreLines [] = ⊥
AreLines (l ∷ ls) = Unit {0}

lines_made : (bs : List ℕ) → AreLines (words_of_each_line bs)
lines_made bs = by (slice_split (λ b. b == 10) bs) (split_made (λ b. b == 10) bs)
  where
    by : (ps : List (List ℕ)) → IsMade ps → AreLines (map words_of_grid_text ps)
    by [] made = made
    by (p ∷ ps) made = tt

join_none : (ls : Lines) → AreLines ls → join [] ls ≡ ls
join_none [] made = absurd made
join_none (l ∷ ls) made = refl

join_alone : (ws : List (List ℕ)) (t : List ℕ) → with_token ws t ∷ [] ≡ join ws (put_token t ([] ∷ []))
join_alone ws [] = ap (λ (l : List (List ℕ)). l ∷ []) (sym (append-nil ws))
join_alone ws (x ∷ xs) = refl

join_fed : (ws : List (List ℕ)) (t : List ℕ) (ls : Lines) → with_token ws t ∷ ls ≡ join ws (put_token t ([] ∷ ls))
join_fed ws [] ls = ap (λ (l : List (List ℕ)). l ∷ ls) (sym (append-nil ws))
join_fed ws (x ∷ xs) ls = refl

join_more : (ws : List (List ℕ)) (t : List ℕ) (ls : Lines) → AreLines ls → join (with_token ws t) ls ≡ join ws (put_token t ls)
join_more ws t [] made = absurd made
join_more ws [] (l ∷ ls) made = refl
join_more ws (x ∷ xs) (l ∷ ls) made = ap (λ (k : List (List ℕ)). k ∷ ls) (append_assoc ws ((x ∷ xs) ∷ []) l)

tracked_lines : (bs : List ℕ) (ls : Lines) (ws : List (List ℕ)) (t : List ℕ) → IsFree is_space t → lines_at (fold track (tracked_at ls ws t) bs) ≡ ls ++ join ws (words_of_each_line (t ++ bs))
tracked_lines [] ls ws t free = ap (λ (l : Lines). ls ++ l) (join_alone ws t ∙ ap (join ws) (sym (lines_alone t free)))
tracked_lines (b ∷ bs) ls ws t free = by (cases_Bool (is_space b)) (cases_Bool (b == 10)) (λ u. tracked_lines bs ls ws (t ++ b ∷ []) u) (tracked_lines bs (lines_at (tracked_at ls ws t)) [] [] tt) (tracked_lines bs ls (with_token ws t) [] tt)
  where
    by : (is_space b ≡ true) ⊎ (is_space b ≡ false) → ((b == 10) ≡ true) ⊎ ((b == 10) ≡ false)
        → (IsFree is_space (t ++ b ∷ []) → lines_at (fold track (tracked_at ls ws (t ++ b ∷ [])) bs) ≡ ls ++ join ws (words_of_each_line ((t ++ b ∷ []) ++ bs)))
        → lines_at (fold track (tracked_at (lines_at (tracked_at ls ws t)) [] []) bs) ≡ lines_at (tracked_at ls ws t) ++ join [] (words_of_each_line bs)
        → lines_at (fold track (tracked_at ls (with_token ws t) []) bs) ≡ ls
        ++ join (with_token ws t) (words_of_each_line bs)
        → lines_at (fold track (track (tracked_at ls ws t) b) bs) ≡ ls ++ join ws (words_of_each_line (t ++ b ∷ bs))
    by (inr word) _ go _ _ = ap (λ (s : Bool). lines_at (fold track (track_by s (b == 10) (tracked_at ls ws t) b) bs)) word ∙ go (free_more is_space t b free word) ∙ ap (λ (l : List ℕ). ls ++ join ws (words_of_each_line l)) (append_assoc t (b ∷ []) bs)
    by (inl space) (inl feed) _ go _ = (λ i. lines_at (fold track (track_by (space i) (feed i) (tracked_at ls ws t) b) bs)) ∙ go
        ∙ ap (λ (l : Lines). lines_at (tracked_at ls ws t) ++ l) (join_none (words_of_each_line bs) (lines_made bs)) ∙ append_assoc ls (with_token ws t ∷ []) (words_of_each_line bs)
        ∙ ap (λ (l : Lines). ls ++ l) (join_fed ws t (words_of_each_line bs) ∙ ap (λ (u : Bool). join ws (put_token t (opening u (words_of_each_line bs)))) (sym feed) ∙ ap (join ws) (sym (lines_space t b bs free space)))
    by (inl space) (inr blank) _ _ go = (λ i. lines_at (fold track (track_by (space i) (blank i) (tracked_at ls ws t) b) bs)) ∙ go
        ∙ ap (λ (l : Lines). ls ++ l) (join_more ws t (words_of_each_line bs) (lines_made bs) ∙ ap (λ (u : Bool). join ws (put_token t (opening u (words_of_each_line bs)))) (sym blank) ∙ ap (join ws) (sym (lines_space t b bs free space)))

pub last_onto : (x : List ℕ) (ps : List (List ℕ)) → IsMade ps → last_token (x ∷ ps) ≡ last_token ps
last_onto x [] made = absurd made
last_onto x (p ∷ ps) made = refl

tracked_token : (bs : List ℕ) (ls : Lines) (ws : List (List ℕ)) (t : List ℕ) → IsFree is_space t → (fold track (tracked_at ls ws t) bs).token ≡ last_token (slice_split is_space (t ++ bs))
tracked_token [] ls ws t free = sym (ap last_token (split_free is_space t [] free) ∙ append-nil t)
tracked_token (b ∷ bs) ls ws t free = by (cases_Bool (is_space b)) (λ u. tracked_token bs ls ws (t ++ b ∷ []) u) (tracked_token bs (lines_at (tracked_at ls ws t)) [] [] tt) (tracked_token bs ls (with_token ws t) [] tt)
  where
    ended : is_space b ≡ true → last_token (slice_split is_space bs) ≡ last_token (slice_split is_space (t ++ b ∷ bs))
    ended space = sym (last_onto (t ++ []) (slice_split is_space bs) (split_made is_space bs))
        ∙ ap (λ (s : Bool). last_token (onto t (cond s ([] ∷ slice_split is_space bs) (onto_first b (slice_split is_space bs))))) (sym space)
        ∙ ap last_token (sym (split_free is_space t (b ∷ bs) free))

    by : (is_space b ≡ true) ⊎ (is_space b ≡ false)
        → (IsFree is_space (t ++ b ∷ []) → (fold track (tracked_at ls ws (t ++ b ∷ [])) bs).token ≡ last_token (slice_split is_space ((t ++ b ∷ []) ++ bs)))
        → (fold track (tracked_at (lines_at (tracked_at ls ws t)) [] []) bs).token ≡ last_token (slice_split is_space bs)
        → (fold track (tracked_at ls (with_token ws t) []) bs).token ≡ last_token (slice_split is_space bs)
        → (fold track (track (tracked_at ls ws t) b) bs).token ≡ last_token (slice_split is_space (t ++ b ∷ bs))
    by (inr word) go _ _ = ap (λ (s : Bool). (fold track (track_by s (b == 10) (tracked_at ls ws t) b) bs).token) word ∙ go (free_more is_space t b free word) ∙ ap (λ (l : List ℕ). last_token (slice_split is_space l)) (append_assoc t (b ∷ []) bs)
    by (inl space) _ fed go = ap (λ (s : Bool). (fold track (track_by s (b == 10) (tracked_at ls ws t) b) bs).token) space ∙ spaced (b == 10) ∙ ended space
      where
        spaced : (feed : Bool) → (fold track (track_by true feed (tracked_at ls ws t) b) bs).token ≡ last_token (slice_split is_space bs)
        spaced true = fed
        spaced false = go

abbrev pub tracked : List ℕ → Tracked
tracked before = fold track (tracked_at [] [] []) before

lines_are : (before : List ℕ) → words_of_each_line before ≡ lines_at (tracked before)
lines_are before = sym (tracked_lines before [] [] [] tt ∙ join_none (words_of_each_line before) (lines_made before))

token_is : (before : List ℕ) → unfinished_token_before_place before ≡ (tracked before).token
token_is before = sym (tracked_token before [] [] [] tt)

pub front_append : {X : Type 0} (ls : List X) (l : X) → all_but_last (ls ++ l ∷ []) ≡ ls
front_append [] l = refl
front_append (k ∷ []) l = refl
front_append (k ∷ j ∷ ls) l = ap (λ x. k ∷ x) (front_append (j ∷ ls) l)

pub last_append : {X : Type 0} (ls : List (List X)) (l : List X) → last_token (ls ++ l ∷ []) ≡ l
last_append [] l = refl
last_append (k ∷ []) l = refl
last_append (k ∷ j ∷ ls) l = last_append (j ∷ ls) l

pub record Seen : Type 0 where
  pub line : ℕ
  pub gap : ℕ
  pub earlier : Lines
  pub words : List (List ℕ)
  pub token : List ℕ

abbrev pub at_seen : ℕ → ℕ → Lines → List (List ℕ) → List ℕ → Seen
at_seen line gap ls ws t = record { line = line; gap = gap; earlier = ls; words = ws; token = t }

abbrev pub here : Seen → List (List ℕ)
here s = with_token s.words s.token

abbrev pub all_lines : Seen → Lines
all_lines s = s.earlier ++ here s ∷ []

-- the error that is reported at a place, computed from the record
abbrev pub reports : FaultTable → Seen → ByteOrTextEndOrFailedRead → Option GridFault
reports table s place = option_map (λ kind. grid_fault_at_line kind s.line) (fault_kind_at_place table s.gap s.token s.earlier (here s) (all_lines s) place)

abbrev pub step_by : Bool → Bool → Seen → ℕ → Seen
step_by false feed s b = at_seen s.line 0 s.earlier s.words (s.token ++ b ∷ [])
step_by true false s b = at_seen s.line (s.gap + 1) s.earlier (here s) []
step_by true true s b = at_seen (s.line + 1) (s.gap + 1) (all_lines s) [] []

-- the record after one more byte
abbrev pub step : Seen → ℕ → Seen
step s b = step_by (is_space b) (b == 10) s b

-- the first error that is reported from a place on, computed from the record
abbrev pub scan : FaultTable → Seen → List ℕ → Bool → Option GridFault
scan table s [] false = reports table s End
scan table s [] true = reports table s Fails
scan table s (b ∷ bs) fails = reports table s (Byte b) or scan table (step s b) bs fails

abbrev pub seen : List ℕ → Seen
seen before = at_seen (line_number_of_place before) (gap_length_before_place before) (tracked before).earlier (tracked before).words (tracked before).token

reported_is : (table : FaultTable) (before : List ℕ) (place : ByteOrTextEndOrFailedRead) → fault_reported_at_place table before place ≡ reports table (seen before) place
reported_is table before place = λ i. option_map (λ kind. grid_fault_at_line kind (line_number_of_place before)) (fault_kind_at_place table (gap_length_before_place before) (token_is before i) (front i) (last i) (lines_are before i) place)
  where
    front : all_but_last (words_of_each_line before) ≡ (tracked before).earlier
    front = ap all_but_last (lines_are before) ∙ front_append (tracked before).earlier (here (seen before))

    last : last_token (words_of_each_line before) ≡ here (seen before)
    last = ap last_token (lines_are before) ∙ last_append (tracked before).earlier (here (seen before))

line_more : (before : List ℕ) (b : ℕ) → line_number_of_place (before ++ b ∷ [])
    ≡ line_number_of_place before + cond (b == 10) 1 0
line_more before b = omega (arith, sum_by-append (λ (x : ℕ). cond (x == 10) 1 0) before (b ∷ []))

pub gap_more : (before : List ℕ) (b : ℕ) → gap_length_before_place (before ++ b ∷ []) ≡ cond (is_space b) (1 + gap_length_before_place before) 0
gap_more before b = ap (prefix_len is_space) (reverse-append before (b ∷ []))

abbrev parts : ℕ → ℕ → Tracked → Seen
parts line gap x = at_seen line gap x.earlier x.words x.token

seen_more : (before : List ℕ) (b : ℕ) → seen (before ++ b ∷ []) ≡ step (seen before) b
seen_more before b = (λ i. parts (line_more before b i) (gap_more before b i) (fold-append track (tracked_at [] [] []) before (b ∷ []) i)) ∙ by (cases_Bool (is_space b)) (cases_Bool (b == 10))
  where
    wider : 1 + gap_length_before_place before ≡ gap_length_before_place before + 1
    wider = omega arith

    same : line_number_of_place before + 0 ≡ line_number_of_place before
    same = omega arith

    by : (is_space b ≡ true) ⊎ (is_space b ≡ false) → ((b == 10) ≡ true) ⊎ ((b == 10) ≡ false) → parts (line_number_of_place before + cond (b == 10) 1 0) (cond (is_space b) (1 + gap_length_before_place before) 0) (track (tracked before) b) ≡ step (seen before) b
    by (inr word) _ = (λ i. parts (line_number_of_place before + cond (no_feed b word i) 1 0) (cond (word i) (1 + gap_length_before_place before) 0) (track_by (word i) (no_feed b word i) (tracked before) b))
        ∙ (λ i. parts (same i) 0 (track_by false false (tracked before) b)) ∙ (λ i. step_by (sym word i) (sym (no_feed b word) i) (seen before) b)
    by (inl space) (inl feed) = (λ i. parts (line_number_of_place before + cond (feed i) 1 0) (cond (space i) (1 + gap_length_before_place before) 0) (track_by (space i) (feed i) (tracked before) b))
        ∙ (λ i. parts (line_number_of_place before + 1) (wider i) (track_by true true (tracked before) b)) ∙ (λ i. step_by (sym space i) (sym feed i) (seen before) b)
    by (inl space) (inr blank) = (λ i. parts (line_number_of_place before + cond (blank i) 1 0) (cond (space i) (1 + gap_length_before_place before) 0) (track_by (space i) (blank i) (tracked before) b))
        ∙ (λ i. parts (same i) (wider i) (track_by true false (tracked before) b)) ∙ (λ i. step_by (sym space i) (sym blank i) (seen before) b)

-- the first error reported after some bytes is the first error reported from their record on
pub first_is : (table : FaultTable) (bs before : List ℕ) (fails : Bool) → first_fault_in_rest_of_text table before bs fails ≡ scan table (seen before) bs fails
first_is table [] before false = reported_is table before End
first_is table [] before true = reported_is table before Fails
first_is table (b ∷ bs) before fails = λ i. reported_is table before (Byte b) i or (first_is table bs (before ++ b ∷ []) fails ∙ ap (λ (s : Seen). scan table s bs fails) (seen_more before b)) i
