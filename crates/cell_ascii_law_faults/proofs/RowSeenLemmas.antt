-- A record of the bytes before a place of the data, and the effect of one more byte on it.
use Rattle.std.proofs.Common.{◌≡◌, ℕ, ◌+◌, fold, List, [], ◌∷◌, ◌++◌, Option, ◌==◌, ◌&&◌, Bool, true, false, cond, length, refl, ap, sym, ◌∙◌, arith, append-nil, append_assoc, length-append, ◌⊎◌, inl, inr, if◌then◌else◌}
use Rattle.std.specs.List.{slice_split, onto_first, list_all}
use Rattle.std.specs.Option.{option_map, unwrap_or}
use Rattle.std.proofs.lemmas.Bool.{cases_Bool}
use Rattle.std.proofs.lemmas.List.Sums.{sum_by-append, fold-append}
use Rattle.cell_ascii_meaning.specs.GridTokens.{is_space, line_feed_count, grid_fault_at_line}
use Rattle.cell_ascii_meaning.specs.Header.{DataPosition}
use Rattle.cell_ascii_meaning.specs.GridText.{words_of_grid_text}
use Rattle.cell_ascii_meaning.specs.FaultPlaces.{ByteOrTextEndOrFailedRead, Byte, End, Fails, gap_length_before_place}
use Rattle.cell_ascii_meaning.specs.FaultPlaces.{last_token}
use Rattle.cell_ascii_meaning.specs.FaultPlaces.{◌or◌}
use Rattle.cell_ascii_meaning.specs.RowPlaces.{CellFaultTable, length_of_blank_run, fault_reported_after_position}
use Rattle.cell_ascii_meaning.specs.RowPlaces.{first_fault_after_position}
use Rattle.cell_ascii_meaning.specs.declared.grid_fault.GridFault.{GridFault}
use Rattle.cell_ascii_meaning.proofs.TokenLemmas.{no_feed}
use Rattle.cell_ascii_law.proofs.LimitLawLemmas.{IsFree, free_more, split_made, onto, split_free, as_word, words_alone, words_space}
use Rattle.cell_ascii_law_faults.proofs.SeenLemmas.{with_token, gap_more, last_onto}

-- the complete words and the unfinished token
abbrev pub Counted : Type 0
Counted = List (List ℕ) × List ℕ

abbrev count_by : Bool → Counted → ℕ → Counted
count_by true x b = (with_token x.0 x.1, [])
count_by false x b = (x.0, x.1 ++ b ∷ [])

abbrev count_on : Counted → ℕ → Counted
count_on x b = count_by (is_space b) x b

with_word : (ws : List (List ℕ)) (t : List ℕ) → with_token ws t ≡ ws ++ as_word t
with_word ws [] = sym (append-nil ws)
with_word ws (x ∷ xs) = refl

counted_words : (bs : List ℕ) (ws : List (List ℕ)) (t : List ℕ) → IsFree is_space t → with_token (fold count_on (ws, t) bs).0 (fold count_on (ws, t) bs).1 ≡ ws ++ words_of_grid_text (t ++ bs)
counted_words [] ws t free = with_word ws t ∙ ap (λ (l : List (List ℕ)). ws ++ l) (sym (words_alone t free))
counted_words (b ∷ bs) ws t free = by (cases_Bool (is_space b)) (λ u. counted_words bs ws (t ++ b ∷ []) u) (counted_words bs (with_token ws t) [] tt)
  where
    by : (is_space b ≡ true) ⊎ (is_space b ≡ false)
        → (IsFree is_space (t ++ b ∷ []) → with_token (fold count_on (ws, t ++ b ∷ []) bs).0 (fold count_on (ws, t ++ b ∷ []) bs).1 ≡ ws ++ words_of_grid_text ((t ++ b ∷ []) ++ bs))
        → with_token (fold count_on (with_token ws t, []) bs).0 (fold count_on (with_token ws t, []) bs).1 ≡ with_token ws t ++ words_of_grid_text bs
        → with_token (fold count_on (count_on (ws, t) b) bs).0 (fold count_on (count_on (ws, t) b) bs).1 ≡ ws ++ words_of_grid_text (t ++ b ∷ bs)
    by (inr word) go _ = ap (λ (s : Bool). with_token (fold count_on (count_by s (ws, t) b) bs).0 (fold count_on (count_by s (ws, t) b) bs).1) word ∙ go (free_more is_space t b free word) ∙ ap (λ (l : List ℕ). ws ++ words_of_grid_text l) (append_assoc t (b ∷ []) bs)
    by (inl space) _ go = ap (λ (s : Bool). with_token (fold count_on (count_by s (ws, t) b) bs).0 (fold count_on (count_by s (ws, t) b) bs).1) space ∙ go
        ∙ ap (λ (l : List (List ℕ)). l ++ words_of_grid_text bs) (with_word ws t) ∙ append_assoc ws (as_word t) (words_of_grid_text bs) ∙ ap (λ (l : List (List ℕ)). ws ++ l) (sym (words_space t b bs free space))

counted_token : (bs : List ℕ) (ws : List (List ℕ)) (t : List ℕ) → IsFree is_space t → (fold count_on (ws, t) bs).1 ≡ last_token (slice_split is_space (t ++ bs))
counted_token [] ws t free = sym (ap last_token (split_free is_space t [] free) ∙ append-nil t)
counted_token (b ∷ bs) ws t free = by (cases_Bool (is_space b)) (λ u. counted_token bs ws (t ++ b ∷ []) u) (counted_token bs (with_token ws t) [] tt)
  where
    ended : is_space b ≡ true → last_token (slice_split is_space bs) ≡ last_token (slice_split is_space (t ++ b ∷ bs))
    ended space = sym (last_onto (t ++ []) (slice_split is_space bs) (split_made is_space bs))
        ∙ ap (λ (s : Bool). last_token (onto t (cond s ([] ∷ slice_split is_space bs) (onto_first b (slice_split is_space bs))))) (sym space)
        ∙ ap last_token (sym (split_free is_space t (b ∷ bs) free))

    by : (is_space b ≡ true) ⊎ (is_space b ≡ false)
        → (IsFree is_space (t ++ b ∷ []) → (fold count_on (ws, t ++ b ∷ []) bs).1 ≡ last_token (slice_split is_space ((t ++ b ∷ []) ++ bs)))
        → (fold count_on (with_token ws t, []) bs).1 ≡ last_token (slice_split is_space bs)
        → (fold count_on (count_on (ws, t) b) bs).1 ≡ last_token (slice_split is_space (t ++ b ∷ bs))
    by (inr word) go _ = ap (λ (s : Bool). (fold count_on (count_by s (ws, t) b) bs).1) word ∙ go (free_more is_space t b free word) ∙ ap (λ (l : List ℕ). last_token (slice_split is_space l)) (append_assoc t (b ∷ []) bs)
    by (inl space) _ go = ap (λ (s : Bool). (fold count_on (count_by s (ws, t) b) bs).1) space ∙ go ∙ ended space

pub record RowSeen : Type 0 where
  pub line : ℕ
  pub gap : ℕ
  pub words : List (List ℕ)
  pub token : List ℕ

abbrev pub row_seen : ℕ → ℕ → List (List ℕ) → List ℕ → RowSeen
row_seen line gap ws t = record { line = line; gap = gap; words = ws; token = t }

-- the error that is reported at a place, computed from the record
abbrev pub row_reports : CellFaultTable → RowSeen → ByteOrTextEndOrFailedRead → Option GridFault
row_reports table s place = option_map (λ kind. grid_fault_at_line kind s.line) (table s.gap s.token (with_token s.words s.token) place)

abbrev pub row_step_by : Bool → RowSeen → ℕ → RowSeen
row_step_by true s b = row_seen (s.line + cond (b == 10) 1 0) (s.gap + 1) (with_token s.words s.token) []
row_step_by false s b = row_seen s.line 0 s.words (s.token ++ b ∷ [])

-- the record after one more byte
abbrev pub row_step : RowSeen → ℕ → RowSeen
row_step s b = row_step_by (is_space b) s b

-- the first error that is reported from a place on, computed from the record
abbrev pub row_scan : CellFaultTable → RowSeen → List ℕ → Bool → Option GridFault
row_scan table s [] false = row_reports table s End
row_scan table s [] true = row_reports table s Fails
row_scan table s (b ∷ bs) fails = row_reports table s (Byte b) or row_scan table (row_step s b) bs fails

module _ (table : CellFaultTable) (at : DataPosition) (free : IsFree is_space (unwrap_or at.pending [])) where
  abbrev counted : List ℕ → Counted
  counted before = fold count_on ([], unwrap_or at.pending []) before

  abbrev pub behind : List ℕ → RowSeen
  behind before = row_seen (at.line + line_feed_count before) (length_of_blank_run at.run before) (counted before).0
      (counted before).1

  behind_reported : (before : List ℕ) (place : ByteOrTextEndOrFailedRead) → fault_reported_after_position table at before place ≡ row_reports table (behind before) place
  behind_reported before place = λ i. option_map (λ kind. grid_fault_at_line kind (at.line + line_feed_count before))
      (table (length_of_blank_run at.run before) (sym (counted_token before [] (unwrap_or at.pending []) free) i) (sym (counted_words before [] (unwrap_or at.pending []) free) i) place)

  line_more : (before : List ℕ) (b : ℕ) → at.line + line_feed_count (before ++ b ∷ []) ≡ at.line + line_feed_count before + cond (b == 10) 1 0
  line_more before b = omega (arith, sum_by-append (λ (x : ℕ). cond (x == 10) 1 0) before (b ∷ []))

  all_more : (before : List ℕ) (b : ℕ) → list_all is_space (before ++ b ∷ []) ≡ (list_all is_space before && is_space b)
  all_more [] b = by (is_space b)
    where
      by : (t : Bool) → (t && true) ≡ t
      by true = refl
      by false = refl
  all_more (c ∷ before) b = by (is_space c) (all_more before b)
    where
      by : (t : Bool) → list_all is_space (before ++ b ∷ []) ≡ (list_all is_space before && is_space b) → (t && list_all is_space (before ++ b ∷ [])) ≡ ((t && list_all is_space before) && is_space b)
      by true e = e
      by false e = refl

  run_more : (before : List ℕ) (b : ℕ) → length_of_blank_run at.run (before ++ b ∷ []) ≡ cond (is_space b) (length_of_blank_run at.run before + 1) 0
  run_more before b = (λ i. if all_more before b i then at.run + length (before ++ b ∷ []) else gap_more before b i) ∙ by (list_all is_space before) (is_space b)
    where
      longer : at.run + length (before ++ b ∷ []) ≡ at.run + length before + 1
      longer = omega (arith, length-append before (b ∷ []))

      by : (t s : Bool) → (if t && s then at.run + length (before ++ b ∷ []) else cond s (1 + gap_length_before_place before) 0) ≡ cond s ((if t then at.run + length before else gap_length_before_place before) + 1) 0
      by true true = longer
      by false true = omega arith
      by true false = refl
      by false false = refl

  abbrev parts : ℕ → ℕ → Counted → RowSeen
  parts line gap x = row_seen line gap x.0 x.1

  behind_more : (before : List ℕ) (b : ℕ) → behind (before ++ b ∷ []) ≡ row_step (behind before) b
  behind_more before b = (λ i. parts (line_more before b i) (run_more before b i) (fold-append count_on ([], unwrap_or at.pending []) before (b ∷ []) i)) ∙ by (cases_Bool (is_space b))
    where
      same : at.line + line_feed_count before + 0 ≡ at.line + line_feed_count before
      same = omega arith

      by : (is_space b ≡ true) ⊎ (is_space b ≡ false) → parts (at.line + line_feed_count before + cond (b == 10) 1 0) (cond (is_space b) (length_of_blank_run at.run before + 1) 0) (count_on (counted before) b) ≡ row_step (behind before) b
      by (inl space) = (λ i. parts (at.line + line_feed_count before + cond (b == 10) 1 0) (cond (space i) (length_of_blank_run at.run before + 1) 0) (count_by (space i) (counted before) b)) ∙ (λ i. row_step_by (sym space i) (behind before) b)
      by (inr word) = (λ i. parts (at.line + line_feed_count before + cond (no_feed b word i) 1 0) (cond (word i) (length_of_blank_run at.run before + 1) 0) (count_by (word i) (counted before) b))
          ∙ (λ i. parts (same i) 0 (count_by false (counted before) b)) ∙ (λ i. row_step_by (sym word i) (behind before) b)

  behind_is : (bs before : List ℕ) (fails : Bool) → first_fault_after_position table at before bs fails ≡ row_scan table (behind before) bs fails
  behind_is [] before false = behind_reported before End
  behind_is [] before true = behind_reported before Fails
  behind_is (b ∷ bs) before fails = λ i. behind_reported before (Byte b) i or (behind_is bs (before ++ b ∷ []) fails ∙ ap (λ (s : RowSeen). row_scan table s bs fails) (behind_more before b)) i

  -- the first error after a place is the first error from its record on
  pub first_is : first_fault_after_position table at [] at.coming.bytes at.coming.fails ≡ row_scan table (row_seen at.line at.run [] (unwrap_or at.pending [])) at.coming.bytes at.coming.fails
  first_is = behind_is at.coming.bytes [] at.coming.fails ∙ (λ i. row_scan table (row_seen (line i) (run i) [] (unwrap_or at.pending [])) at.coming.bytes at.coming.fails)
    where
      line : at.line + line_feed_count [] ≡ at.line
      line = omega arith

      run : at.run + 0 ≡ at.run
      run = omega arith
