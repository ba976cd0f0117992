-- The texts within the limits, and the words of their lines.
use Rattle.std.proofs.Common.{◌≡◌, ℕ, ◌+◌, ◌<◌, ◌≤◌, List, [], ◌∷◌, ◌++◌, Option, Some, None, ◌==◌, Bool, true, false, cond, length, map, refl, ap, sym, ◌∙◌, arith, append-nil, append_assoc, length-append, subst, ◌⊎◌, inl, inr}
use Rattle.std.specs.Option.{option_map}
use Rattle.std.specs.List.{All, slice_split, onto_first, filter, list_all}
use Rattle.std.proofs.lemmas.Bool.{cases_Bool, cases_lt, and_parts, and_from, both_ways}
use Rattle.std.proofs.lemmas.List.Elements.{All-nil, All-cons, All-head, All-tail, All-append}
use Rattle.cell_ascii_meaning.specs.GridTokens.{is_space}
use Rattle.cell_ascii_meaning.specs.GridText.{is_nonempty_word, words_of_grid_text, lines_of_text, words_of_each_line}
use Rattle.cell_ascii_meaning.specs.GridText.{AreWordsAndBlanksWithinLimits}
use Rattle.cell_ascii_meaning.proofs.TokenLemmas.{no_feed}
use Rattle.cell_ascii_law.proofs.LexemeLemmas.{Lines, put_token, opening, lex, lex-space, lex-stuck, lex-word, lex-long}

-- no byte satisfies p
abbrev pub IsFree : (ℕ → Bool) → List ℕ → Type 0
IsFree p [] = Unit {0}
IsFree p (b ∷ bs) = (p b ≡ false) × IsFree p bs

free_feeds : (t : List ℕ) → IsFree is_space t → IsFree (λ b. b == 10) t
free_feeds [] free = tt
free_feeds (b ∷ t) free = (no_feed b free.0, free_feeds t free.1)

pub free_more : (p : ℕ → Bool) (t : List ℕ) (b : ℕ) → IsFree p t → p b ≡ false → IsFree p (t ++ b ∷ [])
free_more p [] b free e = (e, tt)
free_more p (x ∷ t) b free e = (free.0, free_more p t b free.1 e)

-- The pieces of a text that begins with t, if no cut falls into t.
abbrev pub onto : List ℕ → List (List ℕ) → List (List ℕ)
onto t [] = t ∷ []
onto t (q ∷ qs) = (t ++ q) ∷ qs

abbrev pub IsMade : List (List ℕ) → Type 0
IsMade [] = ⊥
IsMade (q ∷ qs) = Unit {0}

pub split_made : (p : ℕ → Bool) (bs : List ℕ) → IsMade (slice_split p bs)
split_made p [] = tt
split_made p (b ∷ bs) = by (p b) (slice_split p bs)
  where
    by : (t : Bool) (qs : List (List ℕ)) → IsMade (cond t ([] ∷ qs) (onto_first b qs))
    by true qs = tt
    by false [] = tt
    by false (q ∷ qs) = tt

pub onto-none : (qs : List (List ℕ)) → IsMade qs → qs ≡ onto [] qs
onto-none [] made = absurd made
onto-none (q ∷ qs) made = refl

onto-more : (b : ℕ) (t : List ℕ) (qs : List (List ℕ)) → onto_first b (onto t qs) ≡ onto (b ∷ t) qs
onto-more b t [] = refl
onto-more b t (q ∷ qs) = refl

pub split_free : (p : ℕ → Bool) (t bs : List ℕ) → IsFree p t → slice_split p (t ++ bs) ≡ onto t (slice_split p bs)
split_free p [] bs free = onto-none (slice_split p bs) (split_made p bs)
split_free p (b ∷ t) bs free = ap (λ (s : Bool). cond s ([] ∷ slice_split p (t ++ bs)) (onto_first b (slice_split p (t ++ bs)))) free.0
    ∙ ap (onto_first b) (split_free p t bs free.1) ∙ onto-more b t (slice_split p bs)

abbrev pub as_word : List ℕ → List (List ℕ)
as_word [] = []
as_word (b ∷ bs) = (b ∷ bs) ∷ []

pub as_words : (t : List ℕ) (qs : List (List ℕ)) → filter is_nonempty_word ((t ++ []) ∷ qs) ≡ as_word t
    ++ filter is_nonempty_word qs
as_words t qs = ap (λ (u : List ℕ). filter is_nonempty_word (u ∷ qs)) (append-nil t) ∙ by t
  where
    by : (u : List ℕ) → filter is_nonempty_word (u ∷ qs) ≡ as_word u ++ filter is_nonempty_word qs
    by [] = refl
    by (x ∷ xs) = refl

pub words_alone : (t : List ℕ) → IsFree is_space t → words_of_grid_text (t ++ []) ≡ as_word t
words_alone t free = ap (filter is_nonempty_word) (split_free is_space t [] free) ∙ as_words t []
    ∙ append-nil (as_word t)

pub words_space : (t : List ℕ) (b : ℕ) (bs : List ℕ) → IsFree is_space t → is_space b ≡ true → words_of_grid_text (t ++ b ∷ bs) ≡ as_word t ++ words_of_grid_text bs
words_space t b bs free space = ap (filter is_nonempty_word) (split_free is_space t (b ∷ bs) free)
    ∙ ap (λ (s : Bool). filter is_nonempty_word (onto t (cond s ([] ∷ slice_split is_space bs) (onto_first b (slice_split is_space bs))))) space
    ∙ as_words t (slice_split is_space bs)

pub lines_alone : (t : List ℕ) → IsFree is_space t → words_of_each_line (t ++ []) ≡ put_token t ([] ∷ [])
lines_alone t free = ap (map words_of_grid_text) (split_free (λ b. b == 10) t [] (free_feeds t free)) ∙ ap (λ (ws : List (List ℕ)). ws ∷ []) (words_alone t free) ∙ by t
  where
    by : (u : List ℕ) → as_word u ∷ [] ≡ put_token u ([] ∷ [])
    by [] = refl
    by (x ∷ xs) = refl

pub lines_space : (t : List ℕ) (b : ℕ) (bs : List ℕ) → IsFree is_space t → is_space b ≡ true → words_of_each_line (t ++ b ∷ bs) ≡ put_token t (opening (b == 10) (words_of_each_line bs))
lines_space t b bs free space = ap (map words_of_grid_text) (split_free (λ b. b == 10) t (b ∷ bs) (free_feeds t free)) ∙ by (b == 10) (lines_of_text bs) (split_made (λ b. b == 10) bs)
  where
    fed : (u : List ℕ) (ls : Lines) → as_word u ∷ ls ≡ put_token u ([] ∷ ls)
    fed [] ls = refl
    fed (x ∷ xs) ls = refl

    more : (u : List ℕ) (ws : List (List ℕ)) (ls : Lines) → (as_word u ++ ws) ∷ ls ≡ put_token u (ws ∷ ls)
    more [] ws ls = refl
    more (x ∷ xs) ws ls = refl

    by : (feed : Bool) (qs : List (List ℕ)) → IsMade qs → map words_of_grid_text (onto t (cond feed ([] ∷ qs) (onto_first b qs))) ≡ put_token t (opening feed (map words_of_grid_text qs))
    by feed [] made = absurd made
    by true (q ∷ qs) made = ap (λ (ws : List (List ℕ)). ws ∷ map words_of_grid_text (q ∷ qs)) (words_alone t free) ∙ fed t (map words_of_grid_text (q ∷ qs))
    by false (q ∷ qs) made = ap (λ (ws : List (List ℕ)). ws ∷ map words_of_grid_text qs) (words_space t b q free space) ∙ more t (words_of_grid_text q) (map words_of_grid_text qs)

-- No word of the text has more than 64 bytes.
abbrev AreShort : List ℕ → Type 0
AreShort text = All (λ w. length w ≤ 64) (words_of_grid_text text)

short_from : (text : List ℕ) (ws : List (List ℕ)) → words_of_grid_text text ≡ ws → All (λ w. length w ≤ 64) ws → AreShort text
short_from text ws e short = subst (λ (vs : List (List ℕ)). All (λ w. length w ≤ 64) vs) (sym e) short

short_word : (t : List ℕ) → length t ≤ 64 → All (λ w. length w ≤ 64) (as_word t)
short_word [] h = All-nil (λ w. length w ≤ 64)
short_word (x ∷ xs) h = All-cons (λ w. length w ≤ 64) (x ∷ xs) [] h (All-nil (λ w. length w ≤ 64))

first_short : (t : List ℕ) (ws : List (List ℕ)) → All (λ w. length w ≤ 64) (as_word t ++ ws) → length t ≤ 64
first_short [] ws short = omega arith
first_short (x ∷ xs) ws short = All-head (λ w. length w ≤ 64) (x ∷ xs) ws short

rest_short : (t : List ℕ) (ws : List (List ℕ)) → All (λ w. length w ≤ 64) (as_word t ++ ws) → All (λ w. length w ≤ 64) ws
rest_short [] ws short = short
rest_short (x ∷ xs) ws short = All-tail (λ w. length w ≤ 64) (x ∷ xs) ws short

words_short : (text : List ℕ) (ws : List (List ℕ)) → words_of_grid_text text ≡ ws → AreShort text → All (λ w. length w ≤ 64) ws
words_short text ws e short = subst (λ (vs : List (List ℕ)). All (λ w. length w ≤ 64) vs) e short

pub one_more : (t : List ℕ) (b : ℕ) (bs : List ℕ) → (t ++ b ∷ []) ++ bs ≡ t ++ b ∷ bs
one_more t b bs = append_assoc t (b ∷ []) bs

-- an unfinished word of a text with short words has at most 64 bytes
token_short : (bs t : List ℕ) → IsFree is_space t → AreShort (t ++ bs) → length t ≤ 64
token_short [] t free short = first_short t [] (words_short (t ++ []) (as_word t ++ []) (words_alone t free ∙ sym (append-nil (as_word t))) short)
token_short (b ∷ bs) t free short = by (token_short bs (t ++ b ∷ [])) (cases_Bool (is_space b))
  where
    by : (IsFree is_space (t ++ b ∷ []) → AreShort ((t ++ b ∷ []) ++ bs) → length (t ++ b ∷ []) ≤ 64) → (is_space b ≡ true) ⊎ (is_space b ≡ false) → length t ≤ 64
    by on (inl space) = first_short t (words_of_grid_text bs) (words_short (t ++ b ∷ bs) (as_word t ++ words_of_grid_text bs) (words_space t b bs free space) short)
    by on (inr word) = let h = on (free_more is_space t b free word) (subst AreShort (sym (one_more t b bs)) short) in omega (arith, length-append t (b ∷ []))

-- No run of spaces has more than 1048576 bytes, if the text follows `run` spaces.
pub record AreGaps (run : ℕ) (bs : List ℕ) : Type 0 where
  pub here : (gap back : List ℕ) → bs ≡ gap ++ back → list_all is_space gap ≡ true → run + length gap ≤ 1048576
  pub later : (front gap back : List ℕ) → bs ≡ front ++ (gap ++ back) → list_all is_space gap ≡ true → length gap ≤ 1048576

gaps_none : (run : ℕ) → run ≤ 1048576 → AreGaps run []
gaps_none run low = record { here = here; later = later }
  where
    here : (gap back : List ℕ) → [] ≡ gap ++ back → list_all is_space gap ≡ true → run + length gap ≤ 1048576
    here [] back e s = omega arith
    here (g ∷ gap) back e s = absurd cc

    later : (front gap back : List ℕ) → [] ≡ front ++ (gap ++ back) → list_all is_space gap ≡ true → length gap ≤ 1048576
    later [] [] back e s = omega arith
    later [] (g ∷ gap) back e s = absurd cc
    later (x ∷ front) gap back e s = absurd cc

module _ (run b : ℕ) (bs : List ℕ) where
  gaps_space : AreGaps (run + 1) bs → AreGaps run (b ∷ bs)
  gaps_space are = record { here = here; later = later }
    where
      here : (gap back : List ℕ) → b ∷ bs ≡ gap ++ back → list_all is_space gap ≡ true → run + length gap ≤ 1048576
      here [] back e s = let h = are.here [] bs refl refl in omega arith
      here (g ∷ gap) back e s = let same : bs ≡ gap ++ back = cc in let h = are.here gap back same (and_parts (is_space g) (list_all is_space gap) s).1 in omega arith

      later : (front gap back : List ℕ) → b ∷ bs ≡ front ++ (gap ++ back) → list_all is_space gap ≡ true → length gap ≤ 1048576
      later [] gap back e s = let h = here gap back e s in omega arith
      later (x ∷ front) gap back e s = let same : bs ≡ front ++ (gap ++ back) = cc in are.later front gap back same s

  gaps_word : is_space b ≡ false → run ≤ 1048576 → AreGaps 0 bs → AreGaps run (b ∷ bs)
  gaps_word word low are = record { here = here; later = later }
    where
      here : (gap back : List ℕ) → b ∷ bs ≡ gap ++ back → list_all is_space gap ≡ true → run + length gap ≤ 1048576
      here [] back e s = omega arith
      here (g ∷ gap) back e s = let same : b ≡ g = cc in let space = (and_parts (is_space g) (list_all is_space gap) s).0 in absurd (both_ways (is_space g) (ap is_space (sym same) ∙ word) space)

      later : (front gap back : List ℕ) → b ∷ bs ≡ front ++ (gap ++ back) → list_all is_space gap ≡ true → length gap ≤ 1048576
      later [] gap back e s = let h = here gap back e s in omega arith
      later (x ∷ front) gap back e s = let same : bs ≡ front ++ (gap ++ back) = cc in are.later front gap back same s

  module _ (are : AreGaps run (b ∷ bs)) where
    space_gaps : is_space b ≡ true → (run < 1048576) × AreGaps (run + 1) bs
    space_gaps space = (
      let h = are.here (b ∷ []) bs refl (and_from (is_space b) true space refl) in omega arith,
      record {
        here = λ gap back e s. let h = are.here (b ∷ gap) back (ap (λ (l : List ℕ). b ∷ l) e) (and_from (is_space b) (list_all is_space gap) space s) in omega arith;
        later = λ front gap back e s. are.later (b ∷ front) gap back (ap (λ (l : List ℕ). b ∷ l) e) s;
      },
    )

    word_gaps : AreGaps 0 bs
    word_gaps = record {
      here = λ gap back e s. let h = are.later (b ∷ []) gap back (ap (λ (l : List ℕ). b ∷ l) e) s in omega arith;
      later = λ front gap back e s. are.later (b ∷ front) gap back (ap (λ (l : List ℕ). b ∷ l) e) s;
    }

-- The properties of a text whose lines were read as words.
pub record IsLexed (run : ℕ) (t bs : List ℕ) (f : Bool) (ls : Lines) : Type 0 where
  pub ends : f ≡ false
  pub words : AreShort (t ++ bs)
  pub gaps : AreGaps run bs
  pub lines : ls ≡ words_of_each_line (t ++ bs)

lexed : (bs : List ℕ) (f : Bool) (run : ℕ) (t : List ℕ) → IsFree is_space t → length t ≤ 64 → run ≤ 1048576 → (ls : Lines) → lex run t bs f ≡ Some ls → IsLexed run t bs f ls
lexed [] true run t free short low ls e = cc
lexed [] false run t free short low ls e = record {
  ends = refl;
  words = short_from (t ++ []) (as_word t) (words_alone t free) (short_word t short);
  gaps = gaps_none run low;
  lines = (let h : put_token t ([] ∷ []) ≡ ls = cc in sym h) ∙ sym (lines_alone t free);
}
lexed (b ∷ bs) f run t free short low ls e = by (lexed bs f (run + 1) []) (lexed bs f 0 (t ++ b ∷ [])) (cases_Bool (is_space b)) (cases_lt run 1048576) (cases_lt (length t) 64)
  where
    at_space : is_space b ≡ true → ((ls : Lines) → lex (run + 1) [] bs f ≡ Some ls → IsLexed (run + 1) [] bs f ls) → (o : Option Lines) → lex (run + 1) [] bs f ≡ o → option_map (λ ls. put_token t (opening (b == 10) ls)) o ≡ Some ls → IsLexed run t (b ∷ bs) f ls
    at_space space on None o e = cc
    at_space space on (Some l) o e =
        let g = on l o in
        let h : put_token t (opening (b == 10) l) ≡ ls = cc in
        record {
          ends = g.ends;
          words = short_from (t ++ b ∷ bs) (as_word t ++ words_of_grid_text bs) (words_space t b bs free space) (All-append (λ w. length w ≤ 64) (as_word t) (words_of_grid_text bs) (short_word t short) g.words);
          gaps = gaps_space run b bs g.gaps;
          lines = sym h ∙ ap (λ (l : Lines). put_token t (opening (b == 10) l)) g.lines ∙ sym (lines_space t b bs free space);
        }

    by : (IsFree is_space [] → 0 ≤ 64 → run + 1 ≤ 1048576 → (ls : Lines) → lex (run + 1) [] bs f ≡ Some ls → IsLexed (run + 1) [] bs f ls)
        → (IsFree is_space (t ++ b ∷ []) → length (t ++ b ∷ []) ≤ 64 → 0 ≤ 1048576 → (ls : Lines) → lex 0 (t ++ b ∷ []) bs f ≡ Some ls → IsLexed 0 (t ++ b ∷ []) bs f ls)
        → (is_space b ≡ true) ⊎ (is_space b ≡ false) → (run < 1048576) ⊎ (1048576 ≤ run) → (length t < 64) ⊎ (64 ≤ length t) → IsLexed run t (b ∷ bs) f ls
    by on inside (inl space) (inl room) _ = at_space space (on tt (omega arith) (omega arith)) (lex (run + 1) [] bs f) refl (sym (lex-space run t b bs f space room) ∙ e)
    by on inside (inl space) (inr full) _ = let n = lex-stuck run t b bs f space full in cc
    by on inside (inr word) _ (inr long) = let n = lex-long run t b bs f word long in cc
    by on inside (inr word) _ (inl room) =
        let g = inside (free_more is_space t b free word) (omega (arith, length-append t (b ∷ []))) (omega arith) ls (sym (lex-word run t b bs f word room) ∙ e) in
        record {
          ends = g.ends;
          words = subst AreShort (one_more t b bs) g.words;
          gaps = gaps_word run b bs word low g.gaps;
          lines = g.lines ∙ ap words_of_each_line (one_more t b bs);
        }

lexes : (bs : List ℕ) (run : ℕ) (t : List ℕ) → IsFree is_space t → AreShort (t ++ bs) → AreGaps run bs → lex run t bs false ≡ Some (words_of_each_line (t ++ bs))
lexes [] run t free short are = ap Some (sym (lines_alone t free))
lexes (b ∷ bs) run t free short are = by (lexes bs (run + 1) []) (lexes bs 0 (t ++ b ∷ [])) (cases_Bool (is_space b))
  where
    by : (IsFree is_space [] → AreShort bs → AreGaps (run + 1) bs
        → lex (run + 1) [] bs false ≡ Some (words_of_each_line bs))
        → (IsFree is_space (t ++ b ∷ []) → AreShort ((t ++ b ∷ []) ++ bs) → AreGaps 0 bs → lex 0 (t ++ b ∷ []) bs false ≡ Some (words_of_each_line ((t ++ b ∷ []) ++ bs)))
        → (is_space b ≡ true) ⊎ (is_space b ≡ false) → lex run t (b ∷ bs) false
        ≡ Some (words_of_each_line (t ++ b ∷ bs))
    by on inside (inl space) =
        let g = space_gaps run b bs are space in
        let s = rest_short t (words_of_grid_text bs) (words_short (t ++ b ∷ bs) (as_word t ++ words_of_grid_text bs) (words_space t b bs free space) short) in
        lex-space run t b bs false space g.0 ∙ ap (option_map (λ ls. put_token t (opening (b == 10) ls))) (on tt s g.1) ∙ ap Some (sym (lines_space t b bs free space))
    by on inside (inr word) =
        let s : AreShort ((t ++ b ∷ []) ++ bs) = subst AreShort (sym (one_more t b bs)) short in
        let free' = free_more is_space t b free word in
        let h = token_short bs (t ++ b ∷ []) free' s in
        lex-word run t b bs false word (omega (arith, length-append t (b ∷ []))) ∙ inside free' s (word_gaps run b bs are) ∙ ap (λ (l : List ℕ). Some (words_of_each_line l)) (one_more t b bs)

-- if the words of a text are read line by line, no read fails, and the text is within the limits
pub limits_are : (bs : List ℕ) (f : Bool) (ls : Lines) → lex 0 [] bs f ≡ Some ls → (f ≡ false) × AreWordsAndBlanksWithinLimits bs × (ls ≡ words_of_each_line bs)
limits_are bs f ls e = let g = lexed bs f 0 [] tt (omega arith) (omega arith) ls e in (g.ends, record { words = g.words; gaps = λ front gap back e s. g.gaps.later front gap back e s }, g.lines)

pub within_limits : (bs : List ℕ) → AreWordsAndBlanksWithinLimits bs → lex 0 [] bs false ≡ Some (words_of_each_line bs)
within_limits bs is = lexes bs 0 [] tt is.words (record { here = λ gap back e s. let h = is.gaps [] gap back e s in omega arith; later = λ front gap back e s. is.gaps front gap back e s })
