-- The words of a line, piece by piece.
use Rattle.std.proofs.Common.{◌≡◌, ℕ, ◌+◌, ◌<◌, true, false, not, List, [], ◌∷◌, ◌++◌, length, map, take, get_or, refl, ap, sym, ◌∙◌, arith, Bor, append-nil}
use Rattle.std.specs.Prelude.{◌==◌}
use Rattle.std.specs.List.{filter}
use Rattle.std.proofs.lemmas.List.{take_more, map-append}
use Rattle.std.proofs.lemmas.List.Elements.{filter-append}
use Rattle.std.proofs.lemmas.Bool.Decides.{nat_tests}
use Rattle.cell_core_values.specs.Words.{is_nonempty_word}

not_zero : (n : ℕ) → ((n + 1) == 0) ≡ false
not_zero n = grind (arith, nat_tests)

-- a word is a piece that is not empty
pub is_word-length : (bs : List ℕ) → is_nonempty_word bs ≡ not (length bs == 0)
is_word-length [] = refl
is_word-length (b ∷ bs) = let e : length (b ∷ bs) ≡ length bs + 1 = omega arith in sym (ap (λ n. not (n == 0)) e ∙ ap not (not_zero (length bs)))

abbrev pub texts : List (Bor (List ℕ)) → List (List ℕ)
texts xs = map (λ w. w.now) xs

words_more : (xs : List (Bor (List ℕ))) (i : ℕ) (d : Bor (List ℕ)) → i < length xs
    → filter is_nonempty_word (texts (take (i + 1) xs)) ≡ filter is_nonempty_word (texts (take i xs))
    ++ filter is_nonempty_word ((get_or xs i d).now ∷ [])
words_more xs i d h =
    ap (λ l. filter is_nonempty_word (texts l)) (take_more xs i d h)
    ∙ ap (filter is_nonempty_word) (map-append (λ w. w.now) (take i xs) (get_or xs i d ∷ []))
    ∙ filter-append is_nonempty_word (texts (take i xs)) ((get_or xs i d).now ∷ [])

-- a piece that is a word is appended to the words
pub kept : (words xs : List (Bor (List ℕ))) (i : ℕ) (d : Bor (List ℕ)) → i < length xs
    → texts words ≡ filter is_nonempty_word (texts (take i xs))
    → false ≡ (length (get_or xs i d).now == 0) → texts (words ++ get_or xs i d ∷ [])
    ≡ filter is_nonempty_word (texts (take (i + 1) xs))
kept words xs i d h so_far test =
    let word : is_nonempty_word (get_or xs i d).now ≡ true = is_word-length (get_or xs i d).now ∙ sym (ap not test) in
    map-append (λ w. w.now) words (get_or xs i d ∷ []) ∙ ap (λ l. l ++ (get_or xs i d).now ∷ []) so_far
    ∙ sym (words_more xs i d h ∙ rw word refl)

-- an empty piece is not a word and is left out
pub left_out : (words xs : List (Bor (List ℕ))) (i : ℕ) (d : Bor (List ℕ)) → i < length xs
    → texts words ≡ filter is_nonempty_word (texts (take i xs))
    → true ≡ (length (get_or xs i d).now == 0) → texts words ≡ filter is_nonempty_word (texts (take (i + 1) xs))
left_out words xs i d h so_far test =
    let empty : is_nonempty_word (get_or xs i d).now ≡ false = is_word-length (get_or xs i d).now ∙ sym (ap not test) in
    so_far ∙ sym (words_more xs i d h ∙ rw empty (append-nil _))
