-- The lines of a text that is written token by token.
use Rattle.std.proofs.Common.{◌≡◌, ℕ, ◌+◌, ◌<◌, ◌≤◌, List, [], ◌∷◌, ◌++◌, length, map, Some, Bool, true, false, not, refl, ap, sym, ◌∙◌, arith, append-nil, append_assoc, length-append, subst}
use Rattle.std.specs.Option.{option_map}
use Rattle.std.specs.List.{list_all, join_with_byte, flat_map, All}
use Rattle.std.proofs.lemmas.Bool.{and_parts}
use Rattle.std.proofs.lemmas.List.Elements.{All-head, All-tail}
use Rattle.cell_ascii_meaning.specs.GridTokens.{is_space, is_word_byte}
use Rattle.cell_ascii_law.proofs.LexemeLemmas.{Lines, put, put_token, opening, lex, lex-space, lex-word}

-- a word of 1 to 64 bytes without blanks
pub record IsToken (w : List ℕ) : Type 0 where
  pub some : 0 < length w
  pub most : length w ≤ 64
  pub word : list_all is_word_byte w ≡ true

not_space : (b : ℕ) → is_word_byte b ≡ true → is_space b ≡ false
not_space b e = by (is_space b) e
  where
    by : (t : Bool) → not t ≡ true → t ≡ false
    by true e = cc
    by false e = refl

-- the coming bytes have these lines, after at most one blank or line feed
abbrev pub Lexes : List ℕ → Lines → Type 0
Lexes bs ls = (run : ℕ) → run ≤ 1 → lex run [] bs false ≡ Some ls

pub lexes_end : Lexes [] ([] ∷ [])
lexes_end run low = refl

module _ (rest : List ℕ) where
  token_more : (front w : List ℕ) → list_all is_word_byte w ≡ true → length front + length w ≤ 64 → lex 0 front (w ++ rest) false ≡ lex 0 (front ++ w) rest false
  token_more front [] word short = ap (λ l. lex 0 l rest false) (sym (append-nil front))
  token_more front (b ∷ w) word short =
      let parts = and_parts (is_word_byte b) (list_all is_word_byte w) word in
      lex-word 0 front b (w ++ rest) false (not_space b parts.0) (omega arith)
      ∙ token_more (front ++ b ∷ []) w parts.1 (omega (arith, length-append front (b ∷ [])))
      ∙ ap (λ l. lex 0 l rest false) (append_assoc front (b ∷ []) w)

  token_first : (run : ℕ) (w : List ℕ) → IsToken w → lex run [] (w ++ rest) false ≡ lex 0 w rest false
  token_first run [] is = absurd (let h = is.some in omega arith)
  token_first run (b ∷ w) is =
      let parts = and_parts (is_word_byte b) (list_all is_word_byte w) is.word in
      let most = is.most in
      lex-word run [] b (w ++ rest) false (not_space b parts.0) (omega arith) ∙ token_more (b ∷ []) w parts.1 (omega arith)

put_is : (w : List ℕ) (ls : Lines) → 0 < length w → put_token w ls ≡ put w ls
put_is [] ls some = absurd (omega arith)
put_is (x ∷ xs) ls some = refl

module _ (w : List ℕ) (is : IsToken w) (bs : List ℕ) (ls : Lines) (on : Lexes bs ls) where
  -- a token and a space add a word to the first line
  pub spaced : Lexes (w ++ 32 ∷ bs) (put w ls)
  spaced run low = token_first (32 ∷ bs) run w is ∙ lex-space 0 w 32 bs false refl (omega arith) ∙ ap (option_map (λ l. put_token w (opening false l))) (on 1 (omega arith)) ∙ ap Some (put_is w ls is.some)

  -- a token and a line feed add a line of that word
  pub fed : Lexes (w ++ 10 ∷ bs) ((w ∷ []) ∷ ls)
  fed run low = token_first (10 ∷ bs) run w is ∙ lex-space 0 w 10 bs false refl (omega arith) ∙ ap (option_map (λ l. put_token w (opening true l))) (on 1 (omega arith)) ∙ ap Some (put_is w ([] ∷ ls) is.some)

-- a text adds the lines `new` before the lines of any text that follows it
pub record Adds (text : List ℕ) (new : Lines) : Type 0 where
  pub to : (bs : List ℕ) (ls : Lines) → Lexes bs ls → Lexes (text ++ bs) (new ++ ls)

pub adds_none : Adds [] []
adds_none = record { to = λ bs ls on. on }

pub adds_both : {text text' : List ℕ} {new new' : Lines} → Adds text new → Adds text' new' → Adds (text ++ text') (new ++ new')
adds_both {text} {text'} {new} {new'} first second = record { to = λ bs ls on. rw (append_assoc text text' bs, append_assoc new new' ls) (first.to (text' ++ bs) (new' ++ ls) (second.to bs ls on)) }

-- a key, a space, its value and a line feed add one line
pub adds_key : (key value : List ℕ) → IsToken key → IsToken value → Adds (key ++ 32 ∷ (value ++ 10 ∷ [])) ((key ∷ value ∷ []) ∷ [])
adds_key key value is_key is_value = record { to = to }
  where
    to : (bs : List ℕ) (ls : Lines) → Lexes bs ls → Lexes ((key ++ 32 ∷ (value ++ 10 ∷ [])) ++ bs) ((key ∷ value ∷ []) ∷ ls)
    to bs ls on =
        let text : (key ++ 32 ∷ (value ++ 10 ∷ [])) ++ bs ≡ key ++ 32 ∷ (value ++ 10 ∷ bs) = append_assoc key (32 ∷ (value ++ 10 ∷ [])) bs ∙ ap (λ l. key ++ 32 ∷ l) (append_assoc value (10 ∷ []) bs) in
        subst (λ t. Lexes t ((key ∷ value ∷ []) ∷ ls)) (sym text) (spaced key is_key (value ++ 10 ∷ bs) ((value ∷ []) ∷ ls) (fed value is_value bs ls on))

-- tokens joined by spaces and ended by a line feed add one line
pub adds_tokens : (w : List ℕ) (ws : List (List ℕ)) → All IsToken (w ∷ ws) → Adds (join_with_byte 32 (w ∷ ws) ++ 10 ∷ []) ((w ∷ ws) ∷ [])
adds_tokens w ws are = record { to = to w ws are }
  where
    to : (w : List ℕ) (ws : List (List ℕ)) → All IsToken (w ∷ ws) → (bs : List ℕ) (ls : Lines) → Lexes bs ls → Lexes ((join_with_byte 32 (w ∷ ws) ++ 10 ∷ []) ++ bs) ((w ∷ ws) ∷ ls)
    to w [] are bs ls on = subst (λ t. Lexes t ((w ∷ []) ∷ ls)) (sym (append_assoc w (10 ∷ []) bs)) (fed w (All-head IsToken w [] are) bs ls on)
    to w (x ∷ xs) are bs ls on =
        let rest = join_with_byte 32 (x ∷ xs) in
        let text : ((w ++ 32 ∷ rest) ++ 10 ∷ []) ++ bs ≡ w ++ 32 ∷ ((rest ++ 10 ∷ []) ++ bs) =
        append_assoc (w ++ 32 ∷ rest) (10 ∷ []) bs ∙ append_assoc w (32 ∷ rest) (10 ∷ bs) ∙ ap (λ l. w ++ 32 ∷ l) (sym (append_assoc rest (10 ∷ []) bs)) in
        subst (λ t. Lexes t ((w ∷ x ∷ xs) ∷ ls)) (sym text) (spaced w (All-head IsToken w (x ∷ xs) are) ((rest ++ 10 ∷ []) ++ bs) ((x ∷ xs) ∷ ls) (to x xs (All-tail IsToken w (x ∷ xs) are) bs ls on))

-- lines one after another add each of their lines
pub adds_each : {X : Type 0} (text : X → List ℕ) (line : X → List (List ℕ)) → (xs : List X) → All (λ x. Adds (text x) (line x ∷ [])) xs → Adds (flat_map text xs) (map line xs)
adds_each text line [] are = adds_none
adds_each text line (x ∷ xs) are = adds_both (All-head (λ y. Adds (text y) (line y ∷ [])) x xs are) (adds_each text line xs (All-tail (λ y. Adds (text y) (line y ∷ [])) x xs are))
