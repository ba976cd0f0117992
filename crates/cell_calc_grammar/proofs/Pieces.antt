-- The pieces of a text in terms of its start, and its tokens in terms of the tokens before.
use Rattle.std.proofs.Common.{◌≡◌, ℕ, zero, suc, ◌+◌, ◌-◌, true, false, List, [], ◌∷◌, ◌++◌, length, take, drop, refl, ap, sym, ◌∙◌, arith, append_assoc, append-nil, Result, Ok, Err, inl, inr, ◌<◌}
use Rattle.cell_core_values.specs.Blanks.{is_blank}
use Rattle.cell_calc_grammar.specs.Tokens.{TextPieceAtColumn, token_bytes_of_text, first_token_length, tokens_of_text_pieces, next_token, token_then_tokens, token_list_of_text, IsExpectedOrMemoryFault}
use Rattle.cell_calc_grammar.specs.declared.calc_fault.CalcFault.{CalcFault}
use Rattle.cell_calc_grammar.specs.declared.token.TokenAtColumn.{TokenAtColumn}

-- tokens added before the tokens that follow
abbrev pub prefixed : List TokenAtColumn → Result (List TokenAtColumn) CalcFault → Result (List TokenAtColumn) CalcFault
prefixed ts (Ok us) = Ok (ts ++ us)
prefixed ts (Err f) = Err f

pub pieces-begun : (k c : ℕ) (bs : List ℕ) → token_bytes_of_text k c bs ≡ token_bytes_of_text zero (c + k) (drop k bs)
unfolding token_bytes_of_text
pieces-begun zero c [] = refl
pieces-begun zero c (b ∷ bs) = ap (λ n. token_bytes_of_text zero n (b ∷ bs)) (omega arith)
pieces-begun (suc k) c [] = refl
pieces-begun (suc k) c (b ∷ bs) =
    let e : c + 1 + k ≡ c + suc k = omega arith in
    pieces-begun k (c + 1) bs ∙ ap (λ n. token_bytes_of_text zero n (drop k bs)) e

pub pieces-blank : (c b : ℕ) (bs : List ℕ) → is_blank b ≡ true
    → token_bytes_of_text zero c (b ∷ bs) ≡ token_bytes_of_text zero (c + 1) bs
unfolding token_bytes_of_text
pieces-blank c b bs h = rw h refl

pub pieces-opened : (c b : ℕ) (bs : List ℕ) (n : ℕ) → is_blank b ≡ false → first_token_length (b ∷ bs) ≡ suc n →
    token_bytes_of_text zero c (b ∷ bs) ≡ record { column = c; bytes = take (suc n) (b ∷ bs) }
    ∷ token_bytes_of_text n (c + 1) bs
unfolding token_bytes_of_text
pieces-opened c b bs n h e =
    let after : token_bytes_of_text (first_token_length (b ∷ bs) - 1) (c + 1) bs ≡ token_bytes_of_text n (c + 1) bs = ap (λ k. token_bytes_of_text k (c + 1) bs) (omega arith) in
    rw (h, after, e) refl

pieces-piece : (c b : ℕ) (bs : List ℕ) (n : ℕ) → is_blank b ≡ false → first_token_length (b ∷ bs) ≡ suc n →
    token_bytes_of_text zero c (b ∷ bs) ≡ record { column = c; bytes = take (suc n) (b ∷ bs) } ∷ token_bytes_of_text zero (c + suc n) (drop (suc n) (b ∷ bs))
pieces-piece c b bs n h e =
    let after : token_bytes_of_text n (c + 1) bs ≡ token_bytes_of_text zero (c + suc n) (drop n bs) =
    pieces-begun n (c + 1) bs ∙ ap (λ m. token_bytes_of_text zero m (drop n bs)) (omega arith) in
    pieces-opened c b bs n h e ∙ ap (λ ps. record { column = c; bytes = take (suc n) (b ∷ bs) } ∷ ps) after

-- skipping a blank does not change the list of tokens
pub after_blank : (found : List TokenAtColumn) (n c b : ℕ) (rest others : List ℕ)
    (w : Result (List TokenAtColumn) CalcFault) →
    rest ≡ b ∷ others → is_blank b ≡ true → prefixed found (tokens_of_text_pieces n (token_bytes_of_text zero c rest))
    ≡ w →
    prefixed found (tokens_of_text_pieces n (token_bytes_of_text zero (c + 1) others)) ≡ w
after_blank found n c b rest others w split blank kept = rw (← pieces-blank c b others blank, ← split) kept

prefixed-none : (r : Result (List TokenAtColumn) CalcFault) → prefixed [] r ≡ r
prefixed-none (Ok ts) = refl
prefixed-none (Err f) = refl

prefixed-before : (found : List TokenAtColumn) (t : TokenAtColumn) (r : Result (List TokenAtColumn) CalcFault) →
    prefixed (found ++ t ∷ []) r ≡ prefixed found (token_then_tokens (Ok t) r)
prefixed-before found t (Ok ts) = ap Ok (append_assoc found (t ∷ []) ts)
prefixed-before found t (Err f) = refl

pub pieces-first : (c b : ℕ) (rest others : List ℕ) (n : ℕ) → rest ≡ b ∷ others → is_blank b ≡ false → first_token_length rest ≡ n → 0 < n →
    token_bytes_of_text zero c rest ≡ record { column = c; bytes = take n rest }
    ∷ token_bytes_of_text zero (c + n) (drop n rest)
pieces-first c b rest others zero split word length some = absurd (omega arith)
pieces-first c b rest others (suc n) split word length some =
    let at : first_token_length (b ∷ others) ≡ suc n = rw (← split) length in
    rw split (pieces-piece c b others n word at)

pub tokens_of_text_pieces-cons : (count : ℕ) (p : TextPieceAtColumn) (ps : List TextPieceAtColumn) → tokens_of_text_pieces count (p ∷ ps) ≡ token_then_tokens (next_token count p) (tokens_of_text_pieces (count + 1) ps)
unfolding tokens_of_text_pieces
tokens_of_text_pieces-cons count p ps = refl

-- the list of tokens begins with the next token and continues with the tokens after it
next_first : (found : List TokenAtColumn) (count c b n : ℕ) (rest others piece after : List ℕ) (w : Result (List TokenAtColumn) CalcFault) →
    rest ≡ b ∷ others → is_blank b ≡ false → first_token_length rest ≡ n → 0 < n → piece ≡ take n rest
    → after ≡ drop n rest →
    prefixed found (tokens_of_text_pieces count (token_bytes_of_text zero c rest)) ≡ w →
    prefixed found (token_then_tokens (next_token count (record { column = c; bytes = piece })) (tokens_of_text_pieces (count + 1) (token_bytes_of_text zero (c + n) after))) ≡ w
next_first found count c b n rest others piece after w split word length some front back kept =
    let first : token_bytes_of_text zero c rest ≡ record { column = c; bytes = piece }
    ∷ token_bytes_of_text zero (c + n) after =
    rw (front, back) (pieces-first c b rest others n split word length some) in
    sym (ap (prefixed found) (ap (tokens_of_text_pieces count) first ∙ tokens_of_text_pieces-cons count (record { column = c; bytes = piece }) (token_bytes_of_text zero (c + n) after))) ∙ kept

-- reading a token does not change the list of tokens
pub after_token : (found : List TokenAtColumn) (t : TokenAtColumn) (count c b n : ℕ) (rest others piece after : List ℕ) (w : Result (List TokenAtColumn) CalcFault) →
    rest ≡ b ∷ others → is_blank b ≡ false → first_token_length rest ≡ n → 0 < n → piece ≡ take n rest
    → after ≡ drop n rest →
    next_token count (record { column = c; bytes = piece }) ≡ Ok t →
    prefixed found (tokens_of_text_pieces count (token_bytes_of_text zero c rest)) ≡ w →
    prefixed (found ++ t ∷ []) (tokens_of_text_pieces (count + 1) (token_bytes_of_text zero (c + n) after)) ≡ w
after_token found t count c b n rest others piece after w split word length some front back is kept =
    let first = next_first found count c b n rest others piece after w split word length some front back kept in
    prefixed-before found t (tokens_of_text_pieces (count + 1) (token_bytes_of_text zero (c + n) after))
    ∙ rw is at first

-- an error of the next token is the error of the text
pub at_fault : (found : List TokenAtColumn) (reported : CalcFault) (count c b n : ℕ) (rest others piece : List ℕ) (w : Result (List TokenAtColumn) CalcFault) →
    rest ≡ b ∷ others → is_blank b ≡ false → first_token_length rest ≡ n → 0 < n → piece ≡ take n rest →
    prefixed found (tokens_of_text_pieces count (token_bytes_of_text zero c rest)) ≡ w →
    IsExpectedOrMemoryFault (next_token count (record { column = c; bytes = piece })) reported
    → IsExpectedOrMemoryFault w reported
at_fault found reported count c b n rest others piece w split word length some front kept (inl none) = inl none
at_fault found reported count c b n rest others piece w split word length some front kept (inr is) =
    let first = next_first found count c b n rest others piece (drop n rest) w split word length some front refl kept in
    inr (sym (rw is at first))

-- at the end of the text, the tokens found so far are its list
pub at_end : (found : List TokenAtColumn) (count c : ℕ) (rest : List ℕ) (w : Result (List TokenAtColumn) CalcFault) →
    length rest ≡ 0 → prefixed found (tokens_of_text_pieces count (token_bytes_of_text zero c rest)) ≡ w → w ≡ Ok found
unfolding tokens_of_text_pieces token_bytes_of_text
at_end found count c [] w ends kept = sym kept ∙ ap Ok (append-nil found)
at_end found count c (b ∷ bs) w ends kept = absurd (omega (arith, ends))

-- before the text is read, no tokens are found
pub at_start : (text : List ℕ) (found : List TokenAtColumn) (count : ℕ) → found ≡ [] → count ≡ 0 →
    prefixed found (tokens_of_text_pieces count (token_bytes_of_text zero 1 text)) ≡ token_list_of_text text
unfolding token_list_of_text
at_start text found count none zero_count = rw (none, zero_count)
    (prefixed-none (tokens_of_text_pieces 0 (token_bytes_of_text zero 1 text)))
