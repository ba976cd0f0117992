-- The lines of two texts, one after the other, if the first text ends with a line feed.
use Rattle.std.proofs.Common.{◌≡◌, ℕ, zero, suc, ◌+◌, ◌≤◌, ◌==◌, Bool, true, false, cond, List, [], ◌∷◌, ◌++◌}
use Rattle.std.proofs.Common.{length, map, take, drop, refl, ap, sym, ◌∙◌, arith, length-append, append_assoc, ⊎_elim}
use Rattle.std.proofs.lemmas.Bool.{cases_lt}
use Rattle.std.proofs.lemmas.List.{take-append-le, drop-append-le, drop_all, length-drop, map-append}
use Rattle.bstr.specs.Text.{line_len, lines_from, lines_of, without_terminator}
use Rattle.rcell_script.specs.Lines.{script_lines, ScriptLine, numbered_lines}

-- ---- the first line of a text that ends with a line feed

same_len : (front back : List ℕ) → line_len (front ++ 10 ∷ back) ≡ line_len (front ++ 10 ∷ [])
unfolding line_len
same_len [] back = refl
same_len (c ∷ front) back = ap (λ (n : ℕ). cond (c == 10) 1 (suc n)) (same_len front back)

some_len : (front : List ℕ) → 1 ≤ line_len (front ++ 10 ∷ [])
unfolding line_len
some_len [] = omega arith
some_len (c ∷ front) = by (c == 10)
  where
    by : (t : Bool) → 1 ≤ cond t 1 (suc (line_len (front ++ 10 ∷ [])))
    by true = omega arith
    by false = omega arith

most_len : (front : List ℕ) → line_len (front ++ 10 ∷ []) ≤ length front + 1
unfolding line_len
most_len [] = omega arith
most_len (c ∷ front) = by (c == 10) (most_len front)
  where
    by : (t : Bool) → line_len (front ++ 10 ∷ []) ≤ length front + 1 → cond t 1
        (suc (line_len (front ++ 10 ∷ []))) ≤ length (c ∷ front) + 1
    by true h = omega arith
    by false h = omega (arith, h)

-- ---- the lines, if there is enough fuel

-- the first line and the lines after it
lines_first : (n : ℕ) (bs : List ℕ) → 1 ≤ length bs → lines_from (suc n) bs ≡ take (line_len bs) bs ∷ lines_from n
    (drop (line_len bs) bs)
unfolding lines_from
lines_first n [] some = absurd (omega (arith, some))
lines_first n (b ∷ bs) some = refl

lines_none : (n : ℕ) → lines_from n [] ≡ []
unfolding lines_from
lines_none zero = refl
lines_none (suc n) = refl

len_least : (bs : List ℕ) → 1 ≤ length bs → 1 ≤ line_len bs
unfolding line_len
len_least [] some = absurd (omega (arith, some))
len_least (b ∷ bs) some = by (b == 10)
  where
    by : (t : Bool) → 1 ≤ cond t 1 (suc (line_len bs))
    by true = omega arith
    by false = omega arith

lines_enough : (n k : ℕ) (bs : List ℕ) → length bs ≤ n → length bs ≤ k → lines_from n bs ≡ lines_from k bs
lines_enough n k [] long more = lines_none n ∙ sym (lines_none k)
lines_enough zero k (b ∷ bs) long more = absurd (omega (arith, long))
lines_enough (suc n) zero (b ∷ bs) long more = absurd (omega (arith, more))
lines_enough (suc n) (suc k) (b ∷ bs) long more =
    let rest : List ℕ = drop (line_len (b ∷ bs)) (b ∷ bs) in
    let least = len_least (b ∷ bs) (omega arith) in
    let left = length-drop (line_len (b ∷ bs)) (b ∷ bs) in
    lines_first n (b ∷ bs) (omega arith)
    ∙ ap (λ (ls : List (List ℕ)). take (line_len (b ∷ bs)) (b ∷ bs) ∷ ls)
    (lines_enough n k rest (omega (arith, least, left, long)) (omega (arith, least, left, more)))
    ∙ sym (lines_first k (b ∷ bs) (omega arith))

-- the lines of a text that ends with a line feed and of the text after it are the lines of both
lines_both : (n : ℕ) (front back : List ℕ) → length (front ++ 10 ∷ back) ≤ n → lines_from n
    (front ++ 10 ∷ back) ≡ lines_from n (front ++ 10 ∷ []) ++ lines_from (length back) back
lines_both zero front back long = absurd (let l = length-append front (10 ∷ back) in omega (arith, l, long))
lines_both (suc n) front back long =
    let text : List ℕ = front ++ 10 ∷ [] in
    let len : ℕ = line_len text in
    let whole : text ++ back ≡ front ++ 10 ∷ back = append_assoc front (10 ∷ []) back in
    let long_whole = length-append front (10 ∷ back) in
    let long_text = length-append front (10 ∷ []) in
    let some = some_len front in
    let most = most_len front in
    let within : len ≤ length text = omega (arith, most, long_text) in
    let taken : take len (front ++ 10 ∷ back) ≡ take len text = ap (take len) (sym whole)
    ∙ take-append-le len text back within in
    let dropped : drop len (front ++ 10 ∷ back) ≡ drop len text ++ back = ap (drop len) (sym whole)
    ∙ drop-append-le len text back within in
    lines_first n (front ++ 10 ∷ back) (omega (arith, long_whole))
    ∙ (λ i. take (same_len front back i) (front ++ 10 ∷ back) ∷ lines_from n
    (drop (same_len front back i) (front ++ 10 ∷ back)))
    ∙ (λ i. taken i ∷ lines_from n (dropped i))
    ∙ ap (λ (ls : List (List ℕ)). take len text ∷ ls)
    (rest (λ other. lines_both n other back) len some (omega (arith, most)) long_whole)
    ∙ ap (λ (ls : List (List ℕ)). ls ++ lines_from (length back) back)
    (sym (lines_first n text (omega (arith, long_text))))
  where
    -- the lines after the first line are split in the same way
    rest : ((other : List ℕ) → length (other ++ 10 ∷ back) ≤ n → lines_from n (other ++ 10 ∷ back) ≡ lines_from n
        (other ++ 10 ∷ []) ++ lines_from (length back) back)
        → (len : ℕ) → 1 ≤ len → len ≤ length front + 1 → length (front ++ 10 ∷ back) ≡ length front + length (10 ∷ back)
        → lines_from n (drop len (front ++ 10 ∷ []) ++ back) ≡ lines_from n (drop len (front ++ 10 ∷ [])) ++ lines_from
        (length back) back
    rest shorter len some most whole =
        ⊎_elim
        (λ lt.
        let cut : drop len (front ++ 10 ∷ []) ≡ drop len front ++ 10 ∷ [] = drop-append-le len front (10 ∷ [])
        (omega (arith, lt)) in
        let left = length-drop len front in
        let more = length-append (drop len front) (10 ∷ back) in
        ap (lines_from n) (ap (λ (t : List ℕ). t ++ back) cut ∙ append_assoc (drop len front) (10 ∷ []) back)
        ∙ shorter (drop len front) (omega (arith, left, more, some, lt, long, whole))
        ∙ ap (λ (t : List ℕ). lines_from n t ++ lines_from (length back) back) (sym cut))
        (λ le.
        let l = length-append front (10 ∷ []) in
        let cut : drop len (front ++ 10 ∷ []) ≡ [] = drop_all len (front ++ 10 ∷ []) (omega (arith, le, l)) in
        ap (λ (t : List ℕ). lines_from n (t ++ back)) cut
        ∙ lines_enough n (length back) back (omega (arith, long, whole)) (omega arith)
        ∙ sym (ap (λ (ls : List (List ℕ)). ls ++ lines_from (length back) back) (ap (lines_from n) cut ∙ lines_none n)))
        (cases_lt len (length front + 1))

lines_joined : (front back : List ℕ) → lines_of ((front ++ 10 ∷ []) ++ back) ≡ lines_of
    (front ++ 10 ∷ []) ++ lines_of back
lines_joined front back =
    let text : List ℕ = front ++ 10 ∷ [] in
    let whole : text ++ back ≡ front ++ 10 ∷ back = append_assoc front (10 ∷ []) back in
    let long = length-append text back in
    let same = ap length whole in
    ap (lines_from (length (text ++ back))) whole
    ∙ lines_both (length (text ++ back)) front back (omega (arith, same))
    ∙ ap (λ (ls : List (List ℕ)). ls ++ lines_from (length back) back)
    (lines_enough (length (text ++ back)) (length text) text (omega (arith, long)) (omega arith))

pub script_lines_joined : (text front back : List ℕ) → text ≡ front ++ 10 ∷ [] → script_lines
    (text ++ back) ≡ script_lines text ++ script_lines back
script_lines_joined text front back ends =
    ap (λ (t : List ℕ). script_lines (t ++ back)) ends
    ∙ ap (map without_terminator) (lines_joined front back)
    ∙ map-append without_terminator (lines_of (front ++ 10 ∷ [])) (lines_of back)
    ∙ ap (λ (t : List ℕ). script_lines t ++ script_lines back) (sym ends)

-- ---- numbers of lines

pub numbered_both : (first : ℕ) (xs ys : List (List ℕ))
    → numbered_lines first (xs ++ ys) ≡ numbered_lines first xs ++ numbered_lines
    (length xs + first) ys
numbered_both first [] ys = let e : first ≡ 0 + first = omega arith in ap (λ (n : ℕ). numbered_lines n ys) e
numbered_both first (x ∷ xs) ys =
    let e : length xs + (first + 1) ≡ suc (length xs) + first = omega arith in
    ap (λ (ls : List ScriptLine). record { number = first; bytes = x } ∷ ls)
    (numbered_both (first + 1) xs ys ∙ ap (λ (n : ℕ). numbered_lines (first + 1) xs ++ numbered_lines n ys) e)

-- a line moved n lines down
abbrev pub line_later : ℕ → ScriptLine → ScriptLine
line_later n line = record { number = n + line.number; bytes = line.bytes }

pub numbered_later : (n first : ℕ) (xs : List (List ℕ)) → numbered_lines (n + first) xs ≡ map (line_later n)
    (numbered_lines first xs)
numbered_later n first [] = refl
numbered_later n first (x ∷ xs) =
    let e : n + first + 1 ≡ n + (first + 1) = omega arith in
    ap (λ (ls : List ScriptLine). record { number = n + first; bytes = x } ∷ ls)
    (ap (λ (k : ℕ). numbered_lines k xs) e ∙ numbered_later n (first + 1) xs)
