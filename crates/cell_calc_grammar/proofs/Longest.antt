-- The first piece of a text is the longest word or sign at its start.
use Rattle.std.proofs.Common.{◌≡◌, ℕ, ◌+◌, ◌<◌, ◌≤◌, Bool, true, false, ◌&&◌, ◌||◌, nat_le, List, [], ◌∷◌, ◌++◌, length, drop, refl, ap, sym, ◌∙◌, arith, subst, Option, Some, None, cond, length-append, append_assoc}
use Rattle.std.proofs.lemmas.Bool.Decides.{Decides-eqb, nat_tests}
use Rattle.std.proofs.lemmas.List.Sums.{prefix_len-le-length}
use Rattle.std.proofs.lemmas.Slice.Eq.{bytes_eq-Decides, starts_is}
use Rattle.std.specs.List.{list_all, prefix_len, starts_with}
use Rattle.std.specs.Option.{is_some, option_map, option_map_or}
use Rattle.std.specs.Prelude.{find, map, not, nat_eq, bytes_eq}
use Rattle.cell_core_values.specs.Name.{is_name_byte}
use Rattle.cell_calc_grammar.specs.TokenSpelling.{is_word_or_sign, IsLongestToken}
use Rattle.cell_calc_grammar.specs.Tokens.{three_byte_signs, two_byte_signs, one_byte_signs, all_signs_with_spellings, sign_of_bytes, sign_length_at_start, first_token_length}
use Rattle.cell_calc_grammar.specs.declared.token.Sign.{Sign}

pub both_true : (a b : Bool) → (a && b) ≡ true → (a ≡ true) × (b ≡ true)
both_true true b h = (refl, h)
both_true false b h = cc

pub not_true : (a : Bool) → not a ≡ true → a ≡ false
not_true true h = cc
not_true false h = refl

-- P holds of each list
abbrev AllOf : (List ℕ → Type 0) → List (List ℕ) → Type 0
AllOf P [] = Unit {0}
AllOf P (x ∷ xs) = P x × AllOf P xs

AllOf-append : (P : List ℕ → Type 0) (xs ys : List (List ℕ)) → AllOf P xs → AllOf P ys → AllOf P (xs ++ ys)
AllOf-append P [] ys h g = g
AllOf-append P (x ∷ xs) ys h g = (h.0, AllOf-append P xs ys h.1 g)

list_all-AllOf : (q : List ℕ → Bool) (xs : List (List ℕ)) → list_all q xs ≡ true → AllOf (λ x. q x ≡ true) xs
list_all-AllOf q [] h = tt
list_all-AllOf q (x ∷ xs) h = let each = both_true (q x) (list_all q xs) h in (each.0, list_all-AllOf q xs each.1)

-- each list has at most n items
abbrev no_longer : ℕ → List (List ℕ) → Bool
no_longer n xs = list_all (λ y. nat_le (length y) n) xs

-- the lists are in order of descending length
abbrev descend : List (List ℕ) → Bool
descend [] = true
descend (x ∷ xs) = no_longer (length x) xs && descend xs

low : (k m n : ℕ) → m ≤ n → nat_le k m ≡ true → k ≤ n
low k m n h e = grind (arith, nat_tests)

AllOf-no_longer : (q : List ℕ → Bool) (m n : ℕ) (xs : List (List ℕ)) → m ≤ n → no_longer m xs ≡ true → AllOf (λ y. q y ≡ true → length y ≤ n) xs
AllOf-no_longer q m n [] le h = tt
AllOf-no_longer q m n (x ∷ xs) le h =
    let each = both_true (nat_le (length x) m) (no_longer m xs) h in
    ((λ e. low (length x) m n le each.0), AllOf-no_longer q m n xs le each.1)

-- in descending order, the first list that passes a test is a longest one that does
longest-found : (q : List ℕ → Bool) (xs : List (List ℕ)) → descend xs ≡ true → AllOf (λ y. q y ≡ true → length y ≤ option_map_or length (find q xs) 1) xs
longest-found q [] h = tt
longest-found q (x ∷ xs) h =
    let parts = both_true (no_longer (length x) xs) (descend xs) h in
    go (q x) refl parts.0 (longest-found q xs parts.1)
  where
    go : (v : Bool) → q x ≡ v → no_longer (length x) xs ≡ true → AllOf (λ y. q y ≡ true → length y ≤ option_map_or length (find q xs) 1) xs
        → AllOf (λ y. q y ≡ true → length y ≤ option_map_or length (cond v (Some x) (find q xs)) 1) (x ∷ xs)
    go true is all others = ((λ e. omega arith), AllOf-no_longer q (length x) (length x) xs (omega arith) all)
    go false is all others = ((λ e. absurd (let n : ⊥ = cc in n)), others)

-- a property of the spellings of all signs holds of a spelling that was found
found-all : (P : List ℕ → Type 0) (xs : List (List ℕ × Sign)) (bytes : List ℕ) (s : Sign) → AllOf P (map (λ x. x.0) xs)
    → option_map (λ x. x.1) (find (λ x. bytes_eq x.0 bytes) xs) ≡ Some s → P bytes
found-all P [] bytes s all h = absurd (let n : ⊥ = cc in n)
found-all P (x ∷ xs) bytes s all h = go (bytes_eq x.0 bytes) refl h (found-all P xs bytes s all.1)
  where
    go : (v : Bool) → bytes_eq x.0 bytes ≡ v → option_map (λ y. y.1) (cond v (Some x) (find (λ y. bytes_eq y.0 bytes) xs)) ≡ Some s
        → (option_map (λ y. y.1) (find (λ y. bytes_eq y.0 bytes) xs) ≡ Some s → P bytes) → P bytes
    go true is at later = subst P ((bytes_eq-Decides x.0 bytes).0 is) all.0
    go false is at later = later at

-- a test that all spellings of signs pass also passes for a spelling that was found
pub sign-passes : (q : List ℕ → Bool) (bytes : List ℕ) (s : Sign) → list_all q (map (λ x. x.0) all_signs_with_spellings) ≡ true → sign_of_bytes bytes ≡ Some s → q bytes ≡ true
sign-passes q bytes s all is = found-all (λ x. q x ≡ true) all_signs_with_spellings bytes s (list_all-AllOf q (map (λ x. x.0) all_signs_with_spellings) all) is

-- a spelling at the start of a text is no longer than the text
starts_with-length : (text s : List ℕ) → starts_with nat_eq text s ≡ true → length s ≤ length text
starts_with-length text s h =
    let e : text ≡ s ++ drop (length s) text = (starts_is Decides-eqb text s (starts_with nat_eq text s) refl).0 h in
    omega (arith, simp length-append at (ap length e))

found-length : (text s : List ℕ) (r : Option (List ℕ)) (b : Bool) → starts_with nat_eq text s ≡ b → 0 < length s →
    (0 < option_map_or length r 1) × (option_map_or length r 1 ≤ length text) →
    (0 < option_map_or length (cond b (Some s) r) 1) × (option_map_or length (cond b (Some s) r) 1 ≤ length text)
found-length text s r true starts some others = (some, starts_with-length text s starts)
found-length text s r false starts some others = others

-- no list is empty
abbrev AreSome : List (List ℕ) → Type 0
AreSome [] = Unit {0}
AreSome (s ∷ all) = (0 < length s) × AreSome all

find-length : (text : List ℕ) (all : List (List ℕ)) → 0 < length text → AreSome all →
    (0 < option_map_or length (find (starts_with nat_eq text) all) 1) × (option_map_or length (find (starts_with nat_eq text) all) 1 ≤ length text)
find-length text [] some h = (omega arith, some)
find-length text (s ∷ all) some h =
    found-length text s (find (starts_with nat_eq text) all) (starts_with nat_eq text s) refl h.0 (find-length text all some h.1)

sign_length_at_start-within : (text : List ℕ) → 0 < length text → (0 < sign_length_at_start text)
    × (sign_length_at_start text ≤ length text)
unfolding sign_length_at_start
sign_length_at_start-within text some = find-length text (map (λ s. s.0) (three_byte_signs ++ two_byte_signs)) some
    (omega arith, (omega arith, (omega arith, (omega arith, (omega arith, (omega arith, (omega arith, (omega arith, tt))))))))

pub first_token_length-within : (text : List ℕ) → 0 < length text → (0 < first_token_length text) × (first_token_length text ≤ length text)
unfolding first_token_length
first_token_length-within text some =
    let mark = sign_length_at_start-within text some in
    let run = prefix_len-le-length is_name_byte text in
    grind (arith, nat_tests)

first_token_length-run : (text : List ℕ) → 0 < prefix_len is_name_byte text
    → first_token_length text ≡ prefix_len is_name_byte text
unfolding first_token_length
first_token_length-run text h = grind (arith, nat_tests)

first_token_length-mark : (text : List ℕ) → prefix_len is_name_byte text ≡ 0
    → first_token_length text ≡ sign_length_at_start text
unfolding first_token_length
first_token_length-mark text h = grind (arith, nat_tests)

-- a sign at the start of a text is no longer than the text's first mark
sign-sign_length_at_start : (text bytes : List ℕ) (s : Sign) → 0 < length text → sign_of_bytes bytes ≡ Some s → starts_with nat_eq text bytes ≡ true → length bytes ≤ sign_length_at_start text
unfolding sign_length_at_start
sign-sign_length_at_start text bytes s some is starts =
    let within = sign_length_at_start-within text some in
    let P : List ℕ → Type 0 = λ y. starts_with nat_eq text y ≡ true → length y ≤ sign_length_at_start text in
    let long : AllOf P (map (λ x. x.0) (three_byte_signs ++ two_byte_signs)) = longest-found (starts_with nat_eq text) (map (λ x. x.0) (three_byte_signs ++ two_byte_signs)) refl in
    let short : AllOf P (map (λ x. x.0) one_byte_signs) = AllOf-no_longer (starts_with nat_eq text) 1 (sign_length_at_start text) (map (λ x. x.0) one_byte_signs) (omega (arith, within.0)) refl in
    found-all P all_signs_with_spellings bytes s (AllOf-append P (map (λ x. x.0) (three_byte_signs ++ two_byte_signs)) (map (λ x. x.0) one_byte_signs) long short) is starts

run-append : (bytes rest : List ℕ) → list_all is_name_byte bytes ≡ true → prefix_len is_name_byte (bytes ++ rest) ≡ length bytes + prefix_len is_name_byte rest
run-append [] rest h = omega arith
run-append (b ∷ bs) rest h =
    let each = both_true (is_name_byte b) (list_all is_name_byte bs) h in
    let after = run-append bs rest each.1 in
    let first : prefix_len is_name_byte (b ∷ (bs ++ rest)) ≡ 1 + prefix_len is_name_byte (bs ++ rest) = rw each.0 refl in
    first ∙ omega (arith, after)

-- the list begins with a byte that occurs in no word
abbrev pub begins_mark : List ℕ → Bool
begins_mark [] = false
begins_mark (b ∷ bs) = not (is_name_byte b)

pub sign-begins_mark : (bytes : List ℕ) (s : Sign) → sign_of_bytes bytes ≡ Some s → begins_mark bytes ≡ true
sign-begins_mark bytes s is = sign-passes begins_mark bytes s refl is

mark-run : (bytes rest : List ℕ) → begins_mark bytes ≡ true → (prefix_len is_name_byte (bytes ++ rest) ≡ 0) × (0 < length bytes)
mark-run [] rest h = absurd (let n : ⊥ = cc in n)
mark-run (b ∷ bs) rest h =
    let e : is_name_byte b ≡ false = not_true (is_name_byte b) h in
    let none : prefix_len is_name_byte (b ∷ (bs ++ rest)) ≡ 0 = rw e refl in
    (none, omega arith)

begins-with : (bytes rest : List ℕ) → starts_with nat_eq (bytes ++ rest) bytes ≡ true
begins-with bytes rest = (starts_is Decides-eqb (bytes ++ rest) bytes (starts_with nat_eq (bytes ++ rest) bytes) refl).1 rest refl

sign-first_token_length : (bytes rest : List ℕ) (s : Sign) → sign_of_bytes bytes ≡ Some s → length bytes ≤ first_token_length (bytes ++ rest)
sign-first_token_length bytes rest s is =
    let none = mark-run bytes rest (sign-begins_mark bytes s is) in
    let some : 0 < length (bytes ++ rest) = omega (arith, none.1, length-append bytes rest) in
    rw (first_token_length-mark (bytes ++ rest) none.0) (sign-sign_length_at_start (bytes ++ rest) bytes s some is (begins-with bytes rest))

word-first_token_length : (bytes rest : List ℕ) → 0 < length bytes → list_all is_name_byte bytes ≡ true → first_token_length (bytes ++ rest) ≡ length bytes + prefix_len is_name_byte rest
word-first_token_length bytes rest some word =
    let run = run-append bytes rest word in
    first_token_length-run (bytes ++ rest) (omega (arith, run, some)) ∙ run

-- a word or a sign at the start of a text is no longer than the text's first piece
piece-least : (bytes rest : List ℕ) → 0 < length bytes → is_word_or_sign bytes ≡ true → length bytes ≤ first_token_length (bytes ++ rest)
piece-least bytes rest some is = go (list_all is_name_byte bytes) (sign_of_bytes bytes) refl refl is
  where
    go : (v : Bool) (o : Option Sign) → list_all is_name_byte bytes ≡ v → sign_of_bytes bytes ≡ o → (v || is_some o) ≡ true → length bytes ≤ first_token_length (bytes ++ rest)
    go true o word e h = omega (arith, word-first_token_length bytes rest some word)
    go false (Some s) word e h = sign-first_token_length bytes rest s e
    go false None word e h = absurd (let n : ⊥ = cc in n)

false_of : (b : Bool) → (b ≡ true → ⊥) → b ≡ false
false_of true h = absurd (h refl)
false_of false h = refl

-- the first piece of a text is the longest token at its start
pub piece-longest : (bytes text : List ℕ) → first_token_length (bytes ++ text) ≡ length bytes
    → IsLongestToken bytes text
piece-longest bytes text cut = λ more rest e some. false_of (is_word_or_sign (bytes ++ more)) (λ is. too_long more rest e some is)
  where
    too_long : (more rest : List ℕ) → text ≡ more ++ rest → 0 < length more → is_word_or_sign (bytes ++ more) ≡ true → ⊥
    too_long more rest e some is =
        let size : length (bytes ++ more) ≡ length bytes + length more = length-append bytes more in
        let least = piece-least (bytes ++ more) rest (omega (arith, size, some)) is in
        let same : (bytes ++ more) ++ rest ≡ bytes ++ text = append_assoc bytes more rest ∙ ap (λ l. bytes ++ l) (sym e) in
        let at : first_token_length ((bytes ++ more) ++ rest) ≡ length bytes = ap first_token_length same ∙ cut in
        omega (arith, least, at, size, some)

list_all-append : (xs ys : List ℕ) → list_all is_name_byte xs ≡ true → list_all is_name_byte ys ≡ true → list_all is_name_byte (xs ++ ys) ≡ true
list_all-append [] ys h g = g
list_all-append (x ∷ xs) ys h g =
    let each = both_true (is_name_byte x) (list_all is_name_byte xs) h in
    rw (each.0, list_all-append xs ys each.1 g) refl

-- no byte of a word follows the longest word
word-ends : (bytes text : List ℕ) → list_all is_name_byte bytes ≡ true → IsLongestToken bytes text → prefix_len is_name_byte text ≡ 0
word-ends bytes [] word longest = refl
word-ends bytes (b ∷ bs) word longest = go (is_name_byte b) refl
  where
    go : (v : Bool) → is_name_byte b ≡ v → cond v (1 + prefix_len is_name_byte bs) 0 ≡ 0
    go false e = refl
    go true e =
        let one : list_all is_name_byte (b ∷ []) ≡ true = rw e refl in
        let whole : list_all is_name_byte (bytes ++ b ∷ []) ≡ true = list_all-append bytes (b ∷ []) word one in
        let no : is_word_or_sign (bytes ++ b ∷ []) ≡ false = longest (b ∷ []) bs refl (omega arith) in
        let yes : is_word_or_sign (bytes ++ b ∷ []) ≡ true = rw whole refl in
        absurd (let n : ⊥ = cc in n)

-- of two cuts of one list, the longer start continues the shorter one
longer-front : (xs ys zs ws : List ℕ) → xs ++ ys ≡ zs ++ ws → length xs < length zs → (more : List ℕ) × (zs ≡ xs ++ more) × (ys ≡ more ++ ws) × (0 < length more)
longer-front [] ys zs ws e l = (zs, refl, e, l)
longer-front (x ∷ xs) ys [] ws e l = absurd (omega arith)
longer-front (x ∷ xs) ys (z ∷ zs) ws e l =
    let first : x ≡ z = cc in
    let others : xs ++ ys ≡ zs ++ ws = cc in
    let after = longer-front xs ys zs ws others (omega (arith, l)) in
    (after.0, ap (λ n. n ∷ zs) (sym first) ∙ ap (λ l. x ∷ l) after.1, after.2, after.3)

not_under : (m n : ℕ) → (m < n → ⊥) → n ≤ m
not_under m n h = grind arith

no_sign : (a b : Bool) → (a || b) ≡ false → b ≡ true → ⊥
no_sign true b h g = cc
no_sign false b h g = cc

-- a spelling of a sign at the start of the text is no longer than the longest token
found-under : (bytes text : List ℕ) (xs : List (List ℕ)) → 0 < length bytes → IsLongestToken bytes text → list_all (λ x. is_some (sign_of_bytes x)) xs ≡ true
    → option_map_or length (find (starts_with nat_eq (bytes ++ text)) xs) 1 ≤ length bytes
found-under bytes text [] some longest all = some
found-under bytes text (x ∷ xs) some longest all =
    let each = both_true (is_some (sign_of_bytes x)) (list_all (λ y. is_some (sign_of_bytes y)) xs) all in
    go (starts_with nat_eq (bytes ++ text) x) refl each.0 (found-under bytes text xs some longest each.1)
  where
    too_long : bytes ++ text ≡ x ++ drop (length x) (bytes ++ text) → is_some (sign_of_bytes x) ≡ true → length bytes < length x → ⊥
    too_long e is l =
        let cut = longer-front bytes text x (drop (length x) (bytes ++ text)) e l in
        let no : is_word_or_sign (bytes ++ cut.0) ≡ false = longest cut.0 (drop (length x) (bytes
        ++ text)) cut.2 cut.3 in
        let sign : is_some (sign_of_bytes (bytes ++ cut.0)) ≡ true = subst (λ y. is_some (sign_of_bytes y)
        ≡ true) cut.1 is in
        no_sign (list_all is_name_byte (bytes ++ cut.0)) (is_some (sign_of_bytes (bytes ++ cut.0))) no sign

    go : (v : Bool) → starts_with nat_eq (bytes ++ text) x ≡ v → is_some (sign_of_bytes x) ≡ true → option_map_or length (find (starts_with nat_eq (bytes ++ text)) xs) 1 ≤ length bytes
        → option_map_or length (cond v (Some x) (find (starts_with nat_eq (bytes ++ text)) xs)) 1 ≤ length bytes
    go false starts is others = others
    go true starts is others =
        let e = (starts_is Decides-eqb (bytes ++ text) x (starts_with nat_eq (bytes ++ text) x) refl).0 starts in
        not_under (length bytes) (length x) (too_long e is)

mark-under : (bytes text : List ℕ) → 0 < length bytes → IsLongestToken bytes text → sign_length_at_start (bytes ++ text) ≤ length bytes
unfolding sign_length_at_start
mark-under bytes text some longest = found-under bytes text (map (λ s. s.0) (three_byte_signs ++ two_byte_signs)) some longest refl

pub word-longest : (bytes text : List ℕ) → 0 < length bytes → list_all is_name_byte bytes ≡ true → IsLongestToken bytes text → first_token_length (bytes ++ text) ≡ length bytes
word-longest bytes text some word longest = word-first_token_length bytes text some word ∙ omega (arith, word-ends bytes text word longest)

pub sign-longest : (bytes text : List ℕ) (s : Sign) → sign_of_bytes bytes ≡ Some s → IsLongestToken bytes text → first_token_length (bytes ++ text) ≡ length bytes
sign-longest bytes text s is longest =
    let none = mark-run bytes text (sign-begins_mark bytes s is) in
    let least = sign-first_token_length bytes text s is in
    let under = mark-under bytes text none.1 longest in
    omega (arith, least, under, first_token_length-mark (bytes ++ text) none.0)
