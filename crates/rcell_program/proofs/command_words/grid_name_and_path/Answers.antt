use Rattle.std.proofs.Common.{ℕ, List, [], Bool, true, false, Err, nat_lt, ap, ap₂, sym, refl, get_or, arith, length, ◌≡◌, ◌<◌, ◌∙◌, ◌+◌, ◌++◌, ◌∷◌, ◌&&◌, ◌==◌}
use Rattle.std.proofs.Math.Bool.{and-false}
use Rattle.std.specs.List.{after_first, before_first, position_or_len}
use Rattle.std.proofs.lemmas.List.{drop_all}
use Rattle.std.proofs.lemmas.List.Sums.{passes_at_first, split_at_first}
use Rattle.std.proofs.lemmas.Bool.{eqb-false, eqb-true, le-ltb, lt-ltb}
use Rattle.cell_core_values.specs.Name.{is_name}
use Rattle.rcell_program.specs.CommandLine.{is_grid_argument}
use Rattle.rcell_program.proofs.command_words.grid_name_and_path.Goals as goal

none_in : (n : ℕ) → (n == 0) ≡ true → nat_lt 0 n ≡ false
none_in n is = le-ltb 0 n (omega (arith, eqb-true n 0 is))

some_in : (n : ℕ) → (n == 0) ≡ false → nat_lt 0 n ≡ true
some_in n is = lt-ltb 0 n (omega (arith, eqb-false n 0 is))

-- a word without an equals sign is not a grid
no_equals : (word : List ℕ) → position_or_len (λ byte. byte == 61) word ≡ length word → is_grid_argument word ≡ false
no_equals word none =
    let empty : after_first (λ byte. byte == 61) word ≡ [] = drop_all (position_or_len (λ byte. byte == 61) word + 1) word (omega arith) in
    ap (λ after. is_name (before_first (λ byte. byte == 61) word) && nat_lt 0 (length after)) empty ∙ and-false (is_name (before_first (λ byte. byte == 61) word))

-- a word with nothing after the equals sign is not a grid
no_path : (word path : List ℕ) → path ≡ after_first (λ byte. byte == 61) word → (length path == 0) ≡ true → is_grid_argument word ≡ false
no_path word path after empty =
    ap (λ some. is_name (before_first (λ byte. byte == 61) word) && some) (ap (λ p. nat_lt 0 (length p)) (sym after) ∙ none_in (length path) empty)
    ∙ and-false (is_name (before_first (λ byte. byte == 61) word))

-- a word without a name before the equals sign is not a grid
no_name : (word name : List ℕ) → name ≡ before_first (λ byte. byte == 61) word → is_name name ≡ false → is_grid_argument word ≡ false
no_name word name before bad = ap (λ is. is && nat_lt 0 (length (after_first (λ byte. byte == 61) word))) (ap is_name (sym before) ∙ bad)

good_word : (word name path : List ℕ) → name ≡ before_first (λ byte. byte == 61) word → path ≡ after_first (λ byte. byte == 61) word
    → is_name name ≡ true → (length path == 0) ≡ false → is_grid_argument word ≡ true
good_word word name path before after named some =
    ap₂ (λ (a b : Bool). a && b) (ap is_name (sym before) ∙ named) (ap (λ p. nat_lt 0 (length p)) (sym after) ∙ some_in (length path) some)

cut_word : (word name path : List ℕ) → name ≡ before_first (λ byte. byte == 61) word → path ≡ after_first (λ byte. byte == 61) word
    → position_or_len (λ byte. byte == 61) word < length word → word ≡ name ++ 61 ∷ path
cut_word word name path before after within =
    let equals = eqb-true _ 61 (passes_at_first (λ byte. byte == 61) word 0 within) in
    split_at_first (λ byte. byte == 61) word 0 within
    ∙ ap₂ (λ (n p : List ℕ). n ++ get_or word (position_or_len (λ byte. byte == 61) word) 0 ∷ p) (sym before) (sym after)
    ∙ ap (λ byte. name ++ byte ∷ path) equals

pub returns-in_default-clause-bad : goal.returns-in_default-clause-bad
returns-in_default-clause-bad c = λ other. (no_equals c.args.word.now (c.in_default.ensures.byte (omega arith) (λ w o found. found)), refl)

pub returns-then-is_empty-clause-bad : goal.returns-then-is_empty-clause-bad
returns-then-is_empty-clause-bad c = λ other.
    let parts = c.in-Some.ensures.byte (omega arith) (λ w o found. found) in
    (no_path c.args.word.now c.in-Some.path.now parts.1 (sym c.is_empty.ensures ∙ c.if-is_empty.true), refl)

pub returns-in-Ok-clause-cut : goal.returns-in-Ok-clause-cut
returns-in-Ok-clause-cut c =
    let parts = c.in-Some.ensures.byte (omega arith) (λ w o found. found) in
    let name = c.in-Ok.ensures.text ∙ c.as_bytes.ensures.value in
    cut_word c.args.word.now c.in-Ok.name c.in-Some.path.now (name ∙ parts.0) parts.1 parts.2

pub returns-in-Ok-clause-name : goal.returns-in-Ok-clause-name
returns-in-Ok-clause-name c = ap is_name c.in-Ok.ensures.text ∙ c.in-Ok.ensures.good

pub returns-in-Ok-clause-good : goal.returns-in-Ok-clause-good
returns-in-Ok-clause-good c =
    let parts = c.in-Some.ensures.byte (omega arith) (λ w o found. found) in
    good_word c.args.word.now c.as_bytes.result.now c.in-Some.path.now (c.as_bytes.ensures.value ∙ parts.0) parts.1 c.in-Ok.ensures.good
    (sym c.is_empty.ensures ∙ c.if-is_empty.false)

pub returns-in-Err-BadName-clause-bad : goal.returns-in-Err-BadName-clause-bad
returns-in-Err-BadName-clause-bad c = λ other.
    let parts = c.in-Some.ensures.byte (omega arith) (λ w o found. found) in
    (no_name c.args.word.now c.as_bytes.result.now (c.as_bytes.ensures.value ∙ parts.0) (c.in-Err-BadName.ensures.bad.0 (ap Err c.in-Err-BadName.field-0-is)), refl)
