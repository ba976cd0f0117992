use Rattle.std.proofs.Common.{◌≡◌, ℕ, ◌<◌, ◌≤◌, Bool, true, false, ◌||◌, if◌then◌else◌, List, [], ◌∷◌, length, Some, get_or, arith, refl, ap, ◌∙◌}
use Rattle.std.proofs.Math.Bool.{and-false}
use Rattle.std.specs.List.{find, list_any, starts_with}
use Rattle.std.specs.Option.{is_some, option_map}
use Rattle.std.specs.Prelude.{nat_eq, bytes_eq}
use Rattle.cell_calc_grammar.specs.Tokens.{two_byte_signs, sign_of_bytes, all_signs_with_spellings}
use Rattle.cell_calc_grammar.specs.declared.token.Sign.{Sign}
use Rattle.cell_calc_grammar.proofs.tokens.starts_with_two_byte_sign.Goals as goal

-- a text of fewer than two bytes begins with no sign of two bytes
few_bytes : (text : List ℕ) → length text < 2 → false ≡ list_any (λ s. starts_with nat_eq text s.0) two_byte_signs
few_bytes [] short = refl
few_bytes (a ∷ []) short = simp and-false
few_bytes (a ∷ b ∷ rest) short = absurd (omega arith)

find_some : (q : List ℕ × Sign → Bool) (xs : List (List ℕ × Sign))
    → is_some (option_map (λ s. s.1) (find q xs)) ≡ list_any q xs
find_some q [] = refl
find_some q (x ∷ xs) = by (q x) (find_some q xs)
  where
    by : (v : Bool) → is_some (option_map (λ s. s.1) (find q xs)) ≡ list_any q xs
        → is_some (option_map (λ s. s.1) (if v then Some x else find q xs)) ≡ (v || list_any q xs)
    by true others = refl
    by false others = others

two_bytes : (text : List ℕ) → 2 ≤ length text
    → is_some (sign_of_bytes (get_or text 0 0 ∷ get_or text 1 0 ∷ []))
    ≡ list_any (λ s. starts_with nat_eq text s.0) two_byte_signs
two_bytes [] long = absurd (omega arith)
two_bytes (a ∷ []) long = absurd (omega arith)
two_bytes (a ∷ b ∷ rest) long = find_some (λ s. bytes_eq s.0 (a ∷ b ∷ [])) all_signs_with_spellings ∙ simp and-false

pub returns-in_default-clause-value : goal.returns-in_default-clause-value
returns-in_default-clause-value c = few_bytes c.args.text.now c.in_default.len_below

pub returns-in-len2-up-clause-value : goal.returns-in-len2-up-clause-value
returns-in-len2-up-clause-value c =
    c.is_some.ensures ∙ ap (λ s. is_some s) c.two_byte_sign.ensures
    ∙ two_bytes c.args.text.now c.in-len2-up.len_at_least

pub returns-in-len2-up-clause-within : goal.returns-in-len2-up-clause-within
returns-in-len2-up-clause-within c = λ is. c.in-len2-up.len_at_least
