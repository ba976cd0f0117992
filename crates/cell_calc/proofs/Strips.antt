-- Rows that are written strip by strip, and parts of rows.
use Rattle.std.proofs.Common.{◌≡◌, ◌<◌, ◌≤◌, ◌+◌, ◌-◌, ◌+ℤ◌, ◌<ℤ◌, ◌≤ℤ◌, ℕ, ℤ, pos, negsuc, List, ◌++◌, length, take, drop, get_or, refl, sym, ap, ◌∙◌, arith, None, Bool, true, false}
use Rattle.std.specs.Prelude.{nat_lt}
use Rattle.std.proofs.lemmas.List.{get_or-drop, get_or-take, get_or_append_left, get_or-append_right, get_or_past, length-append}
use Rattle.std.proofs.lemmas.Int.{ints}
use Rattle.cell_core.specs.Grid.{CellValue}
use Rattle.cell_calc_grammar.specs.declared.operator.Operator.{Operator}
use Rattle.cell_calc_language.specs.Applied.{operator_value}
use Rattle.cell_calc_language.specs.Offsets.{item_at_integer_or_default}
use Rattle.cell_calc.specs.RowValues.{at}

-- if the cells at the start of a row and the cells after them have a property, all cells of the row have it
after_front : (P : ℕ → CellValue → Type 0) (a : ℕ) (front ys : List CellValue) → length front ≡ a
    → ((c : ℕ) → c < a → P c (at front c)) → ((c : ℕ) → c < length ys → P (a + c) (at ys c))
    → (c : ℕ) → c < a + length ys → (b : Bool) → nat_lt c a ≡ b → P c (at (front ++ ys) c)
after_front P a front ys count before there c lt true h =
    let below : c < a = grind arith in
    let within : c < length front = omega arith in
    rw (get_or_append_left front ys None c within) (before c below)
after_front P a front ys count before there c lt false h =
    let above : a ≤ c = grind arith in
    let place : a + (c - a) ≡ c = omega arith in
    rw (get_or-append_right front ys a c None count above) (rw place at (there (c - a) (omega arith)))

-- a part of a row, moved by an offset, has the cells at that offset from the strip
pub part_at : (source part : List CellValue) (first width from c : ℕ) (right : ℤ) → part ≡ take width (drop first source)
    → pos first ≡ pos from +ℤ right → c < width → at part c ≡ item_at_integer_or_default None source
    (pos (from + c) +ℤ right)
part_at source part first width from c right is place lt =
    let there : pos (from + c) +ℤ right ≡ pos (first + c) = omega (arith, ints, place) in
    rw there (ap (λ l. get_or l c None) is ∙ get_or-take width (drop first source) c None lt ∙ get_or-drop first source c None)

-- if the cells of three parts have a property, the cells of the row of these parts have it
pub three_parts : (P : ℕ → CellValue → Type 0) (a b : ℕ) (l m r : List CellValue) → length l ≡ a → length m ≡ b
    → ((c : ℕ) → c < a → P c (at l c)) → ((c : ℕ) → c < b → P (a + c) (at m c)) → ((c : ℕ) → c < length r → P (a + (b + c)) (at r c))
    → (c : ℕ) → c < a + (b + length r) → P c (at (l ++ (m ++ r)) c)
three_parts P a b l m r left middle before there after c lt =
    let rest : length (m ++ r) ≡ b + length r = length-append m r ∙ ap (λ n. n + length r) middle in
    after_front P a l (m ++ r) left before
    (λ i li. after_front (λ k v. P (a + k) v) b m r middle there after i (omega (arith, rest, li)) (nat_lt i b) refl)
    c (omega (arith, rest, lt)) (nat_lt c a) refl

-- a row has no cells left of its start or right of its end
pub left_of : (xs : List CellValue) (z : ℤ) → z <ℤ pos 0 → item_at_integer_or_default None xs z ≡ None
left_of xs (pos n) lt = absurd (let no : ⊥ = omega (arith, ints, lt) in no)
left_of xs (negsuc n) lt = refl

pub right_of : (xs : List CellValue) (z : ℤ) → pos (length xs) ≤ℤ z → item_at_integer_or_default None xs z ≡ None
right_of xs (pos n) le = get_or_past xs n None (omega (arith, ints, le))
right_of xs (negsuc n) le = refl

-- the values of an operator over a strip whose cells lie partly outside the other row
pub beside : (op : Operator) (old others source lo mo ro l m r part : List CellValue) (from before first count : ℕ) (right : ℤ) (blank gap : CellValue)
    → blank ≡ None → gap ≡ None → lo ≡ take before old → others ≡ drop before old → mo ≡ take count others → ro ≡ drop count others
    → length lo ≡ before → length others + before ≡ length old → length mo ≡ count → length ro + count ≡ length others
    → length l ≡ length lo → length m ≡ length mo → length r ≡ length ro → part ≡ take count (drop first source)
    → ((c : ℕ) → c < length lo → at l c ≡ operator_value op (at lo c) blank)
    → ((c : ℕ) → c < length mo → at m c ≡ operator_value op (at mo c) (at part c))
    → ((c : ℕ) → c < length ro → at r c ≡ operator_value op (at ro c) gap)
    → ((c : ℕ) → c < before → (pos (from + c) +ℤ right) <ℤ pos 0)
    → (0 < count → pos first ≡ pos (from + before) +ℤ right)
    → ((c : ℕ) → before + count ≤ c → c < length old → pos (length source) ≤ℤ (pos (from + c) +ℤ right))
    → (c : ℕ) → c < length old → at (l ++ (m ++ r)) c ≡ operator_value op (at old c) (item_at_integer_or_default None source (pos (from + c) +ℤ right))
beside op old others source lo mo ro l m r part from before first count right blank gap is_blank is_gap lo_is others_is mo_is ro_is
    lo_len others_len mo_len ro_len l_len m_len r_len part_is on_left on_middle on_right left_out place right_out c lt =
    three_parts (λ i v. v ≡ operator_value op (at old i) (item_at_integer_or_default None source (pos (from + i) +ℤ right))) before count l m r (l_len ∙ lo_len) (m_len ∙ mo_len)
    (λ i li.
    on_left i (omega (arith, lo_len, li))
    ∙ ap (λ v. operator_value op (at lo i) v)
    (is_blank ∙ sym (left_of source (pos (from + i) +ℤ right) (left_out i li)))
    ∙ ap (λ v. operator_value op v (item_at_integer_or_default None source (pos (from + i) +ℤ right))) (ap (λ xs. at xs i) lo_is ∙ get_or-take before old i None li))
    (λ i li.
    let there : from + before + i ≡ from + (before + i) = omega arith in
    on_middle i (omega (arith, mo_len, li))
    ∙ ap (λ v. operator_value op (at mo i) v) (part_at source part first count (from + before) i right part_is (place (omega (arith, li))) li ∙ ap (λ n. item_at_integer_or_default None source (pos n +ℤ right)) there)
    ∙ ap (λ v. operator_value op v (item_at_integer_or_default None source (pos (from + (before + i)) +ℤ right))) (ap (λ xs. at xs i) mo_is ∙ get_or-take count others i None li ∙ ap (λ xs. at xs i) others_is ∙ get_or-drop before old i None))
    (λ i li.
    let outside = right_out (before + (count + i)) (omega arith) (omega (arith, others_len, ro_len, r_len, li)) in
    on_right i (omega (arith, r_len, li))
    ∙ ap (λ v. operator_value op (at ro i) v) (is_gap ∙ sym (right_of source (pos (from + (before + (count + i))) +ℤ right) outside))
    ∙ ap (λ v. operator_value op v (item_at_integer_or_default None source (pos (from + (before + (count + i))) +ℤ right))) (ap (λ xs. at xs i) ro_is ∙ get_or-drop count others i None ∙ ap (λ xs. at xs (count + i)) others_is ∙ get_or-drop before old (count + i) None))
    c (omega (arith, others_len, ro_len, r_len, lt))
