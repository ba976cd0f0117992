-- Operands that steps remove from the end of a list.
use Rattle.std.proofs.Common.{◌≡◌, ◌<◌, ◌≤◌, ◌+◌, ◌-◌, ℕ, List, [], ◌∷◌, ◌++◌, length, take, drop, get_or, map, refl, sym, ap, ◌∙◌, arith, append_assoc, length-append, add-one, Result, Ok, Err}
use Rattle.std.proofs.Math.Seq.{take-append_seam, drop-append_seam, drop-cons}
use Rattle.std.proofs.lemmas.List.{take_all, length-map, length-take-le, length-drop, map-append, take-append-drop, nil_from_length, reverse-append, reverse-reverse}
use Rattle.std.proofs.lemmas.List.Elements.{All-head, All-push, All-same, All-tail, All-take}
use Rattle.std.specs.Prelude.{All, IfOk, OnOk, reverse}
use Rattle.cell_core.specs.Grid.{CellValue}
use Rattle.cell_calc_grammar.specs.declared.step.Step.{Step}
use Rattle.cell_calc.specs.declared.strip.Operand.{Operand}
use Rattle.cell_calc.specs.declared.strip.RowStrip.{RowStrip}
use Rattle.cell_calc.specs.Window.{RowWindowValue}
use Rattle.cell_calc.specs.parts.Operands.{operand_cell_in_strip_column, operand_cells_in_strip_column}
use Rattle.cell_calc.specs.parts.Operands.{step_result_from_windows, position_of_strip_column}
use Rattle.cell_calc_grammar.specs.Postfix.{arity_of_step, operands_after_steps, StepsHaveEnoughOperands}
use Rattle.cell_calc.specs.RowValues.{at, cells_at_column}
use Rattle.cell_calc_grammar.proofs.PostfixLemmas.{one_step}

-- removing n appended items from a list leaves the list before them
pub front_is : {X : Type 0} (old new ys : List X) (n : ℕ) → old ≡ new ++ ys → length ys ≡ n → new ≡ take (length old - n) old
front_is old new ys n is count =
    let e : length (new ++ ys) - n ≡ length new = omega (arith, length-append new ys) in
    rw (is, e) (sym (take-append_seam new ys))

pub back_is : {X : Type 0} (old new ys : List X) (n : ℕ) → old ≡ new ++ ys → length ys ≡ n → ys ≡ drop (length old - n) old
back_is old new ys n is count =
    let e : length (new ++ ys) - n ≡ length new = omega (arith, length-append new ys) in
    rw (is, e) (sym (drop-append_seam new ys))

-- after one more operand is removed, the list is the remaining operands, that operand and the operands removed before
one_more : {X : Type 0} (old before new : List X) (a : X) (j : ℕ) → j ≤ length old → before ≡ take (length old - j) old → before ≡ new ++ a ∷ []
    → old ≡ new ++ (a ∷ drop (length old - j) old)
one_more old before new a j le is popped =
    sym (take-append-drop (length old - j) old) ∙ ap (λ l. l ++ drop (length old - j) old) (sym is ∙ popped) ∙ append_assoc new (a ∷ []) (drop (length old - j) old)

pub front_more : {X : Type 0} (old before new : List X) (a : X) (j : ℕ) → j ≤ length old → before ≡ take (length old - j) old → before ≡ new ++ a ∷ []
    → new ≡ take (length old - (j + 1)) old
front_more old before new a j le is popped =
    front_is old new (a ∷ drop (length old - j) old) (j + 1) (one_more old before new a j le is popped) (omega (arith, length-drop (length old - j) old))

pub back_more : {X : Type 0} (old before new : List X) (a : X) (j : ℕ) → j ≤ length old → before ≡ take (length old - j) old → before ≡ new ++ a ∷ []
    → a ∷ drop (length old - j) old ≡ drop (length old - (j + 1)) old
back_more old before new a j le is popped =
    back_is old new (a ∷ drop (length old - j) old) (j + 1) (one_more old before new a j le is popped) (omega (arith, length-drop (length old - j) old))

-- a list of length 1 contains only its last item
pub only_one : {X : Type 0} (old new : List X) (x : X) → length old ≡ 1 → old ≡ new ++ x ∷ [] → old ≡ x ∷ []
only_one old new x one is =
    let none : length new ≡ 0 = omega (arith, ap length is, length-append new (x ∷ [])) in
    is ∙ ap (λ l. l ++ x ∷ []) (nil_from_length new none)

-- the steps from index i on begin with step i
pub steps_from : (steps : List (Step ℕ)) (i : ℕ) (d : Step ℕ) → i < length steps → drop i steps ≡ get_or steps i d ∷ drop (i + 1) steps
steps_from steps i d lt = rw add-one (drop-cons steps i d lt)

pub no_steps : (steps : List (Step ℕ)) (i : ℕ) → length steps ≤ i → drop i steps ≡ []
no_steps steps i le = nil_from_length (drop i steps) (omega (arith, length-drop i steps))

-- if steps have enough operands, so do the next step and the steps after it
pub enough_at : (steps : List (Step ℕ)) (i n : ℕ) (d : Step ℕ) → i < length steps → StepsHaveEnoughOperands (drop i steps) n → arity_of_step (get_or steps i d) ≤ n
enough_at steps i n d lt h = let all = rw (steps_from steps i d lt) at h in all.0

pub enough_more : (steps : List (Step ℕ)) (i : ℕ) (d : Step ℕ) {X : Type 0} (old new : List X) (o : X) → i < length steps → StepsHaveEnoughOperands (drop i steps) (length old)
    → new ≡ take (length old - arity_of_step (get_or steps i d)) old ++ o ∷ []
    → StepsHaveEnoughOperands (drop (i + 1) steps) (length new)
enough_more steps i d old new o lt h is =
    let all = rw (steps_from steps i d lt) at h in
    let n = length old - arity_of_step (get_or steps i d) in
    let count : length new ≡ length old - arity_of_step (get_or steps i d) + 1 =
    ap (λ l. length l) is ∙ length-append (take n old) (o ∷ []) ∙ ap (λ k. k + 1) (length-take-le n old (omega arith)) in
    rw count all.1

-- one more step along a strip gives the step's value at column c
pub step_more : (windows : List RowWindowValue) (strip : RowStrip) (steps : List (Step ℕ)) (i c : ℕ) (d : Step ℕ) (old new : List Operand) (o : Operand) (end : List CellValue)
    → i < length steps → arity_of_step (get_or steps i d) ≤ length old → new ≡ take (length old - arity_of_step (get_or steps i d)) old ++ o ∷ []
    → operand_cell_in_strip_column windows strip c o ≡ step_result_from_windows windows (position_of_strip_column strip c) (get_or steps i d) (operand_cells_in_strip_column windows strip c (drop (length old - arity_of_step (get_or steps i d)) old))
    → operands_after_steps (step_result_from_windows windows (position_of_strip_column strip c)) (drop i steps)
    (operand_cells_in_strip_column windows strip c old) ≡ end
    → operands_after_steps (step_result_from_windows windows (position_of_strip_column strip c)) (drop (i + 1) steps) (operand_cells_in_strip_column windows strip c new) ≡ end
step_more windows strip steps i c d old new o end lt le is made before =
    let f = λ (p : Operand). operand_cell_in_strip_column windows strip c p in
    let g = λ (s : Step ℕ) (xs : List CellValue). step_result_from_windows windows
    (position_of_strip_column strip c) s xs in
    let s = get_or steps i d in
    let n = length old - arity_of_step s in
    let split : map f old ≡ map f (take n old) ++ map f (drop n old) = ap (λ l. map f l) (sym (take-append-drop n old)) ∙ map-append f (take n old) (drop n old) in
    let taken : length (drop n old) ≡ arity_of_step s = omega (arith, length-drop n old, le) in
    ap (λ l. operands_after_steps g (drop (i + 1) steps) l)
    (ap (λ l. map f l) is ∙ map-append f (take n old) (o ∷ []) ∙ ap (λ v. map f (take n old) ++ v ∷ []) made)
    ∙ sym (one_step g s (drop (i + 1) steps) (map f (take n old)) (map f (drop n old)) (length-map (drop n old) f ∙ taken))
    ∙ ap (λ l. operands_after_steps g (s ∷ drop (i + 1) steps) l) (sym split)
    ∙ ap (λ l. operands_after_steps g l (map f old)) (sym (steps_from steps i d lt)) ∙ before

-- after the last step, the only remaining operand is the value
pub end_frame_as_value : (windows : List RowWindowValue) (strip : RowStrip) (steps : List (Step ℕ)) (i c : ℕ) (old : List Operand) (o : Operand) (end : List CellValue)
    → drop i steps ≡ [] → old ≡ o ∷ [] → operands_after_steps (step_result_from_windows windows (position_of_strip_column strip c)) (drop i steps) (operand_cells_in_strip_column windows strip c old) ≡ end
    → operand_cell_in_strip_column windows strip c o ∷ [] ≡ end
end_frame_as_value windows strip steps i c old o end none only is =
    let g = λ (s : Step ℕ) (xs : List CellValue). step_result_from_windows windows
    (position_of_strip_column strip c) s xs in
    ap (λ l. operands_after_steps g l (operand_cell_in_strip_column windows strip c o ∷ [])) (sym none)
    ∙ ap (λ l. operands_after_steps g (drop i steps) (operand_cells_in_strip_column windows strip c l)) (sym only) ∙ is

-- one more row of arguments adds its cell to the column; the last argument comes first
pub gather_more : {V : Type 0} (f : V → List CellValue) (windows : List RowWindowValue) (strip : RowStrip) (c : ℕ) (old before new : List Operand) (a : Operand) (j : ℕ) (rows : List V) (row : V)
    → j ≤ length old → before ≡ take (length old - j) old → before ≡ new ++ a ∷ []
    → cells_at_column c (map f rows) ≡ reverse (operand_cells_in_strip_column windows strip c (drop (length old - j) old)) → at (f row) c ≡ operand_cell_in_strip_column windows strip c a
    → cells_at_column c (map f (rows ++ row ∷ [])) ≡ reverse (operand_cells_in_strip_column windows strip c
    (drop (length old - (j + 1)) old))
gather_more f windows strip c old before new a j rows row le is popped so_far here =
    let cells = operand_cells_in_strip_column windows strip c (drop (length old - j) old) in
    ap (λ l. cells_at_column c l) (map-append f rows (row ∷ [])) ∙ map-append (λ r. at r c) (map f rows) (f row ∷ [])
    ∙ ap (λ l. l ++ at (f row) c ∷ []) so_far ∙ ap (λ v. reverse cells ++ v ∷ []) here
    ∙ sym (reverse-append (operand_cell_in_strip_column windows strip c a ∷ []) cells)
    ∙ ap (λ l. reverse (operand_cells_in_strip_column windows strip c l)) (back_more old before new a j le is popped)

map-reverse : {X Y : Type 0} (f : X → Y) (xs : List X) → map f (reverse xs) ≡ reverse (map f xs)
map-reverse f [] = refl
map-reverse f (x ∷ xs) =
    ap (λ l. map f l) (reverse-append (x ∷ []) xs) ∙ map-append f (reverse xs) (x ∷ []) ∙ ap (λ l. l ++ f x ∷ []) (map-reverse f xs)
    ∙ sym (reverse-append (f x ∷ []) (map f xs))

-- reversing the rows puts the arguments in order
pub gathered : {V : Type 0} (f : V → List CellValue) (c : ℕ) (rows : List V) (cells : List CellValue)
    → cells_at_column c (map f rows) ≡ reverse cells → cells_at_column c (map f (reverse rows)) ≡ cells
gathered f c rows cells is =
    ap (λ l. cells_at_column c l) (map-reverse f rows) ∙ map-reverse (λ r. at r c) (map f rows) ∙ ap (λ l. reverse l) is ∙ reverse-reverse cells

-- before any operand is removed, all operands are left
pub none_taken : {X : Type 0} (old : List X) → old ≡ take (length old - 0) old
none_taken old = sym (take_all (length old - 0) old (omega arith))

pub none_left : {X : Type 0} (old : List X) → drop (length old - 0) old ≡ []
none_left old = nil_from_length (drop (length old - 0) old) (omega (arith, length-drop (length old - 0) old))

-- with fewer than n operands removed, there is one more to remove
pub more_left : {X : Type 0} (old before : List X) (j n : ℕ) → j < n → n ≤ length old → before ≡ take (length old - j) old → 0 < length before
more_left old before j n lt le is = rw (is, length-take-le (length old - j) old (omega arith)) (omega arith)

pub more_before : {X : Type 0} (n : ℕ) (old new : List X) (a : X) → old ≡ new ++ a ∷ [] → n + 1 < length old → n < length new
more_before n old new a is lt = omega (arith, ap length is, length-append new (a ∷ []))

-- a property of all items holds of the last item and of the items before it
last_of : {X : Type 0} (P : X → Type 0) (new : List X) (a : X) → All P (new ++ a ∷ []) → P a
last_of P [] a h = h 0 a (omega arith)
last_of P (x ∷ new) a h = last_of P new a (All-tail P x (new ++ a ∷ []) h)

pub of_last : {X : Type 0} (P : X → Type 0) (old new : List X) (a : X) → old ≡ new ++ a ∷ [] → All P old → P a
of_last P old new a is h = last_of P new a (rw is at h)

pub of_front : {X : Type 0} (P : X → Type 0) (old new : List X) (a : X) → old ≡ new ++ a ∷ [] → All P old → All P new
of_front P old new a is h =
    let e : take (length new) old ≡ new = rw is (take-append_seam new (a ∷ [])) in
    rw e at (All-take P (length new) old h)

-- the last two or three operands are at the end of the list
pub two_last : {X : Type 0} (old before new : List X) (a b : X) → old ≡ before ++ b ∷ [] → before ≡ new ++ a ∷ [] → old ≡ new ++ (a ∷ b ∷ [])
two_last old before new a b is popped = is ∙ ap (λ l. l ++ b ∷ []) popped ∙ append_assoc new (a ∷ []) (b ∷ [])

pub three_last : {X : Type 0} (old before two new : List X) (a b d : X) → old ≡ before ++ d ∷ [] → before ≡ two ++ b ∷ [] → two ≡ new ++ a ∷ []
    → old ≡ new ++ (a ∷ b ∷ d ∷ [])
three_last old before two new a b d is second first =
    is ∙ ap (λ l. l ++ d ∷ []) (two_last before two new a b second first) ∙ append_assoc new (a ∷ b ∷ []) (d ∷ [])

pub all_reversed : {X : Type 0} (P : X → Type 0) (xs : List X) → All P xs → All P (reverse xs)
all_reversed P [] h = h
all_reversed P (x ∷ xs) h =
    All-same P (reverse (x ∷ xs)) (reverse xs ++ x ∷ []) (reverse-append (x ∷ []) xs)
    (All-push P (reverse xs) x (all_reversed P xs (All-tail P x xs h)) (All-head P x xs h))

-- a fact that always holds also holds on success
pub on_ok : {T E P : Type 0} (r : Result T E) → P → OnOk r P
on_ok (Ok x) h = h
on_ok (Err e) h = tt

-- an implication that holds on success carries over to a result
pub if_ok : {T E : Type 0} (r : Result T E) (P Q : T → Type 0) → ((x : T) → P x → Q x) → IfOk r P → IfOk r Q
if_ok (Ok x) P Q f h = f x h
if_ok (Err e) P Q f h = tt
