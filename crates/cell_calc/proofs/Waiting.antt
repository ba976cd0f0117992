-- Rows that move from the start of a ring to its end.
use Rattle.std.proofs.Common.{◌≡◌, ◌<◌, ◌≤◌, ◌+◌, ℕ, List, [], ◌∷◌, ◌++◌, length, take, drop}
use Rattle.std.proofs.Common.{get_or, map, Some, None, true, false, refl, sym, ap, ◌∙◌, subst, arith}
use Rattle.std.specs.Prelude.{All, slice_get, nat_le, if◌then◌else◌}
use Rattle.std.proofs.lemmas.List.{append-nil, drop_all, drop_more, length-append, length-map, map_push}
use Rattle.std.proofs.lemmas.Option.{get_or_from_slice_get, slice_get_within}

-- a property of all waiting rows holds of the first one
pub of_front : {V : Type 0} (P : V → Type 0) (queue : List V) (x : V) → slice_get queue 0 ≡ Some x → All P queue → P x
of_front P queue x front all =
    subst P (get_or_from_slice_get queue 0 x x front) (all 0 x (slice_get_within queue 0 x front))

-- if some rows wait, there is a first one
pub no_front : {V : Type 0} (queue : List V) (n : ℕ) → slice_get queue 0 ≡ None → length queue ≡ n → 0 < n → ⊥
no_front [] n none count some = omega arith
no_front (x ∷ queue) n none count some = cc

-- moving a row from the queue to the ring keeps the total number of rows
pub as_many : {V : Type 0} (rows queue more rest : List V) (x y : V) → slice_get queue 0 ≡ Some x
    → more ≡ rows ++ y ∷ [] → rest ≡ drop 1 queue → length more + length rest ≡ length rows + length queue
as_many rows [] more rest x y front is_more is_rest = absurd (let no : ⊥ = cc in no)
as_many rows (z ∷ queue) more rest x y front is_more is_rest =
    rw (is_more, is_rest, length-append rows (y ∷ [])) (omega arith)

-- the moved rows fit within the same capacity
pub room_stays : (more rest rows queue n capacity : ℕ) → more + rest ≡ rows + queue → n ≡ capacity
    → rows + queue ≤ capacity → more + rest ≤ n
room_stays more rest rows queue n capacity same is le = omega arith

-- a queue with a row leaves room for one more row in the ring
pub has_room : {V : Type 0} (rows queue : List V) (x : V) (n : ℕ) → slice_get queue 0 ≡ Some x
    → length rows + length queue ≤ n → length rows < n
has_room rows [] x n front le = absurd (let no : ⊥ = cc in no)
has_room rows (z ∷ queue) x n front le = omega arith

-- moving a row keeps the total number of rows seen and free
pub as_many_seen : {V W : Type 0} (f : V → W) (rows queue more rest : List V) (seen : List W) (free : ℕ)
    → length more + length rest ≡ length rows + length queue → map f rows ≡ seen → length queue ≡ free
    → length (map f more) + length rest ≡ length seen + free
as_many_seen f rows queue more rest seen free same is_seen is_free =
    rw (← is_seen, ← is_free, length-map more f, length-map rows f) same

-- adding a row at the end adds its cells at the end
pub one_last : {V W : Type 0} (f : V → W) (rows more : List V) (x : V) (seen : List W) (row : W)
    → more ≡ rows ++ x ∷ [] → map f rows ≡ seen → f x ≡ row → map f more ≡ seen ++ row ∷ []
one_last f rows more x seen row is is_seen is_row =
    ap (map f) is ∙ map_push f rows x ∙ ap (λ l. l ++ f x ∷ []) is_seen ∙ ap (λ r. seen ++ r ∷ []) is_row

-- the next row of a map is the row at its index
pub next_row : {W : Type 0} (rows : List W) (i : ℕ) (d : W) → i < length rows
    → take 1 (drop i rows) ≡ get_or rows i d ∷ []
next_row rows i d lt = ap (λ l. take 1 l) (drop_more rows i d lt)

pub no_more : {W : Type 0} (seen rows : List W) (i : ℕ) → length rows ≤ i → seen ≡ seen ++ take 1 (drop i rows)
no_more seen rows i le = sym (ap (λ l. seen ++ take 1 l) (drop_all i rows le) ∙ append-nil seen)

-- moving the first row back to the queue keeps the rows within the capacity
pub room_swaps : (more rest rows queue n capacity : ℕ) → more + rest ≡ rows + queue → n ≡ capacity
    → queue + rows ≤ capacity → rest + more ≤ n
room_swaps more rest rows queue n capacity same is le = omega arith

pub swapped : (rows queue n : ℕ) → queue + rows ≤ n → rows + queue ≤ n
swapped rows queue n le = omega arith

pub as_many_left : {V W : Type 0} (f : V → W) (rows queue more rest : List V) (seen : List W) (free : ℕ)
    → length more + length rest ≡ length rows + length queue → map f queue ≡ seen → length rows ≡ free
    → length (map f rest) + length more ≡ length seen + free
as_many_left f rows queue more rest seen free same is_seen is_free =
    rw (← is_seen, ← is_free, length-map rest f, length-map queue f) (omega (arith, same))

map_rest : {V W : Type 0} (f : V → W) (xs : List V) → map f (drop 1 xs) ≡ drop 1 (map f xs)
map_rest f [] = refl
map_rest f (x ∷ xs) = refl

-- the first row is released if at least `above` rows are above the centre
pub let_go : {V W : Type 0} (f : V → W) (queue rest : List V) (seen : List W) (above centre : ℕ) → rest ≡ drop 1 queue
    → map f queue ≡ seen → above ≤ centre → map f rest ≡ (if nat_le above centre then drop 1 seen else seen)
let_go f queue rest seen above centre is is_seen le =
    let full : nat_le above centre ≡ true = grind arith in
    rw (full, is) (map_rest f queue ∙ ap (λ l. drop 1 l) is_seen)

pub not_let_go : {W : Type 0} (seen : List W) (above centre : ℕ) → centre < above
    → seen ≡ (if nat_le above centre then drop 1 seen else seen)
not_let_go seen above centre lt =
    let few : nat_le above centre ≡ false = grind arith in
    rw few refl
