-- Rows of several maps, and the stretch of columns in which no map changes.
use Rattle.std.proofs.Common.{◌≡◌, ℕ, zero, suc, ◌+◌, ◌-◌, ◌<◌, ◌≤◌, List, Some, [], ◌∷◌, ◌++◌, length, take, drop, map, replicate, get_or, set, All, refl, ap, sym, ◌∙◌, arith, length-append, length-take, add-one, add-zero}
use Rattle.std.proofs.Math.Seq.{get_or-append_seam}
use Rattle.std.proofs.lemmas.List.Elements.{All-push}
use Rattle.std.proofs.lemmas.List.{take_more, take_more_set, map-append, get_or-drop, length-replicate, drop-append-le, drop-replicate, get_or_append_left}
use Rattle.std.specs.Option.{option_map_or}
use Rattle.std.specs.Prelude.{slice_get}
use Rattle.cell_core.specs.Grid.{Grid, CellValue, row_at}
use Rattle.cell_core.specs.Runs.{RunValue}
use Rattle.cell_stats_combinations.specs.Cursors.{CursorHasNoEmptyLaterRun, row_of_map_at_place}

-- passing some columns of the first run leaves the rest of that run
pub drop-run : (n left : ℕ) (x : CellValue) (rest : List CellValue) → n ≤ left → drop n (replicate left x ++ rest) ≡ replicate (left - n) x ++ rest
drop-run n left x rest h =
    let fits : n ≤ length (replicate left x) = omega (arith, length-replicate left x) in
    drop-append-le n (replicate left x) rest fits ∙ ap (λ l. l ++ rest) (drop-replicate n left x)

-- neither the next run nor any run after it is empty
pub ready-next : (runs rest : List RunValue) (x : CellValue) (n : ℕ) → runs ≡ (x, n) ∷ rest → All (λ run. 0 < run.1) runs → CursorHasNoEmptyLaterRun (record { runs = rest; cell = x; left = n })
ready-next runs rest x n e all =
    let here : 0 < n = all_of e all 0 in
    record {
      runs = λ i d within. behind e all i d within;
      present = λ none. absurd (omega arith);
    }
  where
    all_of : runs ≡ (x, n) ∷ rest → All (λ run. 0 < run.1) runs → (i : ℕ) → 0 < n
    all_of e all i = let a = rw e at all in a 0 (x, n) (omega arith)

    behind : runs ≡ (x, n) ∷ rest → All (λ run. 0 < run.1) runs → (i : ℕ) (d : RunValue) → i < length rest → 0 < (get_or rest i d).1
    behind e all i d within = let a = rw e at all in a (suc i) d (omega arith)

-- lists that agree from a place on agree at it
pub same-here : {X : Type 0} (xs ys : List X) (i : ℕ) (d : X) → drop i xs ≡ drop i ys → get_or xs i d ≡ get_or ys i d
same-here xs ys i d e = ap (λ k. get_or xs k d) (sym (add-zero i)) ∙ sym (get_or-drop i xs zero d) ∙ ap (λ l. get_or l 0 d) e ∙ get_or-drop i ys zero d ∙ ap (λ k. get_or ys k d) (add-zero i)

module _ {X Y : Type 0} (f : X → Y) where
  pub map-take-set : (xs : List X) (i : ℕ) (y : X) → i < length xs → map f (take (i + 1) (set xs i y)) ≡ map f (take i xs) ++ f y ∷ []
  map-take-set xs i y h = ap (map f) (take_more_set xs i y h) ∙ map-append f (take i xs) (y ∷ [])

  pub map-take-more : (xs : List X) (i : ℕ) (d : X) → i < length xs → map f (take (i + 1) xs) ≡ map f (take i xs) ++ f (get_or xs i d) ∷ []
  map-take-more xs i d h = ap (map f) (take_more xs i d h) ∙ map-append f (take i xs) (get_or xs i d ∷ [])

drop_one : {X : Type 0} (i : ℕ) (xs : List X) → drop 1 (drop i xs) ≡ drop (suc i) xs
drop_one zero xs = refl
drop_one (suc i) [] = refl
drop_one (suc i) (x ∷ xs) = drop_one i xs

-- lists that agree from a place on agree after it
pub same-behind : {X : Type 0} (xs ys : List X) (i : ℕ) → drop i xs ≡ drop i ys → drop (i + 1) xs ≡ drop (i + 1) ys
same-behind xs ys i e = rw add-one (sym (drop_one i xs) ∙ ap (drop 1) e ∙ drop_one i ys)

-- the items before a place keep a property, and the item set there has it
pub All-take-set : {X : Type 0} (P Q : X → Type 0) (xs : List X) (i : ℕ) (y : X) → i < length xs → ((x : X) → P x → Q x) → All P (take i xs) → Q y → All Q (take (i + 1) (set xs i y))
All-take-set P Q xs i y h weaker all here = rw (take_more_set xs i y h) (All-push Q (take i xs) y (λ k d within. weaker _ (all k d within)) here)

pub All-take-front : {X : Type 0} (P : X → Type 0) (xs : List X) (i : ℕ) (y : X) → i < length xs → All P (take (i + 1) (set xs i y)) → All P (take i xs) × P y
All-take-front P xs i y h all =
    let both : All P (take i xs ++ y ∷ []) = rw (take_more_set xs i y h) at all in
    let size : length (take i xs) ≡ i = omega (arith, length-take i xs) in (
      λ k d within. rw (get_or_append_left (take i xs) (y ∷ []) d k within) at (both k d (omega (arith, length-append (take i xs) (y ∷ [])))),
      rw (get_or-append_seam (take i xs) y [] y) at (both (length (take i xs)) y (omega (arith, length-append (take i xs) (y ∷ [])))),
    )

-- the row at a place is the row of the map at that place
pub row-of : (maps : List Grid) (row p : ℕ) (m : Grid) → slice_get maps p ≡ Some m
    → row_of_map_at_place maps row p ≡ row_at m row
row-of maps row p m e = ap (λ o. option_map_or (λ x. row_at x row) o []) e
