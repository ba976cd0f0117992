-- The maps of a shelf, with and without their halo.
use Rattle.std.proofs.Common.{◌≡◌, ◌+◌, ℕ, zero, suc, Bool, true, false, List, [], ◌∷◌, ◌++◌, take, map, Option}
use Rattle.std.proofs.Common.{Some, None, refl, ap, sym, ◌∙◌, arith, cond, subst}
use Rattle.std.specs.Prelude.{slice_get, bytes_eq}
use Rattle.std.specs.List.{position_from}
use Rattle.std.specs.Option.{option_map}
use Rattle.std.proofs.lemmas.List.{map-append}
use Rattle.std.proofs.lemmas.Option.{slice_get-map, same_Some}
use Rattle.cell_clumps.specs.declared.clump.Joining.{Joining}
use Rattle.cell_core_values.specs.Name.{place_of_name}
use Rattle.cell_core.specs.Grid.{Grid}
use Rattle.cell_core.specs.Shelf.{ShelfValue}
use Rattle.rcell.specs.Making.{IsMapOfClumpNumbers, MapExistsAndSatisfiesRelation, shelf_with_map_at_end}
use Rattle.rcell_tile.specs.TilePlaces.{TilePlaceValue}
use Rattle.rcell_tile.specs.TileMaps.{tile_region, tile_map}

position_from-before : (p : List ℕ → Bool) (i k j : ℕ) (names : List (List ℕ)) → j ≡ i + k
    → position_from p i names ≡ Some j → position_from p i (take k names) ≡ None
position_from-before p i k j [] is h = cc
position_from-before p i zero j (x ∷ xs) is h = refl
position_from-before p i (suc k) j (x ∷ xs) is h =
    by (p x) (position_from-before p (i + 1) k j xs (omega (arith, is))) h
  where
    by : (b : Bool) → (position_from p (i + 1) xs ≡ Some j → position_from p (i + 1) (take k xs) ≡ None)
        → cond b (Some i) (position_from p (i + 1) xs) ≡ Some j
        → cond b (Some i) (position_from p (i + 1) (take k xs)) ≡ None
    by true rest e = let same : i ≡ j = cc in absurd (omega (arith, same, is))
    by false rest e = rest e

-- a name is unused before its place
pub name_is_new : (name : List ℕ) (names : List (List ℕ)) (i : ℕ) → place_of_name name names ≡ Some i
    → place_of_name name (take i names) ≡ None
name_is_new name names i h = position_from-before (λ n. bytes_eq n name) 0 i i names (omega arith) h

take_next : {X : Type 0} (xs : List X) (i : ℕ) (x : X) → slice_get xs i ≡ Some x
    → take i xs ++ x ∷ [] ≡ take (i + 1) xs
take_next [] i x h = cc
take_next (y ∷ ys) zero x h = ap (λ z. z ∷ []) (sym (same_Some y x h))
take_next (y ∷ ys) (suc i) x h =
    let next : y ∷ (take i ys ++ x ∷ []) ≡ take (suc (i + 1)) (y ∷ ys) = ap (λ l. y ∷ l) (take_next ys i x h) in
    let same : suc (i + 1) ≡ suc i + 1 = omega arith in
    next ∙ ap (λ n. take n (y ∷ ys)) same

-- the first n maps without their halo
abbrev pub first_tile_maps : TilePlaceValue → ShelfValue → ℕ → ShelfValue
first_tile_maps p s n = record {
  region = tile_region p s.region;
  names = take n s.names;
  maps = map (tile_map p) (take n s.maps);
}

pub next_tile_map : (p : TilePlaceValue) (s inner new : ShelfValue) (i : ℕ) (name : List ℕ) (m made : Grid)
    → inner ≡ first_tile_maps p s i → slice_get s.names i ≡ Some name → slice_get s.maps i ≡ Some m
    → made ≡ tile_map p m
    → new ≡ shelf_with_map_at_end inner name made → new ≡ first_tile_maps p s (i + 1)
next_tile_map p s inner new i name m made held names maps cut added =
    added ∙ ap (λ x. shelf_with_map_at_end x name made) held
    ∙ ap (λ x. shelf_with_map_at_end (first_tile_maps p s i) name x) cut
    ∙ ap (shelf (map (tile_map p) (take i s.maps) ++ tile_map p m ∷ [])) (take_next s.names i name names)
    ∙ ap (λ l. shelf l (take (i + 1) s.names))
    (sym (map-append (tile_map p) (take i s.maps) (m ∷ [])) ∙ ap (map (tile_map p)) (take_next s.maps i m maps))
  where
    shelf : List Grid → List (List ℕ) → ShelfValue
    shelf l all = record { region = tile_region p s.region; names = all; maps = l }

-- the clump numbers of a map without its halo
pub numbers_of_tile_map : (joining : Joining) (p : TilePlaceValue) (maps : List Grid) (place : ℕ) (m numbers : Grid)
    → slice_get (map (tile_map p) maps) place ≡ Some m → IsMapOfClumpNumbers joining m numbers
    → MapExistsAndSatisfiesRelation (λ x. IsMapOfClumpNumbers joining (tile_map p x) numbers) (slice_get maps place)
numbers_of_tile_map joining p maps place m numbers found are =
    by (slice_get maps place) (sym (slice_get-map (tile_map p) maps place) ∙ found)
  where
    by : (o : Option Grid) → option_map (tile_map p) o ≡ Some m
        → MapExistsAndSatisfiesRelation (λ x. IsMapOfClumpNumbers joining (tile_map p x) numbers) o
    by None e = cc
    by (Some x) e = subst (λ y. IsMapOfClumpNumbers joining y numbers) (sym (same_Some (tile_map p x) m e)) are
