-- Adding one more grid to the shelf.
use Rattle.std.proofs.Common.{◌≡◌, ◌≢◌, ℕ, zero, suc, ◌+◌, Bool, true, false, cond, List, [], ◌∷◌, ◌++◌, length, take}
use Rattle.std.proofs.Common.{drop, Option, Some, None, Result, Ok, Err, IsSome, slice_get, refl, ap, sym}
use Rattle.std.proofs.Common.{subst, ◌∙◌, arith, add-one}
use Rattle.std.proofs.Math.Seq.{drop-nil}
use Rattle.std.specs.List.{position_from}
use Rattle.std.specs.Option.{IsSomeAnd}
use Rattle.cell_core_devices.specs.Device.{ComingBytes}
use Rattle.cell_core_devices.specs.Supposed.{SupposedContent, HoldsForAgreeingContents, content_to_come}
use Rattle.cell_core.specs.Grid.{Grid}
use Rattle.cell_core_values.specs.Name.{place_of_name}
use Rattle.cell_core_values.specs.Region.{RegionValue}
use Rattle.cell_core_values.specs.SameRegion.{is_same_region, is_same_region-Decides}
use Rattle.cell_core.specs.Shelf.{ShelfValue}
use Rattle.cell_core.specs.ShelfRefused.{IsFirstFaultOfAddingMap}
use Rattle.cell_core.specs.declared.shelf.ShelfFault.{ShelfFault}
use Rattle.cell_core.specs.declared.shelf.ShelfFault.TheVariants.{Exists, OtherRegion, Memory}
use Rattle.cell_ascii_meaning.specs.CellTexts.{map_denoted_by_text}
use Rattle.rcell.specs.Sources.{ReadsAgreeWithContents, Named, SourcesHoldSupposedContents}
use Rattle.rcell.specs.RunFaults.{IsInputFault, ResultAgreesWithInputReading}
use Rattle.rcell.specs.parts.Refused.{run_fault_of_shelf_fault, IsFaultInGridBeforeExecution}
use Rattle.rcell.specs.Loading.{shelf_with_map, shelf_with_map_or_new, shelf_with_next_grid, shelf_with_remaining_grids}
use Rattle.rcell.specs.Loading.{continue_with_remaining_grids}
use Rattle.rcell.specs.declared.run_fault.RunFault.{RunFault}
use Rattle.rcell.specs.declared.run_fault.RunFault.TheVariants.{GridRegion, GridTwice}

pub differs : (t : Bool) → (t ≡ true → ⊥) → t ≡ false
differs true apart = absurd (apart refl)
differs false apart = refl

-- a map of another region is rejected
pub added-other : (grid : ℕ) (shelf : ShelfValue) (name : List ℕ) (map : Grid) → place_of_name name shelf.names ≡ None → map.region ≢ shelf.region → shelf_with_map grid shelf name map (place_of_name name shelf.names) ≡ Err (GridRegion grid)
added-other grid shelf name map free apart =
    let other : is_same_region map.region shelf.region ≡ false = differs _ (λ t. apart ((is_same_region-Decides map.region shelf.region).0 t)) in
    rw (free, other) refl

-- a map of the shelf's region, under a new name, goes at the end
pub added-same : (grid : ℕ) (shelf : ShelfValue) (name : List ℕ) (map : Grid) → place_of_name name shelf.names ≡ None → map.region ≡ shelf.region → shelf_with_map grid shelf name map (place_of_name name shelf.names) ≡ Ok (record shelf { names = shelf.names ++ name ∷ []; maps = shelf.maps ++ map ∷ [] })
added-same grid shelf name map free same =
    let same_test : is_same_region map.region shelf.region ≡ true = (is_same_region-Decides map.region shelf.region).1 same in
    rw (free, same_test) refl

-- a name already on the shelf is rejected
pub added-twice : (grid : ℕ) (shelf : ShelfValue) (name : List ℕ) (map : Grid) (o : Option ℕ) → IsSome o → shelf_with_map grid shelf name map o ≡ Err (GridTwice grid)
added-twice grid shelf name map None some = cc
added-twice grid shelf name map (Some place) some = refl

-- an error of the shelf is reported as an error of the grid
pub added-refused : (grid : ℕ) (shelf : ShelfValue) (name : List ℕ) (map : Grid) (fault : ShelfFault) → IsFirstFaultOfAddingMap shelf name map fault → IsInputFault (run_fault_of_shelf_fault grid fault)
    → shelf_with_map grid shelf name map (place_of_name name shelf.names) ≡ Err (run_fault_of_shelf_fault grid fault)
added-refused grid shelf name map Exists reason input = added-twice grid shelf name map _ reason
added-refused grid shelf name map OtherRegion reason input = added-other grid shelf name map reason.0 reason.1
added-refused grid shelf name map Memory reason input = absurd input

-- the error belongs to the grid, and is reported before execution
pub refused-whose : (grid : ℕ) (fault : ShelfFault) → IsFaultInGridBeforeExecution grid
    (run_fault_of_shelf_fault grid fault)
refused-whose grid Exists = record { early = tt; reported = λ count within. within; whose = refl }
refused-whose grid OtherRegion = record { early = tt; reported = λ count within. within; whose = refl }
refused-whose grid Memory = record { early = refl; reported = λ count within. tt; whose = tt }

-- the first map creates the shelf
pub added-first : (grid : ℕ) (region : RegionValue) (name : List ℕ) (map : Grid) → map.region ≡ region → shelf_with_map grid (record { region = region; names = []; maps = [] }) name map None ≡ Ok (record { region = region; names = name ∷ []; maps = map ∷ [] })
added-first grid region name map same =
    let same_test : is_same_region map.region region ≡ true = (is_same_region-Decides map.region region).1 same in
    rw same_test refl

pub first_placed : (r : Result ShelfValue RunFault) (grid : ℕ) (region : RegionValue) (shelf : ShelfValue) (name : List ℕ) (map : Grid)
    → shelf ≡ record { region = region; names = []; maps = [] } → region ≡ map.region
    → ResultAgreesWithInputReading (λ s. s) r (shelf_with_map grid shelf name map (place_of_name name shelf.names))
    → ResultAgreesWithInputReading (λ s. s) r (shelf_with_map_or_new grid None name map)
first_placed r grid region shelf name map is same reported =
    let first : shelf_with_map grid shelf name map (place_of_name name shelf.names)
    ≡ shelf_with_map_or_new grid None name map =
    ap (λ (s : ShelfValue). shelf_with_map grid s name map (place_of_name name s.names)) is
    ∙ added-first grid region name map (sym same)
    ∙ ap (λ r. Ok (record { region = r; names = name ∷ []; maps = map ∷ [] })) same in
    subst (λ (x : Result ShelfValue RunFault). ResultAgreesWithInputReading (λ s. s) r x) first reported

-- a property of the content of a source holds for the content that is supposed
pub at_supposed : (given : Option ComingBytes) (c : ComingBytes) (P : ComingBytes → Type 0) → given ≡ Some c
    → IsSomeAnd given P → P c
at_supposed given c P same is = rw same at is

module _ {R : Type 0} (supposed : R → SupposedContent) where
  -- if the reads of all sources agreed with the contents, so did the reads of the first sources and of the last one
  pub agree_split : (hs : List ComingBytes) (sources : List R) (last : R)
      → ReadsAgreeWithContents supposed hs (sources ++ last ∷ [])
      → ReadsAgreeWithContents supposed hs sources × ReadsAgreeWithContents supposed (drop (length sources) hs) (last
      ∷ [])
  agree_split [] [] last agree = (tt, tt)
  agree_split [] (s ∷ sources) last agree = (tt, tt)
  agree_split (h ∷ hs) [] last agree = (tt, agree)
  agree_split (h ∷ hs) (s ∷ sources) last agree = let rest = agree_split hs sources last agree.1 in
      ((agree.0, rest.0), rest.1)

  module _ (grid : ℕ) (shelf : Option ShelfValue) (g : List ℕ × R) (source : R) (rest : List (List ℕ × R)) where
    more : (next : ShelfValue) (hs : List ComingBytes) (named : List Named)
        → SourcesHoldSupposedContents supposed hs (g ∷ rest) named
        → ReadsAgreeWithContents supposed hs (source ∷ [])
        → HoldsForAgreeingContents (content_to_come (supposed g.1)) (content_to_come (supposed source))
        (λ c. shelf_with_next_grid grid shelf g.0 (map_denoted_by_text c) ≡ Ok next)
        → (others : List Named) × (SourcesHoldSupposedContents supposed (drop 1 hs) rest others
        × (shelf_with_remaining_grids grid shelf named ≡ shelf_with_remaining_grids (grid + 1) (Some next) others))
    unfolding shelf_with_remaining_grids
    more next [] named suppose agree one = absurd suppose
    more next (h ∷ hs) [] suppose agree one = absurd suppose
    more next (h ∷ hs) (n ∷ named) suppose agree one =
        let first : shelf_with_next_grid grid shelf g.0 (map_denoted_by_text n.1) ≡ Ok next =
        at_supposed (content_to_come (supposed g.1) h) n.1 (λ c. shelf_with_next_grid grid shelf g.0
        (map_denoted_by_text c) ≡ Ok next) suppose.0.1
        (one h agree.0) in (
          named,
          (
            suppose.1,
            ap (continue_with_remaining_grids (λ s. shelf_with_remaining_grids (grid + 1) (Some s) named))
                (ap (λ name. shelf_with_next_grid grid shelf name (map_denoted_by_text n.1)) (sym suppose.0.0) ∙ first),
          ),
        )

    fails : (f : RunFault) (hs : List ComingBytes) (named : List Named)
        → SourcesHoldSupposedContents supposed hs (g ∷ rest) named
        → ReadsAgreeWithContents supposed hs (source ∷ []) → IsInputFault f
        → HoldsForAgreeingContents (content_to_come (supposed g.1)) (content_to_come (supposed source))
        (λ c. IsInputFault f → shelf_with_next_grid grid shelf g.0 (map_denoted_by_text c) ≡ Err f)
        → shelf_with_remaining_grids grid shelf named ≡ Err f
    unfolding shelf_with_remaining_grids
    fails f [] named suppose agree input one = absurd suppose
    fails f (h ∷ hs) [] suppose agree input one = absurd suppose
    fails f (h ∷ hs) (n ∷ named) suppose agree input one =
        let first : shelf_with_next_grid grid shelf g.0 (map_denoted_by_text n.1) ≡ Err f =
        at_supposed (content_to_come (supposed g.1) h) n.1 (λ c. IsInputFault f
        → shelf_with_next_grid grid shelf g.0 (map_denoted_by_text c) ≡ Err f)
        suppose.0.1 (one h agree.0) input in
        ap (continue_with_remaining_grids (λ s. shelf_with_remaining_grids (grid + 1) (Some s) named))
        (ap (λ name. shelf_with_next_grid grid shelf name (map_denoted_by_text n.1)) (sym suppose.0.0) ∙ first)

    -- one more grid is placed, and the loading continues with the others
    pub shelf_more : (gs : List (List ℕ × R)) (next : ShelfValue) (hs : List ComingBytes) (named : List Named)
        → gs ≡ g ∷ rest
        → SourcesHoldSupposedContents supposed hs gs named → ReadsAgreeWithContents supposed hs (source ∷ [])
        → HoldsForAgreeingContents (content_to_come (supposed g.1)) (content_to_come (supposed source))
        (λ c. shelf_with_next_grid grid shelf g.0 (map_denoted_by_text c) ≡ Ok next)
        → (others : List Named) × (SourcesHoldSupposedContents supposed (drop 1 hs) rest others
        × (shelf_with_remaining_grids grid shelf named ≡ shelf_with_remaining_grids (grid + 1) (Some next) others))
    shelf_more gs next hs named is suppose agree one = more next hs named (rw is at suppose) agree one

    -- a rejected grid ends the loading
    pub shelf_fails : (gs : List (List ℕ × R)) (f : RunFault) (hs : List ComingBytes) (named : List Named)
        → gs ≡ g ∷ rest
        → SourcesHoldSupposedContents supposed hs gs named → ReadsAgreeWithContents supposed hs (source ∷ [])
        → IsInputFault f
        → HoldsForAgreeingContents (content_to_come (supposed g.1)) (content_to_come (supposed source))
        (λ c. IsInputFault f → shelf_with_next_grid grid shelf g.0 (map_denoted_by_text c) ≡ Err f)
        → shelf_with_remaining_grids grid shelf named ≡ Err f
    shelf_fails gs f hs named is suppose agree input one = fails f hs named (rw is at suppose) agree input one

  -- when no grids are left, all are placed
  pub none_left : (gs : List (List ℕ × R)) (hs : List ComingBytes) (named : List Named) → gs ≡ []
      → SourcesHoldSupposedContents supposed hs gs named → named ≡ []
  none_left gs hs named none suppose = by hs named (rw none at suppose)
    where
      by : (hs : List ComingBytes) (named : List Named) → SourcesHoldSupposedContents supposed hs [] named → named ≡ []
      by hs [] suppose = refl
      by [] (n ∷ named) suppose = absurd suppose
      by (h ∷ hs) (n ∷ named) suppose = absurd suppose

drop_suc : {A : Type 0} (n : ℕ) (xs : List A) → drop (suc n) xs ≡ drop 1 (drop n xs)
drop_suc {A} n [] = ap (drop 1) (sym (drop-nil {A = A} n))
drop_suc zero (x ∷ xs) = refl
drop_suc (suc n) (x ∷ xs) = drop_suc n xs

pub drop_one : {A : Type 0} (n : ℕ) (xs : List A) → drop (n + 1) xs ≡ drop 1 (drop n xs)
drop_one n xs = rw add-one (drop_suc n xs)

pub shelf_all : (grid : ℕ) (shelf : Option ShelfValue) → shelf_with_remaining_grids grid shelf [] ≡ Ok shelf
unfolding shelf_with_remaining_grids
shelf_all grid shelf = refl

pub no_more : {X : Type 0} (xs : List X) → length xs ≡ 0 → xs ≡ []
no_more [] e = refl
no_more (x ∷ xs) e = absurd (omega arith)

-- a name does not occur before its place
position_from-before : {K : Type 0} (t : K → Bool) (i : ℕ) (xs : List K) (p j : ℕ) → position_from t i xs ≡ Some p → i + j ≡ p → position_from t i (take j xs) ≡ None
position_from-before t i [] p j e at = cc
position_from-before t i (x ∷ xs) p zero e at = refl
position_from-before {K} t i (x ∷ xs) p (suc j) e at = by (t x) (λ h. position_from-before t (i + 1) xs p j h (omega arith)) e
  where
    by : (b : Bool) → (position_from t (i + 1) xs ≡ Some p → position_from t (i + 1) (take j xs) ≡ None)
        → cond b (Some i) (position_from t (i + 1) xs) ≡ Some p → cond b (Some i) (position_from t (i + 1) (take j xs)) ≡ None
    by true rest h = let q : i ≡ p = cc in absurd (omega arith)
    by false rest h = rest h

pub place_of-before : (name : List ℕ) (names : List (List ℕ)) (i : ℕ) → place_of_name name names ≡ Some i → place_of_name name (take i names) ≡ None
place_of-before name names i e = position_from-before _ 0 names i i e (omega arith)

-- taking one more element appends that element
take_got : {X : Type 0} (xs : List X) (i : ℕ) (x : X) → slice_get xs i ≡ Some x → take (suc i) xs ≡ take i xs ++ x ∷ []
take_got [] i x e = cc
take_got (y ∷ ys) zero x e = cc
take_got (y ∷ ys) (suc i) x e = ap (λ l. y ∷ l) (take_got ys i x e)

pub name_more : (names : List (List ℕ)) (i : ℕ) (x : List ℕ) → slice_get names i ≡ Some x → take i names ++ x ∷ [] ≡ take (i + 1) names
name_more names i x e = rw add-one (sym (take_got names i x e))
