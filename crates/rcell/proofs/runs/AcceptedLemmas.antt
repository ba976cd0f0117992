-- An accepted script over grids of one region has an output.
use Rattle.std.proofs.Common.{◌≡◌, ◌≢◌, ℕ, suc, ◌+◌, ◌<◌, Bool, false, List, [], ◌∷◌, ◌++◌, length, map, get_or, All, Option, Some, None, Ok, refl, ap, sym, ◌∙◌, arith, append_assoc, append-nil, length-append}
use Rattle.std.specs.Prelude.{bytes_eq, nat_lt}
use Rattle.std.specs.List.{AllZip, position_from}
use Rattle.std.proofs.lemmas.Bool.Decides.{nat_tests}
use Rattle.std.proofs.lemmas.Slice.Eq.{bytes_eq-Decides}
use Rattle.cell_core_devices.specs.Device.{ComingBytes}
use Rattle.cell_core.specs.Grid.{Grid}
use Rattle.cell_core_values.specs.Name.{place_of_name, AreDistinctNames}
use Rattle.cell_core.specs.Shelf.{ShelfValue}
use Rattle.cell_ascii_meaning.specs.CellTexts.{map_denoted_by_text}
use Rattle.cell_ascii_meaning.specs.GridText.{SourceDenotesMap}
use Rattle.cell_ascii_law.proofs.GridLawLemmas.{reading_agrees}
use Rattle.rcell.proofs.LoadingLemmas.{added-same, differs}
use Rattle.rcell.specs.runs.Accepted.{ShelfHoldsGrids, AreGridsAndScriptAccepted}
use Rattle.rcell.specs.Making.{shelf_with_map_at_end}
use Rattle.rcell.specs.Loading.{shelf_with_next_grid, shelf_of_one_map, shelf_with_remaining_grids}
use Rattle.rcell.specs.Loading.{continue_with_remaining_grids}
use Rattle.rcell.specs.ScriptText.{script_text_or_fault}
use Rattle.rcell.specs.runs.Endings.{AreGridsAndScriptRead}
use Rattle.rcell.specs.runs.Outcomes.{WritesOutputUnlessStopped}
use Rattle.rcell.specs.declared.outcome.Outcome.{Outcome}
use Rattle.rcell.specs.Sources.{Named}
use Rattle.rcell_script.specs.declared.statement.Statement.{Statement}

name_at : (front : List (List ℕ)) (name : List ℕ) (back : List (List ℕ)) (d : List ℕ) → get_or (front ++ name ∷ back) (length front) d ≡ name
name_at [] name back d = refl
name_at (x ∷ front) name back d = name_at front name back d

free_from : (start : ℕ) (front : List (List ℕ)) (name : List ℕ) (back : List (List ℕ)) → AreDistinctNames (front ++ name ∷ back) → position_from (λ n. bytes_eq n name) start front ≡ None
free_from start [] name back distinct = refl
free_from start (x ∷ xs) name back distinct =
    let apart : x ≢ name = λ e. distinct 0 (suc (length xs)) name (omega arith) (omega (arith, length-append xs (name ∷ back))) (e ∙ sym (name_at xs name back name)) in
    let other : bytes_eq x name ≡ false = differs _ (λ t. apart ((bytes_eq-Decides x name).0 t)) in
    rw other (free_from (start + 1) xs name back (λ i j d lt within. distinct (suc i) (suc j) d (omega arith) (omega arith)))

-- if names are distinct, a name does not occur before its place
free : (front : List (List ℕ)) (name : List ℕ) (back : List (List ℕ)) → AreDistinctNames (front ++ name ∷ back) → place_of_name name front ≡ None
free front name back distinct = free_from 0 front name back distinct

-- each grid's text denotes the map at its place
abbrev pub AllDenote : List Named → List Grid → Type 0
AllDenote grids maps = AllZip (λ g m. SourceDenotesMap g.1 m) grids maps

abbrev pub names_of : List Named → List (List ℕ)
names_of gs = map (λ g. g.0) gs

abbrev pub with_all : ShelfValue → List Named → List Grid → ShelfValue
with_all shelf gs ms = record { region = shelf.region; names = shelf.names ++ names_of gs; maps = shelf.maps ++ ms }

one_placed : (grid : ℕ) (shelf : ShelfValue) (g : Named) (m : Grid) (back : List (List ℕ)) → SourceDenotesMap g.1 m → AreDistinctNames (shelf.names ++ g.0 ∷ back) → m.region ≡ shelf.region
    → shelf_with_next_grid grid (Some shelf) g.0 (map_denoted_by_text g.1) ≡ Ok (shelf_with_map_at_end shelf g.0 m)
one_placed grid shelf g m back denotes distinct same = rw ((reading_agrees g.1 m).1 denotes) (added-same grid shelf g.0 m (free shelf.names g.0 back distinct) same)

-- grids of the shelf's region under new names are all placed
all_placed : (gs : List Named) (ms : List Grid) (grid : ℕ) (shelf : ShelfValue) → AllDenote gs ms → AreDistinctNames (shelf.names ++ names_of gs) → All (λ m. m.region ≡ shelf.region) ms
    → shelf_with_remaining_grids grid (Some shelf) gs ≡ Ok (Some (with_all shelf gs ms))
unfolding shelf_with_remaining_grids
all_placed [] [] grid shelf denote distinct same = λ i. Ok (Some (record { region = shelf.region; names = sym (append-nil shelf.names) i; maps = sym (append-nil shelf.maps) i }))
all_placed [] (m ∷ ms) grid shelf denote distinct same = absurd denote
all_placed (g ∷ gs) [] grid shelf denote distinct same = absurd denote
all_placed (g ∷ gs) (m ∷ ms) grid shelf denote distinct same =
    let one = one_placed grid shelf g m (names_of gs) denote.0 distinct (same 0 m (omega arith)) in
    let names : (shelf.names ++ g.0 ∷ []) ++ names_of gs ≡ shelf.names ++ names_of (g ∷ gs) = append_assoc shelf.names (g.0 ∷ []) (names_of gs) in
    let maps : (shelf.maps ++ m ∷ []) ++ ms ≡ shelf.maps ++ m ∷ ms = append_assoc shelf.maps (m ∷ []) ms in
    ap (continue_with_remaining_grids (λ s. shelf_with_remaining_grids (grid + 1) (Some s) gs)) one
    ∙ all_placed gs ms (grid + 1) (shelf_with_map_at_end shelf g.0 m) denote.1 (rw names distinct) (λ k d h. same (suc k) d (omega arith))
    ∙ (λ i. Ok (Some (record { region = shelf.region; names = names i; maps = maps i })))

-- the first grid creates the shelf
pub all_loaded : (gs : List Named) (shelf : ShelfValue) → ShelfHoldsGrids gs shelf
    → shelf_with_remaining_grids 0 None gs ≡ Ok (Some shelf)
unfolding shelf_with_remaining_grids
all_loaded gs shelf are = by gs shelf.maps are.some are.denote are.names are.distinct are.one_region refl
  where
    by : (gs : List Named) (ms : List Grid) → 0 < length gs → AllDenote gs ms → shelf.names ≡ names_of gs → AreDistinctNames shelf.names → All (λ m. m.region ≡ shelf.region) ms → ms ≡ shelf.maps → shelf_with_remaining_grids 0 None gs ≡ Ok (Some shelf)
    by [] ms some denote names distinct same maps = absurd (omega arith)
    by (g ∷ gs) [] some denote names distinct same maps = absurd denote
    by (g ∷ gs) (m ∷ ms) some denote names distinct same maps =
        let region : m.region ≡ shelf.region = same 0 m (omega arith) in
        let first : shelf_with_next_grid 0 None g.0 (map_denoted_by_text g.1) ≡ Ok (shelf_of_one_map g.0 m) = rw ((reading_agrees g.1 m).1 denote.0) refl in
        ap (continue_with_remaining_grids (λ s. shelf_with_remaining_grids (0 + 1) (Some s) gs)) first
        ∙ all_placed gs ms (0 + 1) (shelf_of_one_map g.0 m) denote.1 (rw names at distinct) (λ k d h. same (suc k) d (omega arith) ∙ sym region)
        ∙ (λ i. Ok (Some (record { region = region i; names = sym names i; maps = maps i })))

-- an accepted script over grids is read completely
accepted_read : (grids : List Named) (script : ComingBytes) (shelf : ShelfValue) (statements : List Statement) → AreGridsAndScriptAccepted grids script shelf statements → AreGridsAndScriptRead grids script shelf statements
accepted_read grids script shelf statements ok =
    let short : nat_lt 1048576 (length script.bytes) ≡ false = let h = ok.short in grind (arith, nat_tests) in
    let text : script_text_or_fault script ≡ Ok script.bytes = rw (short, ok.ends) refl in
    record { loaded = all_loaded grids shelf ok.loaded; reads = record { text = script.bytes; bytes = text; denoted = ok.denoted } }

-- the text written for any script that is read is written for an accepted script over grids
pub when_accepted : (grids : List Named) (script : ComingBytes) (shelf : ShelfValue) (statements : List Statement) (before now : Option (List ℕ)) (failed : Bool) (outcome : Outcome)
    → (AreGridsAndScriptRead grids script shelf statements → WritesOutputUnlessStopped shelf statements before now failed outcome) → AreGridsAndScriptAccepted grids script shelf statements → WritesOutputUnlessStopped shelf statements before now failed outcome
when_accepted grids script shelf statements before now failed outcome whole ok = whole (accepted_read grids script shelf statements ok)
