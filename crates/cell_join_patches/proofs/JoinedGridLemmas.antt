-- Closed patches of tiles, and patches that are joined from parts in tiles, are patches of the full map.
use Rattle.std.proofs.Common.{◌≡◌, ◌∙◌, ℕ, zero, suc, pos, ◌+◌, ◌<◌, ◌≤◌, ◌==◌, ◌↔◌, Bool, true, false, cond, List, []}
use Rattle.std.proofs.Common.{◌∷◌, All, Contains, Option, Some, None, IsSome, length, map, drop, get_or, count_by}
use Rattle.std.proofs.Common.{slice_get, refl, ap, sym, subst, arith}
use Rattle.std.specs.BTreeMap.{is_at}
use Rattle.std.specs.Cmp.{unsigned_tied}
use Rattle.std.specs.List.{AllZip, filter, range_with_len}
use Rattle.std.specs.List.Sorted.{IsStrictlySortedBy}
use Rattle.std.specs.Map.{keys_of, lookup, values_of}
use Rattle.std.specs.Ordering.{eq_by_cmp, nat_cmp}
use Rattle.std.proofs.lemmas.Bool.{and_parts}
use Rattle.std.proofs.lemmas.Bool.Decides.{Decides-eqb}
use Rattle.std.proofs.lemmas.Cmp.{eq_by_cmp_equiv, nat_cmp_total}
use Rattle.std.proofs.lemmas.List.Elements.{All-cons, All-nil}
use Rattle.std.proofs.lemmas.List.FromFn.{get_or-range_with_len}
use Rattle.std.proofs.lemmas.Map.Entries.{length-keys_of, length-values_of}
use Rattle.std.proofs.lemmas.Map.Keys.{IsDistinct-from_sorted, below_from_sorted, sorted_tail}
use Rattle.std.proofs.lemmas.Map.Views.{Contains-keys_from_lookup, IsSome-lookup_from_Contains, lookup-from_Contains}
use Rattle.cell_core.specs.Grid.{Grid}
use Rattle.cell_clumps.specs.declared.clump.Joining.{Joining}
use Rattle.cell_clumps.specs.ClumpLaw.{NumberOccursInMap}
use Rattle.cell_clumps.proofs.CountLemmas.{clump_numbers_have_no_gaps}
use Rattle.cell_clumps.specs.parts.CellPlaces.{position_at_row_and_column}
use Rattle.cell_join_numbers.specs.declared.stretch.ConsecutiveClumps.{ConsecutiveClumps}
use Rattle.cell_patches.specs.declared.patch.Patch.{Patch}
use Rattle.cell_patches.specs.Patches.{AreMeasuresOfAllPatches, AreMeasuresOfPatch}
use Rattle.cell_join_patches.specs.declared.part.PatchOfTile.{PatchOfTile}
use Rattle.cell_join_patches.specs.JoinedPatches.{AreJoinedPatches, AreMeasuresOfParts, IsPatchOfParts, parts_of_patch}
use Rattle.cell_join_patches.specs.PatchNumbers.{number_in_full_map}
use Rattle.cell_join_patches.specs.PatchPartLaw.{HasMeasuresInFullMap, PatchPlace, place_has_cell}
use Rattle.cell_join_patches.specs.TileGridLaw.{AreAllPatchesOfTileGrid, ClosedPatchesAreFullMapPatches}
use Rattle.cell_join_patches.specs.TileGridLaw.{HaveSizesOfTileGrid, IsNumberedTileGrid, IsOpenPatch}
use Rattle.cell_join_patches.specs.TileGridLaw.{IsPatchOfTileGrid, JoinedPartsAreFullMapPatches}
use Rattle.cell_join_patches.specs.TileGridLaw.{JoinedPatchesAreFullMapPatches, tile_number_in_grid}
use Rattle.cell_join_patches.proofs.PatchPartLemmas.{mapped, measures-of-one, one_if, parts-make-patch}
use Rattle.cell_join_patches.proofs.TilePatchLemmas.{HaveEachPatchOnce, cell-patch, closed-once, joinable-once, make-up}
use Rattle.cell_join_patches.proofs.TilePatchLemmas.{only-part, part-occurs, patch-cell, places, places-measured}

-- ---- ascending lists

-- an ascending list that contains all numbers from a to each of its numbers is the list of the numbers from a on
from-first : (xs : List ℕ) (a : ℕ) → IsStrictlySortedBy nat_cmp xs
    → ((n : ℕ) → Contains xs n → (a ≤ n) × ((k : ℕ) → a ≤ k → k ≤ n → Contains xs k))
    → xs ≡ range_with_len a (length xs)
from-first [] a sorted full = refl
from-first (x ∷ xs) a sorted full =
    let first = full x (0, omega arith, refl) in
    let low = first.0 in
    let has = first.1 a (omega arith) low in
    let below : (i n : ℕ) → i < length xs → get_or xs i n ≡ n → x < n = λ i n lt is.
    subst (λ (m : ℕ). x < m) is (below_from_sorted (x ∷ xs) 0 (suc i) n sorted (omega arith) (omega (arith, lt))) in
    let same : x ≡ a = at-first has below low in
    let rest = from-first xs (a + 1) (sorted_tail nat_cmp x xs sorted) (λ n at.
    let above = below at.0 n at.1 at.2 in
    let all = (full n (suc at.0, (let lt = at.1 in omega (arith, lt)), at.2)).1 in (
      omega (arith, same, above),
      λ k least most. later k (omega (arith, same, least)) (all k (omega (arith, least)) most),
    )) in
    λ i. same i ∷ rest i
  where
    at-first : Contains (x ∷ xs) a → ((i n : ℕ) → i < length xs → get_or xs i n ≡ n → x < n) → a ≤ x → x ≡ a
    at-first (zero, lt, is) below low = is
    at-first (suc i, lt, is) below low =
        let above = below i a (omega (arith, lt)) is in absurd (omega (arith, above, low))

    later : (k : ℕ) → x < k → Contains (x ∷ xs) k → Contains xs k
    later k above (zero, lt, is) = absurd (omega (arith, above, is))
    later k above (suc i, lt, is) = (i, omega (arith, lt), is)

equal-keys : (x y : ℕ) → eq_by_cmp nat_cmp x y ≡ true → x ≡ y
equal-keys x y is = (Decides-eqb x y).0 (sym (unsigned_tied x y) ∙ is)

-- the values of entries whose keys are the numbers from a on
module _ {X : Type 0} where
  value-at : (es : List (ℕ × X)) (a k : ℕ) (v : X) → keys_of es ≡ range_with_len a (length es)
      → slice_get (values_of es) k ≡ Some v → Contains es (a + k, v)
  value-at [] a k v keys is = cc
  value-at (e ∷ es) a zero v keys is =
      let key : e.0 ≡ a = ap (λ (l : List ℕ). get_or l 0 0) keys in
      let here : e.0 ≡ a + 0 = omega (arith, key) in
      let value : e.1 ≡ v = cc in
      (0, omega arith, λ i. (here i, value i))
  value-at (e ∷ es) a (suc k) v keys is =
      let rest = value-at es (a + 1) k v (ap (λ (l : List ℕ). drop 1 l) keys) is in
      let next : a + 1 + k ≡ a + suc k = omega arith in
      subst (λ (n : ℕ). Contains (e ∷ es) (n, v)) next
      (suc rest.0, (let lt = rest.1 in omega (arith, lt)), rest.2)

  key-listed : (es : List (ℕ × X)) (n : ℕ) (v : X) → lookup (is_at (nat_cmp n)) es ≡ Some v → Contains (keys_of es) n
  key-listed es n v is = Contains-keys_from_lookup {eq = eq_by_cmp nat_cmp} equal-keys n es (rw is refl)

  value-of-key : (es : List (ℕ × X)) (n : ℕ) → Contains (keys_of es) n
      → (v : X) × (lookup (is_at (nat_cmp n)) es ≡ Some v)
  value-of-key es n has =
      by (lookup (is_at (nat_cmp n)) es) refl (IsSome-lookup_from_Contains (eq_by_cmp_equiv nat_cmp_total) n es has)
    where
      by : (x : Option X) → lookup (is_at (nat_cmp n)) es ≡ x → IsSome (lookup (is_at (nat_cmp n)) es)
          → (v : X) × (lookup (is_at (nat_cmp n)) es ≡ Some v)
      by None none some = let no = rw none at some in cc
      by (Some v) is some = (v, is)

  listed-value : (es : List (ℕ × X)) (n : ℕ) (v : X) → IsStrictlySortedBy nat_cmp (keys_of es) → Contains es (n, v)
      → lookup (is_at (nat_cmp n)) es ≡ Some v
  listed-value es n v sorted has =
      lookup-from_Contains (eq_by_cmp_equiv nat_cmp_total) n v es
      (IsDistinct-from_sorted nat_cmp (keys_of es) sorted) has

-- ---- parts and numbers

no-places : (Has : PatchPlace → Patch → Type 0) (ps : List PatchPlace) (parts : List Patch) (row col : ℕ)
    → AllZip Has ps parts → parts ≡ [] → count_by (place_has_cell row col) ps ≡ 0
no-places Has [] parts row col all none = refl
no-places Has (p ∷ ps) [] row col all none = absurd all
no-places Has (p ∷ ps) (part ∷ parts) row col all none = cc

abbrev pub full_map_number_of : PatchOfTile → ℕ
full_map_number_of part = part.full_map_number

-- patch n has measures of parts if and only if one of the parts has its number
module _ (n : ℕ) where
  abbrev is_of_patch : PatchOfTile → Bool
  is_of_patch part = part.full_map_number == n

  abbrev parts_with : Bool → PatchOfTile → List PatchOfTile → List Patch
  parts_with b part parts =
      map (λ (p : PatchOfTile). p.patch) (cond b (part ∷ filter is_of_patch parts) (filter is_of_patch parts))

  part-listed : (parts : List PatchOfTile) (f : Patch → ℕ) (x : ℕ) → Contains (map f (parts_of_patch n parts)) x
      → Contains (map full_map_number_of parts) n
  part-listed [] f x has = absurd (let lt = has.1 in omega (arith, lt))
  part-listed (part ∷ parts) f x has = by (is_of_patch part) refl (part-listed parts f x) has
    where
      by : (b : Bool) → is_of_patch part ≡ b
          → (Contains (map f (parts_of_patch n parts)) x → Contains (map full_map_number_of parts) n)
          → Contains (map f (parts_with b part parts)) x → Contains (map full_map_number_of (part ∷ parts)) n
      by true of more at = (0, omega arith, (Decides-eqb part.full_map_number n).0 of)
      by false of more at =
          let rest = more at in
          (suc rest.0, (let lt = rest.1 in omega (arith, lt)), rest.2)

  some-part : (parts : List PatchOfTile) → Contains (map full_map_number_of parts) n → parts_of_patch n parts ≡ []
      → ⊥
  some-part [] has none = let lt = has.1 in omega (arith, lt)
  some-part (part ∷ parts) (zero, lt, is) none =
      let of = (Decides-eqb part.full_map_number n).1 is in
      let no = rw of at none in
      cc
  some-part (part ∷ parts) (suc k, lt, is) none =
      by (is_of_patch part) (some-part parts (k, omega (arith, lt), is)) none
    where
      by : (b : Bool) → (parts_of_patch n parts ≡ [] → ⊥) → parts_with b part parts ≡ [] → ⊥
      by true more empty = cc
      by false more empty = more empty

-- ---- the joined patches

module _ (j : Joining) (whole numbers : Grid) (heights widths : List ℕ) (map_of numbers_of : ℕ → ℕ → Grid)
    (runs : List ConsecutiveClumps)
    (grid : IsNumberedTileGrid j whole numbers heights widths map_of numbers_of runs)
    (sizes : HaveSizesOfTileGrid whole heights widths numbers_of) (depth : ℕ) where
  abbrev IsPart : PatchOfTile → Type 0
  IsPart = IsPatchOfTileGrid whole heights widths numbers_of runs depth

  abbrev HaveOnce : ℕ → List PatchOfTile → Type 0
  HaveOnce n parts =
      HaveEachPatchOnce j whole numbers heights widths map_of numbers_of runs grid sizes depth n parts

  -- the measures of parts of patch n add up to its measures, if they have each tile's patch once
  parts-measured : (parts : List PatchOfTile) → All IsPart parts → (n : ℕ) → HaveOnce n parts → (patch : Patch)
      → AreMeasuresOfParts (parts_of_patch n parts) patch → AreMeasuresOfPatch whole numbers depth n patch
  parts-measured parts each n once patch are =
      parts-make-patch j whole numbers depth n grid.clumping
      (places j whole numbers heights widths map_of numbers_of runs grid sizes depth n parts each)
      (make-up j whole numbers heights widths map_of numbers_of runs grid sizes depth n parts each once)
      (parts_of_patch n parts)
      (places-measured j whole numbers heights widths map_of numbers_of runs grid sizes depth n parts each) patch are

  -- ---- a closed part

  closed-measured : (part : PatchOfTile) (is : IsPart part) → ¬ IsOpenPatch (numbers_of is.row is.col) part.number
      → AreMeasuresOfPatch whole numbers depth part.full_map_number part.patch
  closed-measured part is closed =
      let of = (Decides-eqb part.full_map_number part.full_map_number).1 refl in
      parts-measured (part ∷ []) (All-cons IsPart part [] is (All-nil IsPart)) part.full_map_number
      (closed-once j whole numbers heights widths map_of numbers_of runs grid sizes depth part.full_map_number part is
      closed refl) part.patch
      (rw of (measures-of-one part.patch))

  closed-alone : (part : PatchOfTile) (is : IsPart part) → ¬ IsOpenPatch (numbers_of is.row is.col) part.number
      → (other : PatchOfTile) → IsPart other → other.full_map_number ≡ part.full_map_number
      → (other.tile ≡ part.tile) × (other.number ≡ part.number)
  closed-alone part is closed other also same =
      let tile : ℕ = tile_number_in_grid (length widths) also.row also.col in
      let looked_up : number_in_full_map runs tile other.number ≡ Some part.full_map_number =
      ap (λ (t : ℕ). number_in_full_map runs t other.number) (sym also.tile) ∙ also.number
      ∙ ap (λ (n : ℕ). Some n) same in
      let only = only-part j whole numbers heights widths map_of numbers_of runs grid sizes depth part.full_map_number
      part is closed refl also.row also.col other.number also.in_rows also.in_cols
      (part-occurs j whole numbers heights widths map_of numbers_of runs grid sizes depth part.full_map_number other
      also) looked_up in
      let both = and_parts (part.tile == tile) (part.number == other.number) only in (
        also.tile ∙ sym ((Decides-eqb part.tile tile).0 both.0),
        sym ((Decides-eqb part.number other.number).0 both.1),
      )

  -- ---- joined parts

  module _ (parts : List PatchOfTile) (each : All IsPart parts)
      (once : (n : ℕ) → Contains (map full_map_number_of parts) n → HaveOnce n parts) (patches : List (ℕ × Patch))
      (joined : AreJoinedPatches parts patches) where
    -- a joined patch has the number of a part, and the measures of the full map's patch with its number
    module _ (n : ℕ) (patch : Patch) (is : lookup (is_at (nat_cmp n)) patches ≡ Some patch) where
      joined-listed : Contains (map full_map_number_of parts) n
      joined-listed =
          let are : AreMeasuresOfParts (parts_of_patch n parts) patch = rw is at (joined.each n) in
          part-listed n parts (λ (p : Patch). p.first_row) patch.first_row are.first_row.some

      joined-measured : AreMeasuresOfPatch whole numbers depth n patch
      joined-measured = parts-measured parts each n (once n joined-listed) patch (rw is at (joined.each n))

    key-of-part : (n : ℕ) → Contains (map full_map_number_of parts) n → Contains (keys_of patches) n
    key-of-part n has = by (lookup (is_at (nat_cmp n)) patches) refl (joined.each n)
      where
        by : (x : Option Patch) → lookup (is_at (nat_cmp n)) patches ≡ x
            → IsPatchOfParts (parts_of_patch n parts) (lookup (is_at (nat_cmp n)) patches)
            → Contains (keys_of patches) n
        by None none is = absurd (some-part n parts has (rw none at is))
        by (Some patch) found is = key-listed patches n patch found

    pub numbers-of-parts : (n : ℕ) → Contains (keys_of patches) n ↔ Contains (map full_map_number_of parts) n
    numbers-of-parts n = (
      λ has. let found = value-of-key patches n has in joined-listed n found.0 found.1,
      key-of-part n,
    )

    pub entries-measured : (n : ℕ) (patch : Patch) → Contains patches (n, patch)
        → AreMeasuresOfPatch whole numbers depth n patch
    entries-measured n patch has = joined-measured n patch (listed-value patches n patch joined.ascending has)

  -- ---- the patches of all tiles

  module _ (parts : List PatchOfTile) (are : AreAllPatchesOfTileGrid whole heights widths numbers_of runs depth parts)
      (patches : List (ℕ × Patch)) (joined : AreJoinedPatches parts patches) where
    all-once : (n : ℕ) → HaveOnce n parts
    all-once n r c k r_in c_in occurs looked_up = are.once r c k r_in c_in occurs

    joined-occurs : (n : ℕ) → Contains (keys_of patches) n → NumberOccursInMap numbers n
    joined-occurs n has =
        let found = value-of-key patches n has in
        let measures = joined-measured parts are.each (λ k _. all-once k) patches joined n found.0 found.1 in
        let row = measures.first_row in
        let cell = row.some in (
          position_at_row_and_column found.0.first_row cell.0,
          patch-cell numbers n found.0.first_row cell.0 cell.1,
        )

    -- each patch of the full map is among the joined patches
    occurs-joined : (n : ℕ) → NumberOccursInMap numbers n → Contains (keys_of patches) n
    occurs-joined n (p, is) = by (lookup (is_at (nat_cmp n)) patches) refl (joined.each n)
      where
        by : (x : Option Patch) → lookup (is_at (nat_cmp n)) patches ≡ x
            → IsPatchOfParts (parts_of_patch n parts) (lookup (is_at (nat_cmp n)) patches)
            → Contains (keys_of patches) n
        by None none each =
            let empty : parts_of_patch n parts ≡ [] = rw none at each in
            let zero_places = no-places (HasMeasuresInFullMap whole depth)
            (places j whole numbers heights widths map_of numbers_of runs grid sizes depth n parts are.each)
            (parts_of_patch n parts) p.row p.col
            (places-measured j whole numbers heights widths map_of numbers_of runs grid sizes depth n parts are.each)
            empty in
            let one_place = (make-up j whole numbers heights widths map_of numbers_of runs grid sizes depth n parts
            are.each (all-once n)).once p.row p.col in
            let in_patch = ap one_if (cell-patch numbers n p.row p.col is) in
            absurd (omega (arith, zero_places, one_place, in_patch))
        by (Some patch) found each = key-listed patches n patch found

    pub numbered : keys_of patches ≡ range_with_len 1 (length patches)
    numbered =
        from-first (keys_of patches) 1 joined.ascending (λ n has.
        let at = joined-occurs n has in
        let cell = at.1 in
        let no_gaps = clump_numbers_have_no_gaps j whole numbers grid.clumping at.0 (rw cell refl) in
        let both : Some (pos no_gaps.0) ≡ Some (pos n) = sym no_gaps.1 ∙ cell in
        let same : no_gaps.0 ≡ n = cc in
        let low = no_gaps.2 in (
          omega (arith, low, same),
          λ k least most. occurs-joined k (no_gaps.3 k least (omega (arith, most, same))),
        ))
        ∙ ap (λ (count : ℕ). range_with_len 1 count) (length-keys_of patches)

    pub all-measured : AreMeasuresOfAllPatches whole numbers depth (values_of patches)
    all-measured = record {
      each = λ k patch is.
          let next : 1 + k ≡ k + 1 = omega arith in
          subst (λ (n : ℕ). AreMeasuresOfPatch whole numbers depth n patch) next
          (entries-measured parts are.each (λ n _. all-once n) patches joined (1 + k) patch
          (value-at patches 1 k patch numbered is));
      all = λ r c n is.
          let has = occurs-joined n (position_at_row_and_column r c, is) in
          let lt = has.1 in
          let long = length-keys_of patches in
          let values = length-values_of patches in
          let at : 1 + has.0 ≡ n =
          sym (get_or-range_with_len 1 (length patches) has.0 n (omega (arith, lt, long)))
          ∙ ap (λ (l : List ℕ). get_or l has.0 n) (sym numbered)
          ∙ has.2 in
          omega (arith, at, lt, long, values);
    }

pub closed-are-full : ClosedPatchesAreFullMapPatches
closed-are-full j whole numbers heights widths map_of numbers_of runs grid sizes depth part is closed = (
  closed-measured j whole numbers heights widths map_of numbers_of runs grid sizes depth part is closed,
  closed-alone j whole numbers heights widths map_of numbers_of runs grid sizes depth part is closed,
)

pub parts-are-full : JoinedPartsAreFullMapPatches
parts-are-full j whole numbers heights widths map_of numbers_of runs grid sizes depth parts are patches joined =
    let once = λ (n : ℕ) (has : Contains (map full_map_number_of parts) n).
    let part = mapped full_map_number_of parts n has in
    joinable-once j whole numbers heights widths map_of numbers_of runs grid sizes depth n parts are part.0 part.1
    part.2 in
    let numbers_same = numbers-of-parts j whole numbers heights widths map_of numbers_of runs grid sizes depth parts
    are.each once patches joined in
    let measured = entries-measured j whole numbers heights widths map_of numbers_of runs grid sizes depth parts
    are.each once patches joined in
    (joined.ascending, numbers_same, measured)

pub joined-are-full : JoinedPatchesAreFullMapPatches
joined-are-full j whole numbers heights widths map_of numbers_of runs grid sizes depth parts are patches joined = (
  numbered j whole numbers heights widths map_of numbers_of runs grid sizes depth parts are patches joined,
  all-measured j whole numbers heights widths map_of numbers_of runs grid sizes depth parts are patches joined,
)
