-- The measures of parts that make up a patch of the full map.
use Rattle.std.proofs.Common.{◌≡◌, ◌∙◌, ℕ, ℤ, zero, suc, pos, ◌+◌, ◌-◌, ◌≤◌, Bool, true, false, cond, ◌&&◌}
use Rattle.std.proofs.Common.{List, [], ◌∷◌, All, Contains, map, count_by, sum_by, Some, None, refl, ap, sym}
use Rattle.std.proofs.Common.{subst, arith, ◌⊎◌, inl, inr, nat_le, if◌then◌else◌}
use Rattle.std.specs.List.{AllZip}
use Rattle.std.proofs.lemmas.Bool.{and_left, and_parts, and_right, le-leb, leb-true, lt-leb}
use Rattle.std.proofs.lemmas.List.Elements.{All-cons, All-contains, All-head, All-nil, All-tail}
use Rattle.std.proofs.lemmas.List.Sums.{get_or-le-sum_by, sum_by-cons}
use Rattle.cell_core_values.specs.Cell.{cell_eq}
use Rattle.cell_core.specs.Grid.{Grid, CellValue, RowsFillRegion, cell_at}
use Rattle.cell_clumps.specs.declared.clump.Joining.{Joining}
use Rattle.cell_clumps.specs.Clumps.{IsClumpMapOf}
use Rattle.cell_clumps.proofs.StartLemmas.{inside_map}
use Rattle.cell_clumps.specs.parts.CellPlaces.{position_at_row_and_column}
use Rattle.cell_patches.proofs.FullMapLemmas.{full_map}
use Rattle.cell_patches.specs.declared.patch.Patch.{Patch}
use Rattle.cell_patches.specs.declared.tile_position.TilePosition.{TilePosition}
use Rattle.cell_patches.specs.Patches.{AreMeasuresOfPatch, IsLargestWithProperty, IsSmallestWithProperty, is_in_patch}
use Rattle.cell_patches.specs.Patches.{sum_over_cells, value_or_0_outside_patch}
use Rattle.cell_patches.specs.TilePatches.{AreMeasuresOfPatchInTile, TilePatchHasCellInColumn, TilePatchHasCellInRow}
use Rattle.cell_patches.specs.TilePatches.{one_if_cell_is_core, outer_north_south_side_count_of_cell}
use Rattle.cell_patches.specs.TilePatches.{outer_west_east_side_count_of_cell, position_in_its_full_map}
use Rattle.cell_patches.specs.TilePatches.{position_of_full_map, sum_over_cells_of_tile_patch}
use Rattle.cell_join_patches.specs.JoinedPatches.{AreMeasuresOfParts, parts_of_patch}
use Rattle.cell_join_patches.specs.PatchPartLaw.{HasMeasuresInFullMap, IsTileInsideFullMap}
use Rattle.cell_join_patches.specs.PatchPartLaw.{JoinedPatchesHavePatchMeasures}
use Rattle.cell_join_patches.specs.PatchPartLaw.{PatchPlace, PlacesMakeUpPatch, place_has_cell}
use Rattle.cell_join_patches.proofs.CellSumLemmas.{cells-of-list, cells-part, cells-same}

-- ---- the cells of a tile's patch

abbrev here : PatchPlace → TilePosition
here p = position_in_its_full_map p.position

and-same : (a b x : Bool) → a ≡ true → b ≡ true → (a && (b && x)) ≡ x
and-same a b x ea eb = rw (ea, eb) refl

pub has-inside : (p : PatchPlace) (r c : ℕ) → place_has_cell (p.position.first_row + r) (p.position.first_col + c) p
    ≡ is_in_patch p.numbers p.number r c
has-inside p r c =
    let t : ℕ = p.position.first_row in
    let l : ℕ = p.position.first_col in
    let row : t + r - t ≡ r = omega arith in
    let col : l + c - l ≡ c = omega arith in
    and-same (nat_le t (t + r)) (nat_le l (l + c)) (is_in_patch p.numbers p.number (t + r - t) (l + c - l))
    (le-leb t (t + r) (omega arith)) (le-leb l (l + c) (omega arith))
    ∙ ap (λ (i : ℕ). is_in_patch p.numbers p.number i (l + c - l)) row
    ∙ ap (λ (k : ℕ). is_in_patch p.numbers p.number r k) col

pub has-parts : (p : PatchPlace) (r c : ℕ) → place_has_cell r c p ≡ true
    → (p.position.first_row ≤ r) × (p.position.first_col ≤ c)
    × (is_in_patch p.numbers p.number (r - p.position.first_row) (c - p.position.first_col) ≡ true)
has-parts p r c has =
    let t : ℕ = p.position.first_row in
    let l : ℕ = p.position.first_col in
    let rest : Bool = is_in_patch p.numbers p.number (r - t) (c - l) in
    let one = and_parts (nat_le t r) (nat_le l c && rest) has in
    let two = and_parts (nat_le l c) rest one.1 in
    (leb-true t r one.0, leb-true l c two.0, two.1)

beyond : (m : Grid) (n r c : ℕ) → RowsFillRegion m.region m.rows → (m.region.rows ≤ r) ⊎ (m.region.cols ≤ c)
    → is_in_patch m n r c ≡ false
beyond m n r c filled out = by_case (cell_at m r c) refl
  where
    never : (v : ℤ) → cell_at m r c ≡ Some v → (m.region.rows ≤ r) ⊎ (m.region.cols ≤ c) → ⊥
    never v e (inl le) =
        let row = (inside_map m (position_at_row_and_column r c) v filled e).0 in omega arith
    never v e (inr le) =
        let col = (inside_map m (position_at_row_and_column r c) v filled e).1 in omega arith

    by_case : (x : CellValue) → cell_at m r c ≡ x → is_in_patch m n r c ≡ false
    by_case None e = ap (λ (x : CellValue). cell_eq x (Some (pos n))) e
    by_case (Some v) e = absurd (never v e out)

-- ---- sums

abbrev value : (ℕ → ℕ → ℕ) → PatchPlace → ℕ → ℕ → ℕ
value f p r c = if place_has_cell r c p then f r c else 0

value-none : (f : ℕ → ℕ → ℕ) (p : PatchPlace) (r c : ℕ) → place_has_cell r c p ≡ false → value f p r c ≡ 0
value-none f p r c none = ap (λ (b : Bool). cond b (f r c) 0) none

place-sum : (full : Grid) (f : ℕ → ℕ → ℕ) (p : PatchPlace) → IsTileInsideFullMap full p
    → sum_over_cells full.region (value f p) ≡ sum_over_cells_of_tile_patch (here p) p.numbers p.number f
place-sum full f p inside =
    let t : ℕ = p.position.first_row in
    let l : ℕ = p.position.first_col in
    let rows : ℕ = p.numbers.region.rows in
    let cols : ℕ = p.numbers.region.cols in
    let lacks = λ (r c : ℕ) (out : is_in_patch p.numbers p.number (r - t) (c - l) ≡ false).
    value-none f p r c (and_right (nat_le t r) _ (and_right (nat_le l c) _ out)) in
    cells-part (value f p) t l rows cols full.region.rows full.region.cols inside.rows inside.cols
    (λ r c lt. value-none f p r c (and_left (nat_le t r) _ (lt-leb t r lt)))
    (λ r c le. lacks r c (beyond p.numbers p.number (r - t) (c - l) inside.filled (inl (omega (arith, le)))))
    (λ r c lt. value-none f p r c (and_right (nat_le t r) _ (and_left (nat_le l c) _ (lt-leb l c lt))))
    (λ r c le. lacks r c (beyond p.numbers p.number (r - t) (c - l) inside.filled (inr (omega (arith, le)))))
    ∙ cells-same (λ r c. value f p (t + r) (l + c))
    (λ r c. value_or_0_outside_patch p.numbers p.number r c (f (t + r) (l + c))) cols rows
    (λ r c lt less. ap (λ (b : Bool). cond b (f (t + r) (l + c)) 0) (has-inside p r c))

abbrev pub one_if : Bool → ℕ
one_if b = cond b 1 0

-- a list that contains an element that passes a test has at least one such element
pub count-some : {X : Type 0} (test : X → Bool) (xs : List X) (x : X) → Contains xs x → test x ≡ true
    → 1 ≤ count_by test xs
count-some test xs x (k, lt, is) passes =
    let least = get_or-le-sum_by (λ y. one_if (test y)) xs k x lt in
    let one = ap (λ y. one_if (test y)) is ∙ ap one_if passes in
    omega (arith, least, one)

none-sum : (f : ℕ → ℕ → ℕ) (r c : ℕ) (ps : List PatchPlace) → count_by (place_has_cell r c) ps ≡ 0
    → sum_by (λ p. value f p r c) ps ≡ 0
none-sum f r c [] none = refl
none-sum f r c (p ∷ ps) none =
    by (place_has_cell r c p) refl (none-sum f r c ps)
  where
    by : (b : Bool) → place_has_cell r c p ≡ b
        → (count_by (place_has_cell r c) ps ≡ 0 → sum_by (λ q. value f q r c) ps ≡ 0)
        → sum_by (λ q. value f q r c) (p ∷ ps) ≡ 0
    by true has more =
        let all = sum_by-cons (λ (q : PatchPlace). one_if (place_has_cell r c q)) p ps in
        let one : one_if (place_has_cell r c p) ≡ 1 = ap one_if has in
        absurd (omega (arith, all, one, none))
    by false has more =
        let all = sum_by-cons (λ (q : PatchPlace). one_if (place_has_cell r c q)) p ps in
        let no : one_if (place_has_cell r c p) ≡ 0 = ap one_if has in
        let rest = more (omega (arith, all, no, none)) in
        let first = value-none f p r c has in
        let sums = sum_by-cons (λ (q : PatchPlace). value f q r c) p ps in
        omega (arith, rest, first, sums)

one-sum : (f : ℕ → ℕ → ℕ) (r c : ℕ) (ps : List PatchPlace) → count_by (place_has_cell r c) ps ≡ 1
    → sum_by (λ p. value f p r c) ps ≡ f r c
one-sum f r c [] one = absurd (omega (arith, one))
one-sum f r c (p ∷ ps) one =
    by (place_has_cell r c p) refl (one-sum f r c ps)
  where
    by : (b : Bool) → place_has_cell r c p ≡ b
        → (count_by (place_has_cell r c) ps ≡ 1 → sum_by (λ q. value f q r c) ps ≡ f r c)
        → sum_by (λ q. value f q r c) (p ∷ ps) ≡ f r c
    by true has more =
        let all = sum_by-cons (λ (q : PatchPlace). one_if (place_has_cell r c q)) p ps in
        let yes : one_if (place_has_cell r c p) ≡ 1 = ap one_if has in
        let rest = none-sum f r c ps (omega (arith, all, yes, one)) in
        let first : value f p r c ≡ f r c = ap (λ (b : Bool). cond b (f r c) 0) has in
        let sums = sum_by-cons (λ (q : PatchPlace). value f q r c) p ps in
        omega (arith, rest, first, sums)
    by false has more =
        let all = sum_by-cons (λ (q : PatchPlace). one_if (place_has_cell r c q)) p ps in
        let no : one_if (place_has_cell r c p) ≡ 0 = ap one_if has in
        let rest = more (omega (arith, all, no, one)) in
        let first = value-none f p r c has in
        let sums = sum_by-cons (λ (q : PatchPlace). value f q r c) p ps in
        omega (arith, rest, first, sums)

sum-all : (g h : PatchPlace → ℕ) (ps : List PatchPlace) → All (λ p. g p ≡ h p) ps → sum_by g ps ≡ sum_by h ps
sum-all g h [] same = refl
sum-all g h (p ∷ ps) same =
    let rest = sum-all g h ps (All-tail (λ (q : PatchPlace). g q ≡ h q) p ps same) in
    let first = All-head (λ (q : PatchPlace). g q ≡ h q) p ps same in
    let one = sum_by-cons g p ps in
    let other = sum_by-cons h p ps in
    omega (arith, rest, first, one, other)

module _ (numbers : Grid) (n : ℕ) (ps : List PatchPlace) (make : PlacesMakeUpPatch numbers n ps) where
  count-in : (r c : ℕ) → is_in_patch numbers n r c ≡ true → count_by (place_has_cell r c) ps ≡ 1
  count-in r c in_patch = make.once r c ∙ ap one_if in_patch

  count-out : (r c : ℕ) → is_in_patch numbers n r c ≡ false → count_by (place_has_cell r c) ps ≡ 0
  count-out r c out = make.once r c ∙ ap one_if out

  cell-sum : (f : ℕ → ℕ → ℕ) (r c : ℕ)
      → value_or_0_outside_patch numbers n r c (f (0 + r) (0 + c)) ≡ sum_by (λ p. value f p r c) ps
  cell-sum f r c =
      let row : 0 + r ≡ r = omega arith in
      let col : 0 + c ≡ c = omega arith in
      ap (λ (i : ℕ). value_or_0_outside_patch numbers n r c (f i (0 + c))) row
      ∙ ap (λ (k : ℕ). value_or_0_outside_patch numbers n r c (f r k)) col
      ∙ by (is_in_patch numbers n r c) refl
    where
      by : (b : Bool) → is_in_patch numbers n r c ≡ b
          → value_or_0_outside_patch numbers n r c (f r c) ≡ sum_by (λ p. value f p r c) ps
      by true is =
          ap (λ (b : Bool). cond b (f r c) 0) is ∙ sym (one-sum f r c ps (count-in r c is))
      by false is =
          ap (λ (b : Bool). cond b (f r c) 0) is ∙ sym (none-sum f r c ps (count-out r c is))

  whole-sum : (f : ℕ → ℕ → ℕ) → sum_over_cells_of_tile_patch position_of_full_map numbers n f
      ≡ sum_by (λ p. sum_over_cells_of_tile_patch (here p) p.numbers p.number f) ps
  whole-sum f =
      cells-same (λ r c. value_or_0_outside_patch numbers n r c (f (0 + r) (0 + c)))
      (λ r c. sum_by (λ p. value f p r c) ps) numbers.region.cols numbers.region.rows
      (λ r c lt less. cell-sum f r c)
      ∙ cells-of-list (value f) ps numbers.region.cols numbers.region.rows
      ∙ sum-all (λ p. sum_over_cells numbers.region (value f p))
      (λ p. sum_over_cells_of_tile_patch (here p) p.numbers p.number f) ps
      (λ k d lt. place-sum numbers f _ (make.inside k d lt))

  -- ---- cells and the tiles' patches that have them

  in-patch : (p : PatchPlace) (r c : ℕ) → Contains ps p → place_has_cell r c p ≡ true
      → is_in_patch numbers n r c ≡ true
  in-patch p r c in_list has = by (is_in_patch numbers n r c) refl
    where
      by : (b : Bool) → is_in_patch numbers n r c ≡ b → b ≡ true
      by true is = refl
      by false is =
          let some = count-some (place_has_cell r c) ps p in_list has in
          let none = count-out r c is in
          absurd (omega (arith, some, none))

there : {X : Type 0} (y : X) (xs : List X) (x : X) → Contains xs x → Contains (y ∷ xs) x
there y xs x at = (suc at.0, let lt = at.1 in omega (arith, lt), at.2)

first : {X : Type 0} (x : X) (xs : List X) → Contains (x ∷ xs) x
first x xs = (0, omega arith, refl)

pub mapped : {X : Type 0} (g : X → ℕ) (xs : List X) (n : ℕ) → Contains (map g xs) n
    → (x : X) × Contains xs x × (g x ≡ n)
mapped g [] n at = absurd (let lt = at.1 in omega (arith, lt))
mapped g (x ∷ xs) n (zero, lt, is) = (x, first x xs, is)
mapped g (x ∷ xs) n (suc k, lt, is) =
    let rest = mapped g xs n (k, omega (arith, lt), is) in (rest.0, there x xs rest.0 rest.1, rest.2)

in-map : (g : Patch → ℕ) (parts : List Patch) (part : Patch) → Contains parts part → Contains (map g parts) (g part)
in-map g [] part at = absurd (let lt = at.1 in omega (arith, lt))
in-map g (q ∷ parts) part (zero, lt, is) = (0, omega arith, ap g is)
in-map g (q ∷ parts) part (suc k, lt, is) =
    there (g q) (map g parts) (g part) (in-map g parts part (k, omega (arith, lt), is))

module _ (Has : PatchPlace → Patch → Type 0) where
  owner : (ps : List PatchPlace) (parts : List Patch) (part : Patch) → AllZip Has ps parts → Contains parts part
      → (p : PatchPlace) × Contains ps p × Has p part
  owner [] [] part all at = absurd (let lt = at.1 in omega (arith, lt))
  owner [] (q ∷ parts) part all at = absurd all
  owner (p ∷ ps) [] part all at = absurd all
  owner (p ∷ ps) (q ∷ parts) part all (zero, lt, is) = (p, first p ps, subst (Has p) is all.0)
  owner (p ∷ ps) (q ∷ parts) part all (suc k, lt, is) =
      let rest = owner ps parts part all.1 (k, omega (arith, lt), is) in
      (rest.0, there p ps rest.0 rest.1, rest.2)

  covers : (r c : ℕ) (ps : List PatchPlace) (parts : List Patch) → AllZip Has ps parts
      → count_by (place_has_cell r c) ps ≡ 1
      → (p : PatchPlace) × (part : Patch) × Contains parts part × (place_has_cell r c p ≡ true) × Has p part
  covers r c [] [] all one = absurd (omega (arith, one))
  covers r c [] (q ∷ parts) all one = absurd all
  covers r c (p ∷ ps) [] all one = absurd all
  covers r c (p ∷ ps) (q ∷ parts) all one = by (place_has_cell r c p) refl (covers r c ps parts all.1)
    where
      by : (b : Bool) → place_has_cell r c p ≡ b
          → (count_by (place_has_cell r c) ps ≡ 1
          → (x : PatchPlace) × (part : Patch) × Contains parts part × (place_has_cell r c x ≡ true) × Has x part)
          → (x : PatchPlace) × (part : Patch) × Contains (q ∷ parts) part × (place_has_cell r c x ≡ true) × Has x part
      by true has more = (p, q, first q parts, has, all.0)
      by false has more =
          let total = sum_by-cons (λ (x : PatchPlace). one_if (place_has_cell r c x)) p ps in
          let no : one_if (place_has_cell r c p) ≡ 0 = ap one_if has in
          let rest = more (omega (arith, total, no, one)) in
          (rest.0, rest.1, there q parts rest.1 rest.2, rest.3, rest.4)

  zip-sum : (g : Patch → ℕ) (h : PatchPlace → ℕ) → ((p : PatchPlace) (part : Patch) → Has p part → g part ≡ h p)
      → (ps : List PatchPlace) (parts : List Patch) → AllZip Has ps parts → sum_by g parts ≡ sum_by h ps
  zip-sum g h same [] [] all = refl
  zip-sum g h same [] (q ∷ parts) all = absurd all
  zip-sum g h same (p ∷ ps) [] all = absurd all
  zip-sum g h same (p ∷ ps) (q ∷ parts) all =
      let rest = zip-sum g h same ps parts all.1 in
      let here = same p q all.0 in
      let one = sum_by-cons g q parts in
      let other = sum_by-cons h p ps in
      omega (arith, rest, here, one, other)

  module _ (ps : List PatchPlace) (parts : List Patch) (all : AllZip Has ps parts) (g : Patch → ℕ)
      (Kind : ℕ → Type 0) (KindOf : PatchPlace → ℕ → Type 0)
      (up : (p : PatchPlace) (k : ℕ) → Contains ps p → KindOf p k → Kind k)
      (down : (k : ℕ) → Kind k → (p : PatchPlace) × (part : Patch) × Contains parts part × KindOf p k × Has p part)
    where
      smallest : ((p : PatchPlace) (part : Patch) → Has p part → IsSmallestWithProperty (KindOf p) (g part)) → (n : ℕ)
          → IsSmallestWithProperty (Contains (map g parts)) n → IsSmallestWithProperty Kind n
      smallest each n is =
          let at = mapped g parts n is.some in
          let own = owner ps parts at.0 all at.1 in
          record {
            some = up own.0 n own.1 (subst (KindOf own.0) at.2 (each own.0 at.0 own.2).some);
            least = λ k kind.
                let one = down k kind in
                let below = (each one.0 one.1 one.4).least k one.3 in
                let least = is.least (g one.1) (in-map g parts one.1 one.2) in
                omega (arith, below, least);
          }

      largest : ((p : PatchPlace) (part : Patch) → Has p part → IsLargestWithProperty (KindOf p) (g part)) → (n : ℕ)
          → IsLargestWithProperty (Contains (map g parts)) n → IsLargestWithProperty Kind n
      largest each n is =
          let at = mapped g parts n is.some in
          let own = owner ps parts at.0 all at.1 in
          record {
            some = up own.0 n own.1 (subst (KindOf own.0) at.2 (each own.0 at.0 own.2).some);
            most = λ k kind.
                let one = down k kind in
                let above = (each one.0 one.1 one.4).most k one.3 in
                let most = is.most (g one.1) (in-map g parts one.1 one.2) in
                omega (arith, above, most);
          }

-- ---- the law

module _ (m numbers : Grid) (depth n : ℕ) (ps : List PatchPlace) (make : PlacesMakeUpPatch numbers n ps)
    (parts : List Patch) (all : AllZip (HasMeasuresInFullMap m depth) ps parts) where
  abbrev Has : PatchPlace → Patch → Type 0
  Has = HasMeasuresInFullMap m depth

  row-up : (p : PatchPlace) (k : ℕ) → Contains ps p → TilePatchHasCellInRow (here p) p.numbers p.number k
      → TilePatchHasCellInRow position_of_full_map numbers n k
  row-up p k in_list (r, is, (c, has)) = (
    k,
    omega arith,
    (
      p.position.first_col + c,
      subst (λ (i : ℕ). is_in_patch numbers n i (p.position.first_col + c) ≡ true) (sym is)
          (in-patch numbers n ps make p (p.position.first_row + r) (p.position.first_col + c) in_list
          (has-inside p r c ∙ has)),
    ),
  )

  col-up : (p : PatchPlace) (k : ℕ) → Contains ps p → TilePatchHasCellInColumn (here p) p.numbers p.number k
      → TilePatchHasCellInColumn position_of_full_map numbers n k
  col-up p k in_list (c, is, (r, has)) = (
    k,
    omega arith,
    (
      p.position.first_row + r,
      subst (λ (i : ℕ). is_in_patch numbers n (p.position.first_row + r) i ≡ true) (sym is)
          (in-patch numbers n ps make p (p.position.first_row + r) (p.position.first_col + c) in_list
          (has-inside p r c ∙ has)),
    ),
  )

  row-down : (k : ℕ) → TilePatchHasCellInRow position_of_full_map numbers n k
      → (p : PatchPlace) × (part : Patch) × Contains parts part
      × TilePatchHasCellInRow (here p) p.numbers p.number k × Has p part
  row-down k (r, is, (c, has)) =
      let one = covers Has r c ps parts all (count-in numbers n ps make r c has) in
      let at = has-parts one.0 r c one.3 in
      let low = at.0 in (
        one.0,
        one.1,
        one.2,
        (
          r - one.0.position.first_row,
          omega (arith, is, low),
          (c - one.0.position.first_col, at.2),
        ),
        one.4,
      )

  col-down : (k : ℕ) → TilePatchHasCellInColumn position_of_full_map numbers n k
      → (p : PatchPlace) × (part : Patch) × Contains parts part
      × TilePatchHasCellInColumn (here p) p.numbers p.number k × Has p part
  col-down k (c, is, (r, has)) =
      let one = covers Has r c ps parts all (count-in numbers n ps make r c has) in
      let at = has-parts one.0 r c one.3 in
      let low = at.1 in (
        one.0,
        one.1,
        one.2,
        (
          c - one.0.position.first_col,
          omega (arith, is, low),
          (r - one.0.position.first_row, at.2),
        ),
        one.4,
      )

  class-of : (patch : Patch) → AreMeasuresOfParts parts patch → (r c : ℕ) → is_in_patch numbers n r c ≡ true
      → cell_at m (0 + r) (0 + c) ≡ Some patch.class
  class-of patch are r c has =
      let one = covers Has r c ps parts all (count-in numbers n ps make r c has) in
      let p = one.0 in
      let at = has-parts p r c one.3 in
      let top = at.0 in
      let left = at.1 in
      let row : 0 + r ≡ p.position.first_row + (r - p.position.first_row) = omega (arith, top) in
      let col : 0 + c ≡ p.position.first_col + (c - p.position.first_col) = omega (arith, left) in
      ap (λ (i : ℕ). cell_at m i (0 + c)) row
      ∙ ap (λ (k : ℕ). cell_at m (p.position.first_row + (r - p.position.first_row)) k) col
      ∙ one.4.class (r - p.position.first_row) (c - p.position.first_col) at.2
      ∙ ap (λ (v : ℤ). Some v) (All-contains (λ (q : Patch). q.class ≡ patch.class) parts one.1 are.class one.2)

  sum-of : (g : Patch → ℕ) (f : ℕ → ℕ → ℕ)
      → ((p : PatchPlace) (part : Patch) → Has p part
      → g part ≡ sum_over_cells_of_tile_patch (here p) p.numbers p.number f)
      → sum_by g parts ≡ sum_over_cells_of_tile_patch position_of_full_map numbers n f
  sum-of g f same =
      zip-sum Has g (λ p. sum_over_cells_of_tile_patch (here p) p.numbers p.number f) same ps parts all
      ∙ sym (whole-sum numbers n ps make f)

  as-only-tile : (patch : Patch) → AreMeasuresOfParts parts patch
      → AreMeasuresOfPatchInTile m position_of_full_map numbers depth n patch
  as-only-tile patch are = record {
    class = class-of patch are;
    cells = are.cells ∙ sum-of (λ q. q.cells) (λ r c. 1) (λ p part has. has.cells);
    ends = are.ends ∙ sum-of (λ q. q.ends) (outer_north_south_side_count_of_cell m) (λ p part has. has.ends);
    flanks = are.flanks ∙ sum-of (λ q. q.flanks) (outer_west_east_side_count_of_cell m) (λ p part has. has.flanks);
    core = are.core ∙ sum-of (λ q. q.core) (one_if_cell_is_core m depth) (λ p part has. has.core);
    first_row = smallest Has ps parts all (λ q. q.first_row) (TilePatchHasCellInRow position_of_full_map numbers n)
        (λ p. TilePatchHasCellInRow (here p) p.numbers p.number) row-up row-down
        (λ p part has. has.first_row) patch.first_row are.first_row;
    last_row = largest Has ps parts all (λ q. q.last_row) (TilePatchHasCellInRow position_of_full_map numbers n)
        (λ p. TilePatchHasCellInRow (here p) p.numbers p.number) row-up row-down
        (λ p part has. has.last_row) patch.last_row are.last_row;
    first_col = smallest Has ps parts all (λ q. q.first_col) (TilePatchHasCellInColumn position_of_full_map numbers n)
        (λ p. TilePatchHasCellInColumn (here p) p.numbers p.number) col-up col-down
        (λ p part has. has.first_col) patch.first_col are.first_col;
    last_col = largest Has ps parts all (λ q. q.last_col) (TilePatchHasCellInColumn position_of_full_map numbers n)
        (λ p. TilePatchHasCellInColumn (here p) p.numbers p.number) col-up col-down
        (λ p part has. has.last_col) patch.last_col are.last_col;
  }

-- parts that make up a patch have its measures together
pub parts-make-patch : (j : Joining) (m numbers : Grid) (depth n : ℕ) → IsClumpMapOf j m numbers
    → (ps : List PatchPlace) → PlacesMakeUpPatch numbers n ps
    → (parts : List Patch) → AllZip (HasMeasuresInFullMap m depth) ps parts
    → (patch : Patch) → AreMeasuresOfParts parts patch → AreMeasuresOfPatch m numbers depth n patch
parts-make-patch j m numbers depth n clumps ps make parts all patch are =
    (full_map j m numbers depth n patch clumps).0 (as-only-tile m numbers depth n ps make parts all patch are)

pub joined-patches : JoinedPatchesHavePatchMeasures
joined-patches j m numbers depth n clumps ps make parts all patches joined patch is =
    parts-make-patch j m numbers depth n clumps ps make (parts_of_patch n parts) all patch (rw is at (joined.each n))

-- a part has its own measures
only-value : (f : Patch → ℕ) (part : Patch) (k : ℕ) → Contains (map f (part ∷ [])) k → f part ≡ k
only-value f part k (zero, lt, is) = is
only-value f part k (suc i, lt, is) = absurd (omega (arith, lt))

only-smallest : (f : Patch → ℕ) (part : Patch) → IsSmallestWithProperty (Contains (map f (part ∷ []))) (f part)
only-smallest f part = record {
  some = first (f part) [];
  least = λ k has. let is = only-value f part k has in omega (arith, is);
}

only-largest : (f : Patch → ℕ) (part : Patch) → IsLargestWithProperty (Contains (map f (part ∷ []))) (f part)
only-largest f part = record {
  some = first (f part) [];
  most = λ k has. let is = only-value f part k has in omega (arith, is);
}

pub measures-of-one : (part : Patch) → AreMeasuresOfParts (part ∷ []) part
measures-of-one part = record {
  class = All-cons (λ (p : Patch). p.class ≡ part.class) part [] refl (All-nil (λ (p : Patch). p.class ≡ part.class));
  cells = let one = sum_by-cons (λ (p : Patch). p.cells) part [] in omega (arith, one);
  ends = let one = sum_by-cons (λ (p : Patch). p.ends) part [] in omega (arith, one);
  flanks = let one = sum_by-cons (λ (p : Patch). p.flanks) part [] in omega (arith, one);
  core = let one = sum_by-cons (λ (p : Patch). p.core) part [] in omega (arith, one);
  first_row = only-smallest (λ (p : Patch). p.first_row) part;
  last_row = only-largest (λ (p : Patch). p.last_row) part;
  first_col = only-smallest (λ (p : Patch). p.first_col) part;
  last_col = only-largest (λ (p : Patch). p.last_col) part;
}
