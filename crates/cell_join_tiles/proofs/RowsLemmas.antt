-- Adding one more row of tiles to joined rows.
use Rattle.std.proofs.Common.{◌≡◌, ℕ, zero, suc, ◌+◌, ◌<◌, ◌≤◌, [], ◌∷◌, ◌++◌, List, take, length, refl, ap, sym, ◌∙◌, arith, subst, inl, inr, ⊎_elim}
use Rattle.std.specs.Prelude.{sum_by, flat_map, Contains}
use Rattle.std.specs.List.{range_with_len}
use Rattle.std.proofs.lemmas.Bool.{cases_lt}
use Rattle.std.proofs.lemmas.List.{map-append, length-map, length_push, get_or_append_left, get_or_push, take-append-le}
use Rattle.std.proofs.lemmas.List.Concat.{flat_map-cons}
use Rattle.std.proofs.lemmas.List.Sums.{sum_by-append, sum_by-cons}
use Rattle.std.proofs.lemmas.List.Elements.{Contains-append_left, Contains-append_right, Contains-append_cases}
use Rattle.cell_clumps.specs.declared.clump.Joining.{Joining}
use Rattle.cell_join_tiles.specs.Beginnings.{BegunClumpCountsByRow, clump_count_of_tile_row, clump_count_of_tile_grid}
use Rattle.cell_join_tiles.specs.SeamLines.{UnfinishedConsecutiveClumps, label_pairs_of_adjacent_lines}
use Rattle.cell_join_tiles.specs.Values.{TileBorderValue}
use Rattle.cell_join_tiles.specs.JoinedBorders.{begun_clump_counts_of_grid}
use Rattle.cell_join_tiles.specs.JoinedTiles.{TileJoinerValue, JoinerHasJoinedTileRows, tile_row_at, first_label_of_tile_row, labelled_row_above_tile_row, label_pairs_of_tile_row, label_pairs_of_tile_row_at, clump_labels_of_tiles_in_row, clump_labels_of_tiles_in_row_at}
use Rattle.cell_join_tiles.specs.parts.RowMarks.{AddsLabelPairs, begun_clump_counts_of_tile_row}
use Rattle.cell_join_tiles.specs.parts.RowMarks.{labelled_first_rows_of_tiles}
use Rattle.cell_join_tiles.specs.parts.RowMarks.{labelled_last_rows_of_tiles, label_pairs_within_tile_row}
use Rattle.cell_join_tiles.proofs.LabelSums.{all-of}
use Rattle.cell_join_tiles.proofs.RowLabelLemmas.{lists-more}

pub lists-same : {X : Type 0} (f g : ℕ → List X) (a n : ℕ) → ((k : ℕ) → k < a + n → f k ≡ g k) → flat_map f (range_with_len a n) ≡ flat_map g (range_with_len a n)
lists-same f g a zero same = refl
lists-same f g a (suc n) same =
    let first : f a ≡ g a = same a (omega arith) in
    let rest = lists-same f g (a + 1) n (λ k lt. same k (omega (arith, lt))) in
    flat_map-cons f a (range_with_len (a + 1) n) ∙ (λ i. first i ++ rest i) ∙ sym (flat_map-cons g a (range_with_len (a + 1) n))

module _ (grid : List (List TileBorderValue)) (row : List TileBorderValue) where
  abbrev more : List (List TileBorderValue)
  more = grid ++ row ∷ []

  abbrev high : ℕ
  high = length grid

  begun-more : begun_clump_counts_of_grid more ≡ begun_clump_counts_of_grid grid ++ begun_clump_counts_of_tile_row row
      ∷ []
  begun-more = map-append begun_clump_counts_of_tile_row grid (row ∷ [])

  begun-high : length (begun_clump_counts_of_grid grid) ≡ high
  begun-high = length-map grid begun_clump_counts_of_tile_row

  long-more : length more ≡ high + 1
  long-more = length_push grid row

  base-same : (r : ℕ) → r ≤ high → first_label_of_tile_row more r ≡ first_label_of_tile_row grid r
  base-same r le =
      ap (λ (g : List (List BegunClumpCountsByRow)). sum_by clump_count_of_tile_row (take r g)) begun-more
      ∙ ap (sum_by clump_count_of_tile_row) (take-append-le r (begun_clump_counts_of_grid grid)
      (begun_clump_counts_of_tile_row row
      ∷ []) (omega (arith, le, begun-high)))

  base-last : first_label_of_tile_row more high ≡ clump_count_of_tile_grid (begun_clump_counts_of_grid grid)
  base-last = base-same high (omega arith) ∙ all-of clump_count_of_tile_row (begun_clump_counts_of_grid grid) high
      (omega (arith, begun-high))

  row-same : (r : ℕ) → r < high → tile_row_at more r ≡ tile_row_at grid r
  row-same r lt = get_or_append_left grid (row ∷ []) [] r lt

  row-last : tile_row_at more high ≡ row
  row-last = get_or_push grid row [] high refl

  above-same : (r : ℕ) → r ≤ high → labelled_row_above_tile_row more r ≡ labelled_row_above_tile_row grid r
  above-same zero le = refl
  above-same (suc r) le =
      let base = base-same r (omega (arith, le)) in
      let tiles = row-same r (omega (arith, le)) in
      λ i. labelled_last_rows_of_tiles (base i) (tiles i) (length (tiles i))

  pairs-same : (j : Joining) (r : ℕ) → r < high → label_pairs_of_tile_row_at j more r
      ≡ label_pairs_of_tile_row_at j grid r
  pairs-same j r lt =
      let above = above-same r (omega (arith, lt)) in
      let base = base-same r (omega (arith, lt)) in
      let tiles = row-same r lt in
      λ i. label_pairs_of_tile_row j (above i) (base i) (tiles i)

  tiles-same : (r : ℕ) → r < high → clump_labels_of_tiles_in_row_at more r ≡ clump_labels_of_tiles_in_row_at grid r
  tiles-same r lt =
      let base = base-same r (omega (arith, lt)) in
      let tiles = row-same r lt in
      λ i. clump_labels_of_tiles_in_row (base i) (tiles i)

  module _ (old new : TileJoinerValue) (mid : List (ℕ × ℕ)) (are : JoinerHasJoinedTileRows grid old)
      (joining : new.joining ≡ old.joining)
      (clumps : new.clumps ≡ old.clumps + clump_count_of_tile_row (begun_clump_counts_of_tile_row row))
      (within : AddsLabelPairs old.pairs mid (label_pairs_within_tile_row old.joining old.clumps row (length row)))
      (meet : AddsLabelPairs mid new.pairs (label_pairs_of_adjacent_lines old.joining old.above
      (labelled_first_rows_of_tiles old.clumps row (length row))))
      (above : new.above ≡ labelled_last_rows_of_tiles old.clumps row (length row))
      (tiles : new.tiles ≡ old.tiles ++ clump_labels_of_tiles_in_row old.clumps row) where
    abbrev j : Joining
    j = old.joining

    base-is : first_label_of_tile_row more high ≡ old.clumps
    base-is = base-last ∙ sym are.clumps

    pairs-last : label_pairs_of_tile_row_at j more high ≡ label_pairs_of_tile_row j old.above old.clumps row
    pairs-last =
        let line = above-same high (omega arith) ∙ sym are.above in
        λ i. label_pairs_of_tile_row j (line i) (base-is i) (row-last i)

    tiles-last : clump_labels_of_tiles_in_row_at more high ≡ clump_labels_of_tiles_in_row old.clumps row
    tiles-last = λ i. clump_labels_of_tiles_in_row (base-is i) (row-last i)

    abbrev AtRows : Joining → ℕ × ℕ → Type 0
    AtRows k x = (r : ℕ) × (r < length more) × Contains (label_pairs_of_tile_row_at k more r) x

    all-there : (x : ℕ × ℕ) → Contains new.pairs x → AtRows j x
    all-there x h =
        let last : Contains (label_pairs_of_tile_row j old.above old.clumps row) x → AtRows j x = λ c. (high, omega (arith, long-more), subst (λ (ps : List (ℕ × ℕ)). Contains ps x) (sym pairs-last) c) in
        ⊎_elim
        (λ in_mid. ⊎_elim
        (λ in_old.
        let t = (are.pairs x).0 in_old in
        (t.0, omega (arith, t.1, long-more), subst (λ (ps : List (ℕ × ℕ)). Contains ps x) (sym (pairs-same j t.0 t.1)) t.2))
        (λ c. last (Contains-append_right (label_pairs_of_adjacent_lines j old.above (labelled_first_rows_of_tiles old.clumps row (length row))) (label_pairs_within_tile_row j old.clumps row (length row)) x c))
        ((within x).0 in_mid))
        (λ c. last (Contains-append_left (label_pairs_of_adjacent_lines j old.above (labelled_first_rows_of_tiles old.clumps row (length row))) (label_pairs_within_tile_row j old.clumps row (length row)) x c))
        ((meet x).0 h)

    none-else : (x : ℕ × ℕ) → AtRows j x → Contains new.pairs x
    none-else x t =
        ⊎_elim
        (λ lt. (meet x).1 (inl ((within x).1 (inl ((are.pairs x).1 (t.0, lt, subst (λ (ps : List (ℕ × ℕ)). Contains ps x) (pairs-same j t.0 lt) t.2))))))
        (λ ge.
        let e : t.0 ≡ high = omega (arith, ge, t.1, long-more) in
        let here = subst (λ (r : ℕ). Contains (label_pairs_of_tile_row_at j more r) x) e t.2 in
        ⊎_elim (λ c. (meet x).1 (inr c)) (λ c. (meet x).1 (inl ((within x).1 (inr c))))
        (Contains-append_cases (label_pairs_of_adjacent_lines j old.above (labelled_first_rows_of_tiles old.clumps row (length row))) (label_pairs_within_tile_row j old.clumps row (length row)) x (subst (λ (ps : List (ℕ × ℕ)). Contains ps x) pairs-last here)))
        (cases_lt t.0 high)

    pub joined-more : JoinerHasJoinedTileRows more new
    joined-more = record {
      clumps =
          let all : clump_count_of_tile_grid (begun_clump_counts_of_grid more) ≡ sum_by clump_count_of_tile_row (begun_clump_counts_of_grid grid ++ begun_clump_counts_of_tile_row row ∷ []) = ap (λ (g : List (List BegunClumpCountsByRow)). sum_by clump_count_of_tile_row g) begun-more in
          omega (arith, clumps, are.clumps, all, sum_by-append clump_count_of_tile_row (begun_clump_counts_of_grid grid) (begun_clump_counts_of_tile_row row ∷ []), sum_by-cons clump_count_of_tile_row (begun_clump_counts_of_tile_row row) []);
      pairs = λ x. subst (λ (k : Joining). (Contains new.pairs x → AtRows k x) × (AtRows k x → Contains new.pairs x)) (sym joining) (all-there x, none-else x);
      above =
          let one : suc high ≡ length more = omega (arith, long-more) in
          above ∙ sym (λ i. labelled_last_rows_of_tiles (base-is i) (row-last i) (length (row-last i)))
          ∙ ap (labelled_row_above_tile_row more) one;
      tiles =
          tiles ∙ ap (λ (l : List (List ℕ)). l ++ clump_labels_of_tiles_in_row old.clumps row) (are.tiles ∙ sym (lists-same (clump_labels_of_tiles_in_row_at more) (clump_labels_of_tiles_in_row_at grid) 0 high (λ r lt. tiles-same r (omega (arith, lt)))))
          ∙ ap (λ (l : List (List ℕ)). flat_map (clump_labels_of_tiles_in_row_at more) (range_with_len 0 high)
          ++ l) (sym tiles-last)
          ∙ sym (ap (λ (n : ℕ). flat_map (clump_labels_of_tiles_in_row_at more) (range_with_len 0 n)) long-more ∙ lists-more (clump_labels_of_tiles_in_row_at more) high);
    }

-- before any row of tiles, nothing is joined
pub joined-none : (j : Joining) → JoinerHasJoinedTileRows [] (record { joining = j; clumps = 0; pairs = []; above = []; tiles = [] })
joined-none j = record {
  clumps = refl;
  pairs = λ x. (λ h. absurd (omega (arith, h.1)), λ t. absurd (omega (arith, t.1)));
  above = refl;
  tiles = refl;
}

pub joined-nothing : (j : Joining) (pairs : List (ℕ × ℕ)) (above : UnfinishedConsecutiveClumps) (tiles : List (List ℕ)) → pairs ≡ [] → above ≡ [] → tiles ≡ [] → JoinerHasJoinedTileRows [] (record { joining = j; clumps = 0; pairs = pairs; above = above; tiles = tiles })
joined-nothing j pairs above tiles no_pairs no_above no_tiles =
    let none : TileJoinerValue = record { joining = j; clumps = 0; pairs = []; above = []; tiles = [] } in
    let some : TileJoinerValue = record { joining = j; clumps = 0; pairs = pairs; above = above; tiles = tiles } in
    let same : none ≡ some = λ i. record { joining = j; clumps = 0; pairs = sym no_pairs i; above = sym no_above i; tiles = sym no_tiles i } in
    subst (JoinerHasJoinedTileRows []) same (joined-none j)
