-- Entries by the number of their patch in the full map.
use Rattle.std.proofs.Common.{◌≡◌, ◌∙◌, ℕ, ◌<◌, ◌≤◌, ◌^◌, List, [], ◌∷◌, ◌++◌, All, Bool, true, false, cond}
use Rattle.std.proofs.Common.{Option, Some, None, Vec, refl, ap, sym, subst, arith, append-nil, map, sum_by, unwrap_or}
use Rattle.std.proofs.Common.{if◌then◌else◌}
use Rattle.std.specs.Cmp.Lexicographic.{options_total}
use Rattle.std.specs.Global.{Global}
use Rattle.std.specs.List.{AllByRecursion, AllZip}
use Rattle.std.specs.List.Sorted.{IsStrictlySortedBy}
use Rattle.std.specs.Map.{keys_of, lookup}
use Rattle.std.specs.Option.{option_map}
use Rattle.std.specs.Ordering.{eq_by_cmp, is_eq, ordering_reverse}
use Rattle.std.specs.declared.cmp.Ordering.{Ordering}
use Rattle.std.specs.declared.cmp.Ordering.TheVariants.{Less, Equal, Greater}
use Rattle.std.proofs.lemmas.Cmp.{nat_cmp_total}
use Rattle.std.proofs.lemmas.List.Elements.{All-append, All-cons, All-head, All-nil, All-tail}
use Rattle.std.proofs.lemmas.List.Sums.{sum_by-append, sum_by-cons}
use Rattle.std.proofs.lemmas.Map.Lookups.{exact_unsigned}
use Rattle.cell_stats_combinations.specs.Combinations.{Combination}
use Rattle.cell_stats_combinations.specs.Listed.{CombinationsAreAscending, CombinationCounts, NoEntryCountIsZero}
use Rattle.cell_stats_combinations.specs.Listed.{ListsHaveSameCounts}
use Rattle.cell_stats_combinations.proofs.OrderLemmas.{is_equal}
use Rattle.cell_join_numbers.specs.declared.stretch.ConsecutiveClumps.{ConsecutiveClumps}
use Rattle.rcell_pipe_join.specs.PatchTables.{TileTable}
use Rattle.rcell_pipe_join.specs.PatchTables.{cell_count_of_tile_table, entries_of_number, entries_with_number}
use Rattle.rcell_pipe_join.specs.PatchTables.{full_map_number_of_cell, number_cmp, others_of_number}
use Rattle.rcell_pipe_join.specs.TableEntries.{cell_count_of_table}
use Rattle.rcell_pipe_join.specs.parts.TableCounts.{AreListedSumsOfGroups, AreSumsOfGroup, CanBeSummed, Group}
use Rattle.rcell_pipe_join.specs.parts.TableCounts.{AreListedSumsOfPatchTables, NoCountOfTileTableIsZero}
use Rattle.rcell_pipe_join.specs.parts.TableCounts.{entries_in_groups}
use Rattle.rcell_pipe_join.proofs.SumLemmas.{joined, joined-fits, joined-some, sums-are}

-- ---- numbers

pub number-exact : (n m : Option ℕ) → eq_by_cmp number_cmp n m ≡ true → n ≡ m
number-exact None None is = refl
number-exact None (Some m) is = cc
number-exact (Some n) None is = cc
number-exact (Some n) (Some m) is = ap Some (exact_unsigned n m (is_equal _ is))

turned : (n m : Option ℕ) → eq_by_cmp number_cmp n m ≡ eq_by_cmp number_cmp m n
turned n m = ap is_eq ((options_total nat_cmp_total).antisymm n m) ∙ by (number_cmp m n)
  where
    by : (o : Ordering) → is_eq (ordering_reverse o) ≡ is_eq o
    by Less = refl
    by Equal = refl
    by Greater = refl

-- ---- adding an entry to a group

abbrev items_of : Option (Vec (Combination × ℕ) Global) → CombinationCounts
items_of found = unwrap_or (option_map (λ v. v.items) found) []

-- the entries of the group, or no entries
pub items-or-new : (found : Option (Vec (Combination × ℕ) Global)) (fresh : Vec (Combination × ℕ) Global)
    → fresh.items ≡ [] → (unwrap_or found fresh).items ≡ unwrap_or (option_map (λ v. v.items) found) []
items-or-new None fresh is = is
items-or-new (Some v) fresh is = refl

-- if the group of a number is removed, and inserted with one more entry, this number has one more entry
pub entry-added : (old mid new : List Group) (number : Option ℕ) (group : Vec (Combination × ℕ) Global)
    (entry : Combination × ℕ)
    → ((q : Option ℕ) → lookup (eq_by_cmp number_cmp q) mid
    ≡ cond (eq_by_cmp number_cmp number q) None (lookup (eq_by_cmp number_cmp q) old))
    → ((q : Option ℕ) → lookup (eq_by_cmp number_cmp q) new
    ≡ cond (eq_by_cmp number_cmp number q) (Some group) (lookup (eq_by_cmp number_cmp q) mid))
    → group.items ≡ entries_in_groups number old ++ entry ∷ []
    → (n : Option ℕ) → entries_in_groups n new
    ≡ entries_in_groups n old ++ (if eq_by_cmp number_cmp n number then entry ∷ [] else [])
entry-added old mid new number group entry removed inserted items n = by (eq_by_cmp number_cmp number n) refl
  where
    by : (b : Bool) → eq_by_cmp number_cmp number n ≡ b → entries_in_groups n new
        ≡ entries_in_groups n old ++ (if eq_by_cmp number_cmp n number then entry ∷ [] else [])
    by true is =
        ap items_of (inserted n ∙ ap (λ b. cond b (Some group) (lookup (eq_by_cmp number_cmp n) mid)) is)
        ∙ items
        ∙ ap (λ (m : Option ℕ). entries_in_groups m old ++ entry ∷ []) (number-exact number n is)
        ∙ ap (λ (b : Bool). entries_in_groups n old ++ (if b then entry ∷ [] else [])) (sym (turned n number ∙ is))
    by false is =
        ap items_of (inserted n ∙ ap (λ b. cond b (Some group) (lookup (eq_by_cmp number_cmp n) mid)) is)
        ∙ ap items_of (removed n ∙ ap (λ b. cond b None (lookup (eq_by_cmp number_cmp n) old)) is)
        ∙ sym (append-nil (entries_in_groups n old))
        ∙ ap (λ (b : Bool). entries_in_groups n old ++ (if b then entry ∷ [] else [])) (sym (turned n number ∙ is))

-- ---- the entries of a number can be summed

cells-of-others : (runs : List ConsecutiveClumps) (tile : ℕ) (n : Option ℕ) (l : Combination) (count : ℕ)
    → cell_count_of_table (others_of_number runs tile n l count) ≤ count
cells-of-others runs tile n [] count = omega arith
cells-of-others runs tile n (cell ∷ others) count =
    by (eq_by_cmp number_cmp n (full_map_number_of_cell runs tile cell))
  where
    by : (b : Bool) → cell_count_of_table (if b then (others, count) ∷ [] else []) ≤ count
    by true = omega (arith, sum_by-cons (λ (entry : Combination × ℕ). entry.1) (others, count) [])
    by false = omega arith

cells-of-number : (runs : List ConsecutiveClumps) (tile : ℕ) (n : Option ℕ) (entries : CombinationCounts)
    → cell_count_of_table (entries_of_number runs n (tile, entries)) ≤ cell_count_of_table entries
cells-of-number runs tile n [] = omega arith
cells-of-number runs tile n (e ∷ es) =
    omega (
      arith,
      sum_by-append (λ (entry : Combination × ℕ). entry.1) (others_of_number runs tile n e.0 e.1)
          (entries_of_number runs n (tile, es)),
      sum_by-cons (λ (entry : Combination × ℕ). entry.1) e es,
      cells-of-others runs tile n e.0 e.1,
      cells-of-number runs tile n es,
    )

cells-of-tables : (runs : List ConsecutiveClumps) (n : Option ℕ) (tables : List TileTable)
    → sum_by cell_count_of_table (map (entries_of_number runs n) tables) ≤ sum_by cell_count_of_tile_table tables
cells-of-tables runs n [] = omega arith
cells-of-tables runs n (table ∷ tables) =
    omega (
      arith,
      sum_by-cons cell_count_of_table (entries_of_number runs n table) (map (entries_of_number runs n) tables),
      sum_by-cons cell_count_of_tile_table table tables,
      cells-of-number runs table.0 n table.1,
      cells-of-tables runs n tables,
    )

abbrev IsCounted : Combination × ℕ → Type 0
IsCounted entry = 0 < entry.1

some-of-others : (runs : List ConsecutiveClumps) (tile : ℕ) (n : Option ℕ) (l : Combination) (count : ℕ) → 0 < count
    → NoEntryCountIsZero (others_of_number runs tile n l count)
some-of-others runs tile n [] count some = All-nil IsCounted
some-of-others runs tile n (cell ∷ others) count some =
    by (eq_by_cmp number_cmp n (full_map_number_of_cell runs tile cell))
  where
    by : (b : Bool) → NoEntryCountIsZero (if b then (others, count) ∷ [] else [])
    by true = All-cons IsCounted (others, count) [] some (All-nil IsCounted)
    by false = All-nil IsCounted

some-of-number : (runs : List ConsecutiveClumps) (tile : ℕ) (n : Option ℕ) (entries : CombinationCounts)
    → NoEntryCountIsZero entries → NoEntryCountIsZero (entries_of_number runs n (tile, entries))
some-of-number runs tile n [] some = All-nil IsCounted
some-of-number runs tile n (e ∷ es) some =
    All-append IsCounted (others_of_number runs tile n e.0 e.1) (entries_of_number runs n (tile, es))
    (some-of-others runs tile n e.0 e.1 (All-head IsCounted e es some))
    (some-of-number runs tile n es (All-tail IsCounted e es some))

some-of-tables : (runs : List ConsecutiveClumps) (n : Option ℕ) (tables : List TileTable)
    → All NoCountOfTileTableIsZero tables → All NoEntryCountIsZero (map (entries_of_number runs n) tables)
some-of-tables runs n [] some = All-nil NoEntryCountIsZero
some-of-tables runs n (table ∷ tables) some =
    All-cons NoEntryCountIsZero (entries_of_number runs n table) (map (entries_of_number runs n) tables)
    (some-of-number runs table.0 n table.1 (All-head NoCountOfTileTableIsZero table tables some))
    (some-of-tables runs n tables (All-tail NoCountOfTileTableIsZero table tables some))

pub number-can-be-summed : (runs : List ConsecutiveClumps) (tables : List TileTable) (n : Option ℕ)
    → All NoCountOfTileTableIsZero tables → sum_by cell_count_of_tile_table tables < 2 ^ 64
    → CanBeSummed (joined (map (entries_of_number runs n) tables))
number-can-be-summed runs tables n some few = (
  joined-fits (map (entries_of_number runs n) tables) (omega (arith, few, cells-of-tables runs n tables)),
  joined-some (map (entries_of_number runs n) tables) (some-of-tables runs n tables some),
)

-- ---- the sums of groups

abbrev NumberSums : Type 0
NumberSums = Option ℕ × CombinationCounts

-- the next group has the entries of its number
none-before : (before : List Group) (group : Group) (rest : List Group)
    → IsStrictlySortedBy number_cmp (keys_of (before ++ group ∷ rest))
    → lookup (eq_by_cmp number_cmp group.0) (before ++ group ∷ rest) ≡ Some group.1
unfolding IsStrictlySortedBy
none-before [] group rest up =
    ap (λ b. cond b (Some group.1) (lookup (eq_by_cmp number_cmp group.0) rest))
    (same (number_cmp group.0 group.0) ((options_total nat_cmp_total).antisymm group.0 group.0))
  where
    same : (o : Ordering) → o ≡ ordering_reverse o → is_eq o ≡ true
    same Less is = cc
    same Equal is = refl
    same Greater is = cc
none-before (one ∷ before) group rest up =
    ap (λ b. cond b (Some one.1) (lookup (eq_by_cmp number_cmp group.0) (before ++ group ∷ rest)))
    (turned group.0 one.0 ∙ ap is_eq (less before up.0))
    ∙ none-before before group rest up.1
  where
    less : (before : List Group) → AllByRecursion (λ n. number_cmp one.0 n ≡ Less) (keys_of (before ++ group ∷ rest))
        → number_cmp one.0 group.0 ≡ Less
    less [] above = above.0
    less (other ∷ before) above = less before above.1

pub next-can-be-summed : (groups before : List Group) (group : Group) (rest : List Group)
    → before ++ group ∷ rest ≡ groups → IsStrictlySortedBy number_cmp (keys_of groups)
    → ((n : Option ℕ) → CanBeSummed (entries_in_groups n groups)) → CanBeSummed group.1.items
next-can-be-summed groups before group rest is up can =
    subst CanBeSummed
    (ap (λ (l : List Group). entries_in_groups group.0 l) (sym is)
    ∙ ap items_of (none-before before group rest (subst (λ (l : List Group). IsStrictlySortedBy number_cmp (keys_of l))
    (sym is) up)))
    (can group.0)

pub zip-push : {A B : Type 0} (R : A → B → Type 0) (xs : List A) (ys : List B) (x : A) (y : B) → AllZip R xs ys → R x y
    → AllZip R (xs ++ x ∷ []) (ys ++ y ∷ [])
zip-push R [] [] x y all one = (one, tt)
zip-push R [] (b ∷ ys) x y all one = absurd all
zip-push R (a ∷ xs) [] x y all one = absurd all
zip-push R (a ∷ xs) (b ∷ ys) x y all one = (all.0, zip-push R xs ys x y all.1 one)

keys-same : (groups : List Group) (sums : List NumberSums) → AllZip AreSumsOfGroup groups sums
    → keys_of sums ≡ keys_of groups
keys-same [] [] all = refl
keys-same [] (s ∷ sums) all = absurd all
keys-same (g ∷ groups) [] all = absurd all
keys-same (g ∷ groups) (s ∷ sums) all = λ i. all.0.number i ∷ keys-same groups sums all.1 i

-- the sums that are found for a number are the sums of the entries that are found
record AreSummed (entries sums : CombinationCounts) : Type 0 where
  ascending : CombinationsAreAscending sums
  no_zero : NoEntryCountIsZero sums
  counts : ListsHaveSameCounts entries sums

sums-found : (n : Option ℕ) (groups : List Group) (sums : List NumberSums) → AllZip AreSumsOfGroup groups sums
    → AreSummed (entries_in_groups n groups) (entries_with_number n sums)
unfolding IsStrictlySortedBy
sums-found n [] [] all = record { ascending = tt; no_zero = All-nil IsCounted; counts = λ k. refl }
sums-found n [] (s ∷ sums) all = absurd all
sums-found n (g ∷ groups) [] all = absurd all
sums-found n (g ∷ groups) (s ∷ sums) all =
    subst (λ (m : Option ℕ). AreSummed (entries_in_groups n (g ∷ groups)) (entries_with_number n ((m, s.1) ∷ sums)))
    (sym all.0.number) (by (eq_by_cmp number_cmp n g.0) (sums-found n groups sums all.1))
  where
    by : (b : Bool) → AreSummed (entries_in_groups n groups) (entries_with_number n sums)
        → AreSummed (items_of (cond b (Some g.1) (lookup (eq_by_cmp number_cmp n) groups)))
        (unwrap_or (cond b (Some s.1) (lookup (eq_by_cmp number_cmp n) sums)) [])
    by true rest = record { ascending = all.0.ascending; no_zero = all.0.no_zero; counts = all.0.counts }
    by false rest = rest

pub listed-sums : (runs : List ConsecutiveClumps) (tables : List TileTable) (groups : List Group)
    (numbers : List (Option ℕ)) (entries : CombinationCounts)
    → ((n : Option ℕ) → entries_in_groups n groups ≡ joined (map (entries_of_number runs n) tables))
    → AreListedSumsOfGroups groups numbers entries → AreListedSumsOfPatchTables runs tables numbers entries
listed-sums runs tables groups numbers entries of listed = record {
  sums = listed.sums;
  are = record {
    ascending = subst (IsStrictlySortedBy number_cmp) (sym (keys-same groups listed.sums listed.are)) listed.ordered;
    each = λ n.
        let found = sums-found n groups listed.sums listed.are in
        sums-are (map (entries_of_number runs n) tables) (entries_in_groups n groups)
        (entries_with_number n listed.sums) (of n) found.ascending found.no_zero found.counts;
  };
  numbers_are = listed.numbers_are;
  entries_are = listed.entries_are;
}
