-- The header lines of a text, compared with the definition of its header.
use Rattle.std.proofs.Common.{◌≡◌, ℕ, ℤ, suc, ◌+◌, List, [], ◌∷◌, ◌++◌, Option, Some, None, Bool, true, false, cond, not, is_some, length, take, drop, map, refl, ap, sym, ◌∙◌, arith, Result, Ok, Err, subst, slice_get, ◌⊎◌, inl, inr, if◌then◌else◌}
use Rattle.std.specs.Prelude.{codes, bytes_eq, IsSome, unwrap_or}
use Rattle.std.specs.Option.{option_map, option_and_then}
use Rattle.std.specs.List.{All, AllByRecursion, IsDistinct, find, filter, flat_map, prefix_len}
use Rattle.std.proofs.lemmas.Bool.{cases_Bool, both_ways}
use Rattle.std.proofs.lemmas.Slice.Eq.{bytes_eq-Decides}
use Rattle.std.proofs.lemmas.List.Elements.{All-nil, All-cons, All-head, All-tail}
use Rattle.cell_core.specs.Grid.{Grid, empty_category_labels}
use Rattle.cell_ascii_meaning.specs.EdgeNumbers.{coordinate_of_text, row_or_column_count_of_text}
use Rattle.cell_ascii_meaning.specs.EdgeNumbers.{whole_number_in_category_range}
use Rattle.cell_ascii_meaning.specs.KeyNames.{header_key_with_name}
use Rattle.cell_ascii_meaning.specs.Header.{GridHeaderContents, HeaderKeyValues, empty_header_key_values, key_values_with_header_key, header_defined_by_keys, has_colon, usual_null_text, usual_multiplier}
use Rattle.cell_ascii_meaning.specs.GridText.{is_data_line, is_header_line, header_lines, data_words, key_text_of_header_line, values_of_header_line, value_of_header_key, HeaderLinesFormHeader, WordsDenoteCells, read_value_or_default, null_text, int_type_of_text}
use Rattle.cell_ascii_meaning.specs.declared.header_key.HeaderKey.{HeaderKey}
use Rattle.cell_ascii_meaning.specs.declared.header_key.HeaderKey.TheVariants.{North, South, East, West, Rows, Cols, Null, CellType, Multiplier}
use Rattle.cell_ascii_meaning.specs.declared.grid_fault.GridKind.{GridKind}
use Rattle.cell_ascii_law.proofs.LexemeLemmas.{Lines}
use Rattle.cell_ascii_law.proofs.DataLawLemmas.{all_words, whole_grid}
use Rattle.cell_ascii_law.proofs.HeaderLawLemmas.{take_by, take_text, take_data, at_header, with_line, with_values, after_key}
use Rattle.cell_ascii_law.proofs.KeyLawLemmas.{Value, Number, Count, Text, held, number_of, IsGiven, key_given, key_known, key_taken, IsHeaderOf, header_given, header_kept}
use Rattle.cell_ascii_law.proofs.GridCellLemmas.{cells_read, cells_taken}

-- The header lines, and then the words of the data.
abbrev pub then_keys : Result HeaderKeyValues GridKind → (HeaderKeyValues → Result HeaderKeyValues GridKind)
    → Result HeaderKeyValues GridKind
then_keys (Ok keys) rest = rest keys
then_keys (Err kind) rest = Err kind

abbrev pub with_lines : HeaderKeyValues → Lines → Result HeaderKeyValues GridKind
with_lines keys [] = Ok keys
with_lines keys (l ∷ ls) = then_keys (with_line keys l) (λ k. with_lines k ls)

abbrev no_data : List (List ℕ) → Bool
no_data l = not (is_data_line l)

one_more : (n : ℕ) → 1 + n ≡ suc n
one_more n = omega arith

pub text_parts : {Y : Type 0} (take_words : HeaderKeyValues → List (List ℕ)
    → Option Y) (ls : Lines) (keys : HeaderKeyValues)
    → take_by take_words keys ls ≡ after_key (with_lines keys (header_lines ls)) (λ k. take_words k (data_words ls))
text_parts take_words [] keys = refl
text_parts take_words ([] ∷ ls) keys =
    text_parts take_words ls keys
    ∙ ap (λ (n : ℕ). after_key (with_lines keys (filter is_header_line (take n ([] ∷ ls)))) (λ k. take_words k (flat_map (λ l. l) (drop n ([] ∷ ls))))) (sym (one_more (prefix_len no_data ls)))
text_parts take_words ((w ∷ ws) ∷ ls) keys = by (has_colon w) refl (text_parts take_words ls)
  where
    keyed : (r : Result HeaderKeyValues GridKind)
        → ((k : HeaderKeyValues) → take_by take_words k ls ≡ after_key (with_lines k (header_lines ls))
        (λ k. take_words k (data_words ls)))
        → after_key r (λ k. take_by take_words k ls) ≡ after_key (then_keys r (λ k. with_lines k (header_lines ls)))
        (λ k. take_words k (data_words ls))
    keyed (Ok k) on = on k
    keyed (Err kind) on = refl

    by : (t : Bool) → has_colon w ≡ t
        → ((k : HeaderKeyValues) → take_by take_words k ls ≡ after_key (with_lines k (header_lines ls))
        (λ k. take_words k (data_words ls)))
        → (if t then after_key (with_line keys (w ∷ ws)) (λ k. take_by take_words k ls) else take_words keys
        (w ∷ (ws ++ all_words ls)))
        ≡ after_key (with_lines keys (filter is_header_line (take (cond (not (not t)) (1 + prefix_len no_data ls) 0) ((w ∷ ws) ∷ ls)))) (λ k. take_words k (flat_map (λ l. l) (drop (cond (not (not t)) (1 + prefix_len no_data ls) 0) ((w ∷ ws) ∷ ls))))
    by false e on = refl
    by true e on = keyed (with_line keys (w ∷ ws)) on
        ∙ ap (λ (t : Bool). after_key (with_lines keys (cond t ((w ∷ ws) ∷ header_lines ls) (header_lines ls))) (λ k. take_words k (data_words ls))) (sym e)
        ∙ ap (λ (n : ℕ). after_key (with_lines keys (filter is_header_line (take n ((w ∷ ws) ∷ ls)))) (λ k. take_words k (flat_map (λ l. l) (drop n ((w ∷ ws) ∷ ls))))) (sym (one_more (prefix_len no_data ls)))

-- The names of the keys.
abbrev pub name_of : HeaderKey → List ℕ
name_of North = codes "north"
name_of South = codes "south"
name_of East = codes "east"
name_of West = codes "west"
name_of Rows = codes "rows"
name_of Cols = codes "cols"
name_of Null = codes "null"
name_of CellType = codes "type"
name_of Multiplier = codes "multiplier"

key_named : (q : HeaderKey) → header_key_with_name (name_of q) ≡ Some q
key_named North = refl
key_named South = refl
key_named East = refl
key_named West = refl
key_named Rows = refl
key_named Cols = refl
key_named Null = refl
key_named CellType = refl
key_named Multiplier = refl

pub name_is : (t : List ℕ) (q : HeaderKey) → header_key_with_name t ≡ Some q → t ≡ name_of q
name_is t q k = by (bytes_eq t (codes "north")) (bytes_eq t (codes "south")) (bytes_eq t (codes "east")) (bytes_eq t (codes "west")) (bytes_eq t (codes "rows")) (bytes_eq t (codes "cols")) (bytes_eq t (codes "null")) (bytes_eq t (codes "type")) (bytes_eq t (codes "multiplier")) refl refl refl refl refl refl refl refl refl k
  where
    named : (p : HeaderKey) → bytes_eq t (name_of p) ≡ true → Some p ≡ Some q → t ≡ name_of q
    named p e same = (bytes_eq-Decides t (name_of p)).0 e ∙ (let s : p ≡ q = cc in ap name_of s)

    by : (a b c d e f g h i : Bool) → bytes_eq t (codes "north") ≡ a → bytes_eq t (codes "south") ≡ b → bytes_eq t (codes "east") ≡ c → bytes_eq t (codes "west") ≡ d → bytes_eq t (codes "rows") ≡ e → bytes_eq t (codes "cols") ≡ f → bytes_eq t (codes "null") ≡ g → bytes_eq t (codes "type") ≡ h → bytes_eq t (codes "multiplier") ≡ i
        → (if a then Some North else (if b then Some South else (if c then Some East else (if d then Some West else (if e then Some Rows else (if f then Some Cols else (if g then Some Null else (if h then Some CellType else (if i then Some Multiplier else None))))))))) ≡ Some q → t ≡ name_of q
    by true b c d e f g h i is _ _ _ _ _ _ _ _ k = named North is k
    by false true c d e f g h i _ is _ _ _ _ _ _ _ k = named South is k
    by false false true d e f g h i _ _ is _ _ _ _ _ _ k = named East is k
    by false false false true e f g h i _ _ _ is _ _ _ _ _ k = named West is k
    by false false false false true f g h i _ _ _ _ is _ _ _ _ k = named Rows is k
    by false false false false false true g h i _ _ _ _ _ is _ _ _ k = named Cols is k
    by false false false false false false true h i _ _ _ _ _ _ is _ _ k = named Null is k
    by false false false false false false false true i _ _ _ _ _ _ _ is _ k = named CellType is k
    by false false false false false false false false true _ _ _ _ _ _ _ _ is k = named Multiplier is k
    by false false false false false false false false false _ _ _ _ _ _ _ _ _ k = cc

-- a line has the key p
abbrev pub has_key : HeaderKey → List (List ℕ) → Bool
has_key p l = bytes_eq (name_of p) (key_text_of_header_line l)

has_its_key : (l : List (List ℕ)) (q : HeaderKey) → header_key_with_name (key_text_of_header_line l) ≡ Some q
    → has_key q l ≡ true
has_its_key l q e = (bytes_eq-Decides (name_of q) (key_text_of_header_line l)).1
    (sym (name_is (key_text_of_header_line l) q e))

only_its_key : (l : List (List ℕ)) (q p : HeaderKey) → header_key_with_name (key_text_of_header_line l) ≡ Some q
    → has_key p l ≡ true → p ≡ q
only_its_key l q p e has =
    let same : name_of p ≡ key_text_of_header_line l = (bytes_eq-Decides (name_of p)
    (key_text_of_header_line l)).0 has in
    let some : Some p ≡ Some q = sym (key_named p) ∙ ap header_key_with_name same ∙ e in
    cc

-- a line with the key q has the key p only if p is q
key_cases : (l : List (List ℕ)) (q p : HeaderKey) → header_key_with_name (key_text_of_header_line l) ≡ Some q → (p ≡ q) ⊎ ((has_key p l ≡ false) × (p ≡ q → ⊥))
key_cases l q p e = by (cases_Bool (has_key p l))
  where
    by : (has_key p l ≡ true) ⊎ (has_key p l ≡ false) → (p ≡ q) ⊎ ((has_key p l ≡ false) × (p ≡ q → ⊥))
    by (inl has) = inl (only_its_key l q p e has)
    by (inr other) = inr (other, λ same. both_ways (has_key p l) other (ap (λ (k : HeaderKey). has_key k l) same ∙ has_its_key l q e))

-- the first line with the key p
abbrev pub line_of : HeaderKey → Lines → Option (List (List ℕ))
line_of p ls = find (has_key p) ls

abbrev pub number_in : HeaderKey → Option (List (List ℕ)) → Option Value
number_in p o = option_and_then (number_of p) (option_and_then (λ l. slice_get (values_of_header_line l) 0) o)

abbrev pub looked_up : HeaderKey → Lines → Option Value
looked_up p ls = number_in p (line_of p ls)

line_first : (l : List (List ℕ)) (ls : Lines) (q : HeaderKey) → header_key_with_name (key_text_of_header_line l) ≡ Some q → line_of q (l ∷ ls) ≡ Some l
line_first l ls q e = ap (λ (t : Bool). cond t (Some l) (line_of q ls)) (has_its_key l q e)

line_later : (l : List (List ℕ)) (ls : Lines) (p : HeaderKey) → has_key p l ≡ false → line_of p (l ∷ ls) ≡ line_of p ls
line_later l ls p e = ap (λ (t : Bool). cond t (Some l) (line_of p ls)) e

-- if no line with a key is found, no line has the key
none_found : (t : List ℕ) (p : HeaderKey) → t ≡ name_of p → (ls : Lines) → line_of p ls ≡ None → AllByRecursion (λ y. bytes_eq t y ≡ false) (map key_text_of_header_line ls)
none_found t p is [] e = tt
none_found t p is (l ∷ ls) e = by (cases_Bool (has_key p l)) (none_found t p is ls)
  where
    by : (has_key p l ≡ true) ⊎ (has_key p l ≡ false) → (line_of p ls ≡ None → AllByRecursion (λ y. bytes_eq t y ≡ false) (map key_text_of_header_line ls)) → AllByRecursion (λ y. bytes_eq t y ≡ false) (map key_text_of_header_line (l ∷ ls))
    by (inl has) on = let f : Some l ≡ None = sym (ap (λ (t : Bool). cond t (Some l) (line_of p ls)) has) ∙ e in absurd cc
    by (inr other) on = (ap (λ (u : List ℕ). bytes_eq u (key_text_of_header_line l)) is ∙ other, on (sym (line_later l ls p other) ∙ e))

not_found : (t : List ℕ) (p : HeaderKey) → t ≡ name_of p → (ls : Lines) → AllByRecursion (λ y. bytes_eq t y ≡ false) (map key_text_of_header_line ls) → line_of p ls ≡ None
not_found t p is [] all = refl
not_found t p is (l ∷ ls) all = line_later l ls p (ap (λ (u : List ℕ). bytes_eq u (key_text_of_header_line l)) (sym is) ∙ all.0) ∙ not_found t p is ls all.1

-- The changes that header lines make to the keys given before them.
pub record IsTaken (a k : HeaderKeyValues) (ls : Lines) : Type 0 where
  pub one_value : All (λ l. length (values_of_header_line l) ≡ 1) ls
  pub known : All (λ l. IsSome (header_key_with_name (key_text_of_header_line l))) ls
  pub once : IsDistinct bytes_eq (map key_text_of_header_line ls)
  pub looked : (p : HeaderKey) → held a p ≡ None → held k p ≡ looked_up p ls
  pub stands : (p : HeaderKey) → held a p ≡ None → is_some (held k p) ≡ is_some (line_of p ls)
  pub good : (p : HeaderKey) → held a p ≡ None → (v : List ℕ) → value_of_header_key (name_of p) ls ≡ Some v → is_some (number_of p v) ≡ true
  pub stood : (p : HeaderKey) (x : Value) → held a p ≡ Some x → (line_of p ls ≡ None) × (held k p ≡ Some x)

valued : (a : HeaderKeyValues) (key : Option HeaderKey) (vs : List (List ℕ)) (k : HeaderKeyValues) → with_values a key vs ≡ Ok k → (v : List ℕ) × (vs ≡ v ∷ []) × (key_values_with_header_key a key v ≡ Ok k)
valued a key [] k e = cc
valued a key (v ∷ []) k e = (v, refl, e)
valued a key (v ∷ w ∷ vs) k e = cc

lengths_one : (vs : List (List ℕ)) → length vs ≡ 1 → (v : List ℕ) × (vs ≡ v ∷ [])
lengths_one [] e = absurd (omega arith)
lengths_one (v ∷ []) e = (v, refl)
lengths_one (v ∷ w ∷ vs) e = absurd (omega arith)

numbered : (o : Option Value) → is_some o ≡ true → (x : Value) × (o ≡ Some x)
numbered None e = cc
numbered (Some x) e = (x, refl)

-- the first value of a line, if there is a line
abbrev pub value_at : Option (List (List ℕ)) → Option (List ℕ)
value_at o = option_and_then (λ l. slice_get (values_of_header_line l) 0) o

value_first : (l : List (List ℕ)) (ls : Lines) (q : HeaderKey) (v : List ℕ) → header_key_with_name (key_text_of_header_line l) ≡ Some q → values_of_header_line l ≡ v ∷ [] → value_of_header_key (name_of q) (l ∷ ls) ≡ Some v
value_first l ls q v is one = ap value_at (line_first l ls q is) ∙ ap (λ (vs : List (List ℕ)). slice_get vs 0) one

number_first : (l : List (List ℕ)) (ls : Lines) (q : HeaderKey) (v : List ℕ) → header_key_with_name (key_text_of_header_line l) ≡ Some q → values_of_header_line l ≡ v ∷ [] → looked_up q (l ∷ ls) ≡ number_of q v
number_first l ls q v is one = ap (number_in q) (line_first l ls q is) ∙ ap (λ (vs : List (List ℕ)). option_and_then (number_of q) (slice_get vs 0)) one

pub line_then : (a b k : HeaderKeyValues) (l : List (List ℕ)) (ls : Lines) → with_line a l ≡ Ok b → with_lines b ls ≡ Ok k → with_lines a (l ∷ ls) ≡ Ok k
line_then a b k l ls first rest =
    ap (λ (r : Result HeaderKeyValues GridKind). then_keys r (λ k. with_lines k ls)) first ∙ rest

-- a line with the key q and the single value v, between the keys a and b
module _ (a b : HeaderKeyValues) (l : List (List ℕ)) (ls : Lines) (q : HeaderKey) (v : List ℕ) (is : header_key_with_name (key_text_of_header_line l) ≡ Some q) (one : values_of_header_line l ≡ v ∷ []) (given : IsGiven a q v b) where
  taken_more : (k : HeaderKeyValues) → IsTaken b k ls → IsTaken a k (l ∷ ls)
  unfolding IsDistinct
  taken_more k are = record {
    one_value = All-cons (λ l. length (values_of_header_line l) ≡ 1) l ls (ap length one) are.one_value;
    known = All-cons (λ l. IsSome (header_key_with_name (key_text_of_header_line l))) l ls (ap is_some is) are.known;
    once = (none_found (key_text_of_header_line l) q (name_is (key_text_of_header_line l) q is) ls own.0, are.once);
    looked = λ p free. looked p free (key_cases l q p is);
    stands = λ p free. stands p free (key_cases l q p is);
    good = λ p free v e. good p free v e (key_cases l q p is);
    stood = λ p x e. stood p x e (key_cases l q p is);
  }
    where
      number : (x : Value) × (number_of q v ≡ Some x)
      number = numbered (number_of q v) given.number

      own : (line_of q ls ≡ None) × (held k q ≡ Some number.0)
      own = are.stood q number.0 (given.kept ∙ number.1)

      looked : (p : HeaderKey) → held a p ≡ None → (p ≡ q) ⊎ ((has_key p l ≡ false) × (p ≡ q → ⊥)) → held k p ≡ looked_up p (l ∷ ls)
      looked p free (inl same) = subst (λ (r : HeaderKey). held k r ≡ looked_up r (l ∷ ls)) (sym same) (own.1 ∙ sym number.1 ∙ sym (number_first l ls q v is one))
      looked p free (inr other) = are.looked p (given.others p other.1 ∙ free) ∙ ap (number_in p) (sym (line_later l ls p other.0))

      stands : (p : HeaderKey) → held a p ≡ None → (p ≡ q) ⊎ ((has_key p l ≡ false) × (p ≡ q → ⊥)) → is_some (held k p) ≡ is_some (line_of p (l ∷ ls))
      stands p free (inl same) = (λ i. is_some (held k (same i))) ∙ ap is_some (own.1 ∙ sym number.1) ∙ given.number ∙ ap is_some (sym (line_first l ls q is)) ∙ ap (λ (r : HeaderKey). is_some (line_of r (l ∷ ls))) (sym same)
      stands p free (inr other) = are.stands p (given.others p other.1 ∙ free) ∙ ap is_some (sym (line_later l ls p other.0))

      good : (p : HeaderKey) → held a p ≡ None → (u : List ℕ) → value_of_header_key (name_of p) (l ∷ ls) ≡ Some u → (p ≡ q) ⊎ ((has_key p l ≡ false) × (p ≡ q → ⊥)) → is_some (number_of p u) ≡ true
      good p free u e (inl same) =
          let first : Some v ≡ Some u = sym (value_first l ls q v is one) ∙ ap (λ (r : HeaderKey). value_of_header_key (name_of r) (l ∷ ls)) (sym same) ∙ e in
          let one_text : v ≡ u = cc in
          (λ i. is_some (number_of (same i) (sym one_text i))) ∙ given.number
      good p free u e (inr other) = are.good p (given.others p other.1 ∙ free) u (ap value_at (sym (line_later l ls p other.0)) ∙ e)

      stood : (p : HeaderKey) (x : Value) → held a p ≡ Some x → (p ≡ q) ⊎ ((has_key p l ≡ false) × (p ≡ q → ⊥)) → (line_of p (l ∷ ls) ≡ None) × (held k p ≡ Some x)
      stood p x e (inl same) = let f : Some x ≡ None = sym e ∙ ap (held a) same ∙ given.free in absurd cc
      stood p x e (inr other) = let s = are.stood p x (given.others p other.1 ∙ e) in (line_later l ls p other.0 ∙ s.0, s.1)

pub lines_taken : (ls : Lines) (a k : HeaderKeyValues) → with_lines a ls ≡ Ok k → IsTaken a k ls
unfolding IsDistinct
lines_taken [] a k e = record {
  one_value = All-nil (λ l. length (values_of_header_line l) ≡ 1);
  known = All-nil (λ l. IsSome (header_key_with_name (key_text_of_header_line l)));
  once = tt;
  looked = λ p free. ap (λ (m : HeaderKeyValues). held m p) (sym same) ∙ free;
  stands = λ p free. ap is_some (ap (λ (m : HeaderKeyValues). held m p) (sym same) ∙ free);
  good = λ p free v e. cc;
  stood = λ p x e. (refl, ap (λ (m : HeaderKeyValues). held m p) (sym same) ∙ e);
}
  where
    same : a ≡ k
    same = cc
lines_taken (l ∷ ls) a k e = by (with_line a l) refl (lines_taken ls) e
  where
    by : (r : Result HeaderKeyValues GridKind) → with_line a l ≡ r → ((b m : HeaderKeyValues) → with_lines b ls ≡ Ok m → IsTaken b m ls) → then_keys r (λ k. with_lines k ls) ≡ Ok k → IsTaken a k (l ∷ ls)
    by (Err kind) is on e = cc
    by (Ok b) is on e =
        let v = valued a (header_key_with_name (key_text_of_header_line l)) (values_of_header_line l) b is in
        let q = key_known a (header_key_with_name (key_text_of_header_line l)) v.0 b v.2 in
        taken_more a b l ls q.0 v.0 q.1 v.1 q.2 k (on b k e)

-- The conditions under which header lines are accepted after the keys given before them.
record IsReady (a : HeaderKeyValues) (ls : Lines) : Type 0 where
  one_value : All (λ l. length (values_of_header_line l) ≡ 1) ls
  known : All (λ l. IsSome (header_key_with_name (key_text_of_header_line l))) ls
  once : IsDistinct bytes_eq (map key_text_of_header_line ls)
  looked : (p : HeaderKey) → held a p ≡ None → (v : List ℕ) → value_of_header_key (name_of p) ls ≡ Some v → is_some (number_of p v) ≡ true
  stood : (p : HeaderKey) (x : Value) → held a p ≡ Some x → line_of p ls ≡ None

known_key : (o : Option HeaderKey) → is_some o ≡ true → (q : HeaderKey) × (o ≡ Some q)
known_key None e = cc
known_key (Some q) e = (q, refl)

module _ (a b : HeaderKeyValues) (l : List (List ℕ)) (ls : Lines) (q : HeaderKey) (v : List ℕ) (is : header_key_with_name (key_text_of_header_line l) ≡ Some q) (one : values_of_header_line l ≡ v ∷ []) (given : IsGiven a q v b) where
  ready_more : IsReady a (l ∷ ls) → IsReady b ls
  unfolding IsDistinct
  ready_more are = record {
    one_value = All-tail (λ l. length (values_of_header_line l) ≡ 1) l ls are.one_value;
    known = All-tail (λ l. IsSome (header_key_with_name (key_text_of_header_line l))) l ls are.known;
    once = are.once.1;
    looked = λ p free u e. looked p free u e (key_cases l q p is);
    stood = λ p x e. stood p x e (key_cases l q p is);
  }
    where
      number : (x : Value) × (number_of q v ≡ Some x)
      number = numbered (number_of q v) given.number

      looked : (p : HeaderKey) → held b p ≡ None → (u : List ℕ) → value_of_header_key (name_of p) ls ≡ Some u → (p ≡ q) ⊎ ((has_key p l ≡ false) × (p ≡ q → ⊥)) → is_some (number_of p u) ≡ true
      looked p free u e (inl same) = let f : None ≡ Some number.0 = sym free ∙ ap (held b) same ∙ given.kept ∙ number.1 in absurd cc
      looked p free u e (inr other) = are.looked p (sym (given.others p other.1) ∙ free) u (ap value_at (line_later l ls p other.0) ∙ e)

      stood : (p : HeaderKey) (x : Value) → held b p ≡ Some x → (p ≡ q) ⊎ ((has_key p l ≡ false) × (p ≡ q → ⊥)) → line_of p ls ≡ None
      stood p x e (inl same) = subst (λ (r : HeaderKey). line_of r ls ≡ None) (sym same) (not_found (key_text_of_header_line l) q (name_is (key_text_of_header_line l) q is) ls are.once.0)
      stood p x e (inr other) = sym (line_later l ls p other.0) ∙ are.stood p x (sym (given.others p other.1) ∙ e)

lines_ready : (ls : Lines) (a : HeaderKeyValues) → IsReady a ls → (k : HeaderKeyValues) × (with_lines a ls ≡ Ok k)
lines_ready [] a are = (a, refl)
lines_ready (l ∷ ls) a are = by (held a q.0) refl (lines_ready ls)
  where
    q : (q : HeaderKey) × (header_key_with_name (key_text_of_header_line l) ≡ Some q)
    q = known_key (header_key_with_name (key_text_of_header_line l))
        (All-head (λ l. IsSome (header_key_with_name (key_text_of_header_line l))) l ls are.known)

    v : (v : List ℕ) × (values_of_header_line l ≡ v ∷ [])
    v = lengths_one (values_of_header_line l) (All-head (λ l. length (values_of_header_line l) ≡ 1) l ls are.one_value)

    by : (o : Option Value) → held a q.0 ≡ o → ((b : HeaderKeyValues) → IsReady b ls → (k : HeaderKeyValues) × (with_lines b ls ≡ Ok k)) → (k : HeaderKeyValues) × (with_lines a (l ∷ ls) ≡ Ok k)
    by (Some x) free on = let f : Some l ≡ None = sym (line_first l ls q.0 q.1) ∙ are.stood q.0 x free in absurd cc
    by None free on =
        let b = key_taken a q.0 v.0 free (are.looked q.0 free v.0 (value_first l ls q.0 v.0 q.1 v.1)) in
        let rest = on b.0 (ready_more a b.0 l ls q.0 v.0 q.1 v.1 (key_given a q.0 v.0 b.0 b.1) are) in
        (rest.0, line_then a b.0 rest.0 l ls ((λ i. with_values a (q.1 i) (v.1 i)) ∙ b.1) rest.1)

-- Values of one kind are equal only if their numbers are.
pub same_number : (x y : ℤ) → Number x ≡ Number y → x ≡ y
same_number x y e = cc

pub same_count : (x y : ℕ) → Count x ≡ Count y → x ≡ y
same_count x y e = cc

pub same_text : (x y : List ℕ) → Text x ≡ Text y → x ≡ y
same_text x y e = cc

module _ {X : Type 0} (wrap : X → Value) (same : (x y : X) → wrap x ≡ wrap y → x ≡ y) (reads : List ℕ → Option X) where
  pub unwrapped : (k : Option X) (o : Option (List ℕ)) → option_map wrap k ≡ option_and_then (λ v. option_map wrap (reads v)) o → k ≡ option_and_then reads o
  unwrapped k None e = by k e
    where
      by : (k : Option X) → option_map wrap k ≡ None → k ≡ None
      by None e = refl
      by (Some x) e = cc
  unwrapped k (Some v) e = by k (reads v) e
    where
      by : (k r : Option X) → option_map wrap k ≡ option_map wrap r → k ≡ r
      by None None e = refl
      by None (Some x) e = cc
      by (Some x) None e = cc
      by (Some x) (Some y) e = let w : wrap x ≡ wrap y = cc in ap Some (same x y w)

  good_value : (o : Option (List ℕ)) (x : X) → option_and_then reads o ≡ Some x → (v : List ℕ) → o ≡ Some v → is_some (option_map wrap (reads v)) ≡ true
  good_value o x e v is = ap (λ (r : Option X). is_some (option_map wrap r)) (ap (option_and_then reads) (sym is) ∙ e)

  good_or : (usual : X) (o : Option (List ℕ)) (x : X) → read_value_or_default reads usual o ≡ Some x → (v : List ℕ) → o ≡ Some v → is_some (option_map wrap (reads v)) ≡ true
  good_or usual o x e v is = ap (λ (r : Option X). is_some (option_map wrap r))
      (ap (read_value_or_default reads usual) (sym is) ∙ e)

  or_given : (usual : X) (k : Option X) (o : Option (List ℕ)) (x : X) → k ≡ option_and_then reads o → read_value_or_default reads usual o ≡ Some x → unwrap_or k usual ≡ x
  or_given usual k None x is e = ap (λ (r : Option X). unwrap_or r usual) is ∙ (let s : usual ≡ x = cc in s)
  or_given usual k (Some v) x is e = ap (λ (r : Option X). unwrap_or r usual) (is ∙ e)

  given_or : (usual : X) (k : Option X) (o : Option (List ℕ)) (x : X) → k ≡ option_and_then reads o → ((v : List ℕ) → o ≡ Some v → is_some (option_map wrap (reads v)) ≡ true) → unwrap_or k usual ≡ x → read_value_or_default reads usual o ≡ Some x
  given_or usual k None x is good e = ap Some (ap (λ (r : Option X). unwrap_or r usual) (sym is) ∙ e)
  given_or usual k (Some v) x is good e = by (reads v) (good v refl) (ap (λ (r : Option X). unwrap_or r usual) (sym is) ∙ e)
    where
      by : (r : Option X) → is_some (option_map wrap r) ≡ true → unwrap_or r usual ≡ x → r ≡ Some x
      by None s e = cc
      by (Some y) s e = ap Some e

-- header lines that give the keys of a header have that header
pub header_read : (ls : Lines) (k : HeaderKeyValues) (h : GridHeaderContents)
    → with_lines empty_header_key_values ls ≡ Ok k → IsHeaderOf k h
    → HeaderLinesFormHeader ls h
header_read ls k h e is = record {
  one_value = are.one_value;
  known = are.known;
  once = are.once;
  north = sym (unwrapped Number same_number coordinate_of_text k.north (value_of_header_key (codes "north") ls) (are.looked North refl)) ∙ is.north;
  south = sym (unwrapped Number same_number coordinate_of_text k.south (value_of_header_key (codes "south") ls) (are.looked South refl)) ∙ is.south;
  east = sym (unwrapped Number same_number coordinate_of_text k.east (value_of_header_key (codes "east") ls) (are.looked East refl)) ∙ is.east;
  west = sym (unwrapped Number same_number coordinate_of_text k.west (value_of_header_key (codes "west") ls) (are.looked West refl)) ∙ is.west;
  rows = sym (unwrapped Count same_count row_or_column_count_of_text k.rows (value_of_header_key (codes "rows") ls)
      (are.looked Rows refl)) ∙ is.rows;
  cols = sym (unwrapped Count same_count row_or_column_count_of_text k.cols (value_of_header_key (codes "cols") ls)
      (are.looked Cols refl)) ∙ is.cols;
  null = given_or Text same_text null_text usual_null_text k.null (value_of_header_key (codes "null") ls) h.null_text (unwrapped Text same_text null_text k.null (value_of_header_key (codes "null") ls) (are.looked Null refl)) (are.good Null refl) is.null;
  int = by (value_of_header_key (codes "type") ls) (are.good CellType refl);
  multiplier = given_or Number same_number whole_number_in_category_range usual_multiplier k.multiplier (value_of_header_key (codes "multiplier") ls) h.multiplier (unwrapped Number same_number whole_number_in_category_range k.multiplier (value_of_header_key (codes "multiplier") ls) (are.looked Multiplier refl)) (are.good Multiplier refl) is.multiplier;
  good = is.good;
}
  where
    are : IsTaken empty_header_key_values k ls
    are = lines_taken ls empty_header_key_values k e

    typed : (o : Option (Unit {0})) → is_some (option_map (λ _. Text []) o) ≡ true → o ≡ Some tt
    typed None s = cc
    typed (Some u) s = refl

    by : (o : Option (List ℕ)) → ((v : List ℕ) → o ≡ Some v → is_some (number_of CellType v) ≡ true) → read_value_or_default int_type_of_text tt o ≡ Some tt
    by None good = refl
    by (Some v) good = typed (int_type_of_text v) (good v refl)

header_taken : (ls : Lines) (h : GridHeaderContents) → HeaderLinesFormHeader ls h
    → (k : HeaderKeyValues) × (with_lines empty_header_key_values ls ≡ Ok k) × IsHeaderOf k h
header_taken ls h is = (
  taken.0,
  taken.1,
  record {
    north = unwrapped Number same_number coordinate_of_text taken.0.north (value_of_header_key (codes "north") ls) (are.looked North refl) ∙ is.north;
    south = unwrapped Number same_number coordinate_of_text taken.0.south (value_of_header_key (codes "south") ls) (are.looked South refl) ∙ is.south;
    east = unwrapped Number same_number coordinate_of_text taken.0.east (value_of_header_key (codes "east") ls) (are.looked East refl) ∙ is.east;
    west = unwrapped Number same_number coordinate_of_text taken.0.west (value_of_header_key (codes "west") ls) (are.looked West refl) ∙ is.west;
    rows = unwrapped Count same_count row_or_column_count_of_text taken.0.rows (value_of_header_key (codes "rows") ls)
        (are.looked Rows refl) ∙ is.rows;
    cols = unwrapped Count same_count row_or_column_count_of_text taken.0.cols (value_of_header_key (codes "cols") ls)
        (are.looked Cols refl) ∙ is.cols;
    null = or_given Text same_text null_text usual_null_text taken.0.null (value_of_header_key (codes "null") ls) h.null_text (unwrapped Text same_text null_text taken.0.null (value_of_header_key (codes "null") ls) (are.looked Null refl)) is.null;
    multiplier = or_given Number same_number whole_number_in_category_range usual_multiplier taken.0.multiplier (value_of_header_key (codes "multiplier") ls) h.multiplier (unwrapped Number same_number whole_number_in_category_range taken.0.multiplier (value_of_header_key (codes "multiplier") ls) (are.looked Multiplier refl)) is.multiplier;
    good = is.good;
  },
)
  where
    none : (p : HeaderKey) → held empty_header_key_values p ≡ None
    none North = refl
    none South = refl
    none East = refl
    none West = refl
    none Rows = refl
    none Cols = refl
    none Null = refl
    none CellType = refl
    none Multiplier = refl

    typed : (o : Option (List ℕ)) → read_value_or_default int_type_of_text tt o ≡ Some tt → (v : List ℕ) → o ≡ Some v → is_some (number_of CellType v) ≡ true
    typed o e v is = ap (λ (r : Option (Unit {0})). is_some (option_map (λ _. Text []) r)) (ap (read_value_or_default int_type_of_text tt) (sym is) ∙ e)

    looked : (p : HeaderKey) (v : List ℕ) → value_of_header_key (name_of p) ls ≡ Some v → is_some (number_of p v) ≡ true
    looked North = good_value Number same_number coordinate_of_text
        (value_of_header_key (codes "north") ls) h.region.north is.north
    looked South = good_value Number same_number coordinate_of_text
        (value_of_header_key (codes "south") ls) h.region.south is.south
    looked East = good_value Number same_number coordinate_of_text
        (value_of_header_key (codes "east") ls) h.region.east is.east
    looked West = good_value Number same_number coordinate_of_text
        (value_of_header_key (codes "west") ls) h.region.west is.west
    looked Rows = good_value Count same_count row_or_column_count_of_text
        (value_of_header_key (codes "rows") ls) h.region.rows is.rows
    looked Cols = good_value Count same_count row_or_column_count_of_text
        (value_of_header_key (codes "cols") ls) h.region.cols is.cols
    looked Null = good_or Text same_text null_text usual_null_text
        (value_of_header_key (codes "null") ls) h.null_text is.null
    looked CellType = typed (value_of_header_key (codes "type") ls) is.int
    looked Multiplier = good_or Number same_number whole_number_in_category_range usual_multiplier (value_of_header_key (codes "multiplier") ls) h.multiplier is.multiplier

    taken : (k : HeaderKeyValues) × (with_lines empty_header_key_values ls ≡ Ok k)
    taken = lines_ready ls empty_header_key_values (record { one_value = is.one_value; known = is.known; once = is.once; looked = λ p free v e. looked p v e; stood = λ p x e. (let f = none p in cc) })

    are : IsTaken empty_header_key_values taken.0 ls
    are = lines_taken ls empty_header_key_values taken.0 taken.1

-- The map that the words of the lines denote has that header and those cells.
pub text_read : (ls : Lines) (m : Grid) → take_text empty_header_key_values ls ≡ Some m → (h : GridHeaderContents) × HeaderLinesFormHeader (header_lines ls) h × WordsDenoteCells h (data_words ls) m × (m ≡ whole_grid h m.rows)
text_read ls m e = by (with_lines empty_header_key_values (header_lines ls)) refl
    (sym (text_parts take_data ls empty_header_key_values) ∙ e)
  where
    last : (k : HeaderKeyValues) → with_lines empty_header_key_values (header_lines ls) ≡ Ok k → (r : Result GridHeaderContents GridKind) → header_defined_by_keys k ≡ r → at_header r (data_words ls) ≡ Some m
        → (h : GridHeaderContents) × HeaderLinesFormHeader (header_lines ls) h × WordsDenoteCells h (data_words ls) m
        × (m ≡ whole_grid h m.rows)
    last k is (Err kind) given e = cc
    last k is (Ok h) given e = let cells = cells_read h (data_words ls) m e in (h, header_read (header_lines ls) k h is (header_given k h given), cells.1, cells.0)

    by : (r : Result HeaderKeyValues GridKind) → with_lines empty_header_key_values (header_lines ls) ≡ r → after_key r (λ k. take_data k (data_words ls)) ≡ Some m
        → (h : GridHeaderContents) × HeaderLinesFormHeader (header_lines ls) h × WordsDenoteCells h (data_words ls) m
        × (m ≡ whole_grid h m.rows)
    by (Err kind) is e = cc
    by (Ok k) is e = last k is (header_defined_by_keys k) refl e

pub text_taken : (ls : Lines) (h : GridHeaderContents) (m : Grid) → HeaderLinesFormHeader (header_lines ls) h → WordsDenoteCells h (data_words ls) m → m.region ≡ h.region → m.labels ≡ empty_category_labels → take_text empty_header_key_values ls ≡ Some m
text_taken ls h m header cells region labels =
    let k = header_taken (header_lines ls) h header in
    text_parts take_data ls empty_header_key_values
    ∙ ap (λ (r : Result HeaderKeyValues GridKind). after_key r (λ k. take_data k (data_words ls))) k.1
    ∙ ap (λ (r : Result GridHeaderContents GridKind). at_header r (data_words ls)) (header_kept k.0 h k.2)
    ∙ cells_taken h (data_words ls) m cells ∙ (λ i. Some (record { region = sym region i; rows = m.rows; labels = sym labels i }))
