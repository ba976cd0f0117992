-- The keys of a header: the effect of one more key, and the header of all keys.
use Rattle.std.proofs.Common.{◌≡◌, ℕ, suc, ◌+◌, ◌<◌, ℤ, List, [], Option, Some, None, Bool, true, false, is_some, refl, ap, sym, ◌∙◌, arith, Result, Ok, Err, not, subst}
use Rattle.std.specs.Prelude.{nat_le, unwrap_or, if◌then◌else◌}
use Rattle.std.specs.Option.{option_map}
use Rattle.std.proofs.lemmas.Bool.{leb-true, and_parts}
use Rattle.cell_core_values.specs.Region.{RegionValue, region_or_first_fault, is_row_or_column_count}
use Rattle.cell_core_values.specs.Region.{are_region_edges_in_order}
use Rattle.cell_core_values.specs.Region.{is_within_cell_limit}
use Rattle.cell_core_values.specs.declared.region.RegionFault.{RegionFault}
use Rattle.cell_core_values.specs.declared.region.RegionFault.TheVariants.{BadExtent, BadRows, BadCols, TooManyCells}
use Rattle.cell_ascii_meaning.specs.EdgeNumbers.{coordinate_of_text, row_or_column_count_of_text}
use Rattle.cell_ascii_meaning.specs.EdgeNumbers.{whole_number_in_category_range}
use Rattle.cell_ascii_meaning.specs.Header.{HeaderKeyValues, GridHeaderContents, header_of_keys_and_region, key_values_with_new_valid_value, key_values_with_header_key, header_defined_by_keys, has_colon, is_int_type, usual_null_text, usual_multiplier}
use Rattle.cell_ascii_meaning.specs.GridText.{null_text, int_type_of_text}
use Rattle.cell_ascii_meaning.specs.declared.grid_fault.GridKind.TheVariants.{BadHeader, TwiceKey, BadType}
use Rattle.cell_ascii_meaning.specs.declared.header_key.HeaderKey.{HeaderKey}
use Rattle.cell_ascii_meaning.specs.declared.header_key.HeaderKey.TheVariants.{North, South, East, West, Rows, Cols, Null, CellType, Multiplier}

-- the value of a key
pub data Value : Type 0 where
  Number : ℤ → Value
  Count : ℕ → Value
  Text : List ℕ → Value

abbrev pub stood : Bool → Option (Unit {0})
stood true = Some tt
stood false = None

-- the value that was given for a key
abbrev pub held : HeaderKeyValues → HeaderKey → Option Value
held k North = option_map Number k.north
held k South = option_map Number k.south
held k East = option_map Number k.east
held k West = option_map Number k.west
held k Rows = option_map Count k.rows
held k Cols = option_map Count k.cols
held k Null = option_map Text k.null
held k CellType = option_map (λ _. Text []) (stood k.kind)
held k Multiplier = option_map Number k.multiplier

-- the value that a word denotes for a key
abbrev pub number_of : HeaderKey → List ℕ → Option Value
number_of North value = option_map Number (coordinate_of_text value)
number_of South value = option_map Number (coordinate_of_text value)
number_of East value = option_map Number (coordinate_of_text value)
number_of West value = option_map Number (coordinate_of_text value)
number_of Rows value = option_map Count (row_or_column_count_of_text value)
number_of Cols value = option_map Count (row_or_column_count_of_text value)
number_of Null value = option_map Text (null_text value)
number_of CellType value = option_map (λ _. Text []) (int_type_of_text value)
number_of Multiplier value = option_map Number (whole_number_in_category_range value)

abbrev pub open_one : {X : Type 0} → Option X → ℕ
open_one None = 1
open_one (Some x) = 0

-- the number of keys that are not yet given
abbrev pub open_keys : HeaderKeyValues → ℕ
open_keys k = open_one k.north + open_one k.south + open_one k.east + open_one k.west + open_one k.rows + open_one k.cols + open_one k.null + open_one (stood k.kind) + open_one k.multiplier

given_is : {X : Type 0} (o value : Option X) (keep : X → HeaderKeyValues) (k : HeaderKeyValues) → key_values_with_new_valid_value o value keep ≡ Ok k → (o ≡ None) × (x : X) × (value ≡ Some x) × (keep x ≡ k)
given_is (Some old) value keep k e = cc
given_is None None keep k e = cc
given_is None (Some x) keep k e = (refl, x, refl, cc)

-- k has the keys of a and the key q, whose value denotes a number
pub record IsGiven (a : HeaderKeyValues) (q : HeaderKey) (value : List ℕ) (k : HeaderKeyValues) : Type 0 where
  pub free : held a q ≡ None
  pub number : is_some (number_of q value) ≡ true
  pub kept : held k q ≡ number_of q value
  pub others : (p : HeaderKey) → (p ≡ q → ⊥) → held k p ≡ held a p
  pub fewer : suc (open_keys k) ≡ open_keys a

-- a key whose value is kept in one field
module _ (a : HeaderKeyValues) (q : HeaderKey) (value : List ℕ) (k : HeaderKeyValues) {X : Type 0} (wrap : X → Value)
    (get : HeaderKeyValues → Option X) (read : Option X) (keep : X → HeaderKeyValues)
    (sees : (m : HeaderKeyValues) → held m q ≡ option_map wrap (get m)) (gives : number_of q value
    ≡ option_map wrap read)
    (keeps : (x : X) → get (keep x) ≡ Some x)
    (others : (x : X) (p : HeaderKey) → (p ≡ q → ⊥) → held (keep x) p ≡ held a p)
    (fewer : (x : X) → get a ≡ None → suc (open_keys (keep x)) ≡ open_keys a) where
  given_by : key_values_with_new_valid_value (get a) read keep ≡ Ok k → IsGiven a q value k
  given_by e =
      let g = given_is (get a) read keep k e in
      record {
        free = sees a ∙ ap (option_map wrap) g.0;
        number = ap is_some (gives ∙ ap (option_map wrap) g.2);
        kept = sees k ∙ ap (λ (m : HeaderKeyValues). option_map wrap (get m)) (sym g.3)
            ∙ ap (option_map wrap) (keeps g.1 ∙ sym g.2) ∙ sym gives;
        others = λ p d. ap (λ (m : HeaderKeyValues). held m p) (sym g.3) ∙ others g.1 p d;
        fewer = ap (λ (m : HeaderKeyValues). suc (open_keys m)) (sym g.3) ∙ fewer g.1 g.0;
      }

pub key_given : (a : HeaderKeyValues) (q : HeaderKey) (value : List ℕ) (k : HeaderKeyValues)
    → key_values_with_header_key a (Some q) value ≡ Ok k → IsGiven a q value k
key_given a North value k e =
    given_by a North value k Number (λ m. m.north) (coordinate_of_text value) (λ x. record a { north = Some x })
    (λ m. refl) refl (λ x. refl) by (λ x none. let o = ap open_one none in omega arith) e
  where
    by : (x : ℤ) (p : HeaderKey) → (p ≡ North → ⊥) → held (record a { north = Some x }) p ≡ held a p
    by x North d = absurd (d refl)
    by x _ d = refl
key_given a South value k e =
    given_by a South value k Number (λ m. m.south) (coordinate_of_text value) (λ x. record a { south = Some x })
    (λ m. refl) refl (λ x. refl) by (λ x none. let o = ap open_one none in omega arith) e
  where
    by : (x : ℤ) (p : HeaderKey) → (p ≡ South → ⊥) → held (record a { south = Some x }) p ≡ held a p
    by x South d = absurd (d refl)
    by x _ d = refl
key_given a East value k e =
    given_by a East value k Number (λ m. m.east) (coordinate_of_text value) (λ x. record a { east = Some x })
    (λ m. refl) refl (λ x. refl) by (λ x none. let o = ap open_one none in omega arith) e
  where
    by : (x : ℤ) (p : HeaderKey) → (p ≡ East → ⊥) → held (record a { east = Some x }) p ≡ held a p
    by x East d = absurd (d refl)
    by x _ d = refl
key_given a West value k e =
    given_by a West value k Number (λ m. m.west) (coordinate_of_text value) (λ x. record a { west = Some x })
    (λ m. refl) refl (λ x. refl) by (λ x none. let o = ap open_one none in omega arith) e
  where
    by : (x : ℤ) (p : HeaderKey) → (p ≡ West → ⊥) → held (record a { west = Some x }) p ≡ held a p
    by x West d = absurd (d refl)
    by x _ d = refl
key_given a Rows value k e =
    given_by a Rows value k Count (λ m. m.rows) (row_or_column_count_of_text value) (λ x. record a { rows = Some x })
    (λ m. refl) refl (λ x. refl) by (λ x none. let o = ap open_one none in omega arith) e
  where
    by : (x : ℕ) (p : HeaderKey) → (p ≡ Rows → ⊥) → held (record a { rows = Some x }) p ≡ held a p
    by x Rows d = absurd (d refl)
    by x _ d = refl
key_given a Cols value k e =
    given_by a Cols value k Count (λ m. m.cols) (row_or_column_count_of_text value) (λ x. record a { cols = Some x })
    (λ m. refl) refl (λ x. refl) by (λ x none. let o = ap open_one none in omega arith) e
  where
    by : (x : ℕ) (p : HeaderKey) → (p ≡ Cols → ⊥) → held (record a { cols = Some x }) p ≡ held a p
    by x Cols d = absurd (d refl)
    by x _ d = refl
key_given a Null value k e = by (has_colon value) refl e
  where
    others : (x : List ℕ) (p : HeaderKey) → (p ≡ Null → ⊥) → held (record a { null = Some x }) p ≡ held a p
    others x Null d = absurd (d refl)
    others x _ d = refl

    by : (t : Bool) → has_colon value ≡ t
        → (if t then Err BadHeader else key_values_with_new_valid_value a.null (Some value)
        (λ x. record a { null = Some x }))
        ≡ Ok k
        → IsGiven a Null value k
    by true is e = cc
    by false is e =
        let read : null_text value ≡ Some value = rw is refl in
        given_by a Null value k Text (λ m. m.null) (Some value) (λ x. record a { null = Some x }) (λ m. refl)
        (ap (option_map Text) read) (λ x. refl) others (λ x none. let o = ap open_one none in omega arith) e
key_given a CellType value k e = by a.kind (is_int_type value) refl refl e
  where
    others : (p : HeaderKey) → (p ≡ CellType → ⊥) → held (record a { kind = true }) p ≡ held a p
    others CellType d = absurd (d refl)
    others _ d = refl

    by : (t u : Bool) → a.kind ≡ t → is_int_type value ≡ u → (if t then Err TwiceKey else (if u then Ok (record a { kind = true }) else Err BadType)) ≡ Ok k → IsGiven a CellType value k
    by true u stands is e = cc
    by false false stands is e = cc
    by false true stands is e =
        let read : int_type_of_text value ≡ Some tt = rw is refl in
        let same : record a { kind = true } ≡ k = cc in
        record {
          free = ap (λ (t : Bool). option_map (λ _. Text []) (stood t)) stands;
          number = ap (λ (o : Option (Unit {0})). is_some (option_map (λ _. Text []) o)) read;
          kept = ap (λ (m : HeaderKeyValues). option_map (λ _. Text []) (stood m.kind)) (sym same) ∙ ap (option_map (λ _. Text [])) (sym read);
          others = λ p d. ap (λ (m : HeaderKeyValues). held m p) (sym same) ∙ others p d;
          fewer = ap (λ (m : HeaderKeyValues). suc (open_keys m)) (sym same) ∙ (let o = ap (λ (t : Bool). open_one (stood t)) stands in omega arith);
        }
key_given a Multiplier value k e =
    given_by a Multiplier value k Number (λ m. m.multiplier) (whole_number_in_category_range value) (λ x. record a { multiplier = Some x })
    (λ m. refl) refl (λ x. refl) by (λ x none. let o = ap open_one none in omega arith) e
  where
    by : (x : ℤ) (p : HeaderKey) → (p ≡ Multiplier → ⊥) → held (record a { multiplier = Some x }) p ≡ held a p
    by x Multiplier d = absurd (d refl)
    by x _ d = refl

pub key_known : (a : HeaderKeyValues) (key : Option HeaderKey) (value : List ℕ) (k : HeaderKeyValues) → key_values_with_header_key a key value ≡ Ok k → (q : HeaderKey) × (key ≡ Some q) × IsGiven a q value k
key_known a None value k e = cc
key_known a (Some q) value k e = (q, refl, key_given a q value k e)

-- a key that was not yet given is accepted if its value denotes a number
pub key_taken : (a : HeaderKeyValues) (q : HeaderKey) (value : List ℕ) → held a q ≡ None → is_some (number_of q value) ≡ true → (k : HeaderKeyValues) × (key_values_with_header_key a (Some q) value ≡ Ok k)
key_taken a q value = by q
  where
    takes : {X : Type 0} (o number : Option X) (keep : X → HeaderKeyValues) → o ≡ None → is_some number ≡ true → (k : HeaderKeyValues) × (key_values_with_new_valid_value o number keep ≡ Ok k)
    takes (Some x) number keep e s = cc
    takes None None keep e s = cc
    takes None (Some x) keep e s = (keep x, refl)

    free : {X : Type 0} (wrap : X → Value) (o : Option X) → option_map wrap o ≡ None → o ≡ None
    free wrap None e = refl
    free wrap (Some x) e = cc

    wrapped : {X : Type 0} (wrap : X → Value) (o : Option X) → is_some (option_map wrap o) ≡ true → is_some o ≡ true
    wrapped wrap None e = e
    wrapped wrap (Some x) e = refl

    texted : (t : Bool) → has_colon value ≡ t → option_map Text a.null ≡ None → is_some (option_map Text (if t then None else Some value)) ≡ true → (k : HeaderKeyValues) × ((if t then Err BadHeader else key_values_with_new_valid_value a.null (Some value) (λ x. record a { null = Some x })) ≡ Ok k)
    texted true is e s = cc
    texted false is e s = takes a.null (Some value) (λ x. record a { null = Some x }) (free Text a.null e) refl

    typed : (t u : Bool) → option_map (λ _. Text []) (stood t) ≡ None → is_some (option_map (λ _. Text []) (if u then Some (tt {0}) else None)) ≡ true → (k : HeaderKeyValues) × ((if t then Err TwiceKey else (if u then Ok (record a { kind = true }) else Err BadType)) ≡ Ok k)
    typed true u e s = cc
    typed false false e s = cc
    typed false true e s = (record a { kind = true }, refl)

    by : (q : HeaderKey) → held a q ≡ None → is_some (number_of q value) ≡ true → (k : HeaderKeyValues) × (key_values_with_header_key a (Some q) value ≡ Ok k)
    by North e s = takes a.north (coordinate_of_text value) (λ x. record a { north = Some x }) (free Number a.north e) (wrapped Number (coordinate_of_text value) s)
    by South e s = takes a.south (coordinate_of_text value) (λ x. record a { south = Some x }) (free Number a.south e) (wrapped Number (coordinate_of_text value) s)
    by East e s = takes a.east (coordinate_of_text value) (λ x. record a { east = Some x }) (free Number a.east e) (wrapped Number (coordinate_of_text value) s)
    by West e s = takes a.west (coordinate_of_text value) (λ x. record a { west = Some x }) (free Number a.west e) (wrapped Number (coordinate_of_text value) s)
    by Rows e s = takes a.rows (row_or_column_count_of_text value) (λ x. record a { rows = Some x }) (free Count a.rows e) (wrapped Count (row_or_column_count_of_text value) s)
    by Cols e s = takes a.cols (row_or_column_count_of_text value) (λ x. record a { cols = Some x }) (free Count a.cols e) (wrapped Count (row_or_column_count_of_text value) s)
    by Null e s = texted (has_colon value) refl e s
    by CellType e s = typed a.kind (is_int_type value) e s
    by Multiplier e s = takes a.multiplier (whole_number_in_category_range value) (λ x. record a { multiplier = Some x }) (free Number a.multiplier e) (wrapped Number (whole_number_in_category_range value) s)

-- the keys are the keys of a header with a valid region
pub record IsHeaderOf (k : HeaderKeyValues) (h : GridHeaderContents) : Type 0 where
  pub north : k.north ≡ Some h.region.north
  pub south : k.south ≡ Some h.region.south
  pub east : k.east ≡ Some h.region.east
  pub west : k.west ≡ Some h.region.west
  pub rows : k.rows ≡ Some h.region.rows
  pub cols : k.cols ≡ Some h.region.cols
  pub null : unwrap_or k.null usual_null_text ≡ h.null_text
  pub multiplier : unwrap_or k.multiplier usual_multiplier ≡ h.multiplier
  pub good : region_or_first_fault h.region ≡ Ok h.region

same_region : (e r : RegionValue) → region_or_first_fault e ≡ Ok r → e ≡ r
same_region e r g = by (are_region_edges_in_order e) (is_row_or_column_count e.rows) (is_row_or_column_count e.cols)
    (is_within_cell_limit e) g
  where
    by : (t u v w : Bool) → (if not t then Err BadExtent else (if not u then Err BadRows else (if not v then Err BadCols else (if not w then Err TooManyCells else Ok e)))) ≡ Ok r → e ≡ r
    by false u v w g = cc
    by true false v w g = cc
    by true true false w g = cc
    by true true true false g = cc
    by true true true true g = cc

abbrev headed : HeaderKeyValues → RegionValue → GridHeaderContents
headed k x = record { region = x; null_text = unwrap_or k.null usual_null_text; multiplier = unwrap_or k.multiplier usual_multiplier }

good_region : (k : HeaderKeyValues) (x : RegionValue) (h : GridHeaderContents) (f : Result RegionValue RegionFault) → region_or_first_fault x ≡ f → header_of_keys_and_region k f ≡ Ok h → (headed k x ≡ h) × (region_or_first_fault x ≡ Ok x)
good_region k x h (Err f) e j = cc
good_region k x h (Ok y) e j =
    let same = same_region x y e in
    let p : headed k y ≡ h = cc in
    (ap (headed k) same ∙ p, e ∙ ap Ok (sym same))

abbrev with_six : HeaderKeyValues → Option ℤ → Option ℤ → Option ℤ → Option ℤ → Option ℕ → Option ℕ → HeaderKeyValues
with_six k n s e w r c = record k { north = n; south = s; east = e; west = w; rows = r; cols = c }

pub header_given : (k : HeaderKeyValues) (h : GridHeaderContents) → header_defined_by_keys k ≡ Ok h → IsHeaderOf k h
header_given k h e = by k.north k.south k.east k.west k.rows k.cols e
  where
    by : (n s e w : Option ℤ) (r c : Option ℕ) → header_defined_by_keys (with_six k n s e w r c) ≡ Ok h → IsHeaderOf (with_six k n s e w r c) h
    by (Some n) (Some s) (Some e) (Some w) (Some r) (Some c) j =
        let x : RegionValue = record { north = n; south = s; east = e; west = w; rows = r; cols = c } in
        let good = good_region k x h (region_or_first_fault x) refl j in
        subst (λ (g : GridHeaderContents). IsHeaderOf
        (with_six k (Some n) (Some s) (Some e) (Some w) (Some r) (Some c)) g) good.0
        (record { north = refl; south = refl; east = refl; west = refl; rows = refl; cols = refl; null = refl; multiplier = refl; good = good.1 })
    by n s e w r c j = cc

-- the keys of a header with a valid region give that header
pub header_kept : (k : HeaderKeyValues) (h : GridHeaderContents) → IsHeaderOf k h → header_defined_by_keys k ≡ Ok h
header_kept k h is = (λ i. header_defined_by_keys (record k { north = is.north i; south = is.south i; east = is.east i; west = is.west i; rows = is.rows i; cols = is.cols i })) ∙ ap (header_of_keys_and_region k) is.good
    ∙ (λ i. Ok (record { region = h.region; null_text = is.null i; multiplier = is.multiplier i }))

-- a valid region has at least one row and one column
pub sides : (region : RegionValue) → region_or_first_fault region ≡ Ok region → (0 < region.rows) × (0 < region.cols)
sides region good = by (are_region_edges_in_order region) (is_row_or_column_count region.rows)
    (is_row_or_column_count region.cols) refl refl good
  where
    least : (n : ℕ) → is_row_or_column_count n ≡ true → 0 < n
    least n e = let t = leb-true 1 n (and_parts (nat_le 1 n) (nat_le n 65535) e).0 in omega arith

    by : (t u v : Bool) → is_row_or_column_count region.rows ≡ u → is_row_or_column_count region.cols ≡ v → (if not t then Err BadExtent else (if not u then Err BadRows else (if not v then Err BadCols else (if not (is_within_cell_limit region) then Err TooManyCells else Ok region)))) ≡ Ok region → (0 < region.rows) × (0 < region.cols)
    by false u v r c g = cc
    by true false v r c g = cc
    by true true false r c g = cc
    by true true true r c g = (least region.rows r, least region.cols c)
