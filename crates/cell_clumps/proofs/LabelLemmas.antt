-- A label table keeps its properties when an entry is overwritten.
use Rattle.std.proofs.Common.{◌≡◌, ℕ, ◌+◌, ◌++◌, ◌∷◌, [], ◌<◌, ◌≤◌, List, length, get_or, set, refl, ap, sym, ◌∙◌, arith, subst, ⊎_elim, eqb, eq-eqb, cond, max, min, get_or-set_other, get_or-set_same}
use Rattle.std.proofs.Math.ListN.{length-set}
use Rattle.std.proofs.lemmas.List.{length_push, get_or_push, get_or_append_left}
use Rattle.std.proofs.lemmas.Grind.{common_steps}
use Rattle.std.proofs.lemmas.Bool.{cases_eq, cases_lt, ne_eqb, cond-true, cond-false}
use Rattle.cell_clumps.specs.parts.Labels.{LabelsPointToSmallerOrSelf, LabelsLeadToRoots, root_after_linking_roots}
use Rattle.cell_clumps.specs.parts.Labels.{root_label_after_join}

-- a property of every entry holds after one entry is overwritten, if it holds of the new entry
at_set : (P : ℕ → Type 0) (table : List ℕ) (x v k : ℕ) → x < length table → (k ≡ x → P v) → ((k ≡ x → ⊥) → P (get_or table k 0)) → P (get_or (set table x v) k 0)
at_set P table x v k inside same other =
    ⊎_elim (λ e. subst P (sym (ap (λ (i : ℕ). get_or (set table x v) i 0) e ∙ get_or-set_same table x v 0 inside)) (same e))
    (λ ne. subst P (sym (get_or-set_other table x k v 0 ne)) (other ne)) (cases_eq k x)

pub LabelsPointToSmallerOrSelf-set : (table : List ℕ) (x v : ℕ) → x < length table → v ≤ x
    → LabelsPointToSmallerOrSelf table → LabelsPointToSmallerOrSelf (set table x v)
LabelsPointToSmallerOrSelf-set table x v inside le down k = at_set (λ (n : ℕ). n ≤ k) table x v k inside (λ e. omega arith) (λ ne. down k)

-- halving a path changes none of the open labels that labels lead to
pub LabelsLeadToRoots-halved : (table : List ℕ) (x : ℕ) (open_of : ℕ → ℕ) → LabelsPointToSmallerOrSelf table → x < length table → LabelsLeadToRoots table open_of → LabelsLeadToRoots (set table x (get_or table (get_or table x 0) 0)) open_of
LabelsLeadToRoots-halved table x open_of down inside reports =
    let next : ℕ = get_or table x 0 in
    let far : ℕ = get_or table next 0 in
    let next_low : next ≤ x = down x in
    let far_low : far ≤ next = down next in
    let next_inside : next < length table = omega arith in
    let long = length-set table x far in
    record {
      points = λ k lt. let lt' : k < length table = omega arith in
          at_set (λ (n : ℕ). open_of n ≡ open_of k) table x far k inside
          (λ e. reports.points next next_inside ∙ reports.points x inside
          ∙ ap open_of (sym e)) (λ ne. reports.points k lt');
      itself = λ k lt. let lt' : k < length table = omega arith in
          at_set (λ (n : ℕ). n ≡ k → open_of k ≡ k) table x far k inside
          (λ e same. reports.itself k lt' (let is : get_or table k 0 ≡ next = ap (λ (i : ℕ). get_or table i 0) e in omega arith)) (λ ne. reports.itself k lt');
      is_open = λ k lt. let lt' : k < length table = omega arith in
          at_set (λ (n : ℕ). n ≡ open_of k) table x far (open_of k) inside
          (λ e. let is = reports.is_open k lt' in
          let here : next ≡ x = sym (ap (λ (i : ℕ). get_or table i 0) e) ∙ is ∙ e in
          ap (λ (i : ℕ). get_or table i 0) here ∙ here ∙ sym e)
          (λ ne. reports.is_open k lt');
      low = λ k lt. reports.low k (omega arith);
    }

pub closed_high : (f : ℕ → ℕ) (high low k : ℕ) → f k ≡ high → root_after_linking_roots f high low k ≡ low
closed_high f high low k e = cond-true (eqb (f k) high) low (f k) (eq-eqb _ _ e)

pub closed_other : (f : ℕ → ℕ) (high low k : ℕ) → (f k ≡ high → ⊥) → root_after_linking_roots f high low k ≡ f k
closed_other f high low k ne = cond-false (eqb (f k) high) low (f k) (ne_eqb _ _ ne)

-- closing an open label redirects the labels that led to it
LabelsLeadToRoots-closed : (table : List ℕ) (high low : ℕ) (open_of : ℕ → ℕ) → high < length table → low ≤ high → get_or table high 0 ≡ high → get_or table low 0 ≡ low → LabelsLeadToRoots table open_of → LabelsLeadToRoots (set table high low) (root_after_linking_roots open_of high low)
LabelsLeadToRoots-closed table high low open_of inside le high_open low_open reports =
    let long = length-set table high low in
    let high_is : open_of high ≡ high = reports.itself high inside high_open in
    let low_is : open_of low ≡ low = reports.itself low (omega arith) low_open in
    let f : ℕ → ℕ = root_after_linking_roots open_of high low in
    let to_low = closed_high open_of high low in
    let stays = closed_other open_of high low in
    let low_stays : f low ≡ low = ⊎_elim (λ e. to_low low e) (λ ne. stays low ne ∙ low_is) (cases_eq (open_of low) high) in
    record {
      points = λ k lt. let lt' : k < length table = omega arith in
          at_set (λ (n : ℕ). f n ≡ f k) table high low k inside
          (λ e. low_stays ∙ sym (to_low k (ap open_of e ∙ high_is)))
          (λ ne. ap (λ (n : ℕ). cond (eqb n high) low n) (reports.points k lt'));
      itself = λ k lt. let lt' : k < length table = omega arith in
          at_set (λ (n : ℕ). n ≡ k → f k ≡ k) table high low k inside
          (λ e same. to_low k (ap open_of e ∙ high_is) ∙ same)
          (λ ne same. let is = reports.itself k lt' same in stays k (λ e. ne (sym is ∙ e)) ∙ is);
      is_open = λ k lt. let lt' : k < length table = omega arith in
          ⊎_elim
          (λ e. subst (λ (n : ℕ). get_or (set table high low) n 0 ≡ n) (sym (to_low k e))
          (at_set (λ (n : ℕ). n ≡ low) table high low low inside (λ _. refl) (λ _. low_open)))
          (λ ne. subst (λ (n : ℕ). get_or (set table high low) n 0 ≡ n) (sym (stays k ne))
          (at_set (λ (n : ℕ). n ≡ open_of k) table high low (open_of k) inside (λ e. absurd (ne e)) (λ _. reports.is_open k lt')))
          (cases_eq (open_of k) high);
      low = λ k lt. let least = reports.low k (omega arith) in
          ⊎_elim (λ e. let is = to_low k e in omega arith) (λ ne. let is = stays k ne in omega arith) (cases_eq (open_of k) high);
    }

-- a property of two numbers in either order holds of their maximum and minimum
pub by_order : (P : ℕ → ℕ → Type 0) (x y : ℕ) → P x y → P y x → P (max x y) (min x y)
by_order P x y one other =
    ⊎_elim (λ lt. let e : max x y ≡ y = omega arith in let d : min x y ≡ x = omega arith in rw (e, d) other)
    (λ le. let e : max x y ≡ x = omega arith in let d : min x y ≡ y = omega arith in rw (e, d) one) (cases_lt x y)

-- joining two labels makes the larger of their open labels point to the smaller
pub LabelsLeadToRoots-after : (table : List ℕ) (a b : ℕ) (open_of : ℕ → ℕ) → a < length table → b < length table → LabelsLeadToRoots table open_of → LabelsLeadToRoots (set table (max (open_of a) (open_of b)) (min (open_of a) (open_of b))) (root_label_after_join open_of a b)
LabelsLeadToRoots-after table a b open_of a_inside b_inside reports =
    let a_low = reports.low a a_inside in
    let b_low = reports.low b b_inside in
    let a_open = reports.is_open a a_inside in
    let b_open = reports.is_open b b_inside in
    let both = by_order (λ h l. (get_or table h 0 ≡ h) × (get_or table l 0 ≡ l)) (open_of a) (open_of b) (a_open, b_open) (b_open, a_open) in
    LabelsLeadToRoots-closed table (max (open_of a) (open_of b)) (min (open_of a) (open_of b)) open_of (omega arith) (omega arith) both.0 both.1 reports

-- joining two labels is correct if `high` and `low` are the maximum and minimum of their open labels
pub LabelsLeadToRoots-joined : (table : List ℕ) (a b first second high low : ℕ) (open_of : ℕ → ℕ) → a < length table → b < length table → LabelsLeadToRoots table open_of → first ≡ open_of a → second ≡ open_of b → high ≡ max first second → low ≡ min first second → LabelsLeadToRoots (set table high low) (root_label_after_join open_of a b)
LabelsLeadToRoots-joined table a b first second high low open_of a_inside b_inside reports e d high_is low_is =
    let high' : high ≡ max (open_of a) (open_of b) = omega arith in
    let low' : low ≡ min (open_of a) (open_of b) = omega arith in
    subst (λ (l : ℕ). LabelsLeadToRoots (set table high l) (root_label_after_join open_of a b)) (sym low')
    (subst (λ (h : ℕ). LabelsLeadToRoots (set table h (min (open_of a) (open_of b))) (root_label_after_join open_of a b)) (sym high') (LabelsLeadToRoots-after table a b open_of a_inside b_inside reports))

-- ---- adding an open label

pub down_more : (table : List ℕ) (l : ℕ) → LabelsPointToSmallerOrSelf table → l ≡ length table
    → LabelsPointToSmallerOrSelf (table ++ l ∷ [])
down_more table l down own k = grind (arith, common_steps)

abbrev pub extended : (ℕ → ℕ) → ℕ → ℕ → ℕ
extended open_of n k = cond (eqb k n) n (open_of k)

pub extended_new : (open_of : ℕ → ℕ) (n : ℕ) → extended open_of n n ≡ n
extended_new open_of n = cond-true (eqb n n) n (open_of n) (eq-eqb _ _ refl)

pub extended_old : (open_of : ℕ → ℕ) (n k : ℕ) → k < n → extended open_of n k ≡ open_of k
extended_old open_of n k lt = cond-false (eqb k n) n (open_of k) (ne_eqb _ _ (λ e. absurd (omega arith)))

pub LabelsLeadToRoots-push : (table : List ℕ) (open_of : ℕ → ℕ) → LabelsPointToSmallerOrSelf table → LabelsLeadToRoots table open_of → LabelsLeadToRoots (table ++ length table ∷ []) (extended open_of (length table))
LabelsLeadToRoots-push table open_of down reports =
    let n : ℕ = length table in
    let new : List ℕ = table ++ n ∷ [] in
    let f : ℕ → ℕ = extended open_of n in
    let long : length new ≡ n + 1 = length_push table n in
    let last : get_or new n 0 ≡ n = get_or_push table n 0 n refl in
    let old : (k : ℕ) → k < n → get_or new k 0 ≡ get_or table k 0 = λ k lt. get_or_append_left table (n ∷ []) 0 k lt in
    let same : f n ≡ n = extended_new open_of n in
    let kept : (k : ℕ) → k < n → f k ≡ open_of k = λ k lt. extended_old open_of n k lt in
    let each : (P : ℕ → Type 0) → ((k : ℕ) → k < n → P k) → P n → (k : ℕ) → k < length new → P k = λ P below here k lt. ⊎_elim (λ less. below k less) (λ le. let e : n ≡ k = omega arith in subst P e here) (cases_lt k n) in
    record {
      points = each (λ k. f (get_or new k 0) ≡ f k)
          (λ k lt. let low = down k in ap f (old k lt) ∙ kept (get_or table k 0) (omega arith) ∙ reports.points k lt ∙ sym (kept k lt))
          (ap f last);
      itself = each (λ k. get_or new k 0 ≡ k → f k ≡ k)
          (λ k lt e. kept k lt ∙ reports.itself k lt (sym (old k lt) ∙ e))
          (λ e. same);
      is_open = each (λ k. get_or new (f k) 0 ≡ f k)
          (λ k lt. let low = reports.low k lt in subst (λ (i : ℕ). get_or new i 0 ≡ i) (sym (kept k lt)) (old (open_of k) (omega arith) ∙ reports.is_open k lt))
          (subst (λ (i : ℕ). get_or new i 0 ≡ i) (sym same) last);
      low = each (λ k. f k ≤ k)
          (λ k lt. let low = reports.low k lt in let is = kept k lt in omega arith)
          (omega arith);
    }
