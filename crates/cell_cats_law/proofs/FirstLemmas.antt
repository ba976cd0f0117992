-- The first cells of a map's clumps, in row order, and the number of each cell.
use Rattle.std.proofs.Common.{◌≡◌, ℕ, zero, suc, ℤ, ◌<◌, ◌≤◌, Bool, true, false, ◌&&◌, cond, eqb, eq-eqb, List, [], ◌∷◌}
use Rattle.std.proofs.Common.{◌++◌, length, Some, IsSome, is_some, get_or, refl, ap, sym, ◌∙◌, arith, subst, ⊎_elim}
use Rattle.std.specs.List.{Contains, AllPairs}
use Rattle.std.proofs.lemmas.Bool.{cases_lt, cases_Bool, cond-true, cond-false, and_from, and_parts, eqb-true}
use Rattle.std.proofs.lemmas.Nat.{div-add-mod'}
use Rattle.std.proofs.lemmas.List.{length_push}
use Rattle.std.proofs.lemmas.List.Elements.{Contains-get_or, Contains-append_left, Contains-push, Contains-push_cases}
use Rattle.std.proofs.lemmas.List.Quantifiers.{all_pairs_push}
use Rattle.cell_core.specs.Grid.{Grid, RowsFillRegion}
use Rattle.cell_clumps.specs.declared.clump.Joining.{Joining}
use Rattle.cell_clumps.specs.Clumps.{Position, cell_at_position, IsEarlierCell, AreCellsConnected, IsFirstCellOfClump}
use Rattle.cell_clumps.specs.Clumps.{HasClumpNumber}
use Rattle.cell_clumps.specs.parts.CellPlaces.{position_at_place, place_of_position, IsInsideMap}
use Rattle.cell_clumps.proofs.LawLemmas.{cases_before}
use Rattle.cell_clumps.proofs.MeetingLemmas.{some_of}
use Rattle.cell_clumps.proofs.PathLemmas.{AreJoined-refl, AreJoined-sym, AreJoined-first}
use Rattle.cell_clumps.proofs.StartLemmas.{cell_of-place, place_lt, inside_map, grows}
use Rattle.cell_cats_law.proofs.LinkLemmas.{AreLed}

module _ (j : Joining) (m : Grid) (filled : RowsFillRegion m.region m.rows) (f : ℕ → ℕ) (led : AreLed j m f) where
  abbrev place : Position → ℕ
  place p = place_of_position m.region.cols p

  abbrev at : ℕ → Position
  at k = position_at_place m.region.cols k

  place_of : (k : ℕ) → place (at k) ≡ k
  place_of k = div-add-mod' k m.region.cols

  at_of : (p : Position) → IsInsideMap m p → at (place p) ≡ p
  at_of p inside = cell_of-place m.region.cols p.row p.col inside.1

  -- the place of the first cell of the clump that contains a cell
  abbrev pub first_place : Position → ℕ
  first_place p = f (place p)

  -- the first cell of a clump is joined to each cell of the clump
  first_joined : (p : Position) (v : ℤ) → cell_at_position m p ≡ Some v → AreCellsConnected j m (at (first_place p)) p
  first_joined p v is =
      let inside = inside_map m p v filled is in
      ⊎_elim
      (λ e. subst (λ (s : Position). AreCellsConnected j m s p) (sym (at_of p inside)
      ∙ ap at e) (AreJoined-refl j m p v is))
      (λ h. AreJoined-sym j m p (at (first_place p))
      (subst (λ (s : Position). AreCellsConnected j m s (at (first_place p))) (at_of p inside) h))
      (led.first (place p))

  first_is : (p : Position) (v : ℤ) → cell_at_position m p ≡ Some v → IsFirstCellOfClump j m (at (first_place p))
  first_is p v is =
      let g : Position = at (first_place p) in
      let joined = first_joined p v is in
      let w = joined.category in
      let g_is = AreJoined-first j m g p joined in
      record {
        category = rw g_is refl;
        none_before = λ q before to_g.
            let q_is = AreJoined-first j m q g to_g in
            let q_in = inside_map m q to_g.category filled q_is in
            let same : f (place q) ≡ f (place g) = led.one q g to_g in
            let g_place = place_of (first_place p) in
            let g_leads : f (place g) ≡ first_place p = ap f g_place ∙ led.stays (place p) in
            let low = led.low (place q) in
            let less = place_lt m.region.cols q g q_in.1 before in
            absurd (omega (arith, same, g_place, g_leads, low, less));
      }

  -- the first cell of its clump is its own first cell
  own_place : (p : Position) → IsFirstCellOfClump j m p → first_place p ≡ place p
  own_place p h =
      let v = some_of (cell_at_position m p) h.category in
      let inside = inside_map m p v.0 filled v.1 in
      let g : Position = at (first_place p) in
      let joined = first_joined p v.0 v.1 in
      let g_in = inside_map m g joined.category filled (AreJoined-first j m g p joined) in
      let g_place = place_of (first_place p) in
      ⊎_elim (λ e. sym g_place ∙ ap place e)
      (λ apart. ⊎_elim (λ before. absurd (h.none_before g before joined))
      (λ behind. let less = place_lt m.region.cols p g inside.1 behind in let low = led.low (place p) in absurd
      (omega (arith, less, low, g_place)))
      apart) (cases_before g p)

  -- ---- the first cells before a place

  abbrev is_own : ℕ → Bool
  is_own k = is_some (cell_at_position m (at k)) && eqb (f k) k

  abbrev pub firsts : ℕ → List Position
  firsts zero = []
  firsts (suc k) = cond (is_own k) (firsts k ++ at k ∷ []) (firsts k)

  own_is_first : (k : ℕ) → is_own k ≡ true → IsFirstCellOfClump j m (at k)
  own_is_first k own =
      let some : IsSome (cell_at_position m (at k)) = (and_parts (is_some (cell_at_position m (at k))) (eqb (f k) k) own).0 in
      let v = some_of (cell_at_position m (at k)) some in
      let stays : f k ≡ k = eqb-true (f k) k ((and_parts (is_some (cell_at_position m (at k))) (eqb (f k) k) own).1) in
      let here : first_place (at k) ≡ k = ap f (place_of k) ∙ stays in
      subst (λ (n : ℕ). IsFirstCellOfClump j m (at n)) here (first_is (at k) v.0 v.1)

  first_is_own : (p : Position) → IsFirstCellOfClump j m p → is_own (place p) ≡ true
  first_is_own p h =
      let v = some_of (cell_at_position m p) h.category in
      let inside = inside_map m p v.0 filled v.1 in
      let some : is_some (cell_at_position m (at (place p))) ≡ true = ap (λ (s : Position). is_some (cell_at_position m s))
      (at_of p inside) ∙ h.category in
      and_from (is_some (cell_at_position m (at (place p)))) (eqb (f (place p)) (place p)) some
      (eq-eqb (f (place p)) (place p) (own_place p h))

  record AreFirstsBelow (k : ℕ) (ps : List Position) : Type 0 where
    in_order : AllPairs IsEarlierCell ps
    are_first : (p : Position) → Contains ps p → IsFirstCellOfClump j m p × (place p < k)
    all : (p : Position) → IsFirstCellOfClump j m p → place p < k → Contains ps p

  firsts_more : (k : ℕ) (ps : List Position) → AreFirstsBelow k ps → is_own k ≡ true → AreFirstsBelow (suc k)
      (ps ++ at k ∷ [])
  firsts_more k ps h own =
      let here = own_is_first k own in
      let v = some_of (cell_at_position m (at k)) here.category in
      let k_in = inside_map m (at k) v.0 filled v.1 in
      record {
        in_order = all_pairs_push IsEarlierCell ps (at k) h.in_order
            (λ i d lt.
            let p : Position = get_or ps i d in
            let is = h.are_first p (Contains-get_or ps i d lt) in
            let u = some_of (cell_at_position m p) is.0.category in
            let p_in = inside_map m p u.0 filled u.1 in
            let less = is.1 in
            let k_place = place_of k in
            ⊎_elim (λ e. let same : place p ≡ place (at k) = ap place e in absurd (omega (arith, same, k_place, less)))
            (λ apart. ⊎_elim (λ before. before)
            (λ behind. let more = place_lt m.region.cols (at k) p k_in.1 behind in absurd
            (omega (arith, more, k_place, less))) apart)
            (cases_before p (at k)));
        are_first = λ p has.
            ⊎_elim (λ old. let is = h.are_first p old in (is.0, let less = is.1 in omega (arith, less)))
            (λ e. (
              subst (IsFirstCellOfClump j m) e here,
              let k_place = place_of k in let same : place (at k) ≡ place p =
                  ap place e in omega (arith, k_place, same),
            ))
            (Contains-push_cases ps (at k) p has);
        all = λ p first lt.
            ⊎_elim (λ less. Contains-append_left ps (at k ∷ []) p (h.all p first less))
            (λ le.
            let u = some_of (cell_at_position m p) first.category in
            let p_in = inside_map m p u.0 filled u.1 in
            let e : k ≡ place p = omega (arith, lt, le) in
            let same : at k ≡ p = ap at e ∙ at_of p p_in in
            subst (λ (s : Position). Contains (ps ++ at k ∷ []) s) same (Contains-push ps (at k)))
            (cases_lt (place p) k);
      }

  firsts_same : (k : ℕ) (ps : List Position) → AreFirstsBelow k ps → is_own k ≡ false → AreFirstsBelow (suc k) ps
  firsts_same k ps h own = record {
    in_order = h.in_order;
    are_first = λ p has. let is = h.are_first p has in (is.0, let less = is.1 in omega (arith, less));
    all = λ p first lt.
        ⊎_elim (λ less. h.all p first less)
        (λ le.
        let e : place p ≡ k = omega (arith, lt, le) in
        let both : true ≡ false = sym (first_is_own p first) ∙ ap is_own e ∙ own in cc)
        (cases_lt (place p) k);
  }

  are_firsts : (k : ℕ) → AreFirstsBelow k (firsts k)
  are_firsts zero = record {
    in_order = λ i k d lt inside. absurd (omega (arith, inside));
    are_first = λ p has. absurd (let lt = has.1 in omega (arith, lt));
    all = λ p first lt. absurd (omega (arith, lt));
  }
  are_firsts (suc k) =
      ⊎_elim (λ own. subst (AreFirstsBelow (suc k)) (sym (cond-true (is_own k) (firsts k ++ at k ∷ []) (firsts k) own))
      (firsts_more k (firsts k) (are_firsts k) own))
      (λ own. subst (AreFirstsBelow (suc k)) (sym (cond-false (is_own k) (firsts k ++ at k ∷ []) (firsts k) own))
      (firsts_same k (firsts k) (are_firsts k) own))
      (cases_Bool (is_own k))

  -- ---- the number of a cell

  abbrev pub number : Position → ℕ
  number p = length (firsts (suc (first_place p)))

  pub has_number : (p : Position) (v : ℤ) → cell_at_position m p ≡ Some v → HasClumpNumber j m p (number p)
  has_number p v is =
      let g : Position = at (first_place p) in
      let joined = first_joined p v is in
      let g_in = inside_map m g joined.category filled (AreJoined-first j m g p joined) in
      let g_place = place_of (first_place p) in
      let below = are_firsts (suc (first_place p)) in
      record {
        first = g;
        is_first = first_is p v is;
        joined = joined;
        firsts = firsts (suc (first_place p));
        up_to = record {
          in_order = below.in_order;
          exactly = λ q. (
            λ has. let is = below.are_first q has in (
              is.0,
              λ before.
                  let less = is.1 in
                  let more = place_lt m.region.cols g q g_in.1 before in
                  absurd (omega (arith, less, more, g_place)),
            ),
            λ both.
                let u = some_of (cell_at_position m q) both.0.category in
                let q_in = inside_map m q u.0 filled u.1 in
                below.all q both.0
                (⊎_elim (λ e. let same : place q ≡ place g = ap place e in omega (arith, same, g_place))
                (λ apart. ⊎_elim (λ before. let less = place_lt m.region.cols q g q_in.1 before in omega
                (arith, less, g_place)) (λ behind. absurd (both.1 behind)) apart)
                (cases_before q g)),
          );
        };
        count = refl;
      }

  -- ---- cells with the same number are joined

  count_step : (k : ℕ) → length (firsts k) ≤ length (firsts (suc k))
  count_step k =
      ⊎_elim (λ own. let e = ap (length {A = Position}) (cond-true (is_own k) (firsts k ++ at k ∷ []) (firsts k) own) in
      let l = length_push (firsts k) (at k) in omega (arith, e, l))
      (λ own. let e = ap (length {A = Position}) (cond-false (is_own k) (firsts k ++ at k ∷ []) (firsts k) own) in omega
      (arith, e))
      (cases_Bool (is_own k))

  -- of two clumps, the one whose first cell comes later has the larger number
  later_is_more : (p q : Position) (v : ℤ) → cell_at_position m q ≡ Some v → first_place p < first_place q
      → number p < number q
  later_is_more p q v is lt =
      let k : ℕ = first_place q in
      let first = first_is q v is in
      let own : is_own k ≡ true = ap is_own (sym (place_of k)) ∙ first_is_own (at k) first in
      let e = ap (length {A = Position}) (cond-true (is_own k) (firsts k ++ at k ∷ []) (firsts k) own) in
      let l = length_push (firsts k) (at k) in
      let before = grows (λ n. length (firsts n)) count_step (suc (first_place p)) k (omega (arith, lt)) in
      omega (arith, e, l, before)

  pub one_number : (p q : Position) (v u : ℤ) → cell_at_position m p ≡ Some v → cell_at_position m q ≡ Some u
      → number p ≡ number q → AreCellsConnected j m p q
  one_number p q v u p_is q_is same =
      let p_in = inside_map m p v filled p_is in
      let q_in = inside_map m q u filled q_is in
      ⊎_elim (λ lt. let more = later_is_more p q u q_is lt in absurd (omega (arith, more, same)))
      (λ le. ⊎_elim (λ lt. let more = later_is_more q p v p_is lt in absurd (omega (arith, more, same)))
      (λ ge. led.near p q v p_in q_in p_is (omega (arith, le, ge)))
      (cases_lt (first_place q) (first_place p)))
      (cases_lt (first_place p) (first_place q))

  pub joined_number : (p q : Position) → AreCellsConnected j m p q → number p ≡ number q
  joined_number p q h = ap (λ (k : ℕ). length (firsts (suc k))) (led.one p q h)
