-- Each number leads to the smallest number that links join to it.
use Rattle.std.proofs.Common.{◌≡◌, ℕ, zero, suc, ◌+◌, ◌*◌, ◌/◌, ◌%◌, ◌<◌, ◌≤◌, max, min, refl, ap, sym, ◌∙◌, arith}
use Rattle.std.proofs.Common.{subst, inl, inr, ⊎_elim, ◌⊎◌}
use Rattle.std.proofs.lemmas.Bool.{cases_eq, cases_lt}
use Rattle.std.proofs.lemmas.Nat.{div-mul-add, mod-mul-add, mul-add-lt}
use Rattle.cell_clumps.specs.parts.Labels.{root_after_linking_roots, root_label_after_join}
use Rattle.cell_clumps.proofs.LabelLemmas.{by_order, closed_high, closed_other}
use Rattle.cell_clumps.proofs.MeetingLemmas.{after_join_one, after_join_keeps}

-- the two numbers are equal or joined
abbrev pub AreNear : (ℕ → ℕ → Type 0) → ℕ → ℕ → Type 0
AreNear Joined x y = (x ≡ y) ⊎ Joined x y

-- each number leads to a number that is at most as large, equal or joined to it, and leads to itself
pub record Leads (Joined : ℕ → ℕ → Type 0) (f : ℕ → ℕ) : Type 0 where
  pub low : (k : ℕ) → f k ≤ k
  pub stays : (k : ℕ) → f (f k) ≡ f k
  pub near : (k : ℕ) → AreNear Joined k (f k)

module _ (Joined : ℕ → ℕ → Type 0) (back : (x y : ℕ) → Joined x y → Joined y x)
    (onwards : (x y z : ℕ) → Joined x y → Joined y z → Joined x z) where
  near_back : (x y : ℕ) → AreNear Joined x y → AreNear Joined y x
  near_back x y (inl e) = inl (sym e)
  near_back x y (inr h) = inr (back x y h)

  near_onwards : (x y z : ℕ) → AreNear Joined x y → AreNear Joined y z → AreNear Joined x z
  near_onwards x y z (inl e) h = subst (λ (n : ℕ). AreNear Joined n z) (sym e) h
  near_onwards x y z (inr h) (inl e) = inr (subst (λ (n : ℕ). Joined x n) e h)
  near_onwards x y z (inr h) (inr k) = inr (onwards x y z h k)

  -- numbers that lead to the same number are equal or joined
  pub near_of_same : (f : ℕ → ℕ) → Leads Joined f → (x y : ℕ) → f x ≡ f y → AreNear Joined x y
  near_of_same f leads x y e = near_onwards x (f y) y (subst (λ (n : ℕ). AreNear Joined x n) e (leads.near x))
      (near_back y (f y) (leads.near y))

  -- redirecting the larger of two near numbers to the smaller keeps the properties of `Leads`
  closed_leads : (f : ℕ → ℕ) (high low : ℕ) → Leads Joined f → low ≤ high → f low ≡ low → AreNear Joined high low
      → Leads Joined (root_after_linking_roots f high low)
  closed_leads f high low leads le low_is near = record {
    low = λ k.
        let least = leads.low k in
        ⊎_elim (λ e. let is = closed_high f high low k e in omega arith)
        (λ ne. let is = closed_other f high low k ne in omega arith) (cases_eq (f k) high);
    stays = λ k.
        ⊎_elim (λ e. let is = closed_high f high low k e in ap (root_after_linking_roots f high low) is ∙ low_stays
        ∙ sym is)
        (λ ne. let is = closed_other f high low k ne in
        ap (root_after_linking_roots f high low) is ∙ closed_other f high low (f k) (λ e. ne (sym (leads.stays k) ∙ e))
        ∙ leads.stays k ∙ sym is)
        (cases_eq (f k) high);
    near = λ k.
        ⊎_elim (λ e. subst (λ (n : ℕ). AreNear Joined k n) (sym (closed_high f high low k e))
        (near_onwards k high low (subst (λ (n : ℕ). AreNear Joined k n) e (leads.near k)) near))
        (λ ne. subst (λ (n : ℕ). AreNear Joined k n) (sym (closed_other f high low k ne)) (leads.near k))
        (cases_eq (f k) high);
  }
    where
      low_stays : root_after_linking_roots f high low low ≡ low
      low_stays = ⊎_elim (λ e. closed_high f high low low e) (λ ne. closed_other f high low low ne ∙ low_is)
          (cases_eq (f low) high)

  -- the properties of `Leads` still hold after two joined numbers are made to lead to the same number
  joined_leads : (f : ℕ → ℕ) (a b : ℕ) → Leads Joined f → Joined a b → Leads Joined (root_label_after_join f a b)
  joined_leads f a b leads joined =
      let ends : AreNear Joined (f a) (f b) = near_onwards (f a) a (f b) (near_back a (f a) (leads.near a))
      (near_onwards a b (f b) (inr joined) (leads.near b)) in
      let both = by_order (λ h l. (f l ≡ l) × AreNear Joined h l) (f a) (f b) (leads.stays b, ends)
      (leads.stays a, near_back (f a) (f b) ends) in
      closed_leads f (max (f a) (f b)) (min (f a) (f b)) leads (omega arith) both.0 both.1

  module _ (Linked : ℕ → ℕ → Type 0) (decide : (x y : ℕ) → Linked x y ⊎ (Linked x y → ⊥))
      (joins : (x y : ℕ) → Linked x y → Joined x y) (count : ℕ) where
    -- a function with the properties of `Leads` under which linked numbers of the first pairs lead to the same number
    record LeadsSoFar (pairs : ℕ) : Type 0 where
      to : ℕ → ℕ
      leads : Leads Joined to
      same : (p : ℕ) → p < pairs → Linked (p / count) (p % count) → to (p / count) ≡ to (p % count)

    one_more : (pairs : ℕ) → LeadsSoFar pairs → Linked (pairs / count) (pairs % count) ⊎
        (Linked (pairs / count) (pairs % count) → ⊥) → LeadsSoFar (suc pairs)
    one_more pairs so_far (inl linked) =
        let a = pairs / count in
        let b = pairs % count in
        record {
          to = root_label_after_join so_far.to a b;
          leads = joined_leads so_far.to a b so_far.leads (joins a b linked);
          same = λ p lt links.
              ⊎_elim (λ less. after_join_keeps so_far.to a b (p / count) (p % count) (so_far.same p less links))
              (λ le. let e : pairs ≡ p = omega arith in
              subst (λ (n : ℕ). root_label_after_join so_far.to a b (n / count)
              ≡ root_label_after_join so_far.to a b (n % count)) e
              (after_join_one so_far.to a b))
              (cases_lt p pairs);
        }
    one_more pairs so_far (inr apart) = record {
      to = so_far.to;
      leads = so_far.leads;
      same = λ p lt links.
          ⊎_elim (λ less. so_far.same p less links)
          (λ le. let e : p ≡ pairs = omega arith in absurd
          (apart (subst (λ (n : ℕ). Linked (n / count) (n % count)) e links)))
          (cases_lt p pairs);
    }

    so_far : (pairs : ℕ) → LeadsSoFar pairs
    so_far zero = record {
      to = λ k. k;
      leads = record { low = λ k. omega arith; stays = λ k. refl; near = λ k. inl refl };
      same = λ p lt. absurd (omega arith);
    }
    so_far (suc pairs) = one_more pairs (so_far pairs) (decide (pairs / count) (pairs % count))

    -- some function with the properties of `Leads` makes any two linked numbers below the count lead to the same number
    pub leads_all : (f : ℕ → ℕ) × (Leads Joined f × ((x y : ℕ) → x < count → y < count → Linked x y → f x ≡ f y))
    leads_all =
        let all = so_far (count * count) in (
          all.to,
          (
            all.leads,
            λ x y x_lt y_lt linked.
                let first = div-mul-add x count y y_lt in
                let second = mod-mul-add x count y y_lt in
                let p = x * count + y in
                let here : Linked (p / count) (p % count) = subst (λ (n : ℕ). Linked n (p % count)) (sym first)
                (subst (λ (n : ℕ). Linked x n) (sym second) linked) in
                ap all.to (sym first) ∙ all.same p (mul-add-lt x count y count x_lt y_lt) here ∙ ap all.to second,
          ),
        )
