-- Limits on one side of a tile: how far its maps have the full map's cells, and what reads leave of a limit.
use Rattle.std.proofs.Common.{◌≡◌, ℕ, ℤ, suc, pos, negsuc, ◌+◌, ◌-◌, ◌<◌, ◌≤◌, ◌+ℤ◌, false}
use Rattle.std.proofs.Common.{◌⊎◌, inl, inr, ⊎_elim, cond, Option, Some, None, refl, ap, sym, subst, ◌∙◌, arith}
use Rattle.std.proofs.Math.IntN.{sub_ℕ}
use Rattle.std.proofs.lemmas.Bool.{cases_lt, lt-ltb, ltb-false}
use Rattle.cell_calc_language.specs.Grammatical.{cell_count_up_or_left, cell_count_down_or_right}
use Rattle.rcell_plan.proofs.HaloLemmas.{sub-pos}
use Rattle.rcell_tile.specs.HaloMargins.{exceeds_limit, limit_after_read, smaller_limit}

-- ---- limits

-- a read n cells away from cells within the first limit stays within the second
abbrev pub LeavesLimit : Option ℕ → ℕ → Option ℕ → Type 0
LeavesLimit made n None = Unit {0}
LeavesLimit None n (Some limit) = ⊥
LeavesLimit (Some m) n (Some limit) = m + n ≤ limit

-- the first limit is not beyond the second
abbrev pub IsWithinLimit : Option ℕ → Option ℕ → Type 0
IsWithinLimit made limit = LeavesLimit made 0 limit

pub within-itself : (a : Option ℕ) → IsWithinLimit a a
within-itself None = tt
within-itself (Some n) = omega arith

pub within-both : (a b c : Option ℕ) → IsWithinLimit a b → IsWithinLimit b c → IsWithinLimit a c
within-both a b None h k = tt
within-both a None (Some n) h k = absurd k
within-both None (Some m) (Some n) h k = absurd h
within-both (Some l) (Some m) (Some n) h k = omega (arith, h, k)

pub smaller-first : (a b : Option ℕ) → IsWithinLimit (smaller_limit a b) a
smaller-first None b = tt
smaller-first (Some a) None = omega arith
smaller-first (Some a) (Some b) = omega arith

pub smaller-second : (a b : Option ℕ) → IsWithinLimit (smaller_limit a b) b
smaller-second None None = tt
smaller-second None (Some b) = omega arith
smaller-second (Some a) None = tt
smaller-second (Some a) (Some b) = omega arith

-- what is within the rest of a limit leaves the limit to a read that does not exceed it
pub rest-leaves : (made limit : Option ℕ) (n : ℕ) → exceeds_limit limit n ≡ false
    → IsWithinLimit made (limit_after_read limit n) → LeavesLimit made n limit
rest-leaves made None n fits h = tt
rest-leaves None (Some limit) n fits h = absurd h
rest-leaves (Some m) (Some limit) n fits h =
    let le : n ≤ limit = ltb-false limit n fits in
    omega (arith, le, h)

-- a limit that leaves a read leaves each shorter read
pub leaves-shorter : (made limit : Option ℕ) (m n : ℕ) → m ≤ n → LeavesLimit made n limit → LeavesLimit made m limit
leaves-shorter made None m n le h = tt
leaves-shorter None (Some limit) m n le h = absurd h
leaves-shorter (Some k) (Some limit) m n le h = omega (arith, le, h)

-- ---- indices within limits, before and after the tile

-- the index is at most so far before the first
abbrev pub IsNotBefore : Option ℕ → (start i : ℕ) → Type 0
IsNotBefore None start i = Unit {0}
IsNotBefore (Some up) start i = start ≤ i + up

-- the index is less than so far after the last
abbrev pub IsNotAfter : Option ℕ → (end i : ℕ) → Type 0
IsNotAfter None end i = Unit {0}
IsNotAfter (Some down) end i = i < end + down

-- the maps of the tile, which begin at `first`, contain the limit before the tile, or begin with the full map
abbrev pub FitsBefore : Option ℕ → (first start : ℕ) → Type 0
FitsBefore None first start = first ≡ 0
FitsBefore (Some up) first start = first + up ≤ start

-- the maps of the tile, which end at `last`, contain the limit after the tile, or end with the full map
abbrev pub FitsAfter : Option ℕ → (last end total : ℕ) → Type 0
FitsAfter None last end total = last ≡ total
FitsAfter (Some down) last end total = end + down ≤ last

before-moved : (made limit : Option ℕ) (n start i j : ℕ) → LeavesLimit made n limit → IsNotBefore made start i
    → i ≤ j + n → IsNotBefore limit start j
before-moved made None n start i j h not_before le = tt
before-moved None (Some limit) n start i j h not_before le = absurd h
before-moved (Some m) (Some limit) n start i j h not_before le = omega (arith, h, not_before, le)

after-moved : (made limit : Option ℕ) (n end i j : ℕ) → LeavesLimit made n limit → IsNotAfter made end i
    → j ≤ i + n → IsNotAfter limit end j
after-moved made None n end i j h not_after le = tt
after-moved None (Some limit) n end i j h not_after le = absurd h
after-moved (Some m) (Some limit) n end i j h not_after le = omega (arith, h, not_after, le)

before-smaller : (a b : Option ℕ) (first start : ℕ) → FitsBefore a first start → FitsBefore b first start
    → FitsBefore (smaller_limit a b) first start
before-smaller None b first start h k = k
before-smaller (Some a) None first start h k = h
before-smaller (Some a) (Some b) first start h k = omega (arith, h, k)

after-smaller : (a b : Option ℕ) (last end total : ℕ) → FitsAfter a last end total → FitsAfter b last end total
    → FitsAfter (smaller_limit a b) last end total
after-smaller None b last end total h k = k
after-smaller (Some a) None last end total h k = h
after-smaller (Some a) (Some b) last end total h k = omega (arith, h, k)

before-rest : (a : Option ℕ) (n first start : ℕ) → FitsBefore a first start
    → FitsBefore (limit_after_read a n) first start
before-rest None n first start h = h
before-rest (Some a) n first start h = omega (arith, h)

after-rest : (a : Option ℕ) (n last end total : ℕ) → FitsAfter a last end total
    → FitsAfter (limit_after_read a n) last end total
after-rest None n last end total h = h
after-rest (Some a) n last end total h = omega (arith, h)

-- ---- the index that an offset leads to

sub-negative : (p n : ℕ) → p < suc n → sub_ℕ p (suc n) ≡ negsuc (suc n - suc p)
sub-negative p n lt = ap (λ b. cond b (negsuc (suc n - suc p)) (pos (p - suc n))) (lt-ltb p (suc n) lt)

-- no list of this length has the index
abbrev pub IsOutside : ℕ → ℤ → Type 0
IsOutside count (pos i) = count ≤ i
IsOutside count (negsuc i) = Unit {0}

-- rows or columns in one dimension: of the full map, of the tile's maps and of the tile
pub record Stretches : Type 0 where
  pub total : ℕ
  pub first : ℕ
  pub count : ℕ
  pub start : ℕ
  pub size : ℕ

-- each is within the one before
pub record AreStretches (s : Stretches) : Type 0 where
  pub start : s.first ≤ s.start
  pub end : s.start + s.size ≤ s.first + s.count
  pub last : s.first + s.count ≤ s.total

-- the index is within limits on both sides
pub record IsWithinLimits (s : Stretches) (up down : Option ℕ) (i : ℕ) : Type 0 where
  pub before : IsNotBefore up s.start i
  pub after : IsNotAfter down (s.start + s.size) i

-- the limits on both sides fit
pub record LimitsFit (s : Stretches) (up down : Option ℕ) : Type 0 where
  pub before : FitsBefore up s.first s.start
  pub after : FitsAfter down (s.first + s.count) (s.start + s.size) s.total

-- an index within limits that fit is within the tile's maps
not-before-first : (up : Option ℕ) (first start i : ℕ) → FitsBefore up first start → IsNotBefore up start i
    → first ≤ i
not-before-first None first start i fits h = omega (arith, fits)
not-before-first (Some up) first start i fits h = omega (arith, fits, h)

not-after-last : (down : Option ℕ) (last end total i : ℕ) → FitsAfter down last end total
    → IsNotAfter down end i → i < total → i < last
not-after-last None last end total i fits h lt = omega (arith, fits, lt)
not-after-last (Some down) last end total i fits h lt = omega (arith, fits, h)

pub within-maps : (s : Stretches) (up down : Option ℕ) (i : ℕ) → LimitsFit s up down → IsWithinLimits s up down i
    → i < s.total → (s.first ≤ i) × (i < s.first + s.count)
within-maps s up down i fit within inside = (
  not-before-first up s.first s.start i fit.before within.before,
  not-after-last down (s.first + s.count) (s.start + s.size) s.total i fit.after within.after inside,
)

-- each row or column of the tile is within all limits
pub tile-within : (s : Stretches) (up down : Option ℕ) (i : ℕ) → i < s.size → IsWithinLimits s up down (s.start + i)
tile-within s up down i lt = record { before = from up; after = to down }
  where
    from : (up : Option ℕ) → IsNotBefore up s.start (s.start + i)
    from None = tt
    from (Some up) = omega arith

    to : (down : Option ℕ) → IsNotAfter down (s.start + s.size) (s.start + i)
    to None = tt
    to (Some down) = omega (arith, lt)

-- an index within limits that leave nothing else is within the limits
pub within-left : (s : Stretches) (up down made_up made_down : Option ℕ) (i : ℕ) → IsWithinLimit made_up up
    → IsWithinLimit made_down down → IsWithinLimits s made_up made_down i → IsWithinLimits s up down i
within-left s up down made_up made_down i leaves_up leaves_down within = record {
  before = before-moved made_up up 0 s.start i i leaves_up within.before (omega arith);
  after = after-moved made_down down 0 (s.start + s.size) i i leaves_down within.after (omega arith);
}

pub limits-smaller : (s : Stretches) (up down other_up other_down : Option ℕ) → LimitsFit s up down
    → LimitsFit s other_up other_down → LimitsFit s (smaller_limit up other_up) (smaller_limit down other_down)
limits-smaller s up down other_up other_down h k = record {
  before = before-smaller up other_up s.first s.start h.before k.before;
  after = after-smaller down other_down (s.first + s.count) (s.start + s.size) s.total h.after k.after;
}

pub limits-rest : (s : Stretches) (up down : Option ℕ) (m n : ℕ) → LimitsFit s up down
    → LimitsFit s (limit_after_read up m) (limit_after_read down n)
limits-rest s up down m n h = record {
  before = before-rest up m s.first s.start h.before;
  after = after-rest down n (s.first + s.count) (s.start + s.size) s.total h.after;
}

-- an index z of the tile's maps and an index w of the full map are one row or column within the limits, or outside
pub record IsSameIndex (s : Stretches) (up down : Option ℕ) (z w : ℤ) (j : ℕ) : Type 0 where
  pub here : z ≡ pos (j - s.first)
  pub there : w ≡ pos j
  pub within : IsWithinLimits s up down j
  pub inside : j < s.total

pub record AreBothOutside (s : Stretches) (z w : ℤ) : Type 0 where
  pub here : IsOutside s.count z
  pub there : IsOutside s.total w

module _ (s : Stretches) (are : AreStretches s) (up down : Option ℕ) (fit : LimitsFit s up down) where
  -- both indices lead to one row or column within the limits, or outside
  abbrev pub LeadToSameIndex : (z w : ℤ) → Type 0
  LeadToSameIndex z w = ((j : ℕ) × IsSameIndex s up down z w j) ⊎ AreBothOutside s z w

  ends-outside : (down : Option ℕ) (j : ℕ) → FitsAfter down (s.first + s.count) (s.start + s.size) s.total
      → IsNotAfter down (s.start + s.size) j → s.total ≤ j → s.count ≤ j - s.first
  ends-outside None j fits after past = omega (arith, fits, past)
  ends-outside (Some n) j fits after past = absurd (let no : ⊥ = omega (arith, fits, after, past, are.last) in no)

  -- an index within the limits, or past the full map
  pub lead-on : (z : ℤ) (j : ℕ) → z ≡ pos (j - s.first) → IsWithinLimits s up down j → LeadToSameIndex z (pos j)
  lead-on z j is within = ⊎_elim on past (cases_lt j s.total)
    where
      on : j < s.total → LeadToSameIndex z (pos j)
      on lt = inl (j, record { here = is; there = refl; within = within; inside = lt })

      past : s.total ≤ j → LeadToSameIndex z (pos j)
      past le = inr (record {
        here = subst (IsOutside s.count) (sym is) (ends-outside down j fit.after within.after le);
        there = le;
      })

  module _ (made_up made_down : Option ℕ) (reach_up reach_down p : ℕ) (leaves_up : LeavesLimit made_up reach_up up)
      (leaves_down : LeavesLimit made_down reach_down down) (within : IsWithinLimits s made_up made_down p)
      (from : s.first ≤ p) where
    reaches : (j : ℕ) → p ≤ j + reach_up → j ≤ p + reach_down → IsWithinLimits s up down j
    reaches j above below = record {
      before = before-moved made_up up reach_up s.start p j leaves_up within.before above;
      after = after-moved made_down down reach_down (s.start + s.size) p j leaves_down within.after below;
    }

    lead-down : (n : ℕ) → n ≤ reach_down → LeadToSameIndex (pos (p - s.first + n)) (pos (p + n))
    lead-down n le =
        let same : p - s.first + n ≡ p + n - s.first = omega (arith, from) in
        lead-on (pos (p - s.first + n)) (p + n) (ap pos same) (reaches (p + n) (omega arith) (omega (arith, le)))

    lead-up : (n : ℕ) → suc n ≤ reach_up → LeadToSameIndex (sub_ℕ (p - s.first) (suc n)) (sub_ℕ p (suc n))
    lead-up n le = ⊎_elim less more (cases_lt p (suc n))
      where
        less : p < suc n → LeadToSameIndex (sub_ℕ (p - s.first) (suc n)) (sub_ℕ p (suc n))
        less lt = inr (record {
          here = subst (IsOutside s.count) (sym (sub-negative (p - s.first) n (omega (arith, lt)))) tt;
          there = subst (IsOutside s.total) (sym (sub-negative p n lt)) tt;
        })

        more : suc n ≤ p → LeadToSameIndex (sub_ℕ (p - s.first) (suc n)) (sub_ℕ p (suc n))
        more le_p =
            let within_j = reaches (p - suc n) (omega (arith, le, le_p)) (omega arith) in
            let first_le = not-before-first up s.first s.start (p - suc n) fit.before within_j.before in
            let same : p - s.first - suc n ≡ p - suc n - s.first = omega arith in
            subst (LeadToSameIndex (sub_ℕ (p - s.first) (suc n))) (sym (sub-pos p n le_p))
            (lead-on (sub_ℕ (p - s.first) (suc n)) (p - suc n)
            (sub-pos (p - s.first) n (omega (arith, le_p, first_le)) ∙ ap pos same) within_j)

    -- an offset from a row or column leads to the same row or column of the tile's maps and of the full map
    pub leads : (d : ℤ) → cell_count_up_or_left d ≤ reach_up → cell_count_down_or_right d ≤ reach_down
        → LeadToSameIndex (pos (p - s.first) +ℤ d) (pos p +ℤ d)
    leads (pos n) up_le down_le = lead-down n down_le
    leads (negsuc n) up_le down_le = lead-up n up_le
