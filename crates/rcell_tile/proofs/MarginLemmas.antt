-- The margin of a made map leaves its reads to the maps that it reads.
use Rattle.std.proofs.Common.{◌≡◌, ℕ, ◌+◌, ◌-◌, ◌≤◌, Bool, true, false, ◌||◌, List, [], ◌∷◌}
use Rattle.std.proofs.Common.{eqb, refl, subst, arith}
use Rattle.std.specs.Prelude.{All}
use Rattle.std.specs.List.{list_any}
use Rattle.std.proofs.lemmas.Bool.{or_parts, eqb-true}
use Rattle.std.proofs.lemmas.List.Elements.{All-nil, All-cons, All-head, All-tail}
use Rattle.rcell_plan.specs.declared.needs.Margin.{Margin}
use Rattle.rcell_plan.specs.declared.needs.MapNeed.{MapNeed}
use Rattle.rcell_plan.specs.Needs.{margin_covering_both_margins}
use Rattle.rcell_plan.proofs.JoinedLemmas.{Splits}
use Rattle.rcell_tile.specs.declared.halo_margins.HaloMargin.{HaloMargin}
use Rattle.rcell_tile.specs.HaloMargins.{halo_margin, no_halo_margin, limit_of_side, exceeds_margin, margin_after_read}
use Rattle.rcell_tile.specs.HaloMargins.{smaller_margin, margin_of_map_at_place, margin_after_reads}
use Rattle.rcell_tile.specs.HaloMargins.{read_exceeds_margin, exceeds_limit}
use Rattle.rcell_tile.specs.TilePlaces.{TilePlaceValue, IsValidTilePlace}
use Rattle.rcell_tile.proofs.LimitLemmas.{IsWithinLimit, FitsBefore, FitsAfter, within-itself, within-both}
use Rattle.rcell_tile.proofs.LimitLemmas.{smaller-first, smaller-second, rest-leaves, leaves-shorter, limits-smaller}
use Rattle.rcell_tile.proofs.LimitLemmas.{limits-rest}
use Rattle.rcell_tile.proofs.AgreeLemmas.{rows_of, columns_of, MarginFits, LeavesMargin}

-- ---- margins inside others

record IsInsideMargin (made margin : HaloMargin) : Type 0 where
  up : IsWithinLimit made.up margin.up
  down : IsWithinLimit made.down margin.down
  left : IsWithinLimit made.left margin.left
  right : IsWithinLimit made.right margin.right

inside-itself : (a : HaloMargin) → IsInsideMargin a a
inside-itself a = record {
  up = within-itself a.up;
  down = within-itself a.down;
  left = within-itself a.left;
  right = within-itself a.right;
}

inside-both : (a b c : HaloMargin) → IsInsideMargin a b → IsInsideMargin b c → IsInsideMargin a c
inside-both a b c h k = record {
  up = within-both a.up b.up c.up h.up k.up;
  down = within-both a.down b.down c.down h.down k.down;
  left = within-both a.left b.left c.left h.left k.left;
  right = within-both a.right b.right c.right h.right k.right;
}

first-margin : (a b : HaloMargin) → IsInsideMargin (smaller_margin a b) a
first-margin a b = record {
  up = smaller-first a.up b.up;
  down = smaller-first a.down b.down;
  left = smaller-first a.left b.left;
  right = smaller-first a.right b.right;
}

second-margin : (a b : HaloMargin) → IsInsideMargin (smaller_margin a b) b
second-margin a b = record {
  up = smaller-second a.up b.up;
  down = smaller-second a.down b.down;
  left = smaller-second a.left b.left;
  right = smaller-second a.right b.right;
}

-- what is inside the rest of a margin leaves the margin to a read that does not exceed it
rest-of-margin : (made margin : HaloMargin) (reach : Margin) → exceeds_margin margin reach ≡ false
    → IsInsideMargin made (margin_after_read margin reach) → LeavesMargin made reach margin
rest-of-margin made margin reach fits h =
    let rows_cols = or_parts (exceeds_limit margin.up reach.up || exceeds_limit margin.down reach.down)
    (exceeds_limit margin.left reach.left || exceeds_limit margin.right reach.right) fits in
    let rows = or_parts (exceeds_limit margin.up reach.up) (exceeds_limit margin.down reach.down) rows_cols.0 in
    let cols = or_parts (exceeds_limit margin.left reach.left) (exceeds_limit margin.right reach.right) rows_cols.1 in
    record {
      up = rest-leaves made.up margin.up reach.up rows.0 h.up;
      down = rest-leaves made.down margin.down reach.down rows.1 h.down;
      left = rest-leaves made.left margin.left reach.left cols.0 h.left;
      right = rest-leaves made.right margin.right reach.right cols.1 h.right;
    }

-- a margin that leaves a read leaves each shorter read
shorter-reach : (made margin : HaloMargin) (a b : Margin) → a.up ≤ b.up → a.down ≤ b.down → a.left ≤ b.left
    → a.right ≤ b.right → LeavesMargin made b margin → LeavesMargin made a margin
shorter-reach made margin a b up down left right h = record {
  up = leaves-shorter made.up margin.up a.up b.up up h.up;
  down = leaves-shorter made.down margin.down a.down b.down down h.down;
  left = leaves-shorter made.left margin.left a.left b.left left h.left;
  right = leaves-shorter made.right margin.right a.right b.right right h.right;
}

-- ---- margins that fit

smaller-fits : (p : TilePlaceValue) (a b : HaloMargin) → MarginFits p a → MarginFits p b
    → MarginFits p (smaller_margin a b)
smaller-fits p a b h k = record {
  rows = limits-smaller (rows_of p) a.up a.down b.up b.down h.rows k.rows;
  cols = limits-smaller (columns_of p) a.left a.right b.left b.right h.cols k.cols;
}

rest-fits : (p : TilePlaceValue) (a : HaloMargin) (reach : Margin) → MarginFits p a
    → MarginFits p (margin_after_read a reach)
rest-fits p a reach h = record {
  rows = limits-rest (rows_of p) a.up a.down reach.up reach.down h.rows;
  cols = limits-rest (columns_of p) a.left a.right reach.left reach.right h.cols;
}

limit-before : (first start : ℕ) → first ≤ start → FitsBefore (limit_of_side (eqb first 0) (start - first)) first start
limit-before first start le = by (eqb first 0) refl
  where
    by : (b : Bool) → eqb first 0 ≡ b → FitsBefore (limit_of_side b (start - first)) first start
    by true e = eqb-true first 0 e
    by false e = omega (arith, le)

limit-after : (last end total : ℕ) → end ≤ last → FitsAfter (limit_of_side (eqb last total) (last - end)) last end total
limit-after last end total le = by (eqb last total) refl
  where
    by : (b : Bool) → eqb last total ≡ b → FitsAfter (limit_of_side b (last - end)) last end total
    by true e = eqb-true last total e
    by false e = omega (arith, le)

-- the halo fits
pub halo-fits : (p : TilePlaceValue) → IsValidTilePlace p → MarginFits p (halo_margin p)
halo-fits p valid = record {
  rows = record {
    before = limit-before p.outer.top p.tile.top valid.tile.top;
    after = limit-after (p.outer.top + p.outer.rows) (p.tile.top + p.tile.rows) p.rows valid.tile.bottom;
  };
  cols = record {
    before = limit-before p.outer.left p.tile.left valid.tile.left;
    after = limit-after (p.outer.left + p.outer.cols) (p.tile.left + p.tile.cols) p.cols valid.tile.right;
  };
}

-- the tile itself fits
pub no-margin-fits : (p : TilePlaceValue) → IsValidTilePlace p → MarginFits p no_halo_margin
no-margin-fits p valid = record {
  rows = record { before = omega (arith, valid.tile.top); after = omega (arith, valid.tile.bottom) };
  cols = record { before = omega (arith, valid.tile.left); after = omega (arith, valid.tile.right) };
}

-- ---- all reads of a command

-- the made margin leaves each read to its map
abbrev pub LeavesRead : List HaloMargin → HaloMargin → MapNeed → Type 0
LeavesRead known made n = LeavesMargin made n.margin (margin_of_map_at_place known n.place)

module _ (known : List HaloMargin) where
  -- the margin that reads leave is inside the halo, and leaves each of them
  record IsLeftByReads (margin made : HaloMargin) (reads : List MapNeed) : Type 0 where
    inside : IsInsideMargin made margin
    each : All (LeavesRead known made) reads

  left-by-reads : (margin : HaloMargin) (reads : List MapNeed) → list_any (read_exceeds_margin known) reads ≡ false
      → IsLeftByReads margin (margin_after_reads known margin reads) reads
  left-by-reads margin [] fits = record {
    inside = inside-itself margin;
    each = All-nil (LeavesRead known margin);
  }
  left-by-reads margin (n ∷ ns) fits =
      let of_map = margin_of_map_at_place known n.place in
      let rest = margin_after_read of_map n.margin in
      let made = margin_after_reads known margin (n ∷ ns) in
      let both = or_parts (read_exceeds_margin known n) (list_any (read_exceeds_margin known) ns) fits in
      let h = left-by-reads (smaller_margin margin rest) ns both.1 in
      record {
        inside = inside-both made (smaller_margin margin rest) margin h.inside (first-margin margin rest);
        each = All-cons (LeavesRead known made) n ns
            (rest-of-margin made of_map n.margin both.0
            (inside-both made (smaller_margin margin rest) rest h.inside (second-margin margin rest)))
            h.each;
      }

  pub reads-leave : (margin : HaloMargin) (reads : List MapNeed) → list_any (read_exceeds_margin known) reads ≡ false
      → All (LeavesRead known (margin_after_reads known margin reads)) reads
  reads-leave margin reads fits = (left-by-reads margin reads fits).each

  pub reads-fit : (p : TilePlaceValue) (margin : HaloMargin) (reads : List MapNeed) → MarginFits p margin
      → All (λ n. MarginFits p (margin_of_map_at_place known n.place)) reads
      → MarginFits p (margin_after_reads known margin reads)
  reads-fit p margin [] h each = h
  reads-fit p margin (n ∷ ns) h each =
      let of_map = margin_of_map_at_place known n.place in
      let rest = margin_after_read of_map n.margin in
      let here = All-head (λ n. MarginFits p (margin_of_map_at_place known n.place)) n ns each in
      reads-fit p (smaller_margin margin rest) ns (smaller-fits p margin rest h (rest-fits p of_map n.margin here))
      (All-tail (λ n. MarginFits p (margin_of_map_at_place known n.place)) n ns each)

  -- a margin that leaves two reads of one map joined leaves both
  pub leaves-splits : (made : HaloMargin) → Splits (LeavesRead known made)
  leaves-splits made a b same h =
      let of_map = margin_of_map_at_place known a.place in
      let both = margin_covering_both_margins a.margin b.margin in (
        shorter-reach made of_map a.margin both (omega arith) (omega arith) (omega arith) (omega arith) h,
        subst (λ (place : ℕ). LeavesMargin made b.margin (margin_of_map_at_place known place)) same
            (shorter-reach made of_map b.margin both (omega arith) (omega arith) (omega arith) (omega arith) h),
      )
