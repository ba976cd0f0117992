-- How far maps are needed around a cell.
use Rattle.std.specs.Prelude.{ℕ, ℤ, ◌+◌, max, true, false, ◌||◌, nat_lt, List, [], ◌∷◌, if◌then◌else◌}
use Rattle.cell_calc_language.specs.Grammatical.{cell_count_up_or_left, cell_count_down_or_right}
use Rattle.rcell_plan.specs.declared.needs.Margin.{Margin}
use Rattle.rcell_plan.specs.declared.needs.MapNeed.{MapNeed}

-- the margin that contains only the cell itself
abbrev pub no_margin : Margin
no_margin = record { up = 0; down = 0; left = 0; right = 0 }

-- the margin that contains an offset
abbrev pub margin_containing_offset : (down right : ℤ) → Margin
margin_containing_offset down right = record {
  up = cell_count_up_or_left down;
  down = cell_count_down_or_right down;
  left = cell_count_up_or_left
      right;
  right = cell_count_down_or_right right;
}

-- the smallest margin that contains both margins
abbrev pub margin_covering_both_margins : Margin → Margin → Margin
margin_covering_both_margins a b = record {
  up = max a.up b.up;
  down = max a.down b.down;
  left = max a.left b.left;
  right =
      max a.right b.right;
}

-- the margin `b` around each cell of the margin `a`
abbrev pub sum_of_margins : Margin → Margin → Margin
sum_of_margins a b = record {
  up = a.up + b.up;
  down = a.down + b.down;
  left = a.left + b.left;
  right = a.right
      + b.right;
}

-- the need for the map `i` only at the cell itself
abbrev pub need_of_own_cell : ℕ → MapNeed
need_of_own_cell i = record { place = i; margin = no_margin; whole = false }

-- one need that contains two needs for the same map
abbrev pub need_covering_both_needs : MapNeed → MapNeed → MapNeed
need_covering_both_needs a b = record {
  place = a.place;
  margin = margin_covering_both_margins a.margin b.margin;
  whole = a.whole || b.whole;
}

-- a need at each cell within a margin
abbrev pub need_widened_by_margin : Margin → MapNeed → MapNeed
need_widened_by_margin margin n = record { place = n.place; margin = sum_of_margins margin n.margin; whole = n.whole }

-- a need for the full map
abbrev pub requiring_full_map : MapNeed → MapNeed
requiring_full_map n = record { place = n.place; margin = n.margin; whole = true }

-- adds a need to needs ordered by map index
abbrev pub needs_with_added_need : List MapNeed → MapNeed → List MapNeed
needs_with_added_need [] n = n ∷ []
needs_with_added_need (x ∷ xs) n =
    if nat_lt x.place n.place then x ∷ needs_with_added_need xs n
    else (if nat_lt n.place x.place then n ∷ x ∷ xs else need_covering_both_needs x n ∷ xs)

-- adds several needs, one after another
abbrev pub needs_with_added_needs : List MapNeed → List MapNeed → List MapNeed
needs_with_added_needs xs [] = xs
needs_with_added_needs xs (n ∷ ns) = needs_with_added_needs (needs_with_added_need xs n) ns
