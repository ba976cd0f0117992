-- A line continues with the next numbers, or ends where another line begins.
use Rattle.std.proofs.Common.{◌≡◌, ℕ, zero, suc, ◌+◌, ◌<◌, ◌==◌, List, [], ◌∷◌, ◌++◌, Some, None, true, false}
use Rattle.std.proofs.Common.{Option, refl, ap, sym, ◌∙◌, arith, append_assoc, append-nil, eq-eqb, eqb-true}
use Rattle.std.specs.List.{range_with_len}
use Rattle.cell_join_numbers.specs.declared.stretch.ConsecutiveClumps.{ConsecutiveClumps}
use Rattle.cell_join_numbers.specs.Stretches.{consecutive_clumps_from_unfinished, consecutive_clumps_of_tile}
use Rattle.cell_join_numbers.proofs.StretchStepLemmas.{goes-on, begins-anew}
use Rattle.cell_join_tiles.specs.declared.run_lines.UnfinishedConsecutiveClumps.{UnfinishedConsecutiveClumps}
use Rattle.cell_join_tiles.specs.parts.RunLines.{ConsecutiveClumpsAreListed, consecutive_clumps_from_last_run}

-- a line is extended by a run of the next numbers
behind-run : (tile first last number previous n : ℕ) (rest : List ℕ) (end most : ℕ) → end ≡ last + n
    → most ≡ previous + n
    → consecutive_clumps_from_unfinished tile first last number previous (range_with_len (previous + 1) n ++ rest)
    ≡ consecutive_clumps_from_unfinished tile first end number most rest
behind-run tile first last number previous zero rest end most e m =
    let at : last ≡ end = omega (arith, e) in
    let num : previous ≡ most = omega (arith, m) in
    λ i. consecutive_clumps_from_unfinished tile first (at i) number (num i) rest
behind-run tile first last number previous (suc n) rest end most e m =
    goes-on tile first last number previous (previous + 1) (range_with_len (previous + 1 + 1) n ++ rest)
    (eq-eqb (previous + 1) (previous + 1) refl)
    ∙ behind-run tile first (last + 1) number (previous + 1) n rest end most (omega (arith, e)) (omega (arith, m))

-- a run of numbers at the start of a tile is the tile's first line
first-run : (tile first last count : ℕ) (rest : List ℕ) → 0 < count → last + 1 ≡ first + count
    → consecutive_clumps_of_tile tile (range_with_len first count ++ rest)
    ≡ consecutive_clumps_from_unfinished tile 1 count first last rest
first-run tile first last zero rest some e = absurd (omega (arith, some))
first-run tile first last (suc n) rest some e =
    behind-run tile 1 1 first first n rest (suc n) last (omega arith) (omega (arith, e))

module _ (s : ConsecutiveClumps) (previous first last count : ℕ) (rest : List ℕ) (e : last + 1 ≡ first + count) where
  next-run : (first == previous + 1) ≡ true
      → consecutive_clumps_from_unfinished s.tile s.first s.last s.number previous (range_with_len first count ++ rest)
      ≡ consecutive_clumps_from_unfinished s.tile s.first (s.last + count) s.number last rest
  next-run next =
      let same : first ≡ previous + 1 = eqb-true first (previous + 1) next in
      ap (λ (k : ℕ). consecutive_clumps_from_unfinished s.tile s.first s.last s.number previous
      (range_with_len k count ++ rest)) same
      ∙ behind-run s.tile s.first s.last s.number previous count rest (s.last + count) last refl
      (omega (arith, e, same))

  other-run : 0 < count → (first == previous + 1) ≡ false
      → consecutive_clumps_from_unfinished s.tile s.first s.last s.number previous (range_with_len first count ++ rest)
      ≡ s ∷ consecutive_clumps_from_unfinished s.tile (s.last + 1) (s.last + count) first last rest
  other-run some apart = by count some e
    where
      by : (n : ℕ) → 0 < n → last + 1 ≡ first + n
          → consecutive_clumps_from_unfinished s.tile s.first s.last s.number previous (range_with_len first n ++ rest)
          ≡ s ∷ consecutive_clumps_from_unfinished s.tile (s.last + 1) (s.last + n) first last rest
      by zero more is = absurd (omega (arith, more))
      by (suc n) more is =
          begins-anew s.tile s.first s.last s.number previous first (range_with_len (first + 1) n ++ rest) apart
          ∙ ap (λ (l : List ConsecutiveClumps). s ∷ l)
          (behind-run s.tile (s.last + 1) (s.last + 1) first first n rest (s.last + suc n) last (omega arith)
          (omega (arith, is)))

-- lines for some numbers, extended by a run, are lines for those numbers and the run
in_lines-more : (tile : ℕ) (before : List ConsecutiveClumps) (numbers run : List ℕ) (old new : List ConsecutiveClumps)
    (line after : Option UnfinishedConsecutiveClumps) → ConsecutiveClumpsAreListed tile before numbers old line
    → ((rest : List ℕ) → old ++ consecutive_clumps_from_last_run tile line (run ++ rest) ≡ new
    ++ consecutive_clumps_from_last_run tile after rest)
    → ConsecutiveClumpsAreListed tile before (numbers ++ run) new after
in_lines-more tile before numbers run old new line after h step = λ rest.
    ap (λ (l : List ℕ). before ++ consecutive_clumps_of_tile tile l) (append_assoc numbers run rest) ∙ h (run ++ rest)
    ∙ step rest

-- a line with this stretch and this last number
abbrev pub line_of : (tile first last number previous : ℕ) → Option UnfinishedConsecutiveClumps
line_of tile first last number previous =
    Some (record { stretch = record { tile = tile; first = first; last = last; number = number }; previous = previous })

module _ (tile : ℕ) (before : List ConsecutiveClumps) (numbers : List ℕ) (old : List ConsecutiveClumps)
    (first last count : ℕ)
    (some : 0 < count) (e : last + 1 ≡ first + count) where
  abbrev pub more_numbers : List ℕ
  more_numbers = numbers ++ range_with_len first count

  pub in_lines-first : ConsecutiveClumpsAreListed tile before numbers old None
      → ConsecutiveClumpsAreListed tile before more_numbers old (line_of tile 1 count first last)
  in_lines-first h =
      in_lines-more tile before numbers (range_with_len first count) old old None (line_of tile 1 count first last) h
      (λ rest. ap (λ (l : List ConsecutiveClumps). old ++ l) (first-run tile first last count rest some e))

  module _ (line : UnfinishedConsecutiveClumps) (h : ConsecutiveClumpsAreListed tile before numbers old
      (Some line)) where
    abbrev pub next_line : Option UnfinishedConsecutiveClumps
    next_line = line_of line.stretch.tile line.stretch.first (line.stretch.last + count) line.stretch.number last

    abbrev pub other_line : Option UnfinishedConsecutiveClumps
    other_line = line_of line.stretch.tile (line.stretch.last + 1) (line.stretch.last + count) first last

    pub in_lines-next : (first == line.previous + 1) ≡ true → ConsecutiveClumpsAreListed tile before more_numbers old
        next_line
    in_lines-next next =
        in_lines-more tile before numbers (range_with_len first count) old old (Some line) next_line h
        (λ rest.
        ap (λ (l : List ConsecutiveClumps). old ++ l) (next-run line.stretch line.previous first last count rest e
        next))

    pub in_lines-other : (first == line.previous + 1) ≡ false
        → ConsecutiveClumpsAreListed tile before more_numbers (old ++ line.stretch ∷ []) other_line
    in_lines-other apart =
        in_lines-more tile before numbers (range_with_len first count) old (old ++ line.stretch ∷ []) (Some line)
        other_line h
        (λ rest.
        ap (λ (l : List ConsecutiveClumps). old ++ l)
        (other-run line.stretch line.previous first last count rest e some apart)
        ∙ sym (append_assoc old (line.stretch ∷ [])
        (consecutive_clumps_from_unfinished line.stretch.tile (line.stretch.last + 1)
        (line.stretch.last + count) first last rest)))

-- ---- a line that ends

pub in_lines-some : (tile : ℕ) (before : List ConsecutiveClumps) (numbers : List ℕ) (old : List ConsecutiveClumps)
    (line : UnfinishedConsecutiveClumps)
    → ConsecutiveClumpsAreListed tile before numbers old (Some line)
    → old ++ line.stretch ∷ [] ≡ before ++ consecutive_clumps_of_tile tile numbers
in_lines-some tile before numbers old line h =
    sym (ap (λ (l : List ℕ). before ++ consecutive_clumps_of_tile tile l) (sym (append-nil numbers)) ∙ h [])

pub in_lines-none : (tile : ℕ) (before : List ConsecutiveClumps) (numbers : List ℕ) (old : List ConsecutiveClumps)
    → ConsecutiveClumpsAreListed tile before numbers old None → old ≡ before ++ consecutive_clumps_of_tile tile numbers
in_lines-none tile before numbers old h =
    sym (ap (λ (l : List ℕ). before ++ consecutive_clumps_of_tile tile l) (sym (append-nil numbers)) ∙ h []
    ∙ append-nil old)

-- with no clump yet, the lines are empty
pub in_lines-start : (tile : ℕ) (before : List ConsecutiveClumps) (numbers : List ℕ) → numbers ≡ []
    → ConsecutiveClumpsAreListed tile before numbers before None
in_lines-start tile before numbers none = λ rest. ap (λ (l : List ℕ). before ++ consecutive_clumps_of_tile tile (l
    ++ rest)) none
