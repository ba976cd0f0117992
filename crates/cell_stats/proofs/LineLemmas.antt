-- The fields of a line, one after another.
use Rattle.std.proofs.Common.{◌≡◌, ℕ, ◌+◌, ◌-◌, ◌<◌, All, take, take_all, length-drop, List, [], ◌∷◌, ◌++◌, Bool, true, false, length, drop, get_or, refl, ap, subst, sym, ◌∙◌, arith, append_assoc, append-nil, if◌then◌else◌}
use Rattle.std.specs.List.{zip, join_with_byte, flat_map}
use Rattle.std.proofs.lemmas.Grind.{flat_map-append}
use Rattle.std.proofs.lemmas.Slice.Zip.{get_or-zip, length-zip}
use Rattle.std.proofs.lemmas.List.{get_or-drop}
use Rattle.cell_core.specs.Grid.{Grid, CellValue}
use Rattle.cell_core.specs.Text.{cell_text}
use Rattle.cell_stats_combinations.specs.Combinations.{Combination}
use Rattle.cell_stats.specs.parts.Preceded.{texts_each_after_byte, cell_and_label_text, separator_cell_and_label_text}
use Rattle.cell_stats.specs.parts.Preceded.{text_of_cells_after_first}
use Rattle.cell_stats.specs.TableText.{TableFormatValue, cell_fields, combination_fields, count_fields, label_of_cell, entry_line}

-- a joined text is the first text, then each other text after the separator
pub join-cons : (c : ℕ) (text : List ℕ) (texts : List (List ℕ)) → join_with_byte c (text ∷ texts) ≡ text ++ texts_each_after_byte c texts
join-cons c text [] = sym (append-nil text)
join-cons c text (next ∷ texts) = ap (λ (l : List ℕ). text ++ (c ∷ l)) (join-cons c next texts)

-- more texts follow, each after the separator
pub join-more : (c : ℕ) (text : List ℕ) (texts more : List (List ℕ)) → join_with_byte c (text ∷ (texts ++ more)) ≡ join_with_byte c (text ∷ texts) ++ texts_each_after_byte c more
join-more c text texts more =
    join-cons c text (texts ++ more) ∙ ap (λ (l : List ℕ). text ++ l) (flat_map-append (λ (t : List ℕ). c ∷ t) texts more)
    ∙ sym (append_assoc text (texts_each_after_byte c texts) (texts_each_after_byte c more)) ∙ ap (λ (l : List ℕ). l ++ texts_each_after_byte c more) (sym (join-cons c text texts))

-- the fields of one map, each after the separator
separator_cell_and_label_text-preceded : (format : TableFormatValue) (maps : List Grid) (p : ℕ × CellValue) → texts_each_after_byte format.separator (cell_fields format maps p.0 p.1) ≡ separator_cell_and_label_text format maps p
separator_cell_and_label_text-preceded format maps p =
    ap (λ (l : List ℕ). format.separator ∷ l) (sym (join-cons format.separator (cell_text format.null_text p.1) (if format.labels then label_of_cell maps p.0 p.1 ∷ [] else [])))

-- the fields of several maps, each after the separator
others-preceded : (format : TableFormatValue) (maps : List Grid) (ps : List (ℕ × CellValue)) → texts_each_after_byte format.separator (flat_map (λ p. cell_fields format maps p.0 p.1) ps) ≡ flat_map (separator_cell_and_label_text format maps) ps
others-preceded format maps [] = refl
others-preceded format maps (p ∷ ps) =
    flat_map-append (λ (t : List ℕ). format.separator ∷ t) (cell_fields format maps p.0 p.1) (flat_map (λ p. cell_fields format maps p.0 p.1) ps)
    ∙ ap (λ (l : List ℕ). l ++ texts_each_after_byte format.separator (flat_map (λ p. cell_fields format maps p.0 p.1) ps)) (separator_cell_and_label_text-preceded format maps p)
    ∙ ap (λ (l : List ℕ). separator_cell_and_label_text format maps p ++ l) (others-preceded format maps ps)

-- the fields of a combination are the fields of the first map's cell, then the fields of the others
pub combination-others : (format : TableFormatValue) (maps : List Grid) (picks : List ℕ) (k : Combination) (d : ℕ) (e : CellValue) → 0 < length picks → length k ≡ length picks → join_with_byte format.separator (combination_fields format maps picks k) ≡ cell_and_label_text format maps (get_or picks 0 d) (get_or k 0 e) ++ text_of_cells_after_first format maps (drop 1 picks) (drop 1 k)
combination-others format maps [] k d e some same = absurd (omega arith)
combination-others format maps (p ∷ picks) [] d e some same = absurd (omega arith)
combination-others format maps (p ∷ picks) (x ∷ k) d e some same =
    join-more format.separator (cell_text format.null_text x) (if format.labels then label_of_cell maps p x ∷ [] else []) (flat_map (λ p. cell_fields format maps p.0 p.1) (zip picks k))
    ∙ ap (λ (l : List ℕ). cell_and_label_text format maps p x ++ l) (others-preceded format maps (zip picks k))

-- the fields of a combination are followed by further fields, each after the separator
pub line-more : (format : TableFormatValue) (maps : List Grid) (picks : List ℕ) (k : Combination) (more : List (List ℕ)) → 0 < length picks → length k ≡ length picks → join_with_byte format.separator (combination_fields format maps picks k ++ more) ≡ join_with_byte format.separator (combination_fields format maps picks k) ++ texts_each_after_byte format.separator more
line-more format maps [] k more some same = absurd (omega arith)
line-more format maps (p ∷ picks) [] more some same = absurd (omega arith)
line-more format maps (p ∷ picks) (x ∷ k) more some same =
    let others = (if format.labels then label_of_cell maps p x ∷ [] else []) ++ flat_map (λ p. cell_fields format maps p.0 p.1) (zip picks k) in
    join-more format.separator (cell_text format.null_text x) others more

-- the text of a pick is the cell, followed by its label
pub cell_and_label_text-label : (format : TableFormatValue) (maps : List Grid) (place : ℕ) (cell : CellValue) → cell_text format.null_text cell ++ texts_each_after_byte format.separator (if format.labels then label_of_cell maps place cell ∷ [] else []) ≡ cell_and_label_text format maps place cell
cell_and_label_text-label format maps place cell = sym (join-cons format.separator (cell_text format.null_text cell) (if format.labels then label_of_cell maps place cell ∷ [] else []))

pub cell_and_label_text-without : (format : TableFormatValue) (maps : List Grid) (place : ℕ) (cell : CellValue)
    → format.labels ≡ false → cell_text format.null_text cell ≡ cell_and_label_text format maps place cell
cell_and_label_text-without format maps place cell off =
    ap (λ (b : Bool). join_with_byte format.separator
    (cell_text format.null_text cell ∷ (if b then label_of_cell maps place cell ∷ [] else []))) (sym off)

pub cell_and_label_text-with : (format : TableFormatValue) (maps : List Grid) (place : ℕ) (cell : CellValue) → format.labels ≡ true → cell_text format.null_text cell ++ (format.separator ∷ label_of_cell maps place cell) ≡ cell_and_label_text format maps place cell
cell_and_label_text-with format maps place cell on =
    ap (λ (l : List ℕ). cell_text format.null_text cell ++ l) (sym (append-nil (format.separator ∷ label_of_cell maps place cell)))
    ∙ ap (λ (b : Bool). cell_text format.null_text cell ++ texts_each_after_byte format.separator (if b then label_of_cell maps place cell ∷ [] else [])) (sym on) ∙ cell_and_label_text-label format maps place cell

module _ (picks : List ℕ) (k : Combination) (i : ℕ) (within : i < length picks) (same : length k ≡ length picks) where
  -- the pair at a place is the pick and the cell at that place
  pub zip-at : (x : CellValue) → x ≡ get_or k i x → (get_or picks i 0, x) ≡ get_or (zip picks k) i (0, x)
  zip-at x is =
      let within_too : i < length k = omega (arith, within, same) in
      ap (λ (y : CellValue). (get_or picks i 0, y)) is ∙ sym (get_or-zip picks k i (0, x) within within_too)

  pub zip-within : i < length (zip picks k)
  zip-within = omega (arith, within, same, length-zip picks k)

-- dropping the first element leaves all others
others-whole : {X : Type 0} (xs : List X) → take (length xs - 1) (drop 1 xs) ≡ drop 1 xs
others-whole xs = take_all (length xs - 1) (drop 1 xs) (omega (arith, length-drop 1 xs))

pub length-others : {X Y : Type 0} (xs : List X) (ys : List Y) → length xs ≡ length ys
    → length (take (length xs - 1) (drop 1 xs)) ≡ length (take (length ys - 1) (drop 1 ys))
length-others xs ys same =
    ap length (others-whole xs) ∙ length-drop 1 xs ∙ ap (λ n. n - 1) same
    ∙ sym (ap length (others-whole ys) ∙ length-drop 1 ys)

pub All-others : {X : Type 0} (P : X → Type 0) (xs : List X) → All P xs → All P (take (length xs - 1) (drop 1 xs))
All-others P xs all = subst (λ l. All P l) (sym (others-whole xs)) (λ i d within. subst P (sym (get_or-drop 1 xs i d)) (all (1 + i) d (omega (arith, within, length-drop 1 xs))))

-- a combination is the first map's cell and all other cells
pub combination-parts : (format : TableFormatValue) (maps : List Grid) (picks : List ℕ) (k : Combination) (x : CellValue) → x ≡ get_or k 0 x → 0 < length picks → length k ≡ length picks → cell_and_label_text format maps (get_or picks 0 0) x ++ text_of_cells_after_first format maps (take (length picks - 1) (drop 1 picks)) (take (length k - 1) (drop 1 k)) ≡ join_with_byte format.separator (combination_fields format maps picks k)
combination-parts format maps picks k x is some same =
    ap (λ (y : CellValue). cell_and_label_text format maps (get_or picks 0 0) y ++ text_of_cells_after_first format maps (take (length picks - 1) (drop 1 picks)) (take (length k - 1) (drop 1 k))) is
    ∙ ap (λ (l : List ℕ). cell_and_label_text format maps (get_or picks 0 0) (get_or k 0 x) ++ text_of_cells_after_first format maps l (take (length k - 1) (drop 1 k))) (others-whole picks)
    ∙ ap (λ (l : Combination). cell_and_label_text format maps (get_or picks 0 0) (get_or k 0 x) ++ text_of_cells_after_first format maps (drop 1 picks) l) (others-whole k)
    ∙ sym (combination-others format maps picks k 0 x some same)

-- a line is the combination, the count and the line feed
pub pair-parts : (format : TableFormatValue) (maps : List Grid) (picks : List ℕ) (k : Combination) (n : ℕ) → 0 < length picks → length k ≡ length picks → (join_with_byte format.separator (combination_fields format maps picks k) ++ texts_each_after_byte format.separator (count_fields format n)) ++ 10 ∷ [] ≡ entry_line format maps picks (k, n)
pair-parts format maps picks k n some same = ap (λ (l : List ℕ). l ++ 10 ∷ []) (sym (line-more format maps picks k (count_fields format n) some same))
