use Rattle.std.proofs.Common.{◌≡◌, ◌≢◌, ◌<◌, ◌+◌, ℕ, Bor, List, [], ◌∷◌, ◌++◌, Option, Some, None, Ok, Err, map, length, drop, get_or, arith, ap, refl, sym, ◌∙◌, add-one, append_assoc, append-nil}
use Rattle.std.proofs.Math.Seq.{drop-cons}
use Rattle.std.proofs.lemmas.List.{drop_all}
use Rattle.std.specs.Option.{option_map, option_and_then}
use borrow.Author.Count.{falls}
use Rattle.cell_core.specs.Grid.{CellValue}
use Rattle.cell_stats_combinations.specs.declared.combination_text.ComboFault.TheVariants.{BadWidth}
use Rattle.cell_stats_combinations.specs.Combinations.{Combination}
use Rattle.cell_stats_combinations.specs.ComboReading.{cell_of_text_part, cells_of_text_parts, combination_if_of_width}
use Rattle.cell_stats_combinations.proofs.combination.Combo.read.Goals as goal

-- the part that is read past the last one
abbrev behind : Bor (List ℕ)
behind = record { ref_ptr = (0, 0); now = [] }

-- the parts from a place on are the part there and the parts after it
rest_first : (items : List (Bor (List ℕ))) (i : ℕ) (d : Bor (List ℕ)) → i < length items
    → map (λ w. w.now) (drop i items) ≡ (get_or items i d).now ∷ map (λ w. w.now) (drop (i + 1) items)
rest_first items i d within = rw (add-one, drop-cons items i d) refl

-- at the start, no part is read
start : (words : List (List ℕ)) {items : List (List ℕ)} {now : Combination} → now ≡ [] → items ≡ words
    → cells_of_text_parts words ≡ option_map (λ cells. now ++ cells) (cells_of_text_parts items)
start words none same = rw (none, same) (by (cells_of_text_parts words))
  where
    by : (o : Option Combination) → o ≡ option_map (λ cells. [] ++ cells) o
    by None = refl
    by (Some cells) = refl

module _ (now : Combination) {found : Option Combination} {all : List (List ℕ)}
    (so_far : found ≡ option_map (λ cells. now ++ cells) (cells_of_text_parts all)) where
  module _ (part : List ℕ) (parts : List (List ℕ)) (first : all ≡ part ∷ parts) where
    -- if a part has no cell, the text has no combination
    cut : cell_of_text_part part ≡ None → found ≡ None
    cut none = so_far ∙ ap (λ l. option_map (λ cells. now ++ cells) (cells_of_text_parts l)) first
        ∙ ap (λ o. option_map (λ cells. now ++ cells)
        (option_and_then (λ cell. option_map (λ cells. cell ∷ cells) (cells_of_text_parts parts)) o)) none

    -- if a part has a cell, that cell follows the earlier ones
    more : (cell : CellValue) → cell_of_text_part part ≡ Some cell
        → found ≡ option_map (λ cells. (now ++ cell ∷ []) ++ cells) (cells_of_text_parts parts)
    more cell some = so_far ∙ ap (λ l. option_map (λ cells. now ++ cells) (cells_of_text_parts l)) first
        ∙ ap (λ o. option_map (λ cells. now ++ cells)
        (option_and_then (λ cell. option_map (λ cells. cell ∷ cells) (cells_of_text_parts parts)) o)) some
        ∙ by (cells_of_text_parts parts)
      where
        by : (o : Option Combination) → option_map (λ cells. now ++ cells)
            (option_map (λ cells. cell ∷ cells) o) ≡ option_map (λ cells. (now ++ cell ∷ []) ++ cells) o
        by None = refl
        by (Some cells) = ap Some (sym (append_assoc now (cell ∷ []) cells))

  all_read : all ≡ [] → found ≡ Some now
  all_read none = so_far ∙ ap (λ l. option_map (λ cells. now ++ cells) (cells_of_text_parts l)) none ∙ ap Some (append-nil now)

narrow : (width : ℕ) (k : Combination) {n : ℕ} → n ≡ length k → n ≢ width
    → combination_if_of_width width (Some k) ≡ Err BadWidth
narrow width k same other = grind arith

wide : (width : ℕ) (k : Combination) {n : ℕ} → n ≡ length k → n ≡ width → combination_if_of_width width (Some k) ≡ Ok k
wide width k same is = grind arith

pub loop-part-init : goal.loop-part-init
loop-part-init c =
    start _ c.new-cells.ensures.items
    (ap (map (λ (w : Bor (List ℕ)). w.now)) c.deref-part-items.ensures.value ∙ c.in_ok-parts.ensures)

pub loop-part-smaller : goal.loop-part-smaller
loop-part-smaller c = falls _ _ c.loop-part-test.true

pub returns-in_default : goal.returns-in_default
returns-in_default c = λ _.
    let items = c.deref-part-items.result.now in
    let i = c.loop-part.part-index in
    let first = rest_first items i behind c.loop-part-test.true in
    ap (combination_if_of_width c.args.width) (cut c.loop-part.cells.items c.loop-part.invariant
    (get_or items i behind).now
    (map (λ (w : Bor (List ℕ)). w.now) (drop (i + 1) items)) first (sym c.in_default.ensures))

pub loop-part-preserved : goal.loop-part-preserved
loop-part-preserved c =
    let items = c.deref-part-items.result.now in
    let i = c.loop-part.part-index in
    let rest = map (λ (w : Bor (List ℕ)). w.now) (drop (i + 1) items) in
    let first = rest_first items i behind c.loop-part-test.true in
    more c.loop-part.cells.items c.loop-part.invariant (get_or items i behind).now rest first c.in-Some.cell
    (sym c.in-Some.ensures)
    ∙ ap (λ (l : Combination). option_map (λ cells. l ++ cells) (cells_of_text_parts rest))
    (sym c.in_ok-push.ensures.items)

pub returns-then-len-width : goal.returns-then-len-width
returns-then-len-width c = λ _.
    let none = drop_all c.loop-part.part-index c.deref-part-items.result.now c.loop-part-test.false in
    let read = all_read c.loop-part.cells.items c.loop-part.invariant (ap (map (λ (w : Bor (List ℕ)). w.now)) none) in
    ap (combination_if_of_width c.args.width) read
    ∙ narrow c.args.width c.loop-part.cells.items (c.len.ensures ∙ c.loop-part.cells.ok.0) c.if-len-width.true

pub returns : goal.returns
returns c =
    let none = drop_all c.loop-part.part-index c.deref-part-items.result.now c.loop-part-test.false in
    let read = all_read c.loop-part.cells.items c.loop-part.invariant (ap (map (λ (w : Bor (List ℕ)). w.now)) none) in
    ap (combination_if_of_width c.args.width) read
    ∙ wide c.args.width c.loop-part.cells.items (c.len.ensures ∙ c.loop-part.cells.ok.0) c.if-len-width.false
    ∙ ap Ok (sym c.of.ensures)
