-- Cutting out and reclassing can be done in either order, and parts keep the labels of the full maps.
use Rattle.std.proofs.Common.{◌≡◌, ℕ, zero, suc, [], ◌∷◌, ◌++◌, List, map, take, drop, Some, None, refl, ap, sym, ◌∙◌}
use Rattle.std.specs.Prelude.{slice_get, codes, unwrap_or, flat_map, if◌then◌else◌}
use Rattle.std.specs.List.{zip}
use Rattle.std.specs.Option.{option_map_or}
use Rattle.std.specs.Ordering.{int_cmp}
use Rattle.std.specs.FinMap as finmap
use Rattle.std.proofs.lemmas.List.{take-map, drop-map}
use Rattle.cell_core.specs.Grid.{Grid, CellValue}
use Rattle.cell_core.specs.Text.{cell_text}
use Rattle.cell_cats.specs.Rule.{RuleValue, new_category}
use Rattle.cell_cats.specs.Reclass.{reclassed_map, reclassed_row, reclassed_rows, labels_of_rules}
use Rattle.cell_stats.specs.TableText.{TableFormatValue, cell_fields, label_of_cell, line_text, count_fields}
use Rattle.cell_join_numbers.specs.Parts.{Rectangle, cells_of_rectangle}
use Rattle.cell_cats_law.specs.PartLaw.{MapsHaveSameLabels, ReclassCommutesWithCutting, ReclassedTilesKeepMapLabels}
use Rattle.cell_cats_law.specs.PartLaw.{TilesPrintLikeFullMap}

abbrev Rows : Type 0
Rows = List (List CellValue)

abbrev Labels : Type 0
Labels = finmap.FinMap int_cmp (List ℕ)

map-map : {X Y Z : Type 0} (g : Y → Z) (f : X → Y) (xs : List X) → map g (map f xs) ≡ map (λ x. g (f x)) xs
map-map g f [] = refl
map-map g f (x ∷ xs) = ap (λ l. g (f x) ∷ l) (map-map g f xs)

map-same : {X Y : Type 0} (f g : X → Y) → ((x : X) → f x ≡ g x) → (xs : List X) → map f xs ≡ map g xs
map-same f g same xs = λ i. map (λ x. same x i) xs

module _ (rules : List RuleValue) (r : Rectangle) where
  abbrev cut-row : List CellValue → List CellValue
  cut-row row = take r.cols (drop r.left row)

  row-turned : (row : List CellValue) → reclassed_row rules (cut-row row) ≡ cut-row (reclassed_row rules row)
  row-turned row =
      sym (take-map (new_category rules) r.cols (drop r.left row))
      ∙ ap (take r.cols) (sym (drop-map (new_category rules) r.left row))

  rows-turned : (rows : Rows) → reclassed_rows rules (cells_of_rectangle r rows)
      ≡ cells_of_rectangle r (reclassed_rows rules rows)
  rows-turned rows =
      let some = take r.rows (drop r.top rows) in
      map-map (reclassed_row rules) cut-row some
      ∙ map-same (λ row. reclassed_row rules (cut-row row)) (λ row. cut-row (reclassed_row rules row)) row-turned some
      ∙ sym (map-map cut-row (reclassed_row rules) some)
      ∙ ap (map cut-row) (sym (take-map (reclassed_row rules) r.rows (drop r.top rows)))
      ∙ ap (λ (l : Rows). map cut-row (take r.rows l)) (sym (drop-map (reclassed_row rules) r.top rows))

pub reclassed-parts-are-parts : ReclassCommutesWithCutting
reclassed-parts-are-parts rules r whole part cut =
    map-map (λ m. m.rows) (reclassed_map rules) part
    ∙ sym (map-map (reclassed_rows rules) (λ m. m.rows) part)
    ∙ ap (map (reclassed_rows rules)) cut
    ∙ map-map (reclassed_rows rules) (λ m. cells_of_rectangle r m.rows) whole
    ∙ map-same (λ m. reclassed_rows rules (cells_of_rectangle r m.rows))
    (λ m. cells_of_rectangle r (reclassed_rows rules m.rows))
    (λ m. rows-turned rules r m.rows) whole
    ∙ sym (map-map (λ m. cells_of_rectangle r m.rows) (reclassed_map rules) whole)

-- ---- the labels of parts

-- reclassed parts have the same labels as the reclassed full maps
same-labels : (rules : List RuleValue) (r : Rectangle) (whole part : List Grid) →
    map (λ m. m.rows) part ≡ map (λ m. cells_of_rectangle r m.rows) whole →
    map (λ (m : Grid). labels_of_rules rules) part ≡ map (λ (m : Grid). labels_of_rules rules) whole
same-labels rules r whole part cut =
    sym (map-map (λ (rows : Rows). labels_of_rules rules) (λ (m : Grid). m.rows) part)
    ∙ ap (map (λ (rows : Rows). labels_of_rules rules)) cut
    ∙ map-map (λ (rows : Rows). labels_of_rules rules) (λ (m : Grid). cells_of_rectangle r m.rows) whole

pub reclassed-parts-have-the-labels : ReclassedTilesKeepMapLabels
reclassed-parts-have-the-labels rules r whole part cut =
    map-map (λ m. m.labels) (reclassed_map rules) part
    ∙ same-labels rules r whole part cut
    ∙ sym (map-map (λ m. m.labels) (reclassed_map rules) whole)

abbrev label-in : CellValue → Labels → List ℕ
label-in None labels = codes "no data"
label-in (Some category) labels = unwrap_or (finmap.get labels category) []

label-at : (maps : List Grid) (place : ℕ) (cell : CellValue) →
    label_of_cell maps place cell ≡ option_map_or (label-in cell) (slice_get (map (λ m. m.labels) maps) place) []
label-at [] place cell = refl
label-at (m ∷ maps) zero None = refl
label-at (m ∷ maps) zero (Some category) = refl
label-at (m ∷ maps) (suc place) cell = label-at maps place cell

label-same : (whole part : List Grid) → MapsHaveSameLabels whole part → (place : ℕ) (cell : CellValue) →
    label_of_cell part place cell ≡ label_of_cell whole place cell
label-same whole part same place cell =
    label-at part place cell
    ∙ ap (λ (l : List Labels). option_map_or (label-in cell) (slice_get l place) []) same
    ∙ sym (label-at whole place cell)

fields-same : (whole part : List Grid) → MapsHaveSameLabels whole part → (format : TableFormatValue) →
    cell_fields format part ≡ cell_fields format whole
fields-same whole part same format =
    let labels = label-same whole part same in
    λ i place cell. cell_text format.null_text cell ∷ (if format.labels then labels place cell i ∷ [] else [])

pub parts-print-the-whole : TilesPrintLikeFullMap
parts-print-the-whole whole part same format picks table =
    let fields = fields-same whole part same format in
    λ i. flat_map (λ pair.
    line_text format (flat_map (λ p. fields i p.0 p.1) (zip picks pair.0) ++ count_fields format pair.1)) table
