use Rattle.std.proofs.Common.{◌≡◌, ◌++◌, ◌∷◌, [], ℕ, List, All, length, map, ap, sym, subst, ◌∙◌, arith}
use Rattle.std.proofs.Common.{append_assoc}
use Rattle.std.proofs.lemmas.List.{length_push}
use Rattle.std.proofs.lemmas.List.Elements.{All-tail}
use Rattle.cell_core.specs.Grid.{CellValue}
use Rattle.cell_clumps.specs.parts.RunsOfLabels.{clump_number_cell_of_label}
use Rattle.cell_clumps.proofs.row_numbers.clump_map_of_labels.Goals as goal

-- numbering one more row leaves the complete result unchanged
next_row : (table : List ℕ) (rows grown all : List (List CellValue)) (labels : List ℕ) (items rest : List (List ℕ))
    → grown ≡ rows ++ map (clump_number_cell_of_label table) labels ∷ [] → items ≡ labels ∷ rest
    → rows ++ map (map (clump_number_cell_of_label table)) items ≡ all
    → grown ++ map (map (clump_number_cell_of_label table)) rest ≡ all
next_row table rows grown all labels items rest more is whole =
    ap (λ (l : List (List CellValue)). l ++ map (map (clump_number_cell_of_label table)) rest) more
    ∙ append_assoc rows (map (clump_number_cell_of_label table) labels
    ∷ []) (map (map (clump_number_cell_of_label table)) rest)
    ∙ ap (λ l. rows ++ map (map (clump_number_cell_of_label table)) l) (sym is) ∙ whole

pub loop-labels-preserved : goal.loop-labels-preserved
loop-labels-preserved c =
    let inv = c.loop-labels.invariant in
    let table : List ℕ = c.args.table.now in
    let rows : List (List CellValue) = c.loop-labels.builder.rows in
    let steps = c.in-Some.ensures.steps.0 in
    let ok = c.in_ok-push_row.ensures.ok in
    let grown : c.push_row.new.self.rows ≡ rows ++ map (clump_number_cell_of_label table) c.in-Some.labels
    ∷ [] = ap (λ b. b.rows) ok
    ∙ ap (λ (cells : List CellValue). rows ++ cells ∷ []) c.write_clump_numbers_of_row.ensures in
    let one = ap (λ l. length l) steps in
    let more = length_push rows (map (clump_number_cell_of_label table) c.in-Some.labels) in
    record {
      width = c.write_clump_numbers_of_row.auto.cells ∙ inv.width;
      region = ap (λ b. b.region) ok ∙ inv.region;
      whole = next_row table rows _ _ c.in-Some.labels _ _ grown steps inv.whole;
      count = omega (arith, inv.count, ap (length {A = List CellValue}) grown);
      wide = All-tail (λ (labels : List ℕ). length labels ≡ c.args.region.cols) _ _
          (subst (All (λ (labels : List ℕ). length labels ≡ c.args.region.cols)) steps inv.wide);
      len = omega (arith, inv.len, c.in-Some.ensures.steps.1);
    }
