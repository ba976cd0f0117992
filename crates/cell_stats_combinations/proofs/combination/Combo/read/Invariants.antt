use Rattle.std.proofs.Common.{◌≡◌, ◌++◌, map, drop}
use Rattle.std.specs.Option.{option_map}
use Rattle.cell_core_values.specs.Words.{parts_between_commas}
use Rattle.cell_stats_combinations.specs.ComboReading.{cells_of_text_parts}
use Rattle.cell_stats_combinations.proofs.combination.Combo.read.Given as goal

abbrev pub invariant-loop-part : goal.invariant-loop-part
invariant-loop-part l = cells_of_text_parts (parts_between_commas l.text) ≡ option_map (λ cells. l.cells.items ++ cells) (cells_of_text_parts (map (λ w. w.now) (drop l.part-index l.part-items)))
