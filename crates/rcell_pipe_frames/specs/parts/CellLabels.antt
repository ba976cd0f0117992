-- The labels in a table, as the code looks them up.
use Rattle.std.specs.Prelude.{ℕ, List, flat_map}
use Rattle.std.specs.List.{zip}
use Rattle.cell_core.specs.Grid.{Grid}
use Rattle.cell_stats.specs.CategoryTables.{CombinationsWithCounts}
use Rattle.cell_stats.specs.TableText.{label_of_cell}
use Rattle.rcell_pipe_frames.specs.FrameBytes.{length_and_text_bytes}

-- the labels of the entries' cells, as the code looks them up
abbrev pub cell_labels_bytes : List Grid → List ℕ → CombinationsWithCounts → List ℕ
cell_labels_bytes maps places pairs = flat_map (λ pair. flat_map (λ p. length_and_text_bytes (label_of_cell maps p.0 p.1)) (zip places pair.0)) pairs
