-- The labels of a tile's clumps, as spans of consecutive labels.
use Rattle.std.specs.Prelude.{ℕ, ◌+◌, ◌<◌, ◌^◌, List, Vec, All, flat_map, length, map}
use Rattle.std.specs.Global.{Global}
use Rattle.std.specs.List.{range_with_len}
use Rattle.cell_join_tiles.specs.declared.spans.LabelRange.{LabelRange}

abbrev pub labels_of_range : LabelRange → List ℕ
labels_of_range span = range_with_len span.first span.count

abbrev pub labels_of_ranges : List LabelRange → List ℕ
labels_of_ranges spans = flat_map labels_of_range spans

-- the labels in the spans of some tiles
abbrev pub labels_of_tile_ranges : List (Vec LabelRange Global) → List (List ℕ)
labels_of_tile_ranges tiles = map (λ spans. labels_of_ranges spans.items) tiles

-- all labels of the span fit in 64 bits
abbrev pub LabelRangeFitsInSixtyFourBits : LabelRange → Type 0
LabelRangeFitsInSixtyFourBits span = span.first + span.count < 2 ^ 64

pub record LabelRangesFitInSixtyFourBits (spans : List LabelRange) : Type 0 where
  pub each : All LabelRangeFitsInSixtyFourBits spans
  pub few : length (labels_of_ranges spans) < 2 ^ 64

abbrev pub TileLabelRangesFitInSixtyFourBits : List (Vec LabelRange Global) → Type 0
TileLabelRangesFitInSixtyFourBits tiles = All (λ spans. LabelRangesFitInSixtyFourBits spans.items) tiles
