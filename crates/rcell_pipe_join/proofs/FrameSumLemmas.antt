-- The sums of the tables in the frames of tiles.
use Rattle.std.proofs.Common.{◌≡◌, ◌∙◌, ℕ, List, [], ◌∷◌, map, Option, refl, subst, arith, sum_by}
use Rattle.std.specs.List.{AllZip}
use Rattle.std.specs.Prelude.{slice_get}
use Rattle.std.proofs.lemmas.List.Sums.{sum_by-cons}
use Rattle.cell_stats_combinations.specs.Combinations.{Combination}
use Rattle.cell_stats_combinations.specs.Listed.{CombinationCounts, listed_count_of_combination}
use Rattle.cell_stats.specs.CategoryTables.{CombinationsWithCounts}
use Rattle.cell_join_numbers.proofs.ListingLemmas.{sums-merge}
use Rattle.rcell_pipe_frames.specs.Frames.{OutputFrame}
use Rattle.rcell_pipe_frames.specs.TileFrameLaw.{TileWithFrames, entries_of_frame, TablesMergeIntoFrame}
use Rattle.rcell_pipe_frames.specs.TileFrameLaw.{TablesMergeIntoTable, frames_at_index, TileFramesJoinIntoFullFrames}
use Rattle.rcell_pipe_join.specs.FrameSumLaw.{AreEntriesOfTableFrame, TableFramesAddUp}
use Rattle.rcell_pipe_join.specs.TableEntries.{AreSumsOfTables}

module _ (index : ℕ) where
  abbrev frames_of_tiles : List TileWithFrames → List (Option OutputFrame)
  frames_of_tiles tiles = map (λ part. part.1) (frames_at_index index tiles)

  listed-frames : (k : Combination) (tiles : List TileWithFrames) (tables : List CombinationCounts)
      → AllZip (AreEntriesOfTableFrame index) tiles tables
      → sum_by (listed_count_of_combination k) tables ≡ sum_by (listed_count_of_combination k)
      (map entries_of_frame (frames_of_tiles tiles))
  listed-frames k [] [] all = refl
  listed-frames k [] (table ∷ tables) all = absurd all
  listed-frames k (t ∷ tiles) [] all = absurd all
  listed-frames k (t ∷ tiles) (table ∷ tables) all =
      omega (
        arith,
        sum_by-cons (listed_count_of_combination k) table tables,
        sum_by-cons (listed_count_of_combination k) (entries_of_frame (slice_get t.frames index))
            (map entries_of_frame (frames_of_tiles tiles)),
        all.0 k,
        listed-frames k tiles tables all.1,
      )

  pub merged-frames-add-up : (whole : CombinationsWithCounts) (tiles : List TileWithFrames)
      → TablesMergeIntoTable whole (map entries_of_frame (frames_of_tiles tiles)) → (tables : List CombinationCounts)
      → AllZip (AreEntriesOfTableFrame index) tiles tables → (sums : CombinationCounts) → AreSumsOfTables tables sums
      → sums ≡ whole
  merged-frames-add-up whole tiles merge tables each sums are =
      (merge.merge sums).0
      (sums-merge (map entries_of_frame (frames_of_tiles tiles)) merge.listed sums
      (record { ascending = are.ascending; no_zero = are.no_zero })
      (λ k. are.counts k ∙ listed-frames k tiles tables each))

pub frames-add-up : TileFramesJoinIntoFullFrames → TableFramesAddUp
frames-add-up join full statements frames tiles are index whole is tables each width response frame =
    merged-frames-add-up index whole.pairs tiles
    (subst (λ (o : Option OutputFrame). TablesMergeIntoFrame o (frames_of_tiles index tiles)) is
    (join full statements frames tiles are index).tables) tables each frame.sums frame.are
