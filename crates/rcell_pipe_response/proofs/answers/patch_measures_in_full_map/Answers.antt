use Rattle.std.proofs.Common.{sym, ◌∙◌}
use Rattle.rcell_pipe_response.proofs.TileQuestionLemmas.{numbers_of_tile, tile_is_inside}
use Rattle.rcell_pipe_response.proofs.answers.patch_measures_in_full_map.Goals as goal

pub patch_measures-requires-clause-depth : goal.patch_measures-requires-clause-depth
patch_measures-requires-clause-depth c = c.args.question.now.positive

pub patch_measures_in_tile-requires-clause-depth : goal.patch_measures_in_tile-requires-clause-depth
patch_measures_in_tile-requires-clause-depth c = c.args.question.now.positive

pub patch_measures_in_tile-requires-clause-clumping : goal.patch_measures_in_tile-requires-clause-clumping
patch_measures_in_tile-requires-clause-clumping c =
    rw c.position_of_tile-position.ensures
    (numbers_of_tile c.in-Some.place c.args.shelves.now.place (sym c.place.ensures.value ∙ c.in-Some.is)
    c.args.shelves.now.outer c.args.question.now.map.items c.args.map.now c.map_named-outer.result.now c.requires.map
    (rw (c.deref.ensures.value, c.outer.ensures) at c.map_named-outer.ensures.named) c.args.question.now.joining
    c.args.numbers.now c.requires.clumping)

pub patch_measures_in_tile-requires-clause-inside : goal.patch_measures_in_tile-requires-clause-inside
patch_measures_in_tile-requires-clause-inside c =
    rw c.position_of_tile-position.ensures
    (tile_is_inside c.in-Some.place c.args.shelves.now.place (sym c.place.ensures.value ∙ c.in-Some.is)
    c.args.shelves.now.outer c.args.question.now.map.items c.args.map.now c.map_named-outer.result.now c.requires.map
    (rw (c.deref.ensures.value, c.outer.ensures) at c.map_named-outer.ensures.named) c.args.numbers.now
    c.requires.clumping.region (rw c.outer.ensures at c.map_named-outer.ensures.region)
    (rw c.in-Some.is at c.place.ensures.covers))

pub returns-in_ok-patches-in-Some : goal.returns-in_ok-patches-in-Some
returns-in_ok-patches-in-Some c = rw (sym c.place.ensures.value ∙ c.in-Some.is) (
  c.map_named-outer.result.now,
  (
    rw (c.deref.ensures.value, c.outer.ensures) at c.map_named-outer.ensures.named,
    rw c.position_of_tile-position.ensures at c.in_ok-patches-in-Some.ensures,
  ),
)
