use Rattle.std.proofs.Common.{sym, ◌∙◌, subst}
use Rattle.cell_join_tiles.specs.SeamLines.{label_pair_of_equal_cells}
use Rattle.cell_join_tiles.specs.parts.RowMarks.{AddsLabelPairs}
use Rattle.cell_join_tiles.proofs.MeetingLemmas.{label_pair_of_equal_cells-alike}
use Rattle.cell_join_tiles.proofs.meetings.add_label_pair_of_equal_cells.Goals as goal

pub returns-in_ok-add_pair_unless_last : goal.returns-in_ok-add_pair_unless_last
returns-in_ok-add_pair_unless_last c =
    let one = c.in-Some.one in
    let other = c.in-Some-other.other in
    subst (AddsLabelPairs c.args.pairs.now.items c.add_pair_unless_last.new.pairs.items)
    (sym ((λ i. label_pair_of_equal_cells (c.in-Some.is i) (c.in-Some-other.is i))
    ∙ label_pair_of_equal_cells-alike one other (sym c.have_same_category.ensures
    ∙ c.if-have_same_category.true))) c.in_ok-add_pair_unless_last.ensures
