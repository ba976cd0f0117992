use Rattle.std.proofs.Common.{◌≡◌, ◌<◌, length, take}
use Rattle.cell_cats.specs.Reclass.{reclassed_rows}
use Rattle.cell_cats.specs.parts.KnownCategories.{AreCachedCategoriesRight}
use Rattle.cell_cats.proofs.reclassing.reclass_cells.Given as goal

abbrev pub invariant-loop-r : goal.invariant-loop-r
invariant-loop-r l = record {
  rows : l.builder.rows ≡ reclassed_rows l.rules (take l.r l.given.rows);
  region : l.builder.region ≡ l.given.region;
  count : length l.builder.rows ≡ l.r;
  width : length l.row ≡ l.given.region.cols;
  byte_width : length l.byte_row ≡ l.given.region.cols;
  some : 0 < length l.known;
  right : AreCachedCategoriesRight l.rules l.known;
}
