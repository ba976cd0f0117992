-- The encoding of the maps of a run.
use Rattle.std.specs.Prelude.{ℕ, Option, refl}
use Rattle.std.specs.Coded.{Coded, code_by, coded×, coded_ℕ, coded_option}
use Rattle.cell_core.specs.parts.GridCode.{shelf_encoding}
use Rattle.cell_core.specs.Shelf.{ShelfValue}
use Rattle.cell_join_numbers.specs.Parts.{Rectangle}
use Rattle.rcell_tile.specs.TilePlaces.{TilePlaceValue}
use Rattle.rcell_tile.specs.TileRuns.{RunShelvesValue}

-- the encoding of a rectangle
abbrev pub rectangle_encoding : Coded Rectangle
rectangle_encoding =
    code_by ((ℕ × ℕ) × (ℕ × ℕ)) (coded× (coded× coded_ℕ coded_ℕ) (coded× coded_ℕ coded_ℕ))
    (λ r. ((r.top, r.left), (r.rows, r.cols))) (λ x. record { top = x.0.0; left = x.0.1; rows = x.1.0; cols = x.1.1 })
    (λ _. refl)

-- the encoding of a place
abbrev pub place_encoding : Coded TilePlaceValue
place_encoding =
    code_by ((ℕ × ℕ) × (Rectangle × Rectangle))
    (coded× (coded× coded_ℕ coded_ℕ) (coded× rectangle_encoding rectangle_encoding))
    (λ p. ((p.rows, p.cols), (p.outer, p.tile)))
    (λ x. record { rows = x.0.0; cols = x.0.1; outer = x.1.0; tile = x.1.1 }) (λ _. refl)

-- the encoding of the maps of a run
abbrev pub shelves_encoding : Coded RunShelvesValue
shelves_encoding =
    code_by (ShelfValue × Option TilePlaceValue) (coded× shelf_encoding (coded_option place_encoding))
    (λ s. (s.outer, s.place)) (λ x. record { outer = x.0; place = x.1 }) (λ _. refl)
