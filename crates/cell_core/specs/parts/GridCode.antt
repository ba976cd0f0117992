-- Encodings of regions, maps and shelves.
use Rattle.std.specs.Prelude.{ℕ, ℤ, List, refl}
use Rattle.std.specs.FinMap as finmap
use Rattle.std.specs.Ordering.{int_cmp}
use Rattle.std.specs.Coded.{Coded, code_by, coded×, coded_ℕ, coded_ℤ, coded_list, coded_option}
use Rattle.cell_core_values.specs.Region.{RegionValue}
use Rattle.cell_core.specs.Grid.{CellValue, Grid}
use Rattle.cell_core.specs.Shelf.{ShelfValue}

-- the encoding of a region
abbrev pub region_encoding : Coded RegionValue
region_encoding =
    code_by ((ℤ × ℤ) × ((ℤ × ℤ) × (ℕ × ℕ))) (coded× (coded× coded_ℤ coded_ℤ) (coded× (coded× coded_ℤ coded_ℤ) (coded× coded_ℕ coded_ℕ)))
    (λ e. ((e.north, e.south), ((e.east, e.west), (e.rows, e.cols))))
    (λ p. record { north = p.0.0; south = p.0.1; east = p.1.0.0; west = p.1.0.1; rows = p.1.1.0; cols = p.1.1.1 }) (λ _. refl)

-- the encoding of a map
abbrev pub grid_encoding : Coded Grid
grid_encoding =
    code_by (RegionValue × (List (List CellValue) × finmap.FinMap int_cmp (List ℕ)))
    (coded× region_encoding (coded× (coded_list (coded_list (coded_option coded_ℤ))) (finmap.code coded_ℤ (coded_list coded_ℕ))))
    (λ m. (m.region, (m.rows, m.labels))) (λ p. record { region = p.0; rows = p.1.0; labels = p.1.1 }) (λ _. refl)

-- the encoding of a shelf
abbrev pub shelf_encoding : Coded ShelfValue
shelf_encoding =
    code_by (RegionValue × (List (List ℕ) × List Grid)) (coded× region_encoding (coded× (coded_list (coded_list coded_ℕ)) (coded_list grid_encoding)))
    (λ s. (s.region, (s.names, s.maps))) (λ p. record { region = p.0; names = p.1.0; maps = p.1.1 }) (λ _. refl)
