-- The header of six keys that are all given.
use Rattle.std.proofs.Common.{◌≡◌, Some, Ok, Err, Result, refl}
use Rattle.cell_core_values.specs.Region.{RegionValue, region_or_first_fault}
use Rattle.cell_core_values.specs.declared.region.RegionFault.{RegionFault}
use Rattle.cell_ascii_meaning.specs.Header.{HeaderKeyValues, header_defined_by_keys, header_of_keys_and_region}
use Rattle.cell_ascii_reading.specs.Given.{header_of_region_or_fault}

judged : (k : HeaderKeyValues) (made : Result RegionValue RegionFault)
    → header_of_region_or_fault made k.null k.multiplier ≡ header_of_keys_and_region k made
judged k (Ok region) = refl
judged k (Err fault) = refl

-- if all six keys are given, the header depends on whether they form a region
pub header-given : (k : HeaderKeyValues) (region : RegionValue) (made : Result RegionValue RegionFault)
    → made ≡ region_or_first_fault region
    → k.north ≡ Some region.north → k.south ≡ Some region.south → k.east ≡ Some region.east
    → k.west ≡ Some region.west → k.rows ≡ Some region.rows → k.cols ≡ Some region.cols
    → header_of_region_or_fault made k.null k.multiplier ≡ header_defined_by_keys k
header-given k region made is n s e w r c = rw (is, n, s, e, w, r, c) (judged k (region_or_first_fault region))
