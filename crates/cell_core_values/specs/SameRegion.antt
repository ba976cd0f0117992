-- Equality of regions: all six numbers are equal (profile).
use Rattle.std.specs.Prelude.{◌≡◌, Bool, ◌&&◌, ◌==◌}
use Rattle.std.proofs.Common.{ap, int_eq}
use Rattle.std.specs.Bool.{Decides}
use Rattle.std.specs.Cmp.{IsEquivalence, decided, signed_Decides, unsigned_Decides}
use Rattle.std.proofs.lemmas.Bool.Decides.{Decides-and}
use Rattle.cell_core_values.specs.Region.{RegionValue}

-- all six numbers are equal
abbrev pub is_same_region : RegionValue → RegionValue → Bool
is_same_region a b = int_eq a.north b.north && (int_eq a.south b.south && (int_eq a.east b.east && (int_eq a.west b.west && (a.rows == b.rows && a.cols == b.cols))))

-- the numeric test decides whether two regions are equal
pub is_same_region-Decides : (a b : RegionValue) → Decides (is_same_region a b) (a ≡ b)
is_same_region-Decides a b =
    let sides = Decides-and _ _ (unsigned_Decides a.rows b.rows) (unsigned_Decides a.cols b.cols) in
    let east = Decides-and _ _ (signed_Decides a.east b.east) (Decides-and _ _ (signed_Decides a.west b.west) sides) in
    let all = Decides-and _ _ (signed_Decides a.north b.north) (Decides-and _ _ (signed_Decides a.south b.south) east) in (
      λ t. let s = all.0 t in λ i. record { north = s.0 i; south = s.1.0 i; east = s.1.1.0 i; west = s.1.1.1.0 i; rows = s.1.1.1.1.0 i; cols = s.1.1.1.1.1 i },
      λ e. all.1 (ap (λ (x : RegionValue). x.north) e, (ap (λ (x : RegionValue). x.south) e, (ap (λ (x : RegionValue). x.east) e, (ap (λ (x : RegionValue). x.west) e, (ap (λ (x : RegionValue). x.rows) e, ap (λ (x : RegionValue). x.cols) e))))),
    )

-- equality of regions is an equivalence
pub is_same_region_equiv : IsEquivalence is_same_region
is_same_region_equiv = decided is_same_region is_same_region-Decides
