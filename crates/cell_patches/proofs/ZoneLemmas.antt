-- The main zones, after all cells are counted.
use Rattle.std.proofs.Common.{◌≡◌, ℕ, ℤ, pos, ◌+◌, ◌<◌, ◌≤◌, ◌&&◌, true, false, Bool, cond, List, length, get_or, map}
use Rattle.std.proofs.Common.{Option, Some, None, refl, ap, sym, subst, ◌∙◌, arith, mul-le-mul, inl, inr, ◌⊎◌}
use Rattle.std.specs.List.{slice_get}
use Rattle.std.specs.Option.{option_map}
use Rattle.std.proofs.lemmas.Option.{get_or_from_slice_get, slice_get-map, slice_get_cases}
use Rattle.cell_core_values.specs.Region.{IsValidRegion}
use Rattle.cell_core_values.specs.Cell.{cell_eq}
use Rattle.cell_core.specs.Grid.{Grid, CellValue, cell_at}
use Rattle.cell_patches.specs.declared.zone_counts.LeadingZone.{LeadingZone}
use Rattle.cell_patches.specs.declared.zone_counts.CellCountsByPatchAndZone.{CellCountsByPatchAndZone}
use Rattle.cell_patches.specs.Zones.{patch_cell_count_in_zone, IsMainZone, AreMainZones}
use Rattle.cell_patches.specs.parts.Passes.{sum_over_earlier_cells}
use Rattle.cell_patches.specs.parts.Leads.{AreZonesCountedOfAllCells, AreZonesCountedOfEarlierCells}
use Rattle.cell_patches.specs.parts.Leads.{AreLeadingZonesOfPatches, PairCountsHaveRoomFor, IsLeadingZoneByCellCounts}
use Rattle.cell_patches.specs.parts.Leads.{PatchAndZoneMaps, pair_count_with_current_run}
use Rattle.cell_patches.specs.parts.Leads.{pair_count_without_current_run, leading_zone_before_any_cell}
use Rattle.cell_patches.specs.parts.Leads.{one_if_cells_are_patch_and_zone}
use Rattle.cell_patches.specs.parts.Leads.{one_if_cell_in_patch_and_zone, same_pair}
use Rattle.cell_patches.proofs.LeadLemmas.{idle}
use Rattle.cell_patches.proofs.SumLemmas.{earlier_all, earlier_more, earlier_most, earlier_none, earlier_row}

one_most : (number zone : CellValue) (v z : ℤ) → one_if_cells_are_patch_and_zone number zone v z ≤ 1
one_most number zone v z = by (cell_eq number (Some v) && cell_eq zone (Some z))
  where
    by : (b : Bool) → cond b 1 0 ≤ 1
    by true = omega arith
    by false = omega arith

-- the counts have room for the next cell
pub room_for : (maps : PatchAndZoneMaps) (r c : ℕ) (counts : CellCountsByPatchAndZone)
    → AreZonesCountedOfEarlierCells maps r c counts
    → IsValidRegion maps.numbers.region → r ≤ maps.numbers.region.rows → c ≤ maps.numbers.region.cols
    → PairCountsHaveRoomFor 1 counts
room_for maps r c counts h region row col v z =
    let e = h.each v z in
    let most =
    earlier_most (one_if_cell_in_patch_and_zone maps.numbers maps.zones v z) 1 maps.numbers.region.cols r c
    (λ a b. one_most (cell_at maps.numbers a b) (cell_at maps.zones a b) v z) in
    let rows = region.rows_most in
    let cols = region.cols_most in
    let row_limit : r ≤ 65535 = omega arith in
    let col_limit : maps.numbers.region.cols ≤ 65535 = omega arith in
    let product = mul-le-mul row_limit col_limit in
    omega arith

-- one more cell adds its pair to the counts
pub counted_more : (maps : PatchAndZoneMaps) (r c : ℕ) (old new : CellCountsByPatchAndZone) (number zone : CellValue)
    → AreZonesCountedOfEarlierCells maps r c old → number ≡ cell_at maps.numbers r c → zone ≡ cell_at maps.zones r c
    → ((v z : ℤ) → pair_count_with_current_run new v z ≡ pair_count_with_current_run old v z
    + one_if_cells_are_patch_and_zone number zone v z)
    → AreLeadingZonesOfPatches new
    → AreZonesCountedOfEarlierCells maps r (c + 1) new
counted_more maps r c old new number zone h is other more leads = record {
  each = λ v z.
      let e = more v z in
      let was = h.each v z in
      let here : one_if_cells_are_patch_and_zone number zone v z
      ≡ one_if_cell_in_patch_and_zone maps.numbers maps.zones v z r c =
      ap (λ (x : CellValue). one_if_cells_are_patch_and_zone x zone v z) is
      ∙ ap (λ (x : CellValue). one_if_cells_are_patch_and_zone (cell_at maps.numbers r c) x v z) other in
      let sum = earlier_more maps.numbers.region.cols (one_if_cell_in_patch_and_zone maps.numbers maps.zones v z) r c in
      omega arith;
  leads = leads;
}

-- counts up to the end of a row are counts up to the start of the next row
pub counted_row : (maps : PatchAndZoneMaps) (r c : ℕ) (counts : CellCountsByPatchAndZone)
    → AreZonesCountedOfEarlierCells maps r c counts
    → c ≡ maps.numbers.region.cols → AreZonesCountedOfEarlierCells maps (r + 1) 0 counts
counted_row maps r c counts h end = record {
  each = λ v z.
      h.each v z ∙ ap (sum_over_earlier_cells maps.numbers.region.cols
      (one_if_cell_in_patch_and_zone maps.numbers maps.zones v z) r) end
      ∙ sym (earlier_row maps.numbers.region.cols (one_if_cell_in_patch_and_zone maps.numbers maps.zones v z) r);
  leads = h.leads;
}

-- the counts are 0 before the first cell
pub counted_none : (maps : PatchAndZoneMaps) (counts : CellCountsByPatchAndZone)
    → ((v z : ℤ) → pair_count_with_current_run counts v z ≡ 0)
    → AreLeadingZonesOfPatches counts
    → AreZonesCountedOfEarlierCells maps 0 0 counts
counted_none maps counts none leads = record {
  each = λ v z. none v z ∙ sym (earlier_none maps.numbers.region.cols
      (one_if_cell_in_patch_and_zone maps.numbers maps.zones v z));
  leads = leads;
}

-- all cells are counted after the last run is added
pub counted_all : (maps : PatchAndZoneMaps) (r : ℕ) (old new : CellCountsByPatchAndZone)
    → AreZonesCountedOfEarlierCells maps r 0 old
    → r ≡ maps.numbers.region.rows → ((v z : ℤ) → pair_count_with_current_run new v z
    ≡ pair_count_with_current_run old v z)
    → new.run ≡ 0 → AreLeadingZonesOfPatches new
    → AreZonesCountedOfAllCells maps new
counted_all maps r old new h end same closed leads = record {
  each = λ v z.
      let none = idle (same_pair new.pair (v, z)) new.run closed in
      let e = same v z in
      let was = h.each v z in
      let sum = earlier_all maps.numbers.region.cols (one_if_cell_in_patch_and_zone maps.numbers maps.zones v z) r in
      let last = ap (sum_over_earlier_cells maps.numbers.region.cols
      (one_if_cell_in_patch_and_zone maps.numbers maps.zones v z)) end in
      let rows = ap (λ n. sum_over_earlier_cells maps.numbers.region.cols
      (one_if_cell_in_patch_and_zone maps.numbers maps.zones v z) n 0) end in
      let full =
      earlier_all maps.numbers.region.cols (one_if_cell_in_patch_and_zone maps.numbers maps.zones v z)
      maps.numbers.region.rows in
      omega arith;
  leads = leads;
}

-- the leading zone of a patch is its main zone
main_zone : (numbers zones : Grid) (n : ℕ) (cells : ℤ → ℕ) (lead : LeadingZone)
    → ((zone : ℤ) → cells zone ≡ patch_cell_count_in_zone numbers zones n zone) → IsLeadingZoneByCellCounts cells lead
    → (zone : Option ℤ) → lead.zone ≡ zone → IsMainZone numbers zones n zone
main_zone numbers zones n cells lead same h None is =
    λ zone. let e = same zone in let l = h.most zone in let none = h.none is in omega arith
main_zone numbers zones n cells lead same h (Some first) is =
    let e = same first in
    let some = h.some first is in
    record {
      some = (let l = some.1 in let f = some.0 in omega arith);
      most = λ other. let o = same other in let l = h.most other in let f = some.0 in omega arith;
      first = λ other equal. h.first first other is (same other ∙ equal ∙ sym e ∙ some.0);
    }

-- the leading zones are the main zones
pub main_zones : (maps : PatchAndZoneMaps) (counts : CellCountsByPatchAndZone) (main : List (Option ℤ))
    → AreZonesCountedOfAllCells maps counts
    → main ≡ map (λ (lead : LeadingZone). lead.zone) counts.leads.items → AreMainZones maps.numbers maps.zones main
main_zones maps counts main h e k zone is = by (slice_get counts.leads.items k) refl
  where
    found : option_map (λ (lead : LeadingZone). lead.zone) (slice_get counts.leads.items k) ≡ Some zone
    found =
        sym (slice_get-map (λ (lead : LeadingZone). lead.zone) counts.leads.items k)
        ∙ ap (λ (xs : List (Option ℤ)). slice_get xs k) (sym e) ∙ is

    within : (lead : LeadingZone) → slice_get counts.leads.items k ≡ Some lead
        → ((x : LeadingZone) × (k < length counts.leads.items) × (slice_get counts.leads.items k ≡ Some x)
        × (get_or counts.leads.items k x ≡ x))
        ⊎ ((length counts.leads.items ≤ k) × (slice_get counts.leads.items k ≡ None)) → k < length counts.leads.items
    within lead some (inl w) = w.1
    within lead some (inr w) = absurd (let f : None ≡ Some lead = sym w.1 ∙ some in cc)

    by : (o : Option LeadingZone) → slice_get counts.leads.items k ≡ o → IsMainZone maps.numbers maps.zones (k + 1) zone
    by None none =
        absurd (let f : None ≡ Some zone = ap (option_map (λ (lead : LeadingZone). lead.zone)) (sym none) ∙ found in cc)
    by (Some lead) some =
        let f : Some lead.zone ≡ Some zone = ap (option_map (λ (l : LeadingZone). l.zone)) (sym some) ∙ found in
        main_zone maps.numbers maps.zones (k + 1) (pair_count_without_current_run counts (pos (k + 1))) lead
        (λ z. h.each (pos (k + 1)) z)
        (subst (IsLeadingZoneByCellCounts (pair_count_without_current_run counts (pos (k + 1))))
        (get_or_from_slice_get counts.leads.items k lead leading_zone_before_any_cell some)
        (h.leads k (within lead some (slice_get_cases counts.leads.items k).1)))
        zone (let both : Some lead.zone ≡ Some zone = f in cc)
