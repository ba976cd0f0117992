use Rattle.std.proofs.Common.{◌∙◌, ap, rules, w64}
use Rattle.std.specs.Int.RustNames.{FitsSigned}
use Rattle.std.proofs.lemmas.Int.{to_z-of_z}
use Rattle.cell_core_values.specs.Region.{RegionValue}
use Rattle.cell_ascii_meaning.specs.Header.{HeaderKeyValues, header_defined_by_keys}
use Rattle.cell_ascii_reading.proofs.KeyLemmas.{header-given}
use Rattle.cell_ascii_reading.proofs.keys.HeaderKeys.into_header.Goals as goal

pub returns : goal.returns
returns c =
    let k : HeaderKeyValues = record { north = c.self.inside.north; south = c.self.inside.south; east = c.self.inside.east; west = c.self.inside.west; rows = c.self.inside.rows; cols = c.self.inside.cols; null = c.self.inside.null; kind = c.self.inside.kind; multiplier = c.self.inside.multiplier } in
    let region : RegionValue = record { north = c.in-Some.north; south = c.in-Some-south.south; east = c.in-Some-east.east; west = c.in-Some-west.west; rows = c.in-Some-rows.rows; cols = c.in-Some-cols.cols } in
    let n : FitsSigned w64 c.in-Some.north = search rules in
    let s : FitsSigned w64 c.in-Some-south.south = search rules in
    let e : FitsSigned w64 c.in-Some-east.east = search rules in
    let w : FitsSigned w64 c.in-Some-west.west = search rules in
    c.header_of_region.ensures
    ∙ header-given k region c.new.result (simp to_z-of_z at c.new.ensures) c.in-Some.is c.in-Some-south.is c.in-Some-east.is c.in-Some-west.is c.in-Some-rows.is c.in-Some-cols.is
    ∙ ap header_defined_by_keys c.self.view_is
