use Rattle.std.proofs.Common.{◌≡◌, ◌≢◌, Err, Some}
use Rattle.cell_core_devices.specs.Supposed.{content_to_come}
use Rattle.cell_ascii_meaning.specs.CellTexts.{map_denoted_by_text}
use Rattle.cell_ascii_meaning.specs.FaultPlaces.{first_fault_of_text}
use Rattle.cell_ascii_meaning.specs.declared.grid_fault.GridKind.TheVariants.{Memory}
use Rattle.cell_ascii_law_faults.proofs.GridFaultLemmas.{faults_agree}
use Rattle.cell_ascii_reading.proofs.LeadLemmas.{implied}
use Rattle.cell_ascii.proofs.DataLemmas.{opening_fails, reading_denotes, text_read_fails_with_first_fault}
use Rattle.cell_ascii.proofs.grid_reader.read_map.Goals as goal

pub returns-in-Err-clause-reading : goal.returns-in-Err-clause-reading
returns-in-Err-clause-reading g c =
    let u = c.in-Err.unopened in
    opening_fails (content_to_come (g.R.Source.supposed c.args.source)) (content_to_come (g.R.Source.supposed u.source)) u.fault (u.fault.kind ≢ Memory) c.in-Err.ensures.fault

pub returns-in-Err-clause-fault : goal.returns-in-Err-clause-fault
returns-in-Err-clause-fault g c =
    let u = c.in-Err.unopened in
    let f = u.fault in
    let a = content_to_come (g.R.Source.supposed c.args.source) in
    let b = content_to_come (g.R.Source.supposed u.source) in
    λ other. implied (λ x. f.kind ≢ Memory → map_denoted_by_text x ≡ Err f) (λ x. first_fault_of_text x ≡ Some f) a b (λ x e. (faults_agree x f).0 (e other))
    (opening_fails a b f (f.kind ≢ Memory) c.in-Err.ensures.fault)

pub returns-clause-map : goal.returns-clause-map
returns-clause-map g c =
    let a = content_to_come (g.R.Source.supposed c.args.source) in
    reading_denotes c.read_all_rows_and_end-map.result a (content_to_come (g.R.Source.supposed c.into_source.result))
    (λ h some. c.read_all_rows_and_end-map.ensures.reading a c.in-Ok.ensures.opened h
    (c.into_source.ensures.kept h some))

pub returns-clause-fault : goal.returns-clause-fault
returns-clause-fault g c =
    let a = content_to_come (g.R.Source.supposed c.args.source) in
    text_read_fails_with_first_fault c.read_all_rows_and_end-map.result a (content_to_come
    (g.R.Source.supposed c.into_source.result))
    (λ h some. c.read_all_rows_and_end-map.ensures.reading a c.in-Ok.ensures.opened h
    (c.into_source.ensures.kept h some))
