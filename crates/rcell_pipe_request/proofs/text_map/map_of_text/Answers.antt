use Rattle.std.proofs.Common.{subst}
use Rattle.cell_core_devices.specs.Device.{MemorySourceValue, bytes_to_come_from_memory}
use Rattle.cell_ascii.specs.GridReaders.{EqualsReadingUnlessOutOfMemory}
use Rattle.cell_ascii_meaning.specs.CellTexts.{map_denoted_by_text}
use Rattle.rcell_pipe_request.proofs.text_map.map_of_text.Goals as goal

pub returns : goal.returns
returns c =
    let read = c.read_map-read.result in
    subst (λ (s : MemorySourceValue). EqualsReadingUnlessOutOfMemory read.map
    (map_denoted_by_text (bytes_to_come_from_memory s))) c.new.ensures
    (c.results_hold_for_known_bytes.ensures.reading c.new.result read.source read.map
    c.read_map-read.ensures.reading)
