-- Reading a grid text returns the map that the text denotes, and its header.
use Rattle.std.specs.Prelude.{◌≡◌, ◌↔◌, Ok}
use Rattle.cell_core_devices.specs.Device.{ComingBytes}
use Rattle.cell_core.specs.Grid.{Grid}
use Rattle.cell_ascii_meaning.specs.CellTexts.{map_denoted_by_text}
use Rattle.cell_ascii_meaning.specs.GridText.{SourceDenotesMap, HeaderLinesFormHeader, header_lines, words_of_each_line}
use Rattle.cell_ascii_meaning.specs.Header.{HeaderAndDataStart, header_of_text}

-- reading a text returns a map if and only if the text denotes that map
abbrev pub ReadingReturnsDenotedMap : Type 0
ReadingReturnsDenotedMap = (c : ComingBytes) (m : Grid) → (map_denoted_by_text c ≡ Ok m) ↔ SourceDenotesMap c m

-- the header read from a text is defined by its header lines, whether or not the data is valid
abbrev pub ReadHeaderIsDenotedHeader : Type 0
ReadHeaderIsDenotedHeader =
    (c : ComingBytes) (o : HeaderAndDataStart) → header_of_text c ≡ Ok o
    → HeaderLinesFormHeader (header_lines (words_of_each_line c.bytes)) o.header
