-- The law about reading grid texts.
use Rattle.std.proofs.Common.{◌≡◌, [], Option, Some, None, Bool, refl, ap, sym, ◌∙◌, Result, Ok, Err, subst}
use Rattle.std.specs.Option.{option_and_then}
use Rattle.cell_core_devices.specs.Device.{ComingBytes}
use Rattle.cell_core.specs.Grid.{Grid}
use Rattle.cell_ascii_meaning.specs.Header.{empty_header_key_values}
use Rattle.cell_ascii_meaning.specs.CellTexts.{map_denoted_by_text}
use Rattle.cell_ascii_meaning.specs.GridText.{words_of_each_line, SourceDenotesMap}
use Rattle.cell_ascii_law.specs.GridLaw.{ReadingReturnsDenotedMap}
use Rattle.cell_ascii_meaning.specs.declared.grid_fault.GridFault.{GridFault}
use Rattle.cell_ascii_law.proofs.LexemeLemmas.{Lines, lex}
use Rattle.cell_ascii_law.proofs.DataLawLemmas.{accepted}
use Rattle.cell_ascii_law.proofs.HeaderLawLemmas.{take_text, text_is}
use Rattle.cell_ascii_law.proofs.LimitLawLemmas.{limits_are, within_limits}
use Rattle.cell_ascii_law.proofs.TextLawLemmas.{text_read, text_taken}

is_accepted : (r : Result Grid GridFault) (m : Grid) → accepted r ≡ Some m → r ≡ Ok m
is_accepted (Ok x) m e = cc
is_accepted (Err f) m e = cc

read : (c : ComingBytes) (m : Grid) → map_denoted_by_text c ≡ Ok m → SourceDenotesMap c m
read c m e = by (lex 0 [] c.bytes c.fails) refl (sym (text_is c.bytes c.fails) ∙ ap accepted e)
  where
    by : (o : Option Lines) → lex 0 [] c.bytes c.fails ≡ o → option_and_then (take_text empty_header_key_values) o ≡ Some m → SourceDenotesMap c m
    by None is e = cc
    by (Some ls) is e =
        let text = limits_are c.bytes c.fails ls is in
        let parts = text_read (words_of_each_line c.bytes) m (subst
        (λ (l : Lines). take_text empty_header_key_values l ≡ Some m) text.2 e) in
        record { said = parts.0; ends = text.0; limits = text.1; header = parts.1; cells = parts.2; region = ap (λ (g : Grid). g.region) parts.3; labels = ap (λ (g : Grid). g.labels) parts.3 }

denoted : (c : ComingBytes) (m : Grid) → SourceDenotesMap c m → map_denoted_by_text c ≡ Ok m
denoted c m is = is_accepted (map_denoted_by_text c) m (text_is c.bytes c.fails ∙ ap (λ (f : Bool). option_and_then (take_text empty_header_key_values) (lex 0 [] c.bytes f)) is.ends
    ∙ ap (option_and_then (take_text empty_header_key_values)) (within_limits c.bytes is.limits) ∙ text_taken (words_of_each_line c.bytes) is.said m is.header is.cells is.region is.labels)

pub reading_agrees : ReadingReturnsDenotedMap
reading_agrees c m = (read c m, denoted c m)
