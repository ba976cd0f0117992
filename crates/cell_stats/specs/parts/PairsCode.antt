-- Encodings of tables and formats.
use Rattle.std.specs.Prelude.{ℕ, Bool, List, refl}
use Rattle.std.specs.Coded.{Coded, code_by, coded×, coded_ℕ, coded_ℤ, coded_bool, coded_list, coded_option}
use Rattle.cell_stats.specs.TableText.{TableFormatValue}
use Rattle.cell_stats.specs.CategoryTables.{CombinationsWithCounts, TableValue}

-- the encoding of a table
abbrev pub table_encoding : Coded TableValue
table_encoding =
    code_by (ℕ × CombinationsWithCounts) (coded× coded_ℕ (coded_list
    (coded× (coded_list (coded_option coded_ℤ)) coded_ℕ)))
    (λ t. (t.width, t.pairs)) (λ p. record { width = p.0; pairs = p.1 }) (λ _. refl)

-- the encoding of a format
abbrev pub table_format_encoding : Coded TableFormatValue
table_format_encoding =
    code_by (ℕ × (List ℕ × (Bool × Bool))) (coded× coded_ℕ (coded× (coded_list coded_ℕ) (coded× coded_bool coded_bool)))
    (λ f. (f.separator, (f.null_text, (f.labels, f.counts)))) (λ p. record { separator = p.0; null_text = p.1.0; labels = p.1.1.0; counts = p.1.1.1 }) (λ _. refl)
