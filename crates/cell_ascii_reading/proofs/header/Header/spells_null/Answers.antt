use Rattle.std.proofs.Common.{◌≡◌, ◌≢◌, ◌∙◌, ap, sym, ℕ, ℤ, List, Some, true, false, bytes_eq, w64, of_z, rules}
use Rattle.std.specs.Int.RustNames.{FitsSigned}
use Rattle.std.proofs.lemmas.Int.{to_z-of_z}
use Rattle.cell_core_values.proofs.NameLemmas.{bytes_eq-differ}
use Rattle.cell_core_values.specs.Capped.{capped_whole_number_of_text}
use Rattle.cell_ascii_meaning.specs.EdgeNumbers.{whole_number_of_text, is_in_category_range}
use Rattle.cell_ascii_reading.proofs.NumberLemmas.{capped_same}
use Rattle.cell_ascii_reading.proofs.header.Header.spells_null.Goals as goal

-- a word differs from a text that denotes another number
other_word : (word text : List ℕ) (number : ℤ) → whole_number_of_text word ≡ Some number → is_in_category_range number ≡ true → capped_whole_number_of_text text ≢ Some number → bytes_eq word text ≡ false
other_word word text number is near other = bytes_eq-differ word text (λ same. other (sym (ap capped_whole_number_of_text same) ∙ capped_same word number is near))

pub returns-then-is_in_category_range : goal.returns-then-is_in_category_range
returns-then-is_in_category_range c =
    let number_fits : FitsSigned w64 c.args.number = search rules in
    let near : is_in_category_range c.args.number ≡ true = sym (simp to_z-of_z at c.is_in_category_range.ensures) ∙ c.if-is_in_category_range.true in
    let some = c.in-Some.is in
    let kept = c.self.invariant in
    let other : capped_whole_number_of_text c.self.inside.null_text ≢ Some c.args.number = λ is. (let same : c.in-Some.null ≡ c.args.number = cc in c.if-null-number.true (ap (of_z w64) same)) in
    rw (← c.self.view_is) (sym (other_word c.args.word.now c.self.inside.null_text c.args.number c.requires near other))
