-- The reading of a full text, compared with the words of its lines.
use Rattle.std.proofs.Common.{◌≡◌, ℕ, zero, suc, ◌+◌, ◌<◌, ◌≤◌, List, [], ◌∷◌, ◌++◌, Option, Some, None, Bool, true, false, refl, ap, sym, ◌∙◌, arith, Result, Ok, Err, if◌then◌else◌}
use Rattle.std.specs.Option.{option_and_then}
use Rattle.std.specs.List.{filter, before_first, after_first}
use Rattle.cell_core_devices.specs.Device.{ComingBytes}
use Rattle.cell_core.specs.Grid.{Grid}
use Rattle.cell_ascii_meaning.specs.GridTokens.{Begins, is_space, next_word_start, word_continued_in_bytes}
use Rattle.cell_ascii_meaning.specs.KeyNames.{header_key_with_name}
use Rattle.cell_ascii_meaning.specs.Header.{GridHeaderContents, HeaderAndDataStart, HeaderKeyValues, empty_header_key_values, key_values_with_header_key, header_defined_by_keys, is_colon, has_colon, BlankRunEnd, Word, Feed, Last, Fault, end_of_continued_blank_run, header_value_after_colon, HeaderLineEnd, header_line_end_or_fault, result_with_line_in_fault, header_line_after_first_word, empty_coming_bytes, header_and_data_start, rest_of_header_after_line, rest_of_header_from_word, rest_of_header_from_line, ◌>>=◌}
use Rattle.cell_ascii_meaning.specs.CellTexts.{map_denoted_by_text}
use Rattle.cell_ascii_meaning.specs.GridText.{is_nonempty_word, key_text_of_header_line, values_of_header_line}
use Rattle.cell_ascii_meaning.specs.declared.header_key.HeaderKey.{HeaderKey}
use Rattle.cell_ascii_meaning.specs.declared.grid_fault.GridKind.{GridKind}
use Rattle.cell_ascii_meaning.specs.declared.grid_fault.GridKind.TheVariants.{BadHeader}
use Rattle.cell_ascii_meaning.specs.declared.grid_fault.GridFault.{GridFault}
use Rattle.cell_ascii_meaning.proofs.TokenLemmas.{coming}
use Rattle.cell_ascii_law.proofs.LexemeLemmas.{Lines, first_line, rest_lines, lex, before_word, next_word, before_gap}
use Rattle.cell_ascii_law.proofs.DataLawLemmas.{accepted, all_words, words_by_first, then_agree, then_none, no_word, take_grid, read_grid, grid_first, grid_none}
use Rattle.cell_ascii_law.proofs.KeyLawLemmas.{open_keys, key_known, header_given, sides}

-- The map that the words of each line denote.
abbrev pub at_header : Result GridHeaderContents GridKind → List (List ℕ) → Option Grid
at_header (Ok h) words = take_grid h words
at_header (Err kind) words = None

abbrev pub take_data : HeaderKeyValues → List (List ℕ) → Option Grid
take_data keys words = at_header (header_defined_by_keys keys) words

-- the keys and the key of a header line, whose value must be a single word
abbrev pub with_values : HeaderKeyValues → Option HeaderKey → List (List ℕ) → Result HeaderKeyValues GridKind
with_values keys key [] = Err BadHeader
with_values keys key (value ∷ []) = key_values_with_header_key keys key value
with_values keys key (value ∷ other ∷ more) = Err BadHeader

abbrev pub with_line : HeaderKeyValues → List (List ℕ) → Result HeaderKeyValues GridKind
with_line keys line = with_values keys (header_key_with_name (key_text_of_header_line line))
    (values_of_header_line line)

abbrev pub after_key : {Y : Type 0} → Result HeaderKeyValues GridKind → (HeaderKeyValues → Option Y) → Option Y
after_key (Ok keys) rest = rest keys
after_key (Err kind) rest = None

-- the keys of the header lines, followed by what `take` reads from the words of the data
abbrev pub take_by : {Y : Type 0} → (HeaderKeyValues → List (List ℕ) → Option Y) → HeaderKeyValues → Lines → Option Y
take_by take keys [] = take keys []
take_by take keys ([] ∷ ls) = take_by take keys ls
take_by take keys ((w ∷ ws) ∷ ls) =
    if has_colon w then after_key (with_line keys (w ∷ ws)) (λ k. take_by take k ls) else take keys
    (w ∷ (ws ++ all_words ls))

abbrev pub take_text : HeaderKeyValues → Lines → Option Grid
take_text = take_by take_data

-- the map that is read from the data of an opened text
abbrev pub read_opened : HeaderAndDataStart → Result Grid GridFault
read_opened o = read_grid o.header o.at

-- The data, from its first word on, or none.
module _ (keys : HeaderKeyValues) (line : ℕ) where
  opened_by : Option (List ℕ) → ComingBytes → Result GridHeaderContents GridKind → Option Grid
  opened_by pending c r = accepted ((result_with_line_in_fault line r >>= (λ h. Ok (record { header = h; at = record { pending = pending; line = line; run = 0; coming = c } }))) >>= read_opened)

  opened_first : (w : List ℕ) (bs : List ℕ) (f : Bool) → accepted (header_and_data_start keys line (Some w) (coming bs f) >>= read_opened) ≡ option_and_then (λ ls. take_data keys (w ∷ all_words ls)) (lex 0 [] bs f)
  unfolding opened_by
  opened_first w bs f = by (header_defined_by_keys keys) refl
    where
      by : (r : Result GridHeaderContents GridKind) → header_defined_by_keys keys ≡ r → opened_by (Some w) (coming bs f) r ≡ option_and_then (λ ls. at_header r (w ∷ all_words ls)) (lex 0 [] bs f)
      by (Ok h) e = let good = sides h.region (header_given keys h e).good in grid_first h good.0 good.1 w line bs f
      by (Err kind) e = sym (then_none (lex 0 [] bs f))

  opened_none : accepted (header_and_data_start keys line None empty_coming_bytes >>= read_opened) ≡ take_data keys []
  unfolding opened_by
  opened_none = by (header_defined_by_keys keys) refl
    where
      by : (r : Result GridHeaderContents GridKind) → header_defined_by_keys keys ≡ r
          → opened_by None empty_coming_bytes r ≡ at_header r []
      by (Ok h) e = let good = sides h.region (header_given keys h e).good in grid_none h good.0 good.1 line
      by (Err kind) e = refl

-- the value after a colon at the end of a word, given how the blanks end
abbrev pub value_at : ℕ → BlankRunEnd → Result (List ℕ × ComingBytes) GridFault
value_at line (Word d) = word_continued_in_bytes line [] d
value_at line (Feed run d) = Err (record { kind = BadHeader; line = line })
value_at line Last = Err (record { kind = BadHeader; line = line })
value_at line (Fault f) = Err f

pub value_is : (line : ℕ) (c : ComingBytes) → header_value_after_colon line [] c
    ≡ value_at line (end_of_continued_blank_run line 0 c)
value_is line c = by (end_of_continued_blank_run line 0 c) refl
  where
    by : (g : BlankRunEnd) → end_of_continued_blank_run line 0 c ≡ g
        → header_value_after_colon line [] c ≡ value_at line g
    by (Word d) e = rw e
    by (Feed run d) e = rw e
    by Last e = rw e
    by (Fault f) e = rw e

-- A header line after its first word; `rest` reads the lines after it.
module _ (rest : HeaderKeyValues → ℕ → ℕ → ComingBytes → Result HeaderAndDataStart GridFault) (line : ℕ)
    (keys : HeaderKeyValues)
    (key : Option HeaderKey)
    (follows : (more : HeaderKeyValues) → open_keys more < open_keys keys → (l run : ℕ) (bs : List ℕ) (f : Bool) → run ≤ 1048576 → accepted (rest more l run (coming bs f) >>= read_opened) ≡ option_and_then (take_text more) (lex run [] bs f)) where
  -- the map that is accepted from the end of the value on
  abbrev closed : HeaderLineEnd → Result HeaderKeyValues GridKind → Option Grid
  closed end r = accepted (((result_with_line_in_fault line r >>=
      (λ more. Ok (more, end))) >>= rest_of_header_after_line rest line) >>= read_opened)

  abbrev from_end : List ℕ → Result HeaderLineEnd GridFault → Option Grid
  from_end value r = accepted (((r >>= (λ end. result_with_line_in_fault line (key_values_with_header_key keys key value) >>= (λ more. Ok (more, end)))) >>= rest_of_header_after_line rest line) >>= read_opened)

  fewer : (value : List ℕ) (more : HeaderKeyValues) → key_values_with_header_key keys key value ≡ Ok more
      → open_keys more < open_keys keys
  fewer value more e = let g = (key_known keys key value more e).2.fewer in omega arith

  closed_none : (r : Result HeaderKeyValues GridKind) → closed None r ≡ after_key r (λ k. take_text k [])
  closed_none (Ok more) = opened_none more line
  closed_none (Err kind) = refl

  closed_some : (value : List ℕ) (r : Result HeaderKeyValues GridKind) → key_values_with_header_key keys key value ≡ r → (run : ℕ) (bs : List ℕ) (f : Bool) → run ≤ 1048576
      → closed (Some (run, coming bs f)) r ≡ option_and_then (λ ls. after_key r (λ k. take_text k ls)) (lex run [] bs f)
  closed_some value (Ok more) e run bs f low = follows more (fewer value more e) (line + 1) run bs f low
  closed_some value (Err kind) e run bs f low = sym (then_none (lex run [] bs f))

  abbrev taken : List (List ℕ) → Lines → Option Grid
  taken vs ls = after_key (with_values keys key vs) (λ k. take_text k (rest_lines ls))

  value_end : (value : List ℕ) (bs : List ℕ) (f : Bool) → from_end value (header_line_end_or_fault line (end_of_continued_blank_run line 0 (coming bs f))) ≡ option_and_then (λ ls. taken (value ∷ filter is_nonempty_word (first_line ls)) ls) (lex 0 [] bs f)
  value_end value bs f = before_gap goes line (λ gap. from_end value (header_line_end_or_fault line gap)) (λ e. refl) (closed_none (key_values_with_header_key keys key value)) (λ b cs g word. no_word goes (λ x xs ls. refl) b cs g word)
      (λ run cs g low. closed_some value (key_values_with_header_key keys key value) refl run cs g low) bs f 0
      (omega arith)
    where
      goes : Lines → Option Grid
      goes ls = taken (value ∷ filter is_nonempty_word (first_line ls)) ls

  abbrev from_value : Result (List ℕ × ComingBytes) GridFault → Option Grid
  from_value r = accepted (((r >>= (λ value. header_line_end_or_fault line (end_of_continued_blank_run line 0 value.1) >>= (λ end. result_with_line_in_fault line (key_values_with_header_key keys key value.0) >>= (λ more. Ok (more, end))))) >>= rest_of_header_after_line rest line) >>= read_opened)

  line_is : (a : List ℕ) (bs : List ℕ) (f : Bool) → from_value (header_value_after_colon line a (coming bs f)) ≡ option_and_then (λ ls. taken (filter is_nonempty_word (a ∷ first_line ls)) ls) (lex 0 [] bs f)
  line_is (x ∷ xs) bs f = value_end (x ∷ xs) bs f
  line_is [] bs f = ap from_value (value_is line (coming bs f))
      ∙ before_gap goes line (λ gap. from_value (value_at line gap)) (λ e. refl) refl
      (λ b cs g word. next_word goes line from_value (λ e. refl) (λ x xs ds h. value_end (x ∷ xs) ds h) b cs g word)
      (λ run cs g low. sym (then_none (lex run [] cs g))) bs f 0 (omega arith)
    where
      goes : Lines → Option Grid
      goes ls = taken (filter is_nonempty_word ([] ∷ first_line ls)) ls

-- the map that is accepted from the first word of a line on
abbrev from_word : (HeaderKeyValues → ℕ → ℕ → ComingBytes → Result HeaderAndDataStart GridFault) → HeaderKeyValues → ℕ → Result (List ℕ × ComingBytes) GridFault → Option Grid
from_word rest keys line r = accepted ((r >>= (λ w. if has_colon w.0 then header_line_after_first_word line keys w.0 w.1 >>= rest_of_header_after_line rest line else header_and_data_start keys line (Some w.0) w.1)) >>= read_opened)

-- reading a text from a line on accepts the map that its lines denote
pub header_is : (fuel : ℕ) (keys : HeaderKeyValues) → open_keys keys < fuel → (line run : ℕ) (bs : List ℕ) (f : Bool) → run ≤ 1048576
    → accepted (rest_of_header_from_line fuel keys line run (coming bs f) >>= read_opened) ≡ option_and_then (take_text keys) (lex run [] bs f)
unfolding rest_of_header_from_line
header_is zero keys few line run bs f low = absurd (omega arith)
header_is (suc fuel) keys few line run bs f low = by (λ more less l r cs g lo. header_is fuel more (omega arith) l r cs g lo)
  where
    rest : HeaderKeyValues → ℕ → ℕ → ComingBytes → Result HeaderAndDataStart GridFault
    rest k l r d = rest_of_header_from_line fuel k l r d

    by : ((more : HeaderKeyValues) → open_keys more < open_keys keys → (l r : ℕ) (cs : List ℕ) (g : Bool) → r ≤ 1048576 → accepted (rest more l r (coming cs g) >>= read_opened) ≡ option_and_then (take_text more) (lex r [] cs g))
        → accepted (rest_of_header_from_word rest keys (next_word_start line run (coming bs f)) >>= read_opened) ≡ option_and_then (take_text keys) (lex run [] bs f)
    by follows = before_word (take_text keys) (λ ls. refl) (λ s. accepted (rest_of_header_from_word rest keys s >>= read_opened)) (λ e. refl) (λ l. opened_none keys l) begins bs f line run low
      where
        first : (l x : ℕ) (xs ds : List ℕ) (h t : Bool) → accepted ((if t then header_line_after_first_word l keys (x ∷ xs) (coming ds h) >>= rest_of_header_after_line rest l else header_and_data_start keys l (Some (x ∷ xs)) (coming ds h)) >>= read_opened)
            ≡ option_and_then (λ ls. if t then after_key (with_line keys ((x ∷ xs) ∷ first_line ls)) (λ k. take_text k (rest_lines ls)) else take_data keys ((x ∷ xs) ∷ (first_line ls ++ all_words (rest_lines ls)))) (lex 0 [] ds h)
        first l x xs ds h true = line_is rest l keys (header_key_with_name (before_first is_colon (x ∷ xs))) follows (after_first is_colon (x ∷ xs)) ds h
        first l x xs ds h false = opened_first keys l (x ∷ xs) ds h ∙ then_agree (λ ls. take_data keys ((x ∷ xs) ∷ all_words ls)) (λ ls. take_data keys ((x ∷ xs) ∷ (first_line ls ++ all_words (rest_lines ls))))
            (λ ls. ap (λ (ws : List (List ℕ)). take_data keys ((x ∷ xs) ∷ ws)) (sym (words_by_first ls))) (lex 0 [] ds h)

        begins : (l b : ℕ) (cs : List ℕ) (g : Bool) → is_space b ≡ false → accepted (rest_of_header_from_word rest keys (Begins l (coming (b ∷ cs) g)) >>= read_opened) ≡ option_and_then (take_text keys) (lex 0 [] (b ∷ cs) g)
        begins l b cs g word = next_word (take_text keys) l (from_word rest keys l) (λ e. refl) (λ x xs ds h. first l x xs ds h (has_colon (x ∷ xs))) b cs g word

-- a text denotes the map that the words of its lines denote
pub text_is : (bs : List ℕ) (f : Bool) → accepted (map_denoted_by_text (coming bs f)) ≡ option_and_then (take_text empty_header_key_values) (lex 0 [] bs f)
unfolding map_denoted_by_text
text_is bs f = header_is 10 empty_header_key_values (omega arith) 1 0 bs f (omega arith)
