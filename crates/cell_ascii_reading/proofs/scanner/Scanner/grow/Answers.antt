use Rattle.std.proofs.lemmas.Option.{slice_get_within}
use Rattle.std.specs.Result.{IsErr}
use Rattle.cell_ascii_meaning.specs.declared.grid_fault.GridFault.{GridFault}
use Rattle.std.proofs.Common.{ℕ, Bool, List, Result, refl, ◌<◌, length-set, ◌≡◌, ◌≤◌, ◌+◌, ◌++◌, [], ◌∷◌, ◌∙◌, ap, sym, arith, true, false, Ok, Err, take, set, length, length-take, drop}
use Rattle.std.proofs.lemmas.List.{take_more_set}
use Rattle.std.proofs.lemmas.Result.{err_from_is_err_and}
use Rattle.cell_ascii_meaning.specs.GridTokens.{word_continued_in_bytes, grid_fault_at_line}
use Rattle.cell_ascii_reading.specs.Scan.{ScannerState, full_word_from_call_result}
use Rattle.cell_ascii_reading.specs.Ahead.{BytesAhead, bytes_to_come_for_content}
use Rattle.cell_ascii_meaning.specs.declared.grid_fault.GridKind.TheVariants.{Read, LongToken}
use Rattle.cell_ascii_meaning.proofs.TokenLemmas.{word-ends, word-fails, word-stops, word-long, word-more}
use Rattle.cell_ascii_reading.proofs.ComingLemmas.{at_byte, past_byte, at_end}
use Rattle.cell_ascii_reading.proofs.MapLemmas.{chain, unmoved}
use Rattle.cell_ascii_reading.proofs.scanner.Scanner.grow.Goals as goal

-- an error is not an `Ok`
err_no_ok : (P : Type 0) (r : Result Bool GridFault) (x : Bool) → IsErr r → r ≡ Ok x → P
err_no_ok P (Ok y) x err e = cc
err_no_ok P (Err d) x err e = cc

false_no_true : (P : Type 0) (r : Result Bool GridFault) → r ≡ Ok false → r ≡ Ok true → P
false_no_true P r one other = cc

-- storing one more byte extends the word by that byte
one_more : (word items : List ℕ) (len b : ℕ) → len < 64 → length items ≡ 64 → take len items ≡ word → length (take (len + 1) (set items len b)) ≡ length word + 1
one_more word items len b room size front =
    omega (arith, length-take (len + 1) (set items len b), length-set items len b, length-take len items, ap length front)

-- the read failed
pub returns-in_err-b-clause-word : goal.returns-in_err-b-clause-word
returns-in_err-b-clause-word g c =
    let s = c.args.self.now in
    let t = c.peek.new.self in
    let p = err_from_is_err_and c.from_residual.result c.from_residual.ensures.1 in
    rw (p.1, p.2, c.in_err-b.ensures.fault)
    (chain _ _ _ _ _ _
    (unmoved (word_continued_in_bytes s.line s.word) (bytes_to_come_for_content s.ahead)
    (bytes_to_come_for_content t.ahead) c.in_err-b.ensures.same)
    (at_end (word_continued_in_bytes s.line s.word) (full_word_from_call_result
    (Err (grid_fault_at_line Read s.line)) t.line t.word)
    (bytes_to_come_for_content t.ahead) true c.in_err-b.ensures.failed (word-fails s.line s.word c.requires)))

-- the text ended
pub returns-in_default-clause-word : goal.returns-in_default-clause-word
returns-in_default-clause-word g c =
    let s = c.args.self.now in
    let t = c.peek.new.self in
    let end = rw c.in_default.is at c.in_ok-b.ensures.end in
    rw c.in_ok-b.ensures.scan
    (chain _ _ _ _ _ _
    (unmoved (word_continued_in_bytes s.line s.word) (bytes_to_come_for_content s.ahead)
    (bytes_to_come_for_content t.ahead) c.in_ok-b.ensures.same)
    (at_end (word_continued_in_bytes s.line s.word) (full_word_from_call_result (Ok false) s.line s.word)
    (bytes_to_come_for_content t.ahead) false end
    (word-ends s.line s.word c.requires)))

-- a space ends the word
pub returns-then-is_space-clause-word : goal.returns-then-is_space-clause-word
returns-then-is_space-clause-word g c =
    let s = c.args.self.now in
    let buffered = rw c.in-Some.is at c.in_ok-b.ensures.byte in
    let space = sym c.is_space.ensures ∙ c.if-is_space.true in
    rw c.in_ok-b.ensures.scan
    (chain _ _ _ _ _ _ (unmoved (word_continued_in_bytes s.line s.word) (bytes_to_come_for_content s.ahead)
    (bytes_to_come_for_content c.peek.new.self.ahead) c.in_ok-b.ensures.same)
    (at_byte (word_continued_in_bytes s.line s.word) (full_word_from_call_result
    (Ok false) s.line s.word) c.peek.new.self.ahead c.in-Some.b buffered
    (λ bs f. word-stops s.line s.word c.requires c.in-Some.b bs f space)))

-- the word is too long
pub returns-then-self-ge64-clause-word : goal.returns-then-self-ge64-clause-word
returns-then-self-ge64-clause-word g c =
    let s = c.args.self.now in
    let t = c.peek.new.self in
    let i = c.self.inside in
    let line : i.line ≡ s.line = ap (λ (v : ScannerState). v.line) c.self.view_is ∙ ap (λ (v : ScannerState). v.line) c.in_ok-b.ensures.scan in
    let front : take i.len i.word ≡ s.word = ap (λ (v : ScannerState). v.word) c.self.view_is ∙ ap (λ (v : ScannerState). v.word) c.in_ok-b.ensures.scan in
    let full : 64 ≤ length s.word = omega (arith, length-take i.len i.word, ap length front) in
    let buffered = rw c.in-Some.is at c.in_ok-b.ensures.byte in
    let word = sym c.is_space.ensures ∙ c.if-is_space.false in
    rw line
    (chain _ _ _ _ _ _
    (unmoved (word_continued_in_bytes s.line s.word) (bytes_to_come_for_content s.ahead)
    (bytes_to_come_for_content t.ahead) c.in_ok-b.ensures.same)
    (at_byte (word_continued_in_bytes s.line s.word)
    (full_word_from_call_result (Err (grid_fault_at_line LongToken s.line)) t.line t.word) t.ahead c.in-Some.b buffered
    (λ bs f. word-long s.line s.word c.requires c.in-Some.b bs f word full)))

-- the word grows
pub returns-clause-word : goal.returns-clause-word
returns-clause-word g c =
    let s = c.args.self.now in
    let t = c.peek.new.self in
    let i = c.self.inside in
    let b = c.in-Some.b in
    let line : i.line ≡ s.line = ap (λ (v : ScannerState). v.line) c.self.view_is ∙ ap (λ (v : ScannerState). v.line) c.in_ok-b.ensures.scan in
    let front : take i.len i.word ≡ s.word = ap (λ (v : ScannerState). v.word) c.self.view_is ∙ ap (λ (v : ScannerState). v.word) c.in_ok-b.ensures.scan in
    let ahead : i.input ≡ t.ahead = ap (λ (v : ScannerState). v.ahead) c.self.view_is in
    let buffered = rw c.in-Some.is at c.in_ok-b.ensures.byte in
    let word = sym c.is_space.ensures ∙ c.if-is_space.false in
    let longer : take (i.len + 1) (set i.word i.len b) ≡ s.word ++ b ∷ [] = take_more_set i.word i.len b (omega arith) ∙ ap (λ w. w ++ b ∷ []) front in
    rw (line, longer)
    (chain _ _ _ _ _ _
    (unmoved (word_continued_in_bytes s.line s.word) (bytes_to_come_for_content s.ahead)
    (bytes_to_come_for_content t.ahead) c.in_ok-b.ensures.same)
    (past_byte (word_continued_in_bytes s.line s.word) (full_word_from_call_result (Ok true) s.line (s.word ++ b ∷ [])) t.ahead c.skip_byte.new.self b buffered
    (c.skip_byte.ensures.buffered ∙ ap (λ (a : BytesAhead). drop 1 a.buffered) ahead) (c.skip_byte.ensures.rest ∙ ap (λ (a : BytesAhead). a.rest) ahead)
    (λ bs f. word-more s.line s.word c.requires b bs f word)))

pub returns-in_err-b-clause-line : goal.returns-in_err-b-clause-line
returns-in_err-b-clause-line g c = ap (λ (v : ScannerState). v.line) c.peek.ensures.scan

pub returns-in_err-b-clause-run : goal.returns-in_err-b-clause-run
returns-in_err-b-clause-run g c = ap (λ (v : ScannerState). v.run) c.peek.ensures.scan

pub returns-in_err-b-clause-short : goal.returns-in_err-b-clause-short
returns-in_err-b-clause-short g c = rw (ap (λ (v : ScannerState). v.word) c.peek.ensures.scan) c.requires

pub returns-in_err-b-clause-further : goal.returns-in_err-b-clause-further
returns-in_err-b-clause-further g c = λ e. err_no_ok _ _ _ c.from_residual.ensures.0 e

pub returns-in_err-b-clause-kind : goal.returns-in_err-b-clause-kind
returns-in_err-b-clause-kind g c =
    let p = err_from_is_err_and c.from_residual.result c.from_residual.ensures.1 in
    rw (p.1, p.2, c.in_err-b.ensures.fault) tt

pub returns-in_default-clause-line : goal.returns-in_default-clause-line
returns-in_default-clause-line g c = ap (λ (v : ScannerState). v.line) c.peek.ensures.scan

pub returns-in_default-clause-run : goal.returns-in_default-clause-run
returns-in_default-clause-run g c = ap (λ (v : ScannerState). v.run) c.peek.ensures.scan

pub returns-in_default-clause-short : goal.returns-in_default-clause-short
returns-in_default-clause-short g c = rw (ap (λ (v : ScannerState). v.word) c.peek.ensures.scan) c.requires

pub returns-in_default-clause-further : goal.returns-in_default-clause-further
returns-in_default-clause-further g c = λ e. false_no_true _ (Ok _) refl e

pub returns-then-is_space-clause-line : goal.returns-then-is_space-clause-line
returns-then-is_space-clause-line g c = ap (λ (v : ScannerState). v.line) c.peek.ensures.scan

pub returns-then-is_space-clause-run : goal.returns-then-is_space-clause-run
returns-then-is_space-clause-run g c = ap (λ (v : ScannerState). v.run) c.peek.ensures.scan

pub returns-then-is_space-clause-short : goal.returns-then-is_space-clause-short
returns-then-is_space-clause-short g c = rw (ap (λ (v : ScannerState). v.word) c.peek.ensures.scan) c.requires

pub returns-then-is_space-clause-further : goal.returns-then-is_space-clause-further
returns-then-is_space-clause-further g c = λ e. false_no_true _ (Ok _) refl e

pub returns-then-self-ge64-clause-line : goal.returns-then-self-ge64-clause-line
returns-then-self-ge64-clause-line g c = ap (λ (v : ScannerState). v.line) c.peek.ensures.scan

pub returns-then-self-ge64-clause-run : goal.returns-then-self-ge64-clause-run
returns-then-self-ge64-clause-run g c = ap (λ (v : ScannerState). v.run) c.peek.ensures.scan

pub returns-then-self-ge64-clause-short : goal.returns-then-self-ge64-clause-short
returns-then-self-ge64-clause-short g c = rw (ap (λ (v : ScannerState). v.word) c.peek.ensures.scan) c.requires

pub returns-then-self-ge64-clause-further : goal.returns-then-self-ge64-clause-further
returns-then-self-ge64-clause-further g c = λ e. err_no_ok _ (Err _) _ refl e

pub returns-clause-line : goal.returns-clause-line
returns-clause-line g c = ap (λ (v : ScannerState). v.line) (c.self.view_is ∙ c.peek.ensures.scan)

pub returns-clause-run : goal.returns-clause-run
returns-clause-run g c = ap (λ (v : ScannerState). v.run) (c.self.view_is ∙ c.peek.ensures.scan)

pub invariant_of-self : goal.invariant_of-self
invariant_of-self g c = (c.self.invariant.0, omega (arith, c.if-self-ge64.false))

pub returns-clause-short : goal.returns-clause-short
returns-clause-short g c =
    rw (length-take (c.self.inside.len + 1) (set c.self.inside.word c.self.inside.len c.in-Some.b)) (omega (arith, c.if-self-ge64.false))

pub returns-clause-further : goal.returns-clause-further
returns-clause-further g c =
    let i = c.self.inside in
    let front : take i.len i.word ≡ c.args.self.now.word =
    ap (λ (v : ScannerState). v.word) (c.self.view_is ∙ c.peek.ensures.scan) in
    λ e. one_more c.args.self.now.word i.word i.len c.in-Some.b c.if-self-ge64.false c.self.told front

pub skip_byte-requires : goal.skip_byte-requires
skip_byte-requires g c =
    let buffered = rw c.in-Some.is at c.in_ok-b.ensures.byte in
    rw (ap (λ (v : ScannerState). v.ahead.buffered) c.self.view_is) (slice_get_within c.peek.new.self.ahead.buffered 0 c.in-Some.b buffered)

pub bounds-self-inside-self-inside : goal.bounds-self-inside-self-inside
bounds-self-inside-self-inside g c = c.if-self-ge64.false
