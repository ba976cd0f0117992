use Rattle.std.proofs.Common.{◌≡◌, ◌-◌, ◌+◌, ◌<◌, ◌∙◌, ℕ, zero, suc, Bool, true, false, Some, None, Result, Ok, Err, refl, length, ap, sym, subst, arith}
use Rattle.cell_core_devices.specs.Supposed.{HoldsForAgreeingContents}
use Rattle.cell_core_devices.specs.Asking.{SourceKnowledge, source_knowledge_after_calls}
use Rattle.cell_core_devices.specs.Device.{ComingBytes}
use Rattle.cell_ascii_reading.specs.Ahead.{bytes_to_come_for_content}
use Rattle.cell_ascii.specs.Reader.{position_of_cell_reader}
use Rattle.cell_ascii_meaning.specs.RowPlaces.{first_fault_of_next_cells}
use Rattle.cell_ascii_meaning.specs.Kinds.{IsFaultOfText, is_failed_read}
use Rattle.cell_ascii.specs.GridReaders.{GridReaderValue, position_of_grid_reader}
use Rattle.cell_ascii.proofs.RowReadLemmas.{row_reported, cut_reported, row_placed, rows_fit}
use Rattle.cell_ascii.proofs.grid_reader.GridReader.next_row.Goals as goal

both : {b : Bool} → b ≡ true → b ≡ false → ⊥
both is not = cc

refused : {X E : Type 0} (f : E) (x : X) → ◌≡◌ {A = Result X E} (Err f) (Ok x) → ⊥
refused f x e = cc

not_true : (E : Type 0) → ◌≡◌ {A = Result Bool E} (Ok false) (Ok true) → ⊥
not_true E e = cc

not_false : (E : Type 0) → ◌≡◌ {A = Result Bool E} (Ok true) (Ok false) → ⊥
not_false E e = cc

none_some : {n : ℕ} → n ≡ 0 → 0 < n → ⊥
none_some none some = omega arith

back : (n : ℕ) → (n ≡ 0 → ⊥) → n - 1 + 1 ≡ n
back zero some = absurd (some refl)
back (suc n) some = omega arith

pub invariant_of-self : goal.invariant_of-self
invariant_of-self g c =
    let i = c.self.inside in
    let p = i.cells in
    let u = c.read_row.new.cells in
    let cols = p.header.region.cols in
    let width : length c.args.row.now ≡ cols = c.requires.width ∙ sym (ap (λ (r : GridReaderValue). r.header.region.cols) c.self.view_is) in
    let some : 0 < length c.args.row.now = rw width c.self.invariant.wide in
    let one : i.rows_left - 1 + 1 ≡ i.rows_left = omega arith in
    record {
      wide = rw c.read_row.ensures.header c.self.invariant.wide;
      lines = λ live. rw c.read_row.ensures.header (rows_fit p.line u.line i.rows_left (i.rows_left - 1) 1 cols cols one (omega arith) (rw width at c.read_row.ensures.lines) (c.self.invariant.lines live));
      placed = λ live. row_placed p.header (position_of_cell_reader p) (λ (x : ComingBytes). i.rows_left ≡ 0 → p.pending ≡ None) (bytes_to_come_for_content p.ahead) (c.self.invariant.placed live)
          (length c.args.row.now) (i.rows_left - 1) (position_of_cell_reader u) (bytes_to_come_for_content u.ahead) c.read_row.new.row some c.in-Ok.ensures.row;
      heard = λ _. ap (λ (h : SourceKnowledge). h.failed) c.in-Ok.ensures.heard;
    }

pub returns-then-self : goal.returns-then-self
returns-then-self g c =
    let failed = sym (ap (λ (r : GridReaderValue). r.failed) c.self.view_is) ∙ c.if-self.true in
    record {
      failed = λ _. (refl, refl, refl);
      none = λ live. absurd (both failed live);
      reported = λ live. absurd (both failed live);
      row = λ e. absurd (refused _ _ e);
      cut = λ live. absurd (both failed live);
      kept = λ live. absurd (both failed live);
      left = λ e. absurd (refused _ _ e);
      stays = λ _. refl;
      last = λ e. absurd (refused _ _ e);
      header = refl;
      fails = rw failed refl;
      memory = λ e. cc;
      kinds = λ live. both failed live;
      heard = λ live. absurd (both failed live);
    }

pub returns-then-self-eq0 : goal.returns-then-self-eq0
returns-then-self-eq0 g c =
    let live = sym (ap (λ (r : GridReaderValue). r.failed) c.self.view_is) ∙ c.if-self.false in
    let none = sym (ap (λ (r : GridReaderValue). r.rows_left) c.self.view_is) ∙ c.if-self-eq0.true in
    record {
      failed = λ failed. absurd (both failed live);
      none = λ _ _. (refl, refl, refl);
      reported = λ _ some. absurd (none_some none some);
      row = λ e. absurd (not_true _ e);
      cut = tt;
      kept = tt;
      left = λ e. absurd (not_true _ e);
      stays = λ _. refl;
      last = λ _. none;
      header = refl;
      fails = rw live refl;
      memory = tt;
      kinds = λ _. tt;
      heard = λ _. ap (λ (failed : Bool). record { sure = c.args.self.now.ahead.heard.sure; failed = failed })
          (sym (ap (λ (r : GridReaderValue). r.ahead.heard.failed) c.self.view_is) ∙ c.self.invariant.heard c.if-self.false);
    }

pub returns-in-Ok : goal.returns-in-Ok
returns-in-Ok g c =
    let i = c.self.inside in
    let p = i.cells in
    let live = sym (ap (λ (r : GridReaderValue). r.failed) c.self.view_is) ∙ c.if-self.false in
    let was = ap (λ (r : GridReaderValue). r.rows_left) c.self.view_is in
    record {
      failed = λ failed. absurd (both failed live);
      none = λ _ none. absurd (c.if-self-eq0.false (was ∙ none));
      reported = subst (λ (r : GridReaderValue). r.failed ≡ false → 0 < r.rows_left → HoldsForAgreeingContents (bytes_to_come_for_content r.ahead) (bytes_to_come_for_content c.read_row.new.cells.ahead) (λ x. None ≡ first_fault_of_next_cells r.header (length c.args.row.now) (position_of_grid_reader r x))) c.self.view_is
          (λ live some. row_reported p.header (position_of_cell_reader p) (λ (x : ComingBytes). i.rows_left ≡ 0 → p.pending ≡ None) (bytes_to_come_for_content p.ahead) (c.self.invariant.placed live)
          (length c.args.row.now) (position_of_cell_reader c.read_row.new.cells) (bytes_to_come_for_content c.read_row.new.cells.ahead) c.read_row.new.row c.in-Ok.ensures.row);
      row = rw (← c.self.view_is) (λ _. c.in-Ok.ensures.row);
      cut = tt;
      kept = tt;
      left = λ _. back i.rows_left c.if-self-eq0.false ∙ was;
      stays = λ apart. absurd (apart refl);
      last = λ e. absurd (not_false _ e);
      header = c.read_row.ensures.header ∙ ap (λ (r : GridReaderValue). r.header) c.self.view_is;
      fails = rw live c.if-self.false;
      memory = tt;
      kinds = λ _. tt;
      heard = λ _. c.in-Ok.ensures.heard ∙ ap (λ (r : GridReaderValue). source_knowledge_after_calls false
          r.ahead.heard) c.self.view_is;
    }

pub returns-in-Err : goal.returns-in-Err
returns-in-Err g c =
    let i = c.self.inside in
    let p = i.cells in
    let live = sym (ap (λ (r : GridReaderValue). r.failed) c.self.view_is) ∙ c.if-self.false in
    let was = ap (λ (r : GridReaderValue). r.rows_left) c.self.view_is in
    record {
      failed = λ failed. absurd (both failed live);
      none = λ _ none. absurd (c.if-self-eq0.false (was ∙ none));
      reported = subst (λ (r : GridReaderValue). r.failed ≡ false → 0 < r.rows_left → HoldsForAgreeingContents (bytes_to_come_for_content r.ahead) (bytes_to_come_for_content c.read_row.new.cells.ahead) (λ x. Some c.in-Err.fault ≡ first_fault_of_next_cells r.header (length c.args.row.now) (position_of_grid_reader r x))) c.self.view_is
          (λ live some. cut_reported p.header (position_of_cell_reader p) (λ (x : ComingBytes). i.rows_left ≡ 0 → p.pending ≡ None) (bytes_to_come_for_content p.ahead) (c.self.invariant.placed live)
          (bytes_to_come_for_content c.read_row.new.cells.ahead) c.in-Err.fault c.args.row.now c.read_row.new.row c.in-Err.ensures.cut);
      row = λ e. absurd (refused _ _ e);
      cut = rw (← c.self.view_is) (λ _. c.in-Err.ensures.cut);
      kept = λ _. c.in-Err.ensures.kept;
      left = λ e. absurd (refused _ _ e);
      stays = λ _. was;
      last = λ e. absurd (refused _ _ e);
      header = c.read_row.ensures.header ∙ ap (λ (r : GridReaderValue). r.header) c.self.view_is;
      fails = rw live refl;
      memory = λ e. subst IsFaultOfText e c.in-Err.ensures.kind;
      kinds = λ _. c.in-Err.ensures.kind;
      heard = λ _. c.in-Err.ensures.heard ∙ ap (λ (r : GridReaderValue). source_knowledge_after_calls (is_failed_read c.in-Err.fault.kind) r.ahead.heard) c.self.view_is;
    }
