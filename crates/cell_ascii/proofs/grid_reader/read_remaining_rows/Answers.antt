use Rattle.std.proofs.lemmas.Result.{err_from_is_err_and}
use Rattle.std.proofs.Common.{◌≡◌, ◌≢◌, ◌<◌, ◌≤◌, ◌+◌, ◌-◌, ◌*◌, ◌∙◌, zero, suc, ℕ, arith, Bool, false, Ok, Err, Result}
use Rattle.std.proofs.Common.{List, refl, ap, sym, subst, length, length-append, length-drop, length-take, take}
use Rattle.std.proofs.Common.{drop, ◌++◌, []}
use Rattle.std.proofs.Math.Nat.{mul-le-mul_right}
use Rattle.cell_core_devices.specs.Asking.{source_knowledge_after_calls}
use Rattle.cell_core_devices.specs.Device.{ComingBytes}
use Rattle.cell_core.specs.Grid.{CellValue}
use Rattle.cell_ascii_meaning.specs.CellTexts.{ReadValueAndPositionOrFault, next_cell_after_position}
use Rattle.cell_ascii_meaning.specs.CellTexts.{items_read_one_after_another}
use Rattle.cell_ascii_meaning.specs.Kinds.{IsFaultOfText}
use Rattle.cell_ascii_meaning.specs.declared.grid_fault.GridKind.{GridKind}
use Rattle.cell_ascii_meaning.specs.declared.grid_fault.GridKind.TheVariants.{Memory, Failed}
use Rattle.cell_ascii.specs.Reader.{rows_read_from_position}
use Rattle.cell_ascii.specs.GridReaders.{position_of_grid_reader, IsGridReadingFault}
use Rattle.cell_ascii_meaning.specs.GridTokens.{grid_fault_at_line}
use Rattle.cell_ascii_reading.specs.Ahead.{bytes_to_come_for_content}
use Rattle.cell_ascii_reading.proofs.MapLemmas.{chain, map_same}
use Rattle.cell_ascii_reading.proofs.LeadLemmas.{Contents, implied, always_holds, known_before}
use Rattle.cell_ascii.proofs.CellLemmas.{with_front, more_read, none_read, all_read}
use Rattle.cell_ascii.proofs.DataLemmas.{rows_fail}
use Rattle.cell_ascii.proofs.ManyLemmas.{rows_read}
use Rattle.cell_ascii.proofs.RowsLemmas.{rows_count}
use Rattle.cell_ascii.specs.parts.FrontCells.{first_cells_of_bytes_or_row, cells_cut_into_rows}
use Rattle.cell_ascii.proofs.grid_reader.read_remaining_rows.Goals as goal

some_left : (n : ℕ) → (n ≡ 0 → ⊥) → 0 < n
some_left zero none = absurd (none refl)
some_left (suc n) none = omega arith

fewer_left : {next some left : ℕ} → next + some ≡ left → 0 < some → next < left
fewer_left all some = omega arith

within : (n : ℕ) {some left rows : ℕ} → some ≤ left → n + left ≡ rows → n + some ≤ rows
within n few count = omega arith

-- the first `some` of the buffered rows have `some * cols` cells
width_of : (cells : List CellValue) (some band cols : ℕ) → some ≤ band → length cells ≡ band * cols → length
    (take (some * cols) cells) ≡ some * cols
width_of cells some band cols few size = let most : some * cols ≤ band * cols = mul-le-mul_right cols few in omega
    (arith, length-take (some * cols) cells)

some_more : (n next some : ℕ) {left rows : ℕ} → next + some ≡ left → n + left ≡ rows → n + some + next ≡ rows
some_more n next some all count = omega arith

no_more : {n left rows : ℕ} → n + left ≡ rows → left ≡ 0 → n ≡ rows
no_more count none = omega arith

no_rows : (rows : List (List CellValue)) (left n : ℕ) → rows ≡ [] → left ≡ n → length rows + left ≡ n
no_rows rows left n none all = rw none (omega arith)

longer : (rows : List (List CellValue)) (cols some : ℕ) (cells : List CellValue) → length
    (rows ++ cells_cut_into_rows cols some cells) ≡ length rows + some
longer rows cols some cells = omega (
  arith,
  length-append rows
      (cells_cut_into_rows cols some cells),
  rows_count cols some cells,
)

as_long : (part cells : List CellValue) (n : ℕ) → length part ≡ length (take n cells) → length
    (part ++ drop n cells) ≡ length cells
as_long part cells n size = omega
    (arith, length-append part (drop n cells), size, length-take n cells, length-drop n cells)

refused : {X E : Type 0} (f : E) (x : X) → ◌≡◌ {A = Result X E} (Err f) (Ok x) → ⊥
refused f x e = cc

no_memory : IsGridReadingFault (grid_fault_at_line Memory 0)
no_memory = record { memory = λ _. refl; kinds = λ e. cc }

of_text : {kind : GridKind} → IsFaultOfText kind → kind ≢ Failed
of_text is e = subst IsFaultOfText e is

some_same : {n m : ℕ} → 0 < n → n ≡ m → 0 < m
some_same some same = omega arith

pub rows-init : goal.rows-init
rows-init g c =
    let s = c.args.reader.now in
    let h = s.header in
    let rows = c.new-builder.result.rows in
    let none : rows ≡ [] = ap (λ b. b.rows) c.new-builder.ensures in
    let cols = c.cols-cols.ensures.value ∙ ap (λ r. r.cols) c.region-region.ensures in
    let size = ap (λ n. c.rows_read_per_call-band.result * n) cols in
    record {
      rows = none_read (items_read_one_after_another (next_cell_after_position h) h.region.cols) h.region.rows (position_of_grid_reader s) (bytes_to_come_for_content s.ahead) rows none;
      header = refl;
      region = ap (λ b. b.region) c.new-builder.ensures ∙ c.region-region.ensures;
      count = no_rows rows s.rows_left h.region.rows none c.requires.0;
      cells = c.as_mut_slice-cells.ensures.len ∙ c.in-Ok.ensures.len ∙ size;
      bytes = c.as_mut_slice-bytes.ensures.len ∙ c.in-Ok-vec.ensures.len ∙ ap (λ n. n + 72) size;
      live = c.requires.1.0;
      heard = ap (λ (failed : Bool). record { sure = s.ahead.heard.sure; failed = failed }) c.requires.1.1;
    }

pub returns-in_err-is_bytes-clause-fault : goal.returns-in_err-is_bytes-clause-fault
returns-in_err-is_bytes-clause-fault g c =
    let s = c.args.reader.now in
    let t = c.rows.reader in
    let h = s.header in
    let f = c.in_err-is_bytes.field-0.0 in
    let front = c.rows.builder.rows in
    let is = c.rows.invariant in
    let band = c.rows_read_per_call-band.result in
    let some = c.min-count.result in
    let few : some ≤ t.rows_left = omega (arith, c.min-count.ensures, c.rows_left-in-rows.ensures) in
    let fit : some ≤ band = omega (arith, c.min-count.ensures) in
    let same : c.cols-cols.result ≡ h.region.cols = c.cols-cols.ensures.value ∙ ap
    (λ r. r.cols) c.region-region.ensures in
    let width : length (take (some * c.cols-cols.result) c.rows.cells) ≡ some * h.region.cols = ap
    (λ n. length (take (some * n) c.rows.cells)) same
    ∙ width_of c.rows.cells some band h.region.cols fit is.cells in
    let p = err_from_is_err_and c.from_residual.result c.from_residual.ensures.1 in
    let here : Contents = bytes_to_come_for_content s.ahead in
    let there : Contents = bytes_to_come_for_content c.next_rows_as_bytes_or_cells.new.reader.ahead in
    rw (p.1, p.2)
    (implied (λ x. rows_read_from_position h (position_of_grid_reader s x) ≡ Err f) (λ x. f.kind ≢ Memory → rows_read_from_position h (position_of_grid_reader s x) ≡ Err f) here there (λ x e other. e)
    (rows_fail h (λ (x : ComingBytes). rows_read_from_position h (position_of_grid_reader s x)) here
    (bytes_to_come_for_content t.ahead) there front h.region.rows
    (length front) some (position_of_grid_reader t) f (within (length front) few is.count) is.rows
    (rw (width, is.header) at c.in_err-is_bytes.ensures.fault)))

pub returns-in-Err-clause-fault : goal.returns-in-Err-clause-fault
returns-in-Err-clause-fault g c =
    let s = c.args.reader.now in
    let t = c.rows.reader in
    let u = c.next_rows_as_bytes_or_cells.new.reader in
    let h = s.header in
    let row = c.next_rows_as_bytes_or_cells.new.row in
    let bytes = c.next_rows_as_bytes_or_cells.new.bytes in
    let front = c.rows.builder.rows in
    let n = length (take (c.min-count.result * c.cols-cols.result) c.rows.cells) in
    always_holds (λ x. Memory ≢ Memory → rows_read_from_position h (position_of_grid_reader s x) ≡ Err (grid_fault_at_line Memory 0)) (bytes_to_come_for_content s.ahead) (bytes_to_come_for_content u.ahead)
    (λ x other. absurd (other refl))
    (λ x some. known_before (λ d. rows_read_from_position h (position_of_grid_reader s d))
    (λ d. with_front front (items_read_one_after_another (items_read_one_after_another
    (next_cell_after_position h) h.region.cols)
    (h.region.rows - length front) (position_of_grid_reader t d)))
    (bytes_to_come_for_content s.ahead) (bytes_to_come_for_content t.ahead) c.rows.invariant.rows x
    (known_before (λ d. items_read_one_after_another (next_cell_after_position t.header) n (position_of_grid_reader t d)) (λ d. Ok (first_cells_of_bytes_or_row (n, c.in_ok-is_bytes.is_bytes) bytes row, position_of_grid_reader u d))
    (bytes_to_come_for_content t.ahead) (bytes_to_come_for_content u.ahead) c.in_ok-is_bytes.ensures.row x some))

pub rows-preserved : goal.rows-preserved
rows-preserved g c =
    let s = c.args.reader.now in
    let t = c.rows.reader in
    let u = c.next_rows_as_bytes_or_cells.new.reader in
    let h = s.header in
    let cols = h.region.cols in
    let row = c.next_rows_as_bytes_or_cells.new.row in
    let bytes = c.next_rows_as_bytes_or_cells.new.bytes in
    let is_bytes = c.in_ok-is_bytes.is_bytes in
    let is = c.rows.invariant in
    let front = c.rows.builder.rows in
    let band = c.rows_read_per_call-band.result in
    let some = c.min-count.result in
    let few : some ≤ t.rows_left = omega (arith, c.min-count.ensures, c.rows_left-in-rows.ensures) in
    let fit : some ≤ band = omega (arith, c.min-count.ensures) in
    let same : c.cols-cols.result ≡ h.region.cols = c.cols-cols.ensures.value ∙ ap
    (λ r. r.cols) c.region-region.ensures in
    let width : length (take (some * c.cols-cols.result) c.rows.cells) ≡ some * h.region.cols = ap
    (λ n. length (take (some * n) c.rows.cells)) same
    ∙ width_of c.rows.cells some band h.region.cols fit is.cells in
    let cells = first_cells_of_bytes_or_row (some * cols, is_bytes) bytes row in
    let left : u.rows_left + some ≡ t.rows_left = c.in_ok-is_bytes.ensures.left in
    let grown : c.push_rows_of_bytes_or_cells.new.builder.rows ≡ front ++ cells_cut_into_rows cols some cells =
    ap (λ b. b.rows) c.in-Ok-push_rows_of_bytes_or_cells.ensures ∙ ap
    (λ n. front ++ cells_cut_into_rows n some (first_cells_of_bytes_or_row (length row, is_bytes) bytes row)) same ∙ ap
    (λ n. front ++ cells_cut_into_rows cols some (first_cells_of_bytes_or_row (n, is_bytes) bytes row))
    (c.next_rows_as_bytes_or_cells.auto.row ∙ width) in
    let more : length (front ++ cells_cut_into_rows cols some cells)
    ≡ length front + some = longer front cols some cells in
    record {
      rows = rw (grown, more) (more_read (items_read_one_after_another (next_cell_after_position h) cols) (λ (x : ComingBytes). rows_read_from_position h (position_of_grid_reader s x)) (bytes_to_come_for_content s.ahead) (bytes_to_come_for_content t.ahead) (bytes_to_come_for_content u.ahead)
          front h.region.rows (length front) some (position_of_grid_reader t)
          (within (length front) few is.count) is.rows
          (cells_cut_into_rows cols some cells) (position_of_grid_reader u)
          (rows_read (next_cell_after_position h) (position_of_grid_reader t) (position_of_grid_reader u) (bytes_to_come_for_content t.ahead) (bytes_to_come_for_content u.ahead) cols some cells
          (rw (width, is.header) at c.in_ok-is_bytes.ensures.row)));
      header = c.next_rows_as_bytes_or_cells.ensures.header ∙ is.header;
      region = ap (λ b. b.region) c.in-Ok-push_rows_of_bytes_or_cells.ensures ∙ is.region;
      count = rw (grown, more) (some_more (length front) u.rows_left some left is.count);
      cells = as_long row c.rows.cells (some * c.cols-cols.result) c.next_rows_as_bytes_or_cells.auto.row ∙ is.cells;
      bytes = c.next_rows_as_bytes_or_cells.auto.bytes ∙ is.bytes;
      live = c.in_ok-is_bytes.ensures.live;
      heard = c.in_ok-is_bytes.ensures.heard ∙ ap (source_knowledge_after_calls false) is.heard;
    }

pub returns-clause-rows : goal.returns-clause-rows
returns-clause-rows g c =
    let s = c.args.reader.now in
    let t = c.rows.reader in
    let h = s.header in
    let is = c.rows.invariant in
    let front = c.rows.builder.rows in
    let last : ComingBytes → ReadValueAndPositionOrFault (List (List CellValue)) =
    λ d. with_front front (items_read_one_after_another (items_read_one_after_another
    (next_cell_after_position h) h.region.cols) (h.region.rows - length front)
    (position_of_grid_reader t d)) in
    let read : ComingBytes → ReadValueAndPositionOrFault (List (List CellValue)) = λ d. Ok
    (c.finish.result.rows, position_of_grid_reader t d) in
    let none : t.rows_left ≡ 0 = omega (arith, c.rows-test.false, c.rows_left.ensures) in
    let all : c.finish.result.rows ≡ front = ap (λ m. m.rows) c.finish.ensures in
    let region = c.cols-cols.ensures.region in
    record {
      region = ap (λ m. m.region) c.finish.ensures ∙ is.region;
      labels = ap (λ m. m.labels) c.finish.ensures;
      rows = chain (λ x. rows_read_from_position h (position_of_grid_reader s x)) last read (bytes_to_come_for_content s.ahead) (bytes_to_come_for_content t.ahead) (bytes_to_come_for_content t.ahead) is.rows
          (map_same last read (bytes_to_come_for_content t.ahead)
          (λ d. all_read (items_read_one_after_another (next_cell_after_position h) h.region.cols) h.region.rows (length front) (position_of_grid_reader t d) front (no_more is.count none)
          ∙ ap (λ rows. Ok (rows, position_of_grid_reader t d)) (sym all)));
      left = none;
      live = is.live;
      high = some_same region.rows_least (ap (λ r. r.rows) c.region-region.ensures);
      wide = some_same region.cols_least (ap (λ r. r.cols) c.region-region.ensures);
    }
