use Rattle.std.proofs.Common.{◌≡◌, length}
use Rattle.std.specs.Prelude.{All}
use Rattle.cell_calc.proofs.window_rows.WindowRows.new.Given as goal

abbrev pub invariant-loop : goal.invariant-loop
invariant-loop l =
    record {
      width : All (λ row. length row.items ≡ l.cols) l.waiting.items;
      count : length l.waiting.items ≡ l.counter;
      capacity : l.waiting.capacity ≡ l.count;
    }
