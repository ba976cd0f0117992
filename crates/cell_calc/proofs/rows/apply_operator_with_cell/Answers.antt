use Rattle.cell_calc.proofs.rows.apply_operator_with_cell.Goals as goal

pub returns-in-Times : goal.returns-in-Times
returns-in-Times c = rw c.in-Times.is (λ k h. (c.combine_row_with_cell.ensures k h).2)

pub returns-in-Divide : goal.returns-in-Divide
returns-in-Divide c = rw c.in-Divide.is (λ k h. (c.combine_row_with_cell-in-Divide.ensures k h).2)

pub returns-in-Modulo : goal.returns-in-Modulo
returns-in-Modulo c = rw c.in-Modulo.is (λ k h. (c.combine_row_with_cell-in-Modulo.ensures k h).2)

pub returns-in-Plus : goal.returns-in-Plus
returns-in-Plus c = rw c.in-Plus.is (λ k h. (c.combine_row_with_cell-in-Plus.ensures k h).2)

pub returns-in-Minus : goal.returns-in-Minus
returns-in-Minus c = rw c.in-Minus.is (λ k h. (c.combine_row_with_cell-in-Minus.ensures k h).2)

pub returns-in-Less : goal.returns-in-Less
returns-in-Less c = rw c.in-Less.is (λ k h. (c.combine_row_with_cell-in-Less.ensures k h).2)

pub returns-in-LessEqual : goal.returns-in-LessEqual
returns-in-LessEqual c = rw c.in-LessEqual.is (λ k h. (c.combine_row_with_cell-in-LessEqual.ensures k h).2)

pub returns-in-Greater : goal.returns-in-Greater
returns-in-Greater c = rw c.in-Greater.is (λ k h. (c.combine_row_with_cell-in-Greater.ensures k h).2)

pub returns-in-GreaterEqual : goal.returns-in-GreaterEqual
returns-in-GreaterEqual c = rw c.in-GreaterEqual.is (λ k h. (c.combine_row_with_cell-in-GreaterEqual.ensures k h).2)

pub returns-in-Equal : goal.returns-in-Equal
returns-in-Equal c = rw c.in-Equal.is (λ k h. (c.combine_row_with_cell-in-Equal.ensures k h).2)

pub returns-in-NotEqual : goal.returns-in-NotEqual
returns-in-NotEqual c = rw c.in-NotEqual.is (λ k h. (c.combine_row_with_cell-in-NotEqual.ensures k h).2)

pub returns-in-And : goal.returns-in-And
returns-in-And c = rw c.in-And.is (λ k h. (c.combine_row_with_cell-in-And.ensures k h).2)

pub returns-in-Or : goal.returns-in-Or
returns-in-Or c = rw c.in-Or.is (λ k h. (c.combine_row_with_cell-in-Or.ensures k h).2)

pub returns-in-KnownAnd : goal.returns-in-KnownAnd
returns-in-KnownAnd c = rw c.in-KnownAnd.is (λ k h. (c.combine_row_with_cell-in-KnownAnd.ensures k h).2)

pub returns-in-KnownOr : goal.returns-in-KnownOr
returns-in-KnownOr c = rw c.in-KnownOr.is (λ k h. (c.combine_row_with_cell-in-KnownOr.ensures k h).2)
