use Rattle.cell_calc.proofs.rows.apply_operator_to_rows.Goals as goal

pub combine_rows-requires-clause-width : goal.combine_rows-requires-clause-width
combine_rows-requires-clause-width c = c.requires.width

pub returns-in-Times : goal.returns-in-Times
returns-in-Times c = rw c.in-Times.is (λ k h. (c.combine_rows.ensures k h).2)

pub combine_rows-requires-in-Divide-clause-width : goal.combine_rows-requires-in-Divide-clause-width
combine_rows-requires-in-Divide-clause-width c = c.requires.width

pub returns-in-Divide : goal.returns-in-Divide
returns-in-Divide c = rw c.in-Divide.is (λ k h. (c.combine_rows-in-Divide.ensures k h).2)

pub combine_rows-requires-in-Modulo-clause-width : goal.combine_rows-requires-in-Modulo-clause-width
combine_rows-requires-in-Modulo-clause-width c = c.requires.width

pub returns-in-Modulo : goal.returns-in-Modulo
returns-in-Modulo c = rw c.in-Modulo.is (λ k h. (c.combine_rows-in-Modulo.ensures k h).2)

pub combine_rows-requires-in-Plus-clause-width : goal.combine_rows-requires-in-Plus-clause-width
combine_rows-requires-in-Plus-clause-width c = c.requires.width

pub returns-in-Plus : goal.returns-in-Plus
returns-in-Plus c = rw c.in-Plus.is (λ k h. (c.combine_rows-in-Plus.ensures k h).2)

pub combine_rows-requires-in-Minus-clause-width : goal.combine_rows-requires-in-Minus-clause-width
combine_rows-requires-in-Minus-clause-width c = c.requires.width

pub returns-in-Minus : goal.returns-in-Minus
returns-in-Minus c = rw c.in-Minus.is (λ k h. (c.combine_rows-in-Minus.ensures k h).2)

pub combine_rows-requires-in-Less-clause-width : goal.combine_rows-requires-in-Less-clause-width
combine_rows-requires-in-Less-clause-width c = c.requires.width

pub returns-in-Less : goal.returns-in-Less
returns-in-Less c = rw c.in-Less.is (λ k h. (c.combine_rows-in-Less.ensures k h).2)

pub combine_rows-requires-in-LessEqual-clause-width : goal.combine_rows-requires-in-LessEqual-clause-width
combine_rows-requires-in-LessEqual-clause-width c = c.requires.width

pub returns-in-LessEqual : goal.returns-in-LessEqual
returns-in-LessEqual c = rw c.in-LessEqual.is (λ k h. (c.combine_rows-in-LessEqual.ensures k h).2)

pub combine_rows-requires-in-Greater-clause-width : goal.combine_rows-requires-in-Greater-clause-width
combine_rows-requires-in-Greater-clause-width c = c.requires.width

pub returns-in-Greater : goal.returns-in-Greater
returns-in-Greater c = rw c.in-Greater.is (λ k h. (c.combine_rows-in-Greater.ensures k h).2)

pub combine_rows-requires-in-GreaterEqual-clause-width : goal.combine_rows-requires-in-GreaterEqual-clause-width
combine_rows-requires-in-GreaterEqual-clause-width c = c.requires.width

pub returns-in-GreaterEqual : goal.returns-in-GreaterEqual
returns-in-GreaterEqual c = rw c.in-GreaterEqual.is (λ k h. (c.combine_rows-in-GreaterEqual.ensures k h).2)

pub combine_rows-requires-in-Equal-clause-width : goal.combine_rows-requires-in-Equal-clause-width
combine_rows-requires-in-Equal-clause-width c = c.requires.width

pub returns-in-Equal : goal.returns-in-Equal
returns-in-Equal c = rw c.in-Equal.is (λ k h. (c.combine_rows-in-Equal.ensures k h).2)

pub combine_rows-requires-in-NotEqual-clause-width : goal.combine_rows-requires-in-NotEqual-clause-width
combine_rows-requires-in-NotEqual-clause-width c = c.requires.width

pub returns-in-NotEqual : goal.returns-in-NotEqual
returns-in-NotEqual c = rw c.in-NotEqual.is (λ k h. (c.combine_rows-in-NotEqual.ensures k h).2)

pub combine_rows-requires-in-And-clause-width : goal.combine_rows-requires-in-And-clause-width
combine_rows-requires-in-And-clause-width c = c.requires.width

pub returns-in-And : goal.returns-in-And
returns-in-And c = rw c.in-And.is (λ k h. (c.combine_rows-in-And.ensures k h).2)

pub combine_rows-requires-in-Or-clause-width : goal.combine_rows-requires-in-Or-clause-width
combine_rows-requires-in-Or-clause-width c = c.requires.width

pub returns-in-Or : goal.returns-in-Or
returns-in-Or c = rw c.in-Or.is (λ k h. (c.combine_rows-in-Or.ensures k h).2)

pub combine_rows-requires-in-KnownAnd-clause-width : goal.combine_rows-requires-in-KnownAnd-clause-width
combine_rows-requires-in-KnownAnd-clause-width c = c.requires.width

pub returns-in-KnownAnd : goal.returns-in-KnownAnd
returns-in-KnownAnd c = rw c.in-KnownAnd.is (λ k h. (c.combine_rows-in-KnownAnd.ensures k h).2)

pub combine_rows-requires-in-KnownOr-clause-width : goal.combine_rows-requires-in-KnownOr-clause-width
combine_rows-requires-in-KnownOr-clause-width c = c.requires.width

pub returns-in-KnownOr : goal.returns-in-KnownOr
returns-in-KnownOr c = rw c.in-KnownOr.is (λ k h. (c.combine_rows-in-KnownOr.ensures k h).2)
