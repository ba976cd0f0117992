-- The output of a script is unique, and the outputs of its parts are concatenated.
use Rattle.std.specs.Prelude.{ℕ, ◌≡◌, ◌↔◌, List, ◌++◌}
use Rattle.cell_core.specs.Shelf.{ShelfValue}
use Rattle.rcell_script.specs.declared.statement.Statement.{Statement}
use Rattle.rcell.specs.Output.{StatementsWriteTextAndLeaveShelf, IsOutputOfStatements}

-- statements over a shelf have exactly one output
abbrev pub StatementsHaveOneOutput : Type 0
StatementsHaveOneOutput = (shelf : ShelfValue) (statements : List Statement) (a b : List ℕ) → IsOutputOfStatements shelf statements a → IsOutputOfStatements shelf statements b → a ≡ b

-- executing a script is the same as executing its first part, and then its second part over the shelf that the first
-- part left
abbrev pub ScriptInPartsHasSameOutput : Type 0
ScriptInPartsHasSameOutput = (shelf : ShelfValue) (first second : List Statement) (text : List ℕ) (after : ShelfValue)
    → StatementsWriteTextAndLeaveShelf shelf (first ++ second) text after
    ↔ ((between : ShelfValue) × ((one other : List ℕ) × (StatementsWriteTextAndLeaveShelf shelf first one between × (StatementsWriteTextAndLeaveShelf between second other after × (text ≡ one ++ other)))))
