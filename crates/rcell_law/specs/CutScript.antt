-- A script cut into two runs: the second reads the maps that the first made, as r.out.ascii wrote them.
use Rattle.std.specs.Prelude.{ℕ, ◌≡◌, ◌≤◌, ◌↔◌, false, List, [], ◌∷◌, ◌++◌, length, drop, All}
use Rattle.cell_core_devices.specs.Device.{ComingBytes}
use Rattle.cell_core.specs.Shelf.{ShelfValue}
use Rattle.cell_ascii_meaning.specs.Writing.{IsValidNullText}
use Rattle.cell_ascii_law.specs.WrittenLaw.{IsWritableMap}
use Rattle.rcell.specs.Sources.{Named}
use Rattle.rcell_script.specs.Scripts.{IsScript}
use Rattle.rcell_script.specs.declared.statement.Statement.{Statement}
use Rattle.rcell.specs.Output.{StatementsWriteTextAndLeaveShelf, IsOutputOfStatements}
use Rattle.rcell.specs.runs.Accepted.{AreGridsAndScriptAccepted}
use Rattle.rcell_law.specs.ReadAgain.{shelf_without_labels, written_grids, StatementsPrintNoLabels}

-- the grids of the second run: the grids of the first, then the maps that it made, as r.out.ascii writes them
abbrev pub grids_of_second_run : List ℕ → List Named → ShelfValue → List Named
grids_of_second_run null_text grids between = grids ++ drop (length grids) (written_grids null_text between)

-- suppose that the first part of a script is accepted and leaves a shelf; then a second part that prints no labels is
-- accepted over the first part's maps, written and read back, and writes what the full script writes after the first
-- part's text
abbrev pub CutScriptGivesSameOutput : Type 0
CutScriptGivesSameOutput = (grids : List Named) (first second : ComingBytes) (shelf between : ShelfValue)
    (one two : List Statement)
    (null_text text : List ℕ)
    → AreGridsAndScriptAccepted grids first shelf one → StatementsWriteTextAndLeaveShelf shelf one text between
    → IsValidNullText null_text → All (IsWritableMap null_text) (drop (length grids) between.maps)
    → second.fails ≡ false → length second.bytes ≤ 1048576 → IsScript between.names second.bytes two
    → StatementsPrintNoLabels two
    → AreGridsAndScriptAccepted (grids_of_second_run null_text grids between) second (shelf_without_labels between) two
    × ((rest : List ℕ) → IsOutputOfStatements (shelf_without_labels between) two rest
    ↔ IsOutputOfStatements shelf (one ++ two) (text ++ rest))

-- the text ends at the end of a line
abbrev pub EndsAtLineEnd : List ℕ → Type 0
EndsAtLineEnd text = (front : List ℕ) × (text ≡ front ++ 10 ∷ [])

-- a script that ends at the end of a line and a script over the maps that it leaves form one script; it writes the
-- output of the first, then the output of the second over the first's maps, written and read back
abbrev pub CutScriptTextGivesSameOutput : Type 0
CutScriptTextGivesSameOutput = (grids : List Named) (first second : ComingBytes) (shelf between : ShelfValue)
    (one two : List Statement)
    (null_text text : List ℕ)
    → AreGridsAndScriptAccepted grids first shelf one → StatementsWriteTextAndLeaveShelf shelf one text between
    → EndsAtLineEnd first.bytes
    → IsValidNullText null_text → All (IsWritableMap null_text) (drop (length grids) between.maps)
    → second.fails ≡ false → length (first.bytes ++ second.bytes) ≤ 1048576
    → IsScript between.names second.bytes two → StatementsPrintNoLabels two
    → (whole : List Statement)
    × AreGridsAndScriptAccepted grids (record { bytes = first.bytes ++ second.bytes; fails = false }) shelf whole
    × AreGridsAndScriptAccepted (grids_of_second_run null_text grids between) second (shelf_without_labels between) two
    × ((rest : List ℕ) → IsOutputOfStatements (shelf_without_labels between) two rest
    ↔ IsOutputOfStatements shelf whole (text ++ rest))
