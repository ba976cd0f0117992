-- Rows reclassed by rules, one run at a time.
use Rattle.std.proofs.Common.{◌≡◌, ◌≢◌, ℕ, ◌+◌, ◌<◌, List, All, subst, [], ◌∷◌, ◌++◌, length, take, get_or, replicate}
use Rattle.std.proofs.Common.{zero, suc, refl, ap, sym, ◌∙◌, arith, append_assoc, length-append, Some, None, Result}
use Rattle.std.proofs.Common.{Ok, Err}
use Rattle.std.proofs.lemmas.List.{take_more, map-append, append-nil, length-replicate, replicate-append-replicate}
use Rattle.std.proofs.lemmas.Grind.{flat_map-append}
use Rattle.cell_core.specs.Grid.{CellValue, Grid, row_at}
use Rattle.cell_core.specs.Runs.{RunValue, AdjacentRunsDiffer, cells_of_runs}
use Rattle.cell_cats.specs.Rule.{RuleValue, new_category}
use Rattle.cell_cats.specs.Reclass.{reclassed_row, reclassed_rows}
use Rattle.cell_cats.specs.RulesLaw.{StarRuleKeepsRows}
use Rattle.cell_cats.specs.declared.rule.Output.TheVariants.{Same}
use Rattle.cell_cats.specs.declared.rules.LineKind.{LineKind}
use Rattle.cell_cats.specs.declared.rules.RuleFault.{RuleFault}

row_at-get_or : (m : Grid) (r : ℕ) → row_at m r ≡ get_or m.rows r []
row_at-get_or m r = refl

-- appending one reclassed row makes the rows one more reclassed row
pub rows-more : (rules : List RuleValue) (m : Grid) (done new : List (List CellValue)) (r : ℕ) → r < length m.rows
    → done ≡ reclassed_rows rules (take r m.rows) → new ≡ done ++ reclassed_row rules (row_at m r) ∷ [] → new ≡ reclassed_rows rules (take (r + 1) m.rows)
rows-more rules m done new r h so_far pushed =
    pushed ∙ ap (λ l. l ++ reclassed_row rules (row_at m r) ∷ []) so_far
    ∙ sym (ap (reclassed_rows rules) (take_more m.rows r [] h) ∙ map-append (reclassed_row rules) (take r m.rows) (get_or m.rows r [] ∷ [])
    ∙ ap (λ row. reclassed_rows rules (take r m.rows) ++ reclassed_row rules row ∷ []) (sym (row_at-get_or m r)))

-- a single `*` rule that keeps the category
abbrev pub keeping : List RuleValue
keeping = record { listed = None; output = Same; label = [] } ∷ []

keeping-cell : (cell : CellValue) → new_category keeping cell ≡ cell
keeping-cell None = refl
keeping-cell (Some x) = refl

keeping-row : (row : List CellValue) → reclassed_row keeping row ≡ row
keeping-row [] = refl
keeping-row (cell ∷ cells) = rw (keeping-cell cell, keeping-row cells) refl

pub keeping-rows : (rows : List (List CellValue)) → reclassed_rows keeping rows ≡ rows
keeping-rows [] = refl
keeping-rows (row ∷ rows) = rw (keeping-row row, keeping-rows rows) refl

abbrev rules_of : Result (LineKind × List RuleValue) RuleFault → List RuleValue
rules_of (Ok pair) = pair.1
rules_of (Err fault) = []

pub star-keeps : StarRuleKeepsRows
star-keeps rules e rows = let same : rules ≡ keeping = sym (ap rules_of e) in rw same (keeping-rows rows)

reclassed_row-replicate : (rules : List RuleValue) (n : ℕ) (cell : CellValue) → reclassed_row rules (replicate n cell) ≡ replicate n (new_category rules cell)
reclassed_row-replicate rules zero cell = refl
reclassed_row-replicate rules (suc n) cell = ap (λ (l : List CellValue). new_category rules cell ∷ l) (reclassed_row-replicate rules n cell)

-- appending a run appends its cells
out-more : (made : List RunValue) (run : RunValue) → cells_of_runs (made ++ run ∷ []) ≡ cells_of_runs made ++ replicate run.1 run.0
out-more made run =
    flat_map-append (λ (r : RunValue). replicate r.1 r.0) made (run ∷ [])
    ∙ ap (λ (l : List CellValue). cells_of_runs made ++ l) (append-nil (replicate run.1 run.0))

-- after the first remaining run was read, the others remain
module _ (read : RunValue) (old rest : List RunValue) (next : old ≡ read ∷ rest) where
  pub count : length (cells_of_runs old) ≡ read.1 + length (cells_of_runs rest)
  count =
      ap (λ l. length (cells_of_runs l)) next ∙ length-append (replicate read.1 read.0) (cells_of_runs rest)
      ∙ ap (λ k. k + length (cells_of_runs rest)) (length-replicate read.1 read.0)

  pub first-some : All (λ run. 0 < run.1) old → 0 < read.1
  first-some all = all-of 0 read (omega arith)
    where
      all-of : All (λ run. 0 < run.1) (read ∷ rest)
      all-of = subst (All (λ (run : RunValue). 0 < run.1)) next all

  pub others-some : All (λ run. 0 < run.1) old → All (λ run. 0 < run.1) rest
  others-some all i d within = all-of (suc i) d (omega (arith, within))
    where
      all-of : All (λ run. 0 < run.1) (read ∷ rest)
      all-of = subst (All (λ (run : RunValue). 0 < run.1)) next all

  module _ (rules : List RuleValue) (x : CellValue) (applied : x ≡ new_category rules read.0) where
    run : reclassed_row rules (cells_of_runs old) ≡ replicate read.1 x ++ reclassed_row rules (cells_of_runs rest)
    run =
        ap (λ l. reclassed_row rules (cells_of_runs l)) next
        ∙ map-append (new_category rules) (replicate read.1 read.0) (cells_of_runs rest)
        ∙ ap (λ l. l ++ reclassed_row rules (cells_of_runs rest))
        (reclassed_row-replicate rules read.1 read.0 ∙ ap (replicate read.1) (sym applied))

    -- the run read is appended as a new run
    pub run-next : (made : List RunValue) (all : List CellValue)
        → cells_of_runs made ++ reclassed_row rules (cells_of_runs old) ≡ all
        → cells_of_runs (made ++ (x, read.1) ∷ []) ++ reclassed_row rules (cells_of_runs rest) ≡ all
    run-next made all whole =
        ap (λ l. l ++ reclassed_row rules (cells_of_runs rest)) (out-more made (x, read.1))
        ∙ append_assoc (cells_of_runs made) (replicate read.1 x) (reclassed_row rules (cells_of_runs rest))
        ∙ ap (λ l. cells_of_runs made ++ l) (sym run) ∙ whole

    -- the run read extends the last run written
    pub run-on : (made : List RunValue) (k : ℕ) (all : List CellValue)
        → cells_of_runs (made ++ (x, k) ∷ []) ++ reclassed_row rules (cells_of_runs old) ≡ all
        → cells_of_runs (made ++ (x, k + read.1) ∷ []) ++ reclassed_row rules (cells_of_runs rest) ≡ all
    run-on made k all whole =
        let longer : cells_of_runs (made ++ (x, k + read.1) ∷ [])
        ≡ cells_of_runs (made ++ (x, k) ∷ []) ++ replicate read.1 x =
        out-more made (x, k + read.1) ∙ ap (λ l. cells_of_runs made ++ l) (sym (replicate-append-replicate k read.1 x))
        ∙ sym (append_assoc (cells_of_runs made) (replicate k x) (replicate read.1 x))
        ∙ ap (λ l. l ++ replicate read.1 x) (sym (out-more made (x, k))) in
        ap (λ l. l ++ reclassed_row rules (cells_of_runs rest)) longer
        ∙ append_assoc (cells_of_runs (made ++ (x, k) ∷ [])) (replicate read.1 x)
        (reclassed_row rules (cells_of_runs rest))
        ∙ ap (λ l. cells_of_runs (made ++ (x, k) ∷ []) ++ l) (sym run) ∙ whole

-- adjacent runs stay different if the last one changes its length
pub apart-on : (made : List RunValue) (x : CellValue) (k n : ℕ)
    → AdjacentRunsDiffer (made ++ (x, k) ∷ []) → AdjacentRunsDiffer (made ++ (x, n) ∷ [])
apart-on [] x k n apart = tt
apart-on (a ∷ []) x k n apart = (apart.0, tt)
apart-on (a ∷ b ∷ made) x k n apart = (apart.0, apart-on (b ∷ made) x k n apart.1)

-- a run of another cell may follow the last run
pub apart-next : (made : List RunValue) (last more : RunValue) → last.0 ≢ more.0
    → AdjacentRunsDiffer (made ++ last ∷ []) → AdjacentRunsDiffer ((made ++ last ∷ []) ++ more ∷ [])
apart-next [] last more other apart = (other, tt)
apart-next (a ∷ []) last more other apart = (apart.0, (other, tt))
apart-next (a ∷ b ∷ made) last more other apart = (apart.0, apart-next (b ∷ made) last more other apart.1)
