-- A list of tokens stands for at most one assignment.
use Rattle.std.proofs.Common.{◌≡◌, ℕ, List, [], ◌∷◌, sym, ap, ◌∙◌, subst}
use Rattle.cell_calc_language.specs.declared.assignment.Assignment.{Assignment}
use Rattle.cell_calc_grammar.specs.declared.token.TokenAtColumn.{TokenAtColumn}
use Rattle.cell_calc_grammar.specs.declared.token.Token.{Token}
use Rattle.cell_calc_grammar.specs.declared.token.Token.TheVariants as token
use Rattle.cell_calc_language.specs.Assignment.{AreTokensOfAssignment}
use Rattle.cell_calc_grammar.specs.Grammar.{IsExpression}
use Rattle.cell_calc_grammar.proofs.Complete.{tokens_denote_one_expression}

same_assignment : (a b : Assignment) → a.target ≡ b.target → a.expr ≡ b.expr → a ≡ b
same_assignment a b e f =
    let target : a ≡ record a { target = b.target } = ap (λ n. let x : Assignment = record a { target = n } in x) e in
    target ∙ ap (λ t. let x : Assignment = record { target = b.target; expr = t } in x) f

abbrev name_of : Token → List ℕ
name_of (token.Name n) = n
name_of _ = []

abbrev first_name : List TokenAtColumn → List ℕ
first_name [] = []
first_name (s ∷ ts) = name_of s.token

abbrev after_two : List TokenAtColumn → List TokenAtColumn
after_two (s ∷ t ∷ ts) = ts
after_two _ = []

pub one : (ts : List TokenAtColumn) (a b : Assignment) → AreTokensOfAssignment ts a → AreTokensOfAssignment ts b → a ≡ b
one ts a b h g =
    let same = sym h.3 ∙ g.3 in
    same_assignment a b (ap first_name same)
    (tokens_denote_one_expression g.2 a.expr b.expr (subst (λ us. IsExpression us a.expr) (ap after_two same) h.4) g.4)
