-- The functions of expressions, and the numbers of arguments that they accept (r.mapcalc manual, "Functions").
use Rattle.std.specs.Prelude.{ℕ, Bool, ◌&&◌, ◌==◌, nat_le, List, [], ◌∷◌, Option, Some, None, codes, bytes_eq, cond}
use Rattle.cell_calc_grammar.specs.declared.function.Function.{Function}
use Rattle.cell_calc_grammar.specs.declared.function.Function.TheVariants.{If, IsNull, Null, Abs, Min, Max, Mode, Row, Column, RowCount, ColumnCount, Eval, KnownMin, KnownMax, KnownMode}

-- the names of the functions
abbrev pub function_names : List (List ℕ × Function)
function_names =
    (codes "if", If)
    ∷ (codes "isnull", IsNull)
    ∷ (codes "null", Null)
    ∷ (codes "abs", Abs)
    ∷ (codes "min", Min)
    ∷ (codes "max", Max)
    ∷ (codes "mode", Mode)
    ∷ (codes "row", Row)
    ∷ (codes "col", Column)
    ∷ (codes "nrows", RowCount)
    ∷ (codes "ncols", ColumnCount)
    ∷ (codes "eval", Eval)
    ∷ (codes "nmin", KnownMin)
    ∷ (codes "nmax", KnownMax)
    ∷ (codes "nmode", KnownMode)
    ∷ []

-- the function with this name in a list
abbrev pub function_named_among : List (List ℕ × Function) → List ℕ → Option Function
function_named_among [] name = None
function_named_among (f ∷ fs) name = cond (bytes_eq name f.0) (Some f.1) (function_named_among fs name)

-- the function with this name
abbrev pub function_with_name : List ℕ → Option Function
function_with_name name = function_named_among function_names name

-- the function accepts n arguments
abbrev pub accepts_argument_count : Function → ℕ → Bool
accepts_argument_count If n = nat_le 1 n && nat_le n 3
accepts_argument_count IsNull n = n == 1
accepts_argument_count Null n = n == 0
accepts_argument_count Abs n = n == 1
accepts_argument_count Min n = nat_le 2 n
accepts_argument_count Max n = nat_le 2 n
accepts_argument_count Mode n = nat_le 2 n
accepts_argument_count Row n = n == 0
accepts_argument_count Column n = n == 0
accepts_argument_count RowCount n = n == 0
accepts_argument_count ColumnCount n = n == 0
accepts_argument_count Eval n = nat_le 1 n
accepts_argument_count KnownMin n = nat_le 2 n
accepts_argument_count KnownMax n = nat_le 2 n
accepts_argument_count KnownMode n = nat_le 2 n
