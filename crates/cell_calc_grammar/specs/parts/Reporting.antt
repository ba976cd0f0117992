-- The contract for reading one token.
use Rattle.std.specs.Prelude.{◌≡◌, Result, Ok, Err}
use Rattle.cell_calc_grammar.specs.Tokens.{IsExpectedOrMemoryFault}
use Rattle.cell_calc_grammar.specs.declared.calc_fault.CalcFault.{CalcFault}

-- the result is the expected one, or memory ran out
abbrev pub IsExpectedResultOrMemoryFault : {T : Type 0} → Result T CalcFault → Result T CalcFault → Type 0
IsExpectedResultOrMemoryFault (Ok token) wanted = wanted ≡ Ok token
IsExpectedResultOrMemoryFault (Err reported) wanted = IsExpectedOrMemoryFault wanted reported
