-- r.clump and its options (r.clump manual).
use Rattle.std.specs.Prelude.{ℕ, ◌≡◌, Bool, List, ◌∷◌, if◌then◌else◌, codes}
use Rattle.cell_core_values.specs.Words.{words_of_line}
use Rattle.cell_clumps.specs.declared.clump.Joining.{Joining}
use Rattle.cell_clumps.specs.declared.clump.Joining.TheVariants.{Edges, EdgesAndCorners}
use Rattle.rcell_script.specs.Options.{words_contain_flag}
use Rattle.rcell_script.specs.RReclass.{OptionsAreFlagsInputAndOutput}

-- with the flag `-d`, cells that touch only at a corner are also connected
abbrev pub joining_of_corner_flag : Bool → Joining
joining_of_corner_flag corners = if corners then EdgesAndCorners else Edges

-- r.clump: a known input, a new output, and the connectivity
pub record SpellsClumpCommand (known : List (List ℕ)) (line : List ℕ) (place : ℕ) (target : List ℕ) (joining : Joining) : Type 0 where
  pub words : List (List ℕ)
  pub named : words_of_line line ≡ codes "r.clump" ∷ words
  pub maps : OptionsAreFlagsInputAndOutput (codes "d") known words place target
  pub joining_is : joining_of_corner_flag (words_contain_flag (codes "d") words) ≡ joining
