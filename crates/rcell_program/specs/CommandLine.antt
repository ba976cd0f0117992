-- The request in a command line: rcell SCRIPT NAME=PATH... (profile).
use Rattle.std.specs.Prelude.{ℕ, Bool, List, [], ◌∷◌, ◌++◌, ◌==◌, ◌≡◌, ◌≢◌, ◌+◌, ◌&&◌, ◌||◌}
use Rattle.std.specs.Prelude.{drop, map, if◌then◌else◌, length, nat_lt, None, Option, Some, Result, Ok, Err, option_map, codes}
use Rattle.std.specs.List.{after_first, before_first}
use Rattle.cell_core_values.specs.Letters.{byte}
use Rattle.cell_core_values.specs.Name.{is_name}
use Rattle.rcell_command.specs.CommandWords.{has_word_starting_with_hyphen}
use Rattle.rcell_program.specs.declared.refusal.Refusal.{Refusal}
use Rattle.rcell_program.specs.declared.refusal.Refusal.TheVariants.{GridWord, Memory, Usage}

-- each name and the path of its grid, with an equals sign in between
abbrev pub words_of_grid_names_and_paths : List (List ℕ) → List (List ℕ) → List (List ℕ)
words_of_grid_names_and_paths (name ∷ names) (path ∷ paths) = (name ++ byte (codes "=") ∷ path)
    ∷ words_of_grid_names_and_paths names paths
words_of_grid_names_and_paths _ _ = []

-- NAME=PATH: a valid name before the first equals sign, and a nonempty text after it
abbrev pub is_grid_argument : List ℕ → Bool
is_grid_argument word = is_name (before_first (λ b. b == byte (codes "=")) word) && nat_lt 0 (length (after_first (λ b. b == byte (codes "=")) word))

-- the script's path, and each grid's name and path, as the words state them
abbrev pub script_path_in_arguments : List (List ℕ) → List ℕ
script_path_in_arguments [] = []
script_path_in_arguments (script ∷ grids) = script

abbrev pub grid_name_in_argument : List ℕ → List ℕ
grid_name_in_argument word = before_first (λ b. b == byte (codes "=")) word

abbrev pub grid_path_in_argument : List ℕ → List ℕ
grid_path_in_argument word = after_first (λ b. b == byte (codes "=")) word

abbrev pub grid_names_in_arguments : List (List ℕ) → List (List ℕ)
grid_names_in_arguments words = map grid_name_in_argument (drop 1 words)

abbrev pub grid_paths_in_arguments : List (List ℕ) → List (List ℕ)
grid_paths_in_arguments words = map grid_path_in_argument (drop 1 words)

-- the position of the first word that is not NAME=PATH, if any; the words are counted from `place`
abbrev pub place_of_first_bad_grid_word : ℕ → List (List ℕ) → Option ℕ
place_of_first_bad_grid_word place [] = None
place_of_first_bad_grid_word place (word ∷ words) = if is_grid_argument word then place_of_first_bad_grid_word
    (place + 1) words else Some place

-- a word begins with a hyphen, or there are fewer than two words, for a script and a grid
abbrev pub words_are_usage_error : List (List ℕ) → Bool
words_are_usage_error words = has_word_starting_with_hyphen words || nat_lt (length words) 2

-- why the words after the program's own name are rejected, or `None` if they are a request
abbrev pub refusal_of_words : List (List ℕ) → Option Refusal
refusal_of_words words = if words_are_usage_error words then Some Usage else option_map (λ place. GridWord place) (place_of_first_bad_grid_word 2 (drop 1 words))

-- unless memory ran out, the words are rejected for this reason, or accepted if there is none
abbrev pub IsRefusedForReasonOrAccepted : {A : Type 0} → Option Refusal → Result A Refusal → Type 0
IsRefusedForReasonOrAccepted reason (Ok request) = reason ≡ None
IsRefusedForReasonOrAccepted reason (Err refusal) = refusal ≢ Memory → reason ≡ Some refusal

-- the request in the words: the path of a script, and the names and paths of grids
pub record WordsNameScriptAndGrids (words : List (List ℕ)) (script : List ℕ)
    (names paths : List (List ℕ)) : Type 0 where
  pub of_script : script ≡ script_path_in_arguments words
  pub of_names : names ≡ grid_names_in_arguments words
  pub of_paths : paths ≡ grid_paths_in_arguments words
