-- What is known about a process, and how its calls change this (profile).
use Rattle.std.specs.Prelude.{ℕ, ◌≡◌, Bool, false, List, [], ◌∷◌}
use Rattle.std.specs.Prelude.{◌++◌, Option, None, Some, IfSome, if◌then◌else◌, bytes_eq, take}
use Rattle.cell_core_devices.specs.Device.{ComingBytes}
use Rattle.cell_core_devices.specs.Supposed.{Known, Lost, SupposedContent}
use Rattle.rcell_command.specs.Reported.{ErrorPlaceValue, exit_status_of_error_place}

-- the known list with more items appended, if it is known
abbrev pub known_list_with_items : {A : Type 0} → Option (List A) → List A → Option (List A)
known_list_with_items None more = None
known_list_with_items (Some known) more = Some (known ++ more)

-- a line PROGRAM: SOURCE:LINE: TEXT on standard error, without its text
pub record StandardErrorLine : Type 0 where
  pub program : List ℕ
  pub source : List ℕ
  pub line : ℕ

abbrev pub standard_error_line : (program : List ℕ) → ErrorPlaceValue → StandardErrorLine
standard_error_line program place = record { program = program; source = place.source; line = place.line }

-- exactly one line for an error, and no line without an error
abbrev pub standard_error_lines_of_error : (program : List ℕ) → Option ErrorPlaceValue → List StandardErrorLine
standard_error_lines_of_error program None = []
standard_error_lines_of_error program (Some place) = standard_error_line program place ∷ []

-- exactly the files with these paths were opened, in this order, and nothing was reported
pub record OpensExactlyFilesAtPaths {P : Type 0} (files : P → List ℕ → Option ComingBytes) (opened : P
    → Option (List (List ℕ))) (errors
    : P → Option (List StandardErrorLine)) (failed : P → Bool) (old new : P) (paths : List (List ℕ)) : Type 0 where
  pub grows : opened new ≡ known_list_with_items (opened old) paths
  pub same_files : files new ≡ files old
  pub same_errors : errors new ≡ errors old
  pub as_failed : failed new ≡ failed old

-- the files with the first of these paths were opened, in this order, and nothing was reported
pub record OpensFilesAtFirstPaths {P : Type 0} (files : P → List ℕ → Option ComingBytes) (opened : P
    → Option (List (List ℕ)))
    (errors : P → Option (List StandardErrorLine)) (failed : P
    → Bool) (old new : P) (paths : List (List ℕ)) : Type 0 where
  pub count : ℕ
  pub opens : OpensExactlyFilesAtPaths files opened errors failed old new (take count paths)

-- if the contents of the file with this path are known, the source returns them
abbrev pub SourceGivesContentsOfFile : {F : Type 0} → (List ℕ → Option ComingBytes) → (F → Option ComingBytes)
    → List ℕ → F
    → Type 0
SourceGivesContentsOfFile files coming path source = IfSome (files path) (λ text. coming source ≡ Some text)

-- exactly the line for this error was printed unless standard error failed, no file was opened, and the exit status is
-- the error's; without an error, nothing was done
pub record HasOnlyReportedError {P : Type 0} (opened : P → Option (List (List ℕ))) (errors : P
    → Option (List StandardErrorLine))
    (failed : P → Bool) (old new : P) (program : List ℕ) (place : Option ErrorPlaceValue) (status : ℕ) : Type 0 where
  pub status_is : status ≡ exit_status_of_error_place place
  pub told : failed new ≡ false → errors new ≡ known_list_with_items (errors old)
      (standard_error_lines_of_error program place)
  pub same_opened : opened new ≡ opened old
  pub silent : place ≡ None → new ≡ old

-- exactly the line for this error was printed unless standard error failed, and the exit status is the error's; without
-- an error, no line was printed; other effects are not restricted
pub record IsErrorLinePrinted {P : Type 0} (errors : P → Option (List StandardErrorLine)) (failed : P
    → Bool) (old new : P) (program :
    List ℕ) (place : Option ErrorPlaceValue) (status : ℕ) : Type 0 where
  pub status_is : status ≡ exit_status_of_error_place place
  pub told : failed new ≡ false → errors new ≡ known_list_with_items (errors old)
      (standard_error_lines_of_error program place)
  pub silent : place ≡ None → errors new ≡ errors old

-- the contents of a file
abbrev pub coming_bytes_of_file : List ℕ × List ℕ → ComingBytes
coming_bytes_of_file file = record { bytes = file.1; fails = false }

-- the contents of the first file with this path
abbrev pub first_file_with_path : List (List ℕ × List ℕ) → List ℕ → Option ComingBytes
first_file_with_path [] path = None
first_file_with_path (file ∷ files) path = if bytes_eq file.0 path then Some
    (coming_bytes_of_file file) else first_file_with_path files path

-- only the known content is supposed, and nothing if there is none
abbrev pub supposition_of_known_content : Option ComingBytes → SupposedContent
supposition_of_known_content None = Lost
supposition_of_known_content (Some text) = Known text
