-- Files that are opened one after another, and what is known after each.
use Rattle.std.proofs.Common.{Bor, ℕ, IfSome, List, [], ◌∷◌, ◌++◌, ◌≡◌, ◌<◌, ◌+◌, ◌∙◌, ap, sym}
use Rattle.std.proofs.Common.{refl, take, length, Bool, Option, None, Some, arith, subst, get_or, zero, suc}
use Rattle.std.specs.List.{AllZip}
use Rattle.std.proofs.lemmas.List.{append_assoc, append-nil, take_all, take_more}
use Rattle.cell_core_devices.specs.Device.{ComingBytes}
use Rattle.clap.specs.Walk.{Text, texts}
use Rattle.rcell_command.specs.Processes.{StandardErrorLine, OpensExactlyFilesAtPaths, OpensFilesAtFirstPaths}
use Rattle.rcell_command.specs.Processes.{HasOnlyReportedError, IsErrorLinePrinted, standard_error_lines_of_error}
use Rattle.rcell_command.specs.Processes.{known_list_with_items}
use Rattle.rcell_command.specs.Reported.{ErrorPlaceValue}

pub grown_none : {A : Type 0} (known : Option (List A)) → known ≡ known_list_with_items known []
grown_none None = refl
grown_none (Some known) = ap Some (sym (append-nil known))

pub grown_more : {A : Type 0} (known : Option (List A)) (first more : List A)
    → known_list_with_items (known_list_with_items known first) more ≡ known_list_with_items
    known (first ++ more)
grown_more None first more = refl
grown_more (Some known) first more = ap Some (append_assoc known first more)

take_none : {A : Type 0} (n : ℕ) → ◌≡◌ {A = List A} (take n []) []
take_none zero = refl
take_none (suc n) = refl

pub nowhere : (i : ℕ) → i < 0 → ⊥
nowhere i within = omega arith

-- the text of the word at a place is the text at that place
pub text_at : (words : List (Bor Text)) (i : ℕ) (d : Bor Text) (e : Text) → i < length words → (get_or words i d).now
    ≡ get_or (texts words) i e
text_at [] i d e within = absurd (nowhere i within)
text_at (word ∷ words) zero d e within = refl
text_at (word ∷ words) (suc i) d e within = text_at words i d e (omega arith)

-- a known file gives its known content
pub known_gives : (known : Option ComingBytes) {given : Option ComingBytes} {text : ComingBytes} → known ≡ Some text
    → IfSome known
    (λ t. given ≡ Some t) → given ≡ Some text
known_gives None is gives = cc
known_gives (Some held) is gives = gives ∙ is

-- two related lists stay related when a related pair is appended
pub zip_push : {A B : Type 0} (R : A → B → Type 0) (xs : List A) (ys : List B) (x : A) (y : B) → AllZip R xs ys → R x
    y → AllZip R (xs ++ x ∷ []) (ys ++ y ∷ [])
zip_push R [] [] x y pairs pair = (pair, tt)
zip_push R [] (b ∷ ys) x y pairs pair = absurd pairs
zip_push R (a ∷ xs) [] x y pairs pair = absurd pairs
zip_push R (a ∷ xs) (b ∷ ys) x y pairs pair = (pairs.0, zip_push R xs ys x y pairs.1 pair)

pub told_at : {P : Type 0} {errors : P → Option (List StandardErrorLine)} {failed : P
    → Bool} {a b : P} {program : List ℕ}
    {place other : Option ErrorPlaceValue} {status : ℕ} → place ≡ other
    → IsErrorLinePrinted errors failed a b program place status
    → IsErrorLinePrinted errors failed a b program other status
told_at {errors = errors} {failed = failed} {a = a} {b = b} {program = program} {status = status} same is = subst (λ
    place. IsErrorLinePrinted errors failed a b program place status) same is

module _ {P : Type 0} {files : P → List ℕ → Option ComingBytes} {opened : P → Option (List (List ℕ))} {errors : P
    → Option
    (List StandardErrorLine)} {failed : P → Bool} where
  pub opened_none : (p : P) → OpensExactlyFilesAtPaths files opened errors failed p p []
  opened_none p = record { grows = grown_none (opened p); same_files = refl; same_errors = refl; as_failed = refl }

  pub opened_then : {a b c : P} {first more : List (List ℕ)} → OpensExactlyFilesAtPaths files opened errors failed a b
      first →
      OpensExactlyFilesAtPaths files opened errors failed b c more
      → OpensExactlyFilesAtPaths files opened errors failed a c (first ++ more)
  opened_then {a} {b} {c} {first} {more} before after = record {
    grows = after.grows ∙ ap (λ known. known_list_with_items known more) before.grows
        ∙ grown_more (opened a) first more;
    same_files = after.same_files ∙ before.same_files;
    same_errors = after.same_errors ∙ before.same_errors;
    as_failed = after.as_failed ∙ before.as_failed;
  }

  pub opened_as : {a b : P} {first more : List (List ℕ)} → first ≡ more
      → OpensExactlyFilesAtPaths files opened errors failed a b
      first → OpensExactlyFilesAtPaths files opened errors failed a b more
  opened_as {a} {b} same is = record {
    grows = is.grows ∙ ap (known_list_with_items (opened a)) same;
    same_files = is.same_files;
    same_errors = is.same_errors;
    as_failed = is.as_failed;
  }

  pub some_of : {a b : P} {paths : List (List ℕ)} (count : ℕ)
      → OpensExactlyFilesAtPaths files opened errors failed a b (take count
      paths) → OpensFilesAtFirstPaths files opened errors failed a b paths
  some_of count is = record { count = count; opens = is }

  more_of : {a b c : P} (paths : List (List ℕ)) (at : ℕ) (path : List ℕ) → at < length paths → path ≡ get_or paths at
      path → (count : ℕ)
      → OpensExactlyFilesAtPaths files opened errors failed a b (take at paths)
      → OpensExactlyFilesAtPaths files opened errors failed b c (take
      count (path ∷ []))
      → OpensFilesAtFirstPaths files opened errors failed a c paths
  more_of paths at path within is zero before none = some_of at (opened_as (append-nil (take at paths)) (opened_then
      before none))
  more_of paths at path within is (suc count) before one =
      let whole : take at paths ++ take (suc count) (path ∷ []) ≡ take (at + 1) paths =
      ap (λ rest. take at paths ++ path ∷ rest) (take_none count) ∙ ap (λ next. take at paths ++ next ∷ []) is ∙ sym
      (take_more paths at path within) in
      some_of (at + 1) (opened_as whole (opened_then before one))

  -- the next path opens, or fails to open
  pub some_more : {a b c : P} (paths : List (List ℕ)) (at : ℕ) (path : List ℕ) → at < length paths → path ≡ get_or
      paths at path
      → OpensExactlyFilesAtPaths files opened errors failed a b (take at paths)
      → OpensFilesAtFirstPaths files opened errors failed b c
      (path ∷ [])
      → OpensFilesAtFirstPaths files opened errors failed a c paths
  some_more paths at path within is before after = more_of paths at path within is after.count before after.opens

  pub some_first : {a b c : P} (path : List ℕ) (paths : List (List ℕ))
      → OpensExactlyFilesAtPaths files opened errors failed a b
      (path ∷ []) → OpensFilesAtFirstPaths files opened errors failed b c paths
      → OpensFilesAtFirstPaths files opened errors failed a c (path ∷ paths)
  some_first path paths before after = some_of (suc after.count) (opened_then before after.opens)

  pub all_of_some : {a b : P} {paths : List (List ℕ)} → OpensExactlyFilesAtPaths files opened errors failed a b paths →
      OpensFilesAtFirstPaths files opened errors failed a b paths
  all_of_some {a} {b} {paths} is = some_of (length paths) (opened_as (sym (take_all (length paths) paths (omega
      arith))) is)

  -- an error that is reported after files are opened is reported for the work as a whole
  pub told_after : {a b c : P} {paths : List (List ℕ)} {program : List ℕ} {place : Option ErrorPlaceValue}
      {status : ℕ} →
      OpensExactlyFilesAtPaths files opened errors failed a b paths
      → HasOnlyReportedError opened errors failed b c program place status
      → IsErrorLinePrinted errors failed a c program place status
  told_after {program = program} {place = place} is reported = record {
    status_is = reported.status_is;
    told = λ well. reported.told well ∙ ap (λ known. known_list_with_items known
        (standard_error_lines_of_error program place)) is.same_errors;
    silent = λ none. ap errors (reported.silent none) ∙ is.same_errors;
  }

  pub opens_after : {a b c : P} {paths : List (List ℕ)} {program : List ℕ} {place : Option ErrorPlaceValue}
      {status : ℕ} →
      OpensExactlyFilesAtPaths files opened errors failed a b paths
      → HasOnlyReportedError opened errors failed b c program place status
      → opened c ≡ known_list_with_items (opened a) paths
  opens_after is reported = reported.same_opened ∙ is.grows
