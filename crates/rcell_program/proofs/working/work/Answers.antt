use Rattle.std.proofs.Common.{refl, List, Option, Some, None, IfSome, map, drop, ap, subst, ◌≡◌, ◌∙◌}
use Rattle.std.specs.List.{AllZip}
use Rattle.std.specs.String.{string_bytes}
use Rattle.clap.specs.Walk.{Text, texts}
use Rattle.cell_core_devices.specs.Supposed.{SupposedContent, content_to_come}
use Rattle.rcell.specs.SourcesLaw.{contents_of_named_sources}
use Rattle.rcell.proofs.KnownLemmas.{known_agree}
use Rattle.rcell_command.specs.Processes.{SourceGivesContentsOfFile, known_list_with_items}
use Rattle.rcell_command.proofs.ProcessLemmas.{known_gives, opens_after, told_after, told_at}
use Rattle.rcell_program.specs.CommandLine.{grid_names_in_arguments}
use Rattle.rcell_program.specs.OpenedGrids.{SourcesHoldFileContents}
use Rattle.rcell_program.specs.Refusals.{error_place_of_run}
use Rattle.rcell_program.specs.Work.{HasRun}
use Rattle.rcell_program.proofs.WorkLemmas.{all_paths, done_over_files, given_known, given_of, headline_of}
use Rattle.rcell_program.proofs.WorkLemmas.{place_unknown, place_words, reason_unknown, reason_words, rejected}
use Rattle.rcell_program.proofs.WorkLemmas.{reports, supposes, unopened}
use Rattle.rcell_program.proofs.working.work.Goals as goal

pub returns-in-Err-clause-work : goal.returns-in-Err-clause-work
returns-in-Err-clause-work g c =
    let known = g.P.Process.words c.args.process.now in
    rejected (given_of known) c.in-Err.refusal _ (given_known known) c.refused.ensures.ran
    (reason_unknown (g.P.Process.files c.args.process.now) known c.in-Err.refusal c.in-Err.ensures.reported)
    (place_unknown (grid_names_in_arguments (given_of known)) known c.in-Err.refusal c.in-Err.ensures.reported)
    c.refused.ensures.reported

given_same : (all : Option (List Text)) (words other : List Text) → words ≡ other → IfSome all (λ known. other ≡
    known) → IfSome all (λ known. words ≡ known)
given_same None words other same is = tt
given_same (Some all) words other same is = same ∙ is

known_words : (all : Option (List Text)) (given : List Text) → IfSome all (λ known. given ≡ known) → IfSome all (λ
    known. drop 1 given ≡ drop 1 known)
known_words None given is = tt
known_words (Some all) given is = ap (drop 1) is

pub returns-in-Err-read_request_words-clause-work : goal.returns-in-Err-read_request_words-clause-work
returns-in-Err-read_request_words-clause-work g c =
    let words = map string_bytes c.deref.result.now in
    let are : words ≡ map string_bytes c.in-Ok.words.items = ap (map string_bytes) c.deref.ensures.value in
    let given = drop 1 words in
    rejected given c.in-Err-read_request_words.refusal _
    (known_words (g.P.Process.words c.args.process.now) words (given_same _ _ _ are c.in-Ok.ensures.given))
    c.refused-in-Err-read_request_words.ensures.ran
    (reason_words (g.P.Process.files c.args.process.now) given c.in-Err-read_request_words.refusal
    c.in-Err-read_request_words.ensures.refused)
    (place_words (grid_names_in_arguments given) given c.in-Err-read_request_words.refusal
    c.in-Err-read_request_words.ensures.refused)
    c.refused-in-Err-read_request_words.ensures.reported

pub returns-in-Err-open_files-clause-work : goal.returns-in-Err-open_files-clause-work
returns-in-Err-open_files-clause-work g c =
    let words = map string_bytes c.deref.result.now in
    let are : words ≡ map string_bytes c.in-Ok.words.items = ap (map string_bytes) c.deref.ensures.value in
    let request = c.in-Ok-read_request_words.request in
    unopened (drop 1 words) request.script.now request.names.items (texts request.paths.items)
    c.deref-in-Err-open_files.result.now c.in-Err-open_files.refusal _
    (known_words (g.P.Process.words c.args.process.now) words (given_same _ _ _ are c.in-Ok.ensures.given))
    c.refused-in-Err-open_files.ensures.ran
    c.in-Ok-read_request_words.ensures.request c.in-Ok-read_request_words.ensures.refused
    c.in-Err-open_files.ensures.reported
    c.in-Err-open_files.ensures.some
    c.deref-in-Err-open_files.ensures.value c.refused-in-Err-open_files.ensures.reported

pub returns-in-Err-open_files-clause-headline : goal.returns-in-Err-open_files-clause-headline
returns-in-Err-open_files-clause-headline g c = headline_of (returns-in-Err-open_files-clause-work g c)

pub returns-clause-work : goal.returns-clause-work
returns-clause-work g c =
    let words = map string_bytes c.deref.result.now in
    let are : words ≡ map string_bytes c.in-Ok.words.items = ap (map string_bytes) c.deref.ensures.value in
    let given = drop 1 words in
    let request = c.in-Ok-read_request_words.request in
    let asked = c.in-Ok-read_request_words.ensures.request in
    let opened = c.in-Ok-open_files.ensures in
    let ran = c.run-ran.result in
    let after = c.run-ran.ensures in
    let files = g.P.Process.files c.args.process.now in
    let file = g.P.Process.supposed_file c.args.process.now in
    let supposed = g.P.File.Source.supposed in
    let sources = c.in-Ok-open_files.opened.grids.items in
    let grids_are = opened.grids in
    let paths = subst (λ paths. SourcesHoldFileContents file supposed paths sources) asked.of_paths opened.files in
    record {
      given = given;
      known = known_words (g.P.Process.words c.args.process.now) words (given_same _ _ _ are c.in-Ok.ensures.given);
      end = HasRun ran;
      ran = refl;
      names = asked.of_names;
      ends = record {
        accepted = c.in-Ok-read_request_words.ensures.refused;
        opens = opens_after opened.opens c.report_error-status.ensures
            ∙ ap (λ paths. known_list_with_items (g.P.Process.opened
            c.args.process.now) paths) (all_paths given request.script.now request.names.items (texts
            request.paths.items) asked);
        over = λ named text texts_are.
            let grids = reports files g.P.File.Source.coming (drop 1 given) sources named (grids_are.named ∙
            asked.of_names)
            (subst (λ paths. AllZip (λ path grid. SourceGivesContentsOfFile files g.P.File.Source.coming path grid.1)
            paths
            sources)
            asked.of_paths grids_are.gives)
            texts_are.grids in
            let script = known_gives (files request.script.now) (ap files asked.of_script ∙ texts_are.script)
            opened.gives in
            let agree = known_agree g.P.File.Source.coming supposed g.met.P.File.Source.known g.met.P.File.Source.steady
            sources c.in-Ok-open_files.opened.script ran named text grids script in
            let hs = contents_of_named_sources named in
            record {
              done = after.done named text hs text agree.grids_are agree.script_is agree.grids_agree
                  agree.script_agrees;
              refused = after.refused named text hs text agree.grids_are agree.script_is agree.grids_agree
                  agree.script_agrees;
              stopped = after.stopped named text hs text agree.grids_are agree.script_is agree.grids_agree
                  agree.script_agrees;
              headline = after.headline named text hs text agree.grids_are agree.script_is agree.grids_agree
                  agree.script_agrees;
            };
        agreed = λ named text contents agree.
            let hs = contents_of_named_sources named in
            let grids = supposes file supposed (drop 1 given) sources named (grids_are.named ∙ asked.of_names) paths
            contents.grids in
            let script = ap (λ (s : SupposedContent). content_to_come s text) (opened.supposed
            ∙ ap file asked.of_script)
            ∙ contents.script in
            record {
              done = after.done named text hs text grids script agree.grids agree.script;
              refused = after.refused named text hs text grids script agree.grids agree.script;
              stopped = after.stopped named text hs text grids script agree.grids agree.script;
              headline = after.headline named text hs text grids script agree.grids agree.script;
            };
        untouched = after.untouched;
        status = after.status;
        sound = after.sound;
        write = after.write;
        first = after.first;
      };
      told = told_at (ap (λ names. error_place_of_run names ran.outcome) (c.as_slice-names.ensures.value
          ∙ asked.of_names))
          (told_after opened.opens c.report_error-status.ensures);
    }

pub returns-clause-headline : goal.returns-clause-headline
returns-clause-headline g c = headline_of (returns-clause-work g c)

pub returns-clause-files : goal.returns-clause-files
returns-clause-files g c = done_over_files (returns-clause-work g c)

pub returns-clause-asked : goal.returns-clause-asked
returns-clause-asked g c =
    let opened = c.in-Ok-open_files.ensures in
    c.run-ran.ensures.asked opened.grids.fresh opened.script
