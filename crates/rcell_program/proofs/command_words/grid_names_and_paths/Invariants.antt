use Rattle.std.proofs.Common.{◌≡◌, ◌+◌, drop, map, take, vec_len}
use Rattle.clap.specs.Walk.{texts}
use Rattle.rcell_program.specs.CommandLine.{place_of_first_bad_grid_word, grid_name_in_argument, grid_path_in_argument}
use Rattle.rcell_program.specs.CommandLine.{words_of_grid_names_and_paths}
use Rattle.rcell_program.proofs.command_words.grid_names_and_paths.Given as goal

abbrev pub invariant-loop-word : goal.invariant-loop-word
invariant-loop-word l = record {
  paths : vec_len l.names ≡ vec_len l.paths;
  place : l.place ≡ l.word-index + 1;
  good : place_of_first_bad_grid_word 2 (texts l.words) ≡ place_of_first_bad_grid_word (l.word-index + 2)
      (texts (drop l.word-index l.words));
  named : l.names.items ≡ map grid_name_in_argument (texts (take l.word-index l.words));
  pathed : texts l.paths.items ≡ map grid_path_in_argument (texts (take l.word-index l.words));
  words : words_of_grid_names_and_paths l.names.items (texts l.paths.items) ≡ texts (take l.word-index l.words);
}
