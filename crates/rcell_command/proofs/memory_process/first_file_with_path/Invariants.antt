use Rattle.std.proofs.Common.{◌≡◌, drop}
use Rattle.rcell_command.specs.Processes.{first_file_with_path}
use Rattle.rcell_command.proofs.memory_process.first_file_with_path.Given as goal

abbrev pub invariant-loop-file : goal.invariant-loop-file
invariant-loop-file l = first_file_with_path l.files l.path ≡ first_file_with_path (drop l.file-index l.files) l.path
