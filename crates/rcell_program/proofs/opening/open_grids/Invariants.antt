use Rattle.std.proofs.Common.{◌≡◌, All, take, map}
use Rattle.std.specs.List.{AllZip}
use Rattle.cell_core_devices.specs.declared.source.Asked.TheVariants.{Going}
use Rattle.clap.specs.Walk.{texts}
use Rattle.rcell_command.specs.Processes.{SourceGivesContentsOfFile, OpensExactlyFilesAtPaths}
use Rattle.rcell_program.specs.OpenedGrids.{SourcesHoldFileContents}
use Rattle.rcell_program.proofs.opening.open_grids.Given as goal

abbrev pub invariant-loop-grid : goal.invariant-loop-grid
invariant-loop-grid g l = record {
  named : map (λ grid. grid.0) l.grids.items ≡ take l.grid l.request.names.items;
  fresh : All (λ grid. g.P.File.Source.asked grid.1 ≡ Going) l.grids.items;
  gives : AllZip (λ path grid. SourceGivesContentsOfFile (g.P.Process.files l.fn.process) g.P.File.Source.coming path
      grid.1) (take
      l.grid (texts l.request.paths.items)) l.grids.items;
  supposed : SourcesHoldFileContents (g.P.Process.supposed_file l.fn.process) g.P.File.Source.supposed
      (take l.grid (texts
      l.request.paths.items)) l.grids.items;
  same : g.P.Process.supposed_file l.process ≡ g.P.Process.supposed_file l.fn.process;
  opens : OpensExactlyFilesAtPaths g.P.Process.files g.P.Process.opened g.P.Process.errors g.P.Process.failed
      l.fn.process l.process
      (take l.grid (texts l.request.paths.items));
}
