use Rattle.std.proofs.Common.{◌≡◌, take, length, map, IsTrue}
use Rattle.std.specs.List.{list_all}
use Rattle.cell_core_values.specs.Name.{is_name}
use Rattle.rcell_script.proofs.options.texts_if_all_are_map_names.Given as goal

abbrev pub invariant-loop-part : goal.invariant-loop-part
invariant-loop-part l = record {
  names : l.names.items ≡ map (λ text. text.now) (take l.part-index l.parts);
  count : length l.names.items ≡ l.part-index;
  good : IsTrue (list_all is_name l.names.items);
}
