use Rattle.std.proofs.Common.{rules, ℤ, [], ◌++◌, Option, subst, w32, SFits}
use Rattle.std.specs.Option.{option_map_or}
use Rattle.std.proofs.lemmas.Int.{to_z-of_z}
use Rattle.cell_core_devices.specs.Blocks.{IsTextAppendedThroughBlock}
use Rattle.cell_core_devices.proofs.BlockLemmas.{appends_then}
use Rattle.rcell_pipe_frames.specs.FrameBytes.{length_and_text_bytes}
use Rattle.rcell_plan_response.specs.RuleLabels.{category_bytes}
use Rattle.rcell_plan_response.proofs.rule_labels.push_label_of_rule.Goals as goal

pub returns-in-Some : goal.returns-in-Some
returns-in-Some g c =
    let label = c.args.rule.now.label in
    let fits : SFits w32 c.in-Some.category = search rules in
    subst (λ (labelled : Option ℤ). IsTextAppendedThroughBlock g.W.Sink.taken g.W.Sink.faults c.args.out.now
    c.args.block.now (option_map_or (λ category. category_bytes category ++ length_and_text_bytes label) labelled [])
    c.push_length_and_text.new.out c.push_length_and_text.new.block) c.in-Some.ensures.value
    (appends_then (simp to_z-of_z at c.push_category.ensures) (rw c.label.ensures at c.push_length_and_text.ensures))
