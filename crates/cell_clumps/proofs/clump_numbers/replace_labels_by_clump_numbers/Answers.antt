use Rattle.std.proofs.Common.{arith}
use Rattle.cell_clumps.proofs.NumberLemmas.{AreLabelsNumberedBeforePlace-first, CanNumberLabelsFromPlace-first}
use Rattle.cell_clumps.proofs.clump_numbers.replace_labels_by_clump_numbers.Goals as goal

pub loop-place-init : goal.loop-place-init
loop-place-init c = record {
  ready = CanNumberLabelsFromPlace-first c.args.table.now c.requires.down;
  few = omega arith;
  numbered = λ j m open_of sound. AreLabelsNumberedBeforePlace-first j m c.args.table.now open_of;
}

pub loop-place-preserved : goal.loop-place-preserved
loop-place-preserved c = record {
  ready = c.replace_label_by_clump_number-count.ensures.ready;
  few = c.replace_label_by_clump_number-count.ensures.few;
  numbered = λ j m open_of sound. c.replace_label_by_clump_number-count.ensures.numbered j m c.args.table.now open_of
      sound
      (c.loop-place.invariant.numbered j m open_of sound);
}

pub returns : goal.returns
returns c = record {
  numbered = λ j m open_of sound k lt. (c.loop-place.invariant.numbered j m open_of sound).done k
      (omega arith);
}
