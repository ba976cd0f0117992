-- Lemmas on items, labels, rows and rules.
pub mod ItemLawLemmas
pub mod ItemLemmas
pub mod LabelLemmas
pub mod PairLemmas
pub mod PieceLemmas
pub mod RangeLawLemmas
pub mod ReclassLemmas
pub mod RuleLawLemmas
pub mod RuleLemmas
