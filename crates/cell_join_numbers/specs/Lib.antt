-- Labels of clumps, the labels that they lead to once pairs are joined, and their numbers. Laws about tiles of maps.
pub mod Labelled
pub mod UnionFind
pub mod LabelNumbers
pub mod SparseLabels
pub mod SparseNumbers
pub mod Stretches
pub mod ClumpParts
pub mod Merging
pub mod Parts
pub mod TableParts
