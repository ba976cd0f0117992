-- Cells whose bytes are buffered, and open readers of grid texts.
pub mod BufferedCells
pub mod TableWords
pub mod GridReaders
pub mod KnownSources
pub mod Reader
pub mod parts
