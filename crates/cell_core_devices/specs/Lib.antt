-- Sources, sinks and output blocks.
pub mod Asking
pub mod Blocks
pub mod Device
pub mod Supposed
pub mod SourceLaw
