-- Laws about errors in grid texts.
pub mod FaultLaw
