-- The law that each text is a script or has an error, and the laws of outputs.
pub mod JudgedLaw
pub mod ReadAgain
pub mod OutputExists
pub mod CutScript
pub mod RunMaps
