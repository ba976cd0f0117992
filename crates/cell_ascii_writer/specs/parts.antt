-- Data prepared before a map is written.
pub mod MadeFields
