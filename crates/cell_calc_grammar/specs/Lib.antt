-- Tokens and their spelling, operators and functions; the grammar of r.mapcalc, with expressions as trees, and how
-- tokens are read; expressions as lists of steps.
pub mod Function
pub mod Operator
pub mod TokenSpelling
pub mod Token
pub mod Tokens
pub mod Grammar
pub mod TokensRead
pub mod ReadingLaw
pub mod Shape
pub mod Term
pub mod Tree
pub mod Postfix
pub mod parts
