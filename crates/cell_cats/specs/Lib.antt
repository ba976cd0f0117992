-- Rules of r.reclass.
pub mod ItemLaw
pub mod Reclass
pub mod Rule
pub mod RuleLine
pub mod RuleReading
pub mod RulesLaw
pub mod parts
