-- Maps of an expression's values.
pub mod MapValues
pub mod parts
