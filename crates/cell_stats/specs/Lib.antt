-- Tables of the combinations of categories over several maps.
pub mod CategoryTables
pub mod TableLaw
pub mod TableText
pub mod parts
