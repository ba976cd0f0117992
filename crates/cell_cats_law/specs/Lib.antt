-- Laws about clump maps, tables and reclassified maps.
pub mod ExistsLaw
pub mod PageLaw
pub mod ReclassLaw
pub mod ClumpSizeLaw
pub mod CornerLaw
pub mod PartLaw
pub mod SizeLaw
pub mod SummedSizes
pub mod NumberTables
pub mod TileSizes
