pub mod KeyRow
pub mod Laid
pub mod Drawn
