pub mod KeyRow
pub mod Laid
pub mod Linked
pub mod KeyArcs
pub mod Drawn
