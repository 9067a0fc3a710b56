pub mod Order
pub mod Compared
pub mod Ranks
pub mod Moved
