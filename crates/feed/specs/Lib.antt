pub mod Entry
pub mod Take
