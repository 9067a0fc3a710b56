pub mod Ends
pub mod Paging
