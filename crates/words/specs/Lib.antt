pub mod Limits
pub mod Words
pub mod Places
pub mod Order
pub mod Picture
pub mod Sweep
pub mod Journals
pub mod Listing
