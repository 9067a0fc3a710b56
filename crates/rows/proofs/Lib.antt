pub mod Steps
pub mod Arcs
pub mod Alike
pub mod Written
