pub mod Program
pub mod Page
