pub mod Chosen
pub mod Sessions
