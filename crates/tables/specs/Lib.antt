pub mod Blanks
pub mod Short
pub mod Held
