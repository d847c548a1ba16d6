pub mod Stacking
pub mod Parsing
pub mod Said
