pub mod Vectors
pub mod Runs
pub mod Plans
pub mod Goals
pub mod Obligations
pub mod Enumerated
pub mod Laws
pub mod Samples
