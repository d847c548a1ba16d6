pub mod Names
pub mod Stacks
pub mod Lines
pub mod Saying
pub mod Read
-- of the crate words, which clauses here cite: a caller needs no line for it
pub use Rattle.words.specs.Words
pub use Rattle.words.specs.Numerals
pub use Rattle.words.specs.Hex
pub use Rattle.words.specs.Arguments
