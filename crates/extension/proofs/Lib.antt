pub mod OrderTests
pub mod ZeroGoalExactly
pub mod WeakenAnswers
pub mod Slacks
pub mod Refusals
