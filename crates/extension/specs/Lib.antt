pub mod Orders
pub mod ZeroGoals
pub mod ZeroGoalLaws
pub mod Nevers
pub mod Weakens
pub mod WeakenLaws
