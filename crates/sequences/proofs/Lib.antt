pub mod RecordsSame
pub mod HandedSteps
pub mod WitnessWalks
pub mod Filling
pub mod ArraysMade
pub mod TransitionsRead
