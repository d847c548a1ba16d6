pub mod Limits
pub mod Lists
pub mod Bounded
pub mod Held
pub mod Slots
pub mod AsWritten
pub mod Records
