pub mod Unmet
pub mod Facts
pub mod Questions
pub mod Sheets
pub mod Listings
pub mod Goals
