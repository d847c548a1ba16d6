pub mod Reasons
pub mod Words
pub mod Numerals
pub mod Hex
pub mod Arguments
pub mod Read
