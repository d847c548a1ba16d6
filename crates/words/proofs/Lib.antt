pub mod Cuts
pub mod Decimal
pub mod Bytes
pub mod Reading
pub mod Numbers
pub mod Written
