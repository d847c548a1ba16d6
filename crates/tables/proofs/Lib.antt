pub mod Rooms
pub mod Shortly
