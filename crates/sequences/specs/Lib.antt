pub mod PiecesFound
pub mod StoredMade
pub mod Handed
pub mod TransitionsHanded
pub mod TableGiven
pub mod Admitted
