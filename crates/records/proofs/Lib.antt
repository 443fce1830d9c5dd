pub mod Rooms
pub mod Puts
pub mod Recs
pub mod Flats
pub mod Walks
