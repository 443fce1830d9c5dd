pub mod Rows
pub mod NotePuts
pub mod StartPuts
pub mod Lines
pub mod Texts
