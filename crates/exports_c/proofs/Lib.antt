pub mod Same
