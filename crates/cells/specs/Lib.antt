pub mod Meaning
pub mod Same
pub mod Means
