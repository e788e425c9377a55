pub mod Levels
pub mod Carries
pub mod Openings
pub mod Begins
