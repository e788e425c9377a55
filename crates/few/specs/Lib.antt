pub mod Listed
pub mod Shown
