pub mod Functions
pub mod Walks
