pub mod Newest
pub mod Layers
