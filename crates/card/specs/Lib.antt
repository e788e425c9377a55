pub mod Told
pub mod Layers
pub mod Lines
pub mod Promises
