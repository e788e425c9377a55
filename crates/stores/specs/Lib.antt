pub mod Within
pub mod Plain
pub mod Pair
pub mod Lies
pub mod Bounds
