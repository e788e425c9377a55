pub mod Kinds
pub mod Naming
pub mod Sorts
