pub mod Follows
pub mod Turns
pub mod Alike
