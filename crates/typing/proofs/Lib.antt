pub mod Turns
pub mod Loops
pub mod Along
pub mod Bodies
