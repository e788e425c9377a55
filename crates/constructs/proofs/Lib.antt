pub mod Moves
pub mod Bindings
pub mod Celled
pub mod Armed
