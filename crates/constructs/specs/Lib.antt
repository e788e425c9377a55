pub mod Celled
pub mod Armed
pub mod Values
pub mod Rules
