pub mod Machine
pub mod Claims
