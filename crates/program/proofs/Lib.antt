pub mod Bodies
pub mod Records
pub mod Cards
pub mod Stands
pub mod Spelt
pub mod Formed
