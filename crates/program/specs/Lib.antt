pub mod Stands
pub mod Views
pub mod Called
pub mod Card
