pub mod Grammar
pub mod Found
pub mod Picked
pub mod Reading
