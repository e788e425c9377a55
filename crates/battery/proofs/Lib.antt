pub mod Total
pub mod Appending
pub mod Shown
pub mod Division
pub mod Published
pub mod Worked
