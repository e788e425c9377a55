pub mod Order
pub mod Formed
pub mod Breaks
pub mod Verdict
pub mod Claims
pub mod Cases
