pub mod Numbering
pub mod Places
pub mod Ends
pub mod Limits
pub mod Behind
pub mod Views
pub mod Counts
