pub mod Compared
pub mod Nodes
pub mod Steps
pub mod Backs
pub mod Walks
pub mod Taken
pub mod Declares
pub mod Arming
