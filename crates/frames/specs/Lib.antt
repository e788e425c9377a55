pub mod Trees
pub mod Stacks
pub mod Views
