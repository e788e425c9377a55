pub mod Entries
mod Backwards
