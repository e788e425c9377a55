pub mod Begun
