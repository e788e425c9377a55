pub mod Tokens
mod Passing
