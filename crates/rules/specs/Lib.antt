pub mod Rules
pub mod Typed
pub mod Standing
pub mod Arming
pub mod Signatures
pub mod Shapes
