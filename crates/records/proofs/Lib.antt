pub mod Reading
pub mod Writing
pub mod RoundTrip
pub mod Identifier
pub mod Refusals
pub mod Bounds
pub mod Unless
pub mod Converse
