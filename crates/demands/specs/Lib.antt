pub mod Bounds
pub mod Statements
pub mod FromZero
pub mod LowFirst
pub mod Reversed
pub mod Moving
pub mod Lax
pub mod OneTable
