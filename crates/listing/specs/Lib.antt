pub mod Text
pub mod Contract
pub mod Inner
