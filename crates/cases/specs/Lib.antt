pub mod U32
pub mod Cases
