pub mod Demands
pub mod GuiltyByte
pub mod BiggerModules
pub mod ImageStart
pub mod ByteOrders
pub mod Moving
pub mod Strict
pub mod OneTable
