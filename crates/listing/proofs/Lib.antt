pub mod PutNeeds
pub mod RowNeeds
pub mod TableNeeds
pub mod CopyNeeds
pub mod LineLaws
pub mod ListLaws
pub mod Examples
