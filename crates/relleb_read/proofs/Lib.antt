pub mod EntryNeeds
pub mod PassNeeds
