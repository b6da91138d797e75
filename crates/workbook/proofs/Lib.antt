pub mod Slots
pub mod Spaces
pub mod Stating
