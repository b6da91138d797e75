pub mod Picked
pub mod Rowed
pub mod Translating
