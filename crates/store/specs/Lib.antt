pub mod Faults
pub mod Stores
