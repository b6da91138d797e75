pub mod Counts
pub mod Forms
pub mod Meanings
pub mod Memory
pub mod Translation
