pub mod Filing
pub mod Placed
pub mod Places
pub mod Words
