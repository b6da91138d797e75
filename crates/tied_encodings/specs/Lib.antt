pub mod Marks
pub mod Narrow
