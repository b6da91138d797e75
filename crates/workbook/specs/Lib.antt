pub mod Books
pub mod Calls
pub mod Checks
pub mod Faults
pub mod Pages
pub mod Sheets
pub mod States
