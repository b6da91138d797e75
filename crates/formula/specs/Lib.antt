pub mod Boolean
pub mod Refusals
pub mod Sheets
pub mod Signs
pub mod Tests
