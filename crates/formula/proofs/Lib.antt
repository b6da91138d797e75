pub mod Assignments
pub mod Sums
pub mod Tests
