pub mod Digits
pub mod Clauses
pub mod LineByLine
