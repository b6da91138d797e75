pub mod Fronts
pub mod OneBit
pub mod Small
pub mod TieWords
pub mod TieWriting
pub mod ValueTies
