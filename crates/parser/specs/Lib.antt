pub mod Cuts
pub mod Fields
pub mod Said
