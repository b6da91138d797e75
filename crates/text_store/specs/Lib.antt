pub mod Bytes
pub mod ByteStores
pub mod TextStores
pub mod Texts
