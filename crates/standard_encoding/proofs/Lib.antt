pub mod Behind
pub mod ExclusionWriting
pub mod FirstOn
pub mod SomeValue
